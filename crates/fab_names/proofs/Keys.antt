-- Places under keys, and the digits at the end of a base.
use Rattle.std.proofs.Common.{◌≡◌, ◌⊎◌, ℕ, zero, suc, ◌+◌, ◌-◌, ◌<◌, ◌≤◌, Bool, true, false, ◌||◌, not, cond, nat_eq, if◌then◌else◌, List, [], ◌∷◌, ◌++◌, Vec, Bor, MatchOption, Option, Some, None, map, option_map, unwrap_or, take, length, get_or, position, Contains, refl, sym, ap, subst, ◌∙◌, inl, inr, arith, eqb-true, length-append}
use Rattle.std.specs.List.{HoldsAt, list_all, list_any, position_or_len}
use Rattle.std.specs.Str.{bytes_eq}
use Rattle.std.proofs.Math.ListN.{set}
use Rattle.std.proofs.lemmas.Bool.{cases_Bool, false≢true}
use Rattle.std.proofs.lemmas.Grind.{common_steps}
use Rattle.std.proofs.lemmas.List.{get_or-map, get_or_past, get_or-set_same, get_or-set_other, get_or-append_right, length-map, map-append, map-set}
use Rattle.std.proofs.lemmas.List.Elements.{Contains-append_left, Contains-push}
use Rattle.std.proofs.lemmas.List.Sums.{AllPass-from_list_all}
use Rattle.std.proofs.lemmas.Slice.Eq.{bytes_eq-Decides}
use Rattle.indexmap.specs.IndexSet.{insert_key}
use Rattle.fab_lines.specs.Numbers.{is_digit}
use Rattle.fab_bits.specs.Keys.{key_names, group_at}
use Rattle.fab_names.specs.inner.Keyed.{Adds, group_of, under}

-- ---- groups

bare : (lists : List (List ℕ)) (slot : ℕ) → get_or (lists ++ [] ∷ []) slot [] ≡ get_or lists slot []
bare [] zero = refl
bare [] (suc slot) = refl
bare (first ∷ lists) zero = refl
bare (first ∷ lists) (suc slot) = bare lists slot

-- an empty group more
pub bare_group : {A : Type 0} (groups grown : List (Vec ℕ A)) (new : Vec ℕ A) → grown ≡ groups ++ new ∷ [] → new.items ≡ [] → (slot : ℕ) → group_at grown slot ≡ group_at groups slot
bare_group {A} groups grown new is none slot =
    ap (λ (all : List (Vec ℕ A)). group_at all slot) is
    ∙ ap (λ (lists : List (List ℕ)). get_or lists slot []) (map-append (λ (group : Vec ℕ A). group.items) groups (new ∷ []) ∙ ap (λ (last : List ℕ). map (λ (group : Vec ℕ A). group.items) groups ++ last ∷ []) none)
    ∙ bare (map (λ (group : Vec ℕ A). group.items) groups) slot

plain_put : (lists : List (List ℕ)) (slot place : ℕ) (new : List ℕ) → slot < length lists → new ≡ get_or lists slot [] ++ place ∷ [] →
    Adds (λ (other : ℕ). get_or lists other []) (λ (other : ℕ). get_or (set lists slot new) other []) slot place
plain_put lists slot place new within is = record {
  kept = λ other there among. elim (cases_Bool (nat_eq other slot)) [
    | inl t ↦ (
        let here : other ≡ slot = eqb-true other slot t in
        let old : Contains (get_or lists slot []) there = subst (λ (o : ℕ). Contains (get_or lists o []) there) here among in
        subst (λ (o : ℕ). Contains (get_or (set lists slot new) o []) there) (sym here)
        (subst (λ (list : List ℕ). Contains list there) (sym (get_or-set_same lists slot new [] within ∙ is)) (Contains-append_left (get_or lists slot []) (place ∷ []) there old))
        )
    | inr f ↦ subst (λ (list : List ℕ). Contains list there) (sym (get_or-set_other lists slot other new [] (differ other slot f))) among
  ];
  added = subst (λ (list : List ℕ). Contains list place) (sym (get_or-set_same lists slot new [] within ∙ is)) (Contains-push (get_or lists slot []) place);
}
  where
    differ : (other slot : ℕ) → nat_eq other slot ≡ false → other ≡ slot → ⊥
    differ other slot is same = grind (arith, common_steps)

-- a place more in a group
pub put_group : {A : Type 0} (groups : List (Vec ℕ A)) (slot place : ℕ) (old new : Vec ℕ A) → slot < length groups → old ≡ get_or groups slot old → new.items ≡ old.items ++ place ∷ [] →
    Adds (group_at groups) (group_at (set groups slot new)) slot place
put_group {A} groups slot place old new within read is =
    let items : Vec ℕ A → List ℕ = λ group. group.items in
    let long : slot < length (map items groups) = omega (arith, within, length-map groups items) in
    let there : old.items ≡ get_or (map items groups) slot [] = ap items read ∙ sym (get_or-map items groups slot old [] within) in
    subst (λ (lists : List (List ℕ)). Adds (group_at groups) (λ (other : ℕ). get_or lists other []) slot place) (sym (map-set items groups slot new))
    (plain_put (map items groups) slot place new.items long (is ∙ ap (λ (list : List ℕ). list ++ place ∷ []) there))

-- ---- keys

first_place : {A : Type 0} (name : List ℕ) (keys : List (Vec ℕ A)) → position_or_len (λ key. bytes_eq name key.items) keys ≡ position_or_len (bytes_eq name) (key_names keys)
first_place name [] = refl
first_place name (key ∷ keys) = ap (λ n. cond (not (bytes_eq name key.items)) (1 + n) 0) (first_place name keys)

-- a key stands where its name stands
pub place_of_key : {A : Type 0} (name : List ℕ) (keys : List (Vec ℕ A)) → position (λ key. bytes_eq name key.items) keys ≡ position (bytes_eq name) (key_names keys)
place_of_key {A} name keys = rw (first_place name keys, length-map keys (λ (k : Vec ℕ A). k.items)) refl

any_key : {A : Type 0} (name : List ℕ) (keys : List (Vec ℕ A)) → list_any (λ key. bytes_eq name key.items) keys ≡ list_any (bytes_eq name) (key_names keys)
any_key name [] = refl
any_key name (key ∷ keys) = ap (λ rest. bytes_eq name key.items || rest) (any_key name keys)

place_found : (p : List ℕ → Bool) (names : List (List ℕ)) (place : ℕ) → position p names ≡ Some place → (position_or_len p names ≡ place) × (place < length names)
place_found p names place found = (grind (arith, common_steps), grind (arith, common_steps))

found_place : (p : List ℕ → Bool) (names : List (List ℕ)) (place : ℕ) → position_or_len p names ≡ place → place < length names → position p names ≡ Some place
found_place p names place is within = grind (arith, common_steps)

first_stays : (p : List ℕ → Bool) (names : List (List ℕ)) (name : List ℕ) → position_or_len p names < length names → position_or_len p (names ++ name ∷ []) ≡ position_or_len p names
first_stays p [] name within = absurd (omega (arith, within))
first_stays p (other ∷ names) name within =
    elim (cases_Bool (p other)) [
      | inl t ↦ rw t refl
      | inr f ↦ (let rest : 1 + position_or_len p names < suc (length names) = rw f at within in rw f (ap (λ (n : ℕ). 1 + n) (first_stays p names name (omega (arith, rest)))))
    ]

first_within : (p : List ℕ → Bool) (names : List (List ℕ)) → list_any p names ≡ true → position_or_len p names < length names
first_within p [] some = absurd (false≢true some)
first_within p (other ∷ names) some =
    elim (cases_Bool (p other)) [
      | inl t ↦ rw t (omega arith)
      | inr f ↦ (let rest : list_any p names ≡ true = rw f at some in rw f (omega (arith, first_within p names rest)))
    ]

first_past : (p : List ℕ → Bool) (names : List (List ℕ)) → list_any p names ≡ false → position_or_len p names ≡ length names
first_past p [] none = refl
first_past p (other ∷ names) none =
    elim (cases_Bool (p other)) [
      | inl t ↦ absurd (false≢true (sym none ∙ rw t refl))
      | inr f ↦ (let rest : list_any p names ≡ false = rw f at none in rw f (omega (arith, first_past p names rest)))
    ]

first_last : (p : List ℕ → Bool) (names : List (List ℕ)) (name : List ℕ) → list_any p names ≡ false → p name ≡ true → position_or_len p (names ++ name ∷ []) ≡ length names
first_last p [] name none here = rw here refl
first_last p (other ∷ names) name none here =
    elim (cases_Bool (p other)) [
      | inl t ↦ absurd (false≢true (sym none ∙ rw t refl))
      | inr f ↦ (let rest : list_any p names ≡ false = rw f at none in rw f (omega (arith, first_last p names name rest here)))
    ]

-- the names of keys after one more
abbrev names_with : (names : List (List ℕ)) → (name : List ℕ) → List (List ℕ)
names_with names name = if list_any (bytes_eq name) names then names else names ++ name ∷ []

names_after : {A : Type 0} (keys : List (Vec ℕ A)) (key : Vec ℕ A) → key_names (insert_key (λ (a b : Vec ℕ A). bytes_eq a.items b.items) keys key) ≡ names_with (key_names keys) key.items
names_after {A} keys key =
    let any : list_any (λ (k : Vec ℕ A). bytes_eq key.items k.items) keys ≡ list_any (bytes_eq key.items) (key_names keys) = any_key key.items keys in
    elim (cases_Bool (list_any (bytes_eq key.items) (key_names keys))) [
      | inl t ↦ rw (any, t) refl
      | inr f ↦ rw (any, f) (map-append (λ (k : Vec ℕ A). k.items) keys (key ∷ []))
    ]

place_stays : (names : List (List ℕ)) (name other : List ℕ) (place : ℕ) → position (bytes_eq other) names ≡ Some place → position (bytes_eq other) (names_with names name) ≡ Some place
place_stays names name other place found =
    let at = place_found (bytes_eq other) names place found in
    elim (cases_Bool (list_any (bytes_eq name) names)) [
      | inl t ↦ rw t found
      | inr f ↦ rw f (found_place (bytes_eq other) (names ++ name ∷ []) place (first_stays (bytes_eq other) names name (omega (arith, at.0, at.1)) ∙ at.0) (omega (arith, at.1, length-append names (name ∷ []))))
    ]

place_there : (names : List (List ℕ)) (name : List ℕ) → position (bytes_eq name) (names_with names name) ≡ Some (position_or_len (bytes_eq name) names)
place_there names name =
    elim (cases_Bool (list_any (bytes_eq name) names)) [
      | inl t ↦ rw t (found_place (bytes_eq name) names (position_or_len (bytes_eq name) names) refl (first_within (bytes_eq name) names t))
      | inr f ↦ rw f (found_place (bytes_eq name) (names ++ name ∷ []) (position_or_len (bytes_eq name) names)
          (first_last (bytes_eq name) names name f ((bytes_eq-Decides name name).1 refl) ∙ sym (first_past (bytes_eq name) names f)) (omega (arith, first_past (bytes_eq name) names f, length-append names (name ∷ []))))
    ]

none_among : (x : ℕ) → Contains [] x → ⊥
none_among x (k, within, is) = omega (arith, within)

-- a place more under a key
pub more_under : {A : Type 0} (keys next : List (Vec ℕ A)) (groups made grown : List (Vec ℕ A)) (key : Vec ℕ A) (slot place : ℕ) →
    next ≡ insert_key (λ (a b : Vec ℕ A). bytes_eq a.items b.items) keys key → slot ≡ position_or_len (λ (k : Vec ℕ A). bytes_eq key.items k.items) keys →
    ((other : ℕ) → group_at made other ≡ group_at groups other) → Adds (group_at made) (group_at grown) slot place → Adds (under keys groups) (under next grown) key.items place
more_under {A} keys next groups made grown key slot place is at same put =
    subst (λ (names : List (List ℕ)). Adds (under keys groups) (λ (name : List ℕ). group_of grown (position (bytes_eq name) names)) key.items place) (sym (ap (key_names {A = A}) is ∙ names_after keys key))
    (record {
      kept = λ other there among. stays other there (position (bytes_eq other) (key_names keys)) refl among;
      added = subst (λ (found : Option ℕ). Contains (group_of grown found) place) (sym (place_there (key_names keys) key.items ∙ ap Some (sym (at ∙ first_place key.items keys)))) put.added;
    })
  where
    stays : (other : List ℕ) (there : ℕ) (found : Option ℕ) → position (bytes_eq other) (key_names keys) ≡ found → Contains (group_of groups found) there →
        Contains (group_of grown (position (bytes_eq other) (names_with (key_names keys) key.items))) there
    stays other there None found among = absurd (none_among there among)
    stays other there (Some old) found among =
        subst (λ (f : Option ℕ). Contains (group_of grown f) there) (sym (place_stays (key_names keys) key.items other old found))
        (put.kept old there (subst (λ (list : List ℕ). Contains list there) (sym (same old)) among))

-- a group that is read
pub group_read : {A : Type 0} (groups : List (Vec ℕ A)) (slot : ℕ) (found : Option (Bor (Vec ℕ A))) →
    MatchOption found (length groups ≤ slot) (λ (group : Bor (Vec ℕ A)). (slot < length groups) × HoldsAt (λ y. group.now ≡ y) groups slot) →
    unwrap_or (option_map (λ (group : Bor (Vec ℕ A)). group.now.items) found) [] ≡ group_at groups slot
group_read {A} groups slot None past = sym (get_or_past (map (λ (group : Vec ℕ A). group.items) groups) slot [] (omega (arith, past, length-map groups (λ (group : Vec ℕ A). group.items))))
group_read {A} groups slot (Some group) met =
    let items : Vec ℕ A → List ℕ = λ g. g.items in
    ap items (met.1 group.now) ∙ sym (get_or-map items groups slot group.now [] met.0)

-- ---- digits at the end

pub last_or_before : (n m : ℕ) → n < m + 1 → (n ≡ m) ⊎ (n < m)
last_or_before n m within = elim (cases_Bool (nat_eq n m)) [
  | inl t ↦ inl (eqb-true n m t)
  | inr f ↦ inr (other n m within f)
]
  where
    other : (n m : ℕ) → n < m + 1 → nat_eq n m ≡ false → n < m
    other n m within f = grind (arith, common_steps)

pub front_of : (front back : List ℕ) → take (length front) (front ++ back) ≡ front
front_of [] back = refl
front_of (x ∷ front) back = ap (λ (l : List ℕ). x ∷ l) (front_of front back)

-- what is cut off a base in front of digits
pub cut_is : (base front digits cut : List ℕ) (long : ℕ) → base ≡ front ++ digits → length front ≡ long → cut ≡ take long base → cut ≡ front
cut_is base front digits cut long is same cut_at = cut_at ∙ ap (λ (n : ℕ). take n base) (sym same) ∙ ap (take (length front)) is ∙ front_of front digits

-- behind a byte that is no digit, or from the beginning
abbrev pub IsEdge : List ℕ → (place : ℕ) → Type 0
IsEdge base place = (place ≡ 0) ⊎ (is_digit (get_or base (place - 1) 0) ≡ false)

pub edge_first : (base front digits : List ℕ) (place : ℕ) → base ≡ front ++ digits → list_all is_digit digits ≡ true → IsEdge base place → place ≤ length base → place ≤ length front
edge_first base front digits place is only (inl none) within = omega (arith, none)
edge_first base front digits place is only (inr other) within = elim (cases_le place (length front)) [
  | inl fits ↦ fits
  | inr past ↦ (
      let at = place - 1 - length front in
      let inside : at < length digits = omega (arith, past, within, ap length is, length-append front digits) in
      let same : get_or base (place - 1) 0 ≡ get_or digits at 0 =
      ap (λ (l : List ℕ). get_or l (place - 1) 0) is ∙ get_or-append_right front digits (length front) (place - 1) 0 refl (omega (arith, past)) in
      absurd (false≢true (sym other ∙ ap is_digit same ∙ AllPass-from_list_all is_digit digits only at 0 inside))
      )
]
  where
    cases_le : (a b : ℕ) → (a ≤ b) ⊎ (b < a)
    cases_le zero b = inl (omega arith)
    cases_le (suc a) zero = inr (omega arith)
    cases_le (suc a) (suc b) = elim (cases_le a b) [ inl h ↦ inl (omega (arith, h)) | inr h ↦ inr (omega (arith, h)) ]
