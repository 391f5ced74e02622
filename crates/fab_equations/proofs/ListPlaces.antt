-- Places in lists, and the numbers of declarations where each name is declared once.
use Rattle.std.proofs.Common.{◌≡◌, ◌≢◌, ℕ, zero, suc, ◌+◌, ◌<◌, ◌≤◌, true, false, cond, nat_lt, List, [], ◌∷◌, ◌++◌, length, map, take, drop, set, get_or, slice_get, Contains, Some, None, refl, sym, ap, subst, ◌∙◌, inl, inr, arith}
use Rattle.std.proofs.lemmas.Bool.{cases_Bool, lt-ltb}
use Rattle.std.proofs.lemmas.Option.{slice_get_within, get_or_from_slice_get}
use Rattle.std.proofs.lemmas.List.{get_or_at, append_assoc, append-nil, map-append}
use Rattle.std.proofs.lemmas.Grind.{flat_map-append}
use Rattle.std.specs.List.{flat_map}
use Rattle.std.proofs.lemmas.List.Sums.{position_or_len_is}
use Rattle.std.proofs.lemmas.List.Quantifiers.{position-Some}
use Rattle.std.proofs.lemmas.Slice.Eq.{bytes_eq-Decides}
use Rattle.std.specs.List.{position_or_len}
use Rattle.std.specs.Str.{bytes_eq}
use Rattle.fab_syntax.specs.Declarations.{one_if_same}
use Rattle.fab_values.specs.Declarations.{Declaration, width, found_from, number_of}
use Rattle.fab_values.specs.declared.names.Local.{Local}
use Rattle.fab_equations.specs.inner.Building.{times_among, DeclaresOnce}
use Rattle.fab_equations.proofs.Counted.{take_next}
use Rattle.fab_equations.proofs.NamedOnce.{bytes_swap, parted}

-- ---- places in lists

pub at_end : {X : Type 0} (xs : List X) (x : X) (ys : List X) → slice_get (xs ++ x ∷ ys) (length xs) ≡ Some x
at_end [] x ys = refl
at_end (y ∷ xs) x ys = at_end xs x ys

pub at_place : {X : Type 0} (xs : List X) (x : X) (ys whole : List X) (n : ℕ) → xs ++ x ∷ ys ≡ whole → n ≡ length xs → slice_get whole n ≡ Some x
at_place xs x ys whole n is place = (λ j. slice_get (sym is j) (place j)) ∙ at_end xs x ys

pub kept_in : {X : Type 0} (xs ys : List X) (k : ℕ) (x : X) → slice_get xs k ≡ Some x → slice_get (xs ++ ys) k ≡ Some x
kept_in [] ys k x at = cc
kept_in (y ∷ xs) ys zero x at = at
kept_in (y ∷ xs) ys (suc k) x at = kept_in xs ys k x at

pub set_here : {X : Type 0} (xs : List X) (k : ℕ) (x y : X) → slice_get xs k ≡ Some y → slice_get (set xs k x) k ≡ Some x
set_here [] k x y at = cc
set_here (z ∷ xs) zero x y at = refl
set_here (z ∷ xs) (suc k) x y at = set_here xs k x y at

pub set_elsewhere : {X : Type 0} (xs : List X) (k i : ℕ) (x : X) → k ≢ i → slice_get (set xs i x) k ≡ slice_get xs k
set_elsewhere [] k i x apart = refl
set_elsewhere (z ∷ xs) zero zero x apart = absurd (apart refl)
set_elsewhere (z ∷ xs) zero (suc i) x apart = refl
set_elsewhere (z ∷ xs) (suc k) zero x apart = refl
set_elsewhere (z ∷ xs) (suc k) (suc i) x apart = set_elsewhere xs k i x (λ e. apart (ap suc e))

pub stands_in : {X : Type 0} (xs : List X) (x : X) (ys whole : List X) → whole ≡ xs ++ x ∷ ys → Contains whole x
stands_in {X = X} xs x ys whole is =
    subst (λ zs. Contains zs x) (sym is) (length xs, (let long = longer xs in long), get_or_at xs x ys x (length xs) refl)
  where
    longer : (zs : List X) → length zs < length (zs ++ x ∷ ys)
    longer [] = omega arith
    longer (z ∷ zs) = omega (arith, longer zs)

pub taken : {X : Type 0} (xs : List X) (n : ℕ) (x : X) → slice_get xs n ≡ Some x → (ys : List X) × (xs ≡ take n xs ++ x ∷ ys)
taken [] n x at = cc
taken (y ∷ xs) zero x at = let same : y ≡ x = cc in (xs, ap (λ z. z ∷ xs) same)
taken (y ∷ xs) (suc n) x at = let rest = taken xs n x at in (rest.0, ap (λ zs. y ∷ zs) rest.1)

-- ---- numbers of declarations

there : (ds : List Declaration) (number : ℕ) (d : Declaration) → slice_get ds number ≡ Some d → 1 ≤ times_among ds d.name
there [] number d at = cc
there (x ∷ ds) zero d at =
    let same : x ≡ d = cc in
    let one : one_if_same x.name d.name ≡ 1 = (let t : bytes_eq x.name d.name ≡ true = (bytes_eq-Decides x.name d.name).1 (ap (λ (y : Declaration). y.name) same) in rw t refl) in
    omega arith
there (x ∷ ds) (suc number) d at = omega (arith, there ds number d at)

other_name : (x : Declaration) (ds : List Declaration) (number : ℕ) (d : Declaration) → times_among (x ∷ ds) d.name ≤ 1 → slice_get ds number ≡ Some d → bytes_eq x.name d.name ≡ false
other_name x ds number d once at =
    elim (cases_Bool (bytes_eq x.name d.name)) [
      | inl t ↦ (let one : one_if_same x.name d.name ≡ 1 = rw t refl in absurd (omega (arith, there ds number d at)))
      | inr f ↦ f
    ]

apart_before : (ds : List Declaration) (number k : ℕ) (d e : Declaration) → times_among ds d.name ≤ 1 → slice_get ds number ≡ Some d → k < number → bytes_eq d.name (get_or ds k e).name ≡ false
apart_before [] number k d e once at l = cc
apart_before (x ∷ ds) zero k d e once at l = absurd (omega arith)
apart_before (x ∷ ds) (suc number) zero d e once at l = bytes_swap d.name x.name ∙ other_name x ds number d once at
apart_before (x ∷ ds) (suc number) (suc k) d e once at l = apart_before ds number k d e (omega arith) at (omega arith)

pub number_is : (ds : List Declaration) (number : ℕ) (d : Declaration) → DeclaresOnce ds → slice_get ds number ≡ Some d → number_of ds d.name ≡ Some number
number_is ds number d once at =
    let within : number < length ds = slice_get_within ds number d at in
    let here : bytes_eq d.name (get_or ds number d).name ≡ true =
    (bytes_eq-Decides d.name (get_or ds number d).name).1 (ap (λ (e : Declaration). e.name) (sym (get_or_from_slice_get ds number d d at))) in
    let first : position_or_len (λ e. bytes_eq d.name e.name) ds ≡ number =
    position_or_len_is (λ (e : Declaration). bytes_eq d.name e.name) ds number d (omega arith) (λ k l. apart_before ds number k d d (once d.name) at l) (λ l. here) in
    (λ j. cond (nat_lt (first j) (length ds)) (Some (first j)) None) ∙ ap (λ b. cond b (Some number) None) (lt-ltb number (length ds) within)

-- a declaration of another name has another number
pub other_number : (ds : List Declaration) (name : List ℕ) (number place : ℕ) (d : Declaration) → slice_get ds number ≡ Some d → bytes_eq name d.name ≡ false →
    number_of ds name ≡ Some place → number ≢ place
other_number ds name number place d at other is same =
    let found = position-Some (λ (e : Declaration). bytes_eq name e.name) ds place d is in
    let here : get_or ds place d ≡ d = ap (λ k. get_or ds k d) (sym same) ∙ get_or_from_slice_get ds number d d at in
    let yes : bytes_eq name d.name ≡ true = ap (λ (e : Declaration). bytes_eq name e.name) (sym here) ∙ found.1 in cc

-- a declaration is found by its name
pub found_itself : (first : ℕ) (ds : List Declaration) (number : ℕ) (d : Declaration) → times_among ds d.name ≤ 1 → slice_get ds number ≡ Some d →
    (local : Local) × (found_from first ds d.name ≡ Some local) × (local.role ≡ d.role)
found_itself first [] number d once at = cc
found_itself first (x ∷ ds) zero d once at =
    let same : x ≡ d = cc in
    let t : bytes_eq d.name x.name ≡ true = (bytes_eq-Decides d.name x.name).1 (ap (λ (y : Declaration). y.name) (sym same)) in
    (record { first = first; shape = x.shape; role = x.role }, rw t refl, ap (λ (y : Declaration). y.role) same)
found_itself first (x ∷ ds) (suc number) d once at =
    let f : bytes_eq d.name x.name ≡ false = bytes_swap d.name x.name ∙ other_name x ds number d once at in
    let rest = found_itself (first + width x.shape) ds number d (omega arith) at in
    (rest.0, rw f rest.1, rest.2)

-- ---- a list that is gone through, item by item

pub map_next : {X Y : Type 0} (f : X → Y) (xs : List X) (i : ℕ) (x : X) → i < length xs → x ≡ get_or xs i x → map f (take (i + 1) xs) ≡ map f (take i xs) ++ f x ∷ []
map_next f xs i x l is = ap (map f) (take_next xs i x l is) ∙ map-append f (take i xs) (x ∷ [])

pub map_parts : {X Y : Type 0} (f : X → Y) (xs : List X) (i : ℕ) (x : X) → i < length xs → x ≡ get_or xs i x →
    map f xs ≡ map f (take i xs) ++ f x ∷ map f (drop (i + 1) xs)
map_parts f xs i x l is = ap (map f) (parted xs i x l is) ∙ map-append f (take i xs) (x ∷ drop (i + 1) xs)

regroup : {X : Type 0} (a b c d e : List X) → a ++ ((b ++ (c ++ d)) ++ e) ≡ (a ++ b) ++ (c ++ (d ++ e))
regroup a b c d e = simp append_assoc

module _ {X Y Z : Type 0} (h : Y → List Z) (f : X → Y) (xs : List X) (i : ℕ) (x : X) (l : i < length xs) (is : x ≡ get_or xs i x) where
  pub flat_next : (start now after : List Z) → now ≡ start ++ flat_map h (map f (take i xs)) → after ≡ now ++ h (f x) →
      after ≡ start ++ flat_map h (map f (take (i + 1) xs))
  flat_next start now after so_far longer =
      longer ∙ ap (λ zs. zs ++ h (f x)) so_far ∙ append_assoc start (flat_map h (map f (take i xs))) (h (f x))
      ∙ ap (λ zs. start ++ (flat_map h (map f (take i xs)) ++ zs)) (sym (append-nil (h (f x))))
      ∙ ap (λ zs. start ++ zs) (sym (flat_map-append h (map f (take i xs)) (f x ∷ [])))
      ∙ ap (λ ys. start ++ flat_map h ys) (sym (map_next f xs i x l is))

  pub flat_rest : (start now more whole : List Z) → now ≡ start ++ flat_map h (map f (take i xs)) → start ++ (flat_map h (map f xs) ++ more) ≡ whole →
      now ++ (h (f x) ++ (flat_map h (map f (drop (i + 1) xs)) ++ more)) ≡ whole
  flat_rest start now more whole so_far all =
      let parts : flat_map h (map f xs) ≡ flat_map h (map f (take i xs)) ++ (h (f x) ++ flat_map h (map f (drop (i + 1) xs))) =
      ap (flat_map h) (map_parts f xs i x l is) ∙ flat_map-append h (map f (take i xs)) (f x ∷ map f (drop (i + 1) xs)) in
      ap (λ zs. zs ++ (h (f x) ++ (flat_map h (map f (drop (i + 1) xs)) ++ more))) so_far
      ∙ sym (regroup start (flat_map h (map f (take i xs))) (h (f x)) (flat_map h (map f (drop (i + 1) xs))) more)
      ∙ ap (λ zs. start ++ (zs ++ more)) (sym parts)
      ∙ all
