-- Names that come twice, by families.
use Rattle.std.proofs.Common.{◌≡◌, ℕ, zero, suc, ◌+◌, ◌<◌, ◌≤◌, length-append, ◌||◌, Bool, true, false, Option, Some, None, List, [], ◌∷◌, ◌++◌, take, drop, get_or, length, drop-cons, add-one, refl, sym, ap, ◌∙◌, subst, inl, inr, arith, append_assoc}
use Rattle.std.specs.List.{list_any, IsDistinct}
use Rattle.std.specs.Str.{bytes_eq}
use Rattle.std.proofs.lemmas.List.{take_more, drop_all}
use Rattle.std.proofs.lemmas.List.Sorted.{IsPermutation-append_right, IsPermutation-append_comm}
use Rattle.std.proofs.lemmas.Map.Keys.{IsDistinct-push, IsDistinct-IsPermutation}
use Rattle.std.specs.Cmp.Lexicographic.{nat_list_eq_equiv}
use Rattle.std.proofs.lemmas.List.Folds.{list_any-append}
use Rattle.std.proofs.lemmas.Slice.Eq.{bytes_eq-Decides}
use Rattle.fab_lines.specs.Numbers.{number_of}
use Rattle.fab_model.specs.Tiles.{counted}
use Rattle.fab_names.specs.Names.{PlainFamily, PlainNames, text_of, numbered_names, has_bit, meet, come_twice, names_of, all_names, sides_of, with_sides, with_pins}
use Rattle.fab_lines.specs.Items.{is_among}
use Rattle.fab_names.specs.inner.Sides.{opt_meets, sides_meet}
use Rattle.fab_names.proofs.Texts.{number_of_text, text_of_number}
use Rattle.fab_names.proofs.Families.{either_first, either_second, either_is, bit_of, has_of_bit, bit_among, among_bit, counted_any, drop_front, shared_meet, meet_shared}

pub same_test : (a b : Bool) → (a ≡ true → b ≡ true) → (b ≡ true → a ≡ true) → a ≡ b
same_test true b there back = sym (there refl)
same_test false true there back = back refl
same_test false false there back = refl

-- ---- lists

pub record Found {X : Type 0} (test : X → Bool) (xs : List X) : Type 0 where
  pub item : X
  pub passes : test item ≡ true
  pub others : (other : X → Bool) → other item ≡ true → list_any other xs ≡ true

pub any_found : {X : Type 0} (test : X → Bool) (xs : List X) → list_any test xs ≡ true → Found test xs
any_found test [] h = absurd cc
any_found test (x ∷ xs) h =
    elim (either_is (test x) (list_any test xs) h) [
      | inl here ↦ record { item = x; passes = here; others = λ other is. either_first (other x) (list_any other xs) is }
      | inr later ↦ (let found = any_found test xs later in record { item = found.item; passes = found.passes; others = λ other is. either_second (other x) (list_any other xs) (found.others other is) })
    ]

append_nil : (xs : List (List ℕ)) → xs ++ [] ≡ xs
append_nil [] = refl
append_nil (x ∷ xs) = ap (λ (l : List (List ℕ)). x ∷ l) (append_nil xs)

pred_same : (i j : ℕ) → suc i ≡ suc j → i ≡ j
pred_same i j same = omega arith

suc_not_zero : (i : ℕ) → suc i ≡ 0 → ⊥
suc_not_zero i same = omega arith

either_none : (a : Bool) → (a || false) ≡ true → a ≡ true
either_none true h = refl
either_none false h = absurd cc

either_false : (a : Bool) → (a || false) ≡ a
either_false true = refl
either_false false = refl

either_assoc : (a b c : Bool) → ((a || b) || c) ≡ (a || (b || c))
either_assoc true b c = refl
either_assoc false b c = refl

pub twice_append : (before xs ys : List (List ℕ)) → come_twice before (xs ++ ys) ≡ (come_twice before xs || come_twice (before ++ xs) ys)
unfolding come_twice
twice_append before [] ys = ap (λ (b : List (List ℕ)). come_twice b ys) (sym (append_nil before))
twice_append before (x ∷ xs) ys =
    ap (λ (b : Bool). is_among before x || b) (twice_append (before ++ x ∷ []) xs ys ∙ ap (λ (b : List (List ℕ)). come_twice (before ++ x ∷ []) xs || come_twice b ys) (append_assoc before (x ∷ []) xs))
    ∙ sym (either_assoc (is_among before x) (come_twice (before ++ x ∷ []) xs) (come_twice (before ++ x ∷ xs) ys))

-- ---- names of one family

same_number : (family : PlainFamily) (i j : ℕ) → family.base ++ text_of i ≡ family.base ++ text_of j → i ≡ j
same_number family i j same =
    let texts = sym (drop_front family.base (text_of i)) ∙ ap (drop (length family.base)) same ∙ drop_front family.base (text_of j) in
    sym (number_of_text i) ∙ ap number_of texts ∙ number_of_text j

-- a list of names of which no two are alike comes twice where one of them stands before
counted_twice : (n : ℕ) (f : ℕ → List ℕ) (before : List (List ℕ)) → ((i j : ℕ) → f i ≡ f j → i ≡ j) → come_twice before (counted n f) ≡ true → (i : ℕ) × ((i < n) × (is_among before (f i) ≡ true))
unfolding come_twice counted
counted_twice zero f before apart h = absurd cc
counted_twice (suc n) f before apart h =
    elim (either_is (is_among before (f 0)) _ h) [
      | inl here ↦ (0, (omega arith, here))
      | inr later ↦ (let found = counted_twice n (λ (i : ℕ). f (suc i)) (before ++ f 0 ∷ []) (λ i j same. pred_same i j (apart (suc i) (suc j) same)) later in
          elim (either_is (is_among before (f (suc found.0))) _ (sym (list_any-append (bytes_eq (f (suc found.0))) before (f 0 ∷ [])) ∙ found.1.1)) [
            | inl among ↦ (suc found.0, (omega (arith, found.1.0), among))
            | inr same ↦ absurd (suc_not_zero found.0 (apart (suc found.0) 0 ((bytes_eq-Decides (f (suc found.0)) (f 0)).0 (either_none (bytes_eq (f (suc found.0)) (f 0)) same))))
          ])
    ]

twice_counted : (n : ℕ) (f : ℕ → List ℕ) (before : List (List ℕ)) (i : ℕ) → i < n → is_among before (f i) ≡ true → come_twice before (counted n f) ≡ true
unfolding come_twice counted
twice_counted zero f before i within among = absurd (omega arith)
twice_counted (suc n) f before zero within among = either_first _ _ among
twice_counted (suc n) f before (suc i) within among =
    either_second (is_among before (f 0)) _ (twice_counted n (λ (i : ℕ). f (suc i)) (before ++ f 0 ∷ []) i (omega arith)
    (list_any-append (bytes_eq (f (suc i))) before (f 0 ∷ []) ∙ either_first _ _ among))

pub twice_family : (before : List (List ℕ)) (family : PlainFamily) → come_twice before (numbered_names family) ≡ list_any (has_bit family) before
twice_family before family =
    let f : ℕ → List ℕ = λ bit. family.base ++ text_of bit in
    same_test _ _
    (λ twice. let found = counted_twice family.bits f before (same_number family) twice in
    let item = any_found (bytes_eq (f found.0)) before found.1.1 in
    let same = (bytes_eq-Decides (f found.0) item.item).0 item.passes in
    item.others (has_bit family) (sym (ap (has_bit family) same) ∙ has_of_bit family (f found.0) (bit_among family (f found.0) (counted_any (bytes_eq (f found.0)) family.bits f found.0 found.1.0 ((bytes_eq-Decides (f found.0) (f found.0)).1 refl)))))
    (λ has. let item = any_found (has_bit family) before has in
    let bit = bit_of family item.item item.passes in
    let text = text_of_number bit.digits bit.number in
    let name = bit.is ∙ ap (λ (d : List ℕ). family.base ++ d) (sym text) in
    twice_counted family.bits f before (number_of bit.digits) bit.below (item.others (bytes_eq (f (number_of bit.digits))) ((bytes_eq-Decides (f (number_of bit.digits)) item.item).1 (sym name))))

-- ---- families

pub any_numbered : (family other : PlainFamily) → list_any (has_bit family) (numbered_names other) ≡ meet other family
any_numbered family other =
    let f : ℕ → List ℕ = λ bit. other.base ++ text_of bit in
    same_test _ _
    (λ has. let item = any_found (has_bit family) (numbered_names other) has in
    shared_meet other family item.item (bit_among other item.item (item.others (bytes_eq item.item) ((bytes_eq-Decides item.item item.item).1 refl))) (bit_of family item.item item.passes))
    (λ meets. let shared = meet_shared other family meets in
    let item = any_found (bytes_eq shared.name) (numbered_names other) (among_bit other shared.name shared.here) in
    let same = (bytes_eq-Decides shared.name item.item).0 item.passes in
    item.others (has_bit family) (sym (ap (has_bit family) same) ∙ has_of_bit family shared.name shared.there))

pub any_families : (family : PlainFamily) (others : List PlainFamily) → list_any (has_bit family) (names_of others) ≡ list_any (λ (other : PlainFamily). meet other family) others
any_families family [] = refl
any_families family (other ∷ others) =
    list_any-append (has_bit family) (numbered_names other) (names_of others)
    ∙ ap (λ (b : Bool). b || list_any (has_bit family) (names_of others)) (any_numbered family other)
    ∙ ap (λ (b : Bool). meet other family || b) (any_families family others)

pub among_families : (name : List ℕ) (families : List PlainFamily) → is_among (names_of families) name ≡ list_any (λ (family : PlainFamily). has_bit family name) families
among_families name [] = refl
among_families name (family ∷ families) =
    list_any-append (bytes_eq name) (numbered_names family) (names_of families)
    ∙ ap (λ (b : Bool). b || is_among (names_of families) name) (same_test _ _ (λ among. has_of_bit family name (bit_among family name among)) (λ has. among_bit family name (bit_of family name has)))
    ∙ ap (λ (b : Bool). has_bit family name || b) (among_families name families)

-- ---- the sides of a row

pub twice_none : (before : List (List ℕ)) → come_twice before [] ≡ false
unfolding come_twice
twice_none before = refl

pub twice_sides : (names : PlainNames) (source dest : Option PlainFamily)
    → (opt_meets names source || (opt_meets names dest || sides_meet source dest)) ≡ come_twice (all_names names) (names_of (sides_of source dest))
twice_sides names None None = sym (twice_none (all_names names))
twice_sides names None (Some dest) =
    either_false (list_any (has_bit dest) (all_names names)) ∙ sym (twice_family (all_names names) dest) ∙ ap (come_twice (all_names names)) (sym (append_nil (numbered_names dest)))
twice_sides names (Some source) None =
    either_false (list_any (has_bit source) (all_names names)) ∙ sym (twice_family (all_names names) source) ∙ ap (come_twice (all_names names)) (sym (append_nil (numbered_names source)))
twice_sides names (Some source) (Some dest) =
    let all = all_names names in
    let behind = list_any-append (has_bit dest) all (numbered_names source) ∙ ap (λ (b : Bool). list_any (has_bit dest) all || b) (any_numbered dest source) in
    ap (λ (b : Bool). list_any (has_bit source) all || b) (sym behind ∙ sym (twice_family (all ++ numbered_names source) dest))
    ∙ ap (λ (b : Bool). b || come_twice (all ++ numbered_names source) (numbered_names dest)) (sym (twice_family all source))
    ∙ sym (twice_append all (numbered_names source) (numbered_names dest))
    ∙ ap (λ (l : List (List ℕ)). come_twice all (numbered_names source ++ l)) (sym (append_nil (numbered_names dest)))

-- ---- pins, one after the other

pub pin_comes_twice : (all pins : List (List ℕ)) (i : ℕ) (d : List ℕ) → i < length pins → (is_among all (get_or pins i d) || is_among (take i pins) (get_or pins i d)) ≡ true
    → come_twice (all ++ take i pins) (drop i pins) ≡ true
unfolding come_twice
pin_comes_twice all pins i d within among =
    ap (come_twice (all ++ take i pins)) (drop-cons pins i d within)
    ∙ either_first (is_among (all ++ take i pins) (get_or pins i d)) _ (list_any-append (bytes_eq (get_or pins i d)) all (take i pins) ∙ among)

pub pin_passes : (all pins : List (List ℕ)) (i : ℕ) (d : List ℕ) → i < length pins → (is_among all (get_or pins i d) || is_among (take i pins) (get_or pins i d)) ≡ false
    → come_twice (all ++ take (i + 1) pins) (drop (i + 1) pins) ≡ come_twice (all ++ take i pins) (drop i pins)
unfolding come_twice
pin_passes all pins i d within among =
    let behind = all ++ take i pins in
    let fresh : is_among behind (get_or pins i d) ≡ false = list_any-append (bytes_eq (get_or pins i d)) all (take i pins) ∙ among in
    ap (λ (l : List (List ℕ)). come_twice l (drop (i + 1) pins)) (ap (λ (l : List (List ℕ)). all ++ l) (take_more pins i d within) ∙ sym (append_assoc all (take i pins) (get_or pins i d ∷ [])))
    ∙ ap (λ (k : ℕ). come_twice (behind ++ get_or pins i d ∷ []) (drop k pins)) (add-one i)
    ∙ sym (ap (λ (b : Bool). b || come_twice (behind ++ get_or pins i d ∷ []) (drop (suc i) pins)) fresh)
    ∙ sym (ap (come_twice behind) (drop-cons pins i d within))

pub no_more_pins : (all pins : List (List ℕ)) (i : ℕ) → length pins ≤ i → come_twice (all ++ take i pins) (drop i pins) ≡ false
no_more_pins all pins i past = ap (come_twice (all ++ take i pins)) (drop_all i pins past) ∙ twice_none (all ++ take i pins)

-- ---- names that differ

either_neither : (a b : Bool) → (a || b) ≡ false → (a ≡ false) × (b ≡ false)
either_neither true b h = absurd cc
either_neither false b h = (refl, h)

pub distinct_more : (before xs : List (List ℕ)) → IsDistinct bytes_eq before → come_twice before xs ≡ false → IsDistinct bytes_eq (before ++ xs)
unfolding come_twice
distinct_more before [] apart fine = subst (IsDistinct bytes_eq) (sym (append_nil before)) apart
distinct_more before (x ∷ xs) apart fine =
    let parts = either_neither (is_among before x) _ fine in
    subst (IsDistinct bytes_eq) (append_assoc before (x ∷ []) xs)
    (distinct_more (before ++ x ∷ []) xs (IsDistinct-push nat_list_eq_equiv before x apart parts.0) parts.1)

pub names_of_append : (xs ys : List PlainFamily) → names_of (xs ++ ys) ≡ names_of xs ++ names_of ys
names_of_append [] ys = refl
names_of_append (x ∷ xs) ys = ap (λ (l : List (List ℕ)). numbered_names x ++ l) (names_of_append xs ys) ∙ sym (append_assoc (numbered_names x) (names_of xs) (names_of ys))

bytes_flip : (x y : List ℕ) → bytes_eq x y ≡ bytes_eq y x
bytes_flip x y = same_test _ _
    (λ h. (bytes_eq-Decides y x).1 (sym ((bytes_eq-Decides x y).0 h)))
    (λ h. (bytes_eq-Decides x y).1 (sym ((bytes_eq-Decides y x).0 h)))

-- with the sides of a row whose names are new
pub distinct_sides : (names : PlainNames) (source dest : Option PlainFamily) → IsDistinct bytes_eq (all_names names) → come_twice (all_names names) (names_of (sides_of source dest)) ≡ false
    → IsDistinct bytes_eq (all_names (with_sides names source dest))
unfolding all_names
distinct_sides names source dest apart fine =
    let old = names_of names.families in
    let new = names_of (sides_of source dest) in
    let more = distinct_more (old ++ names.pins) new apart fine in
    let moved = IsPermutation-append_right old (names.pins ++ new) (new ++ names.pins) (IsPermutation-append_comm names.pins new) in
    subst (IsDistinct bytes_eq) (sym (ap (λ (l : List (List ℕ)). l ++ names.pins) (names_of_append names.families (sides_of source dest)) ∙ append_assoc old new names.pins))
    (IsDistinct-IsPermutation bytes_eq bytes_flip (old ++ (names.pins ++ new)) (old ++ (new ++ names.pins)) moved (subst (IsDistinct bytes_eq) (append_assoc old names.pins new) more))

-- with pins that are new
pub distinct_pins : (names : PlainNames) (pins : List (List ℕ)) → IsDistinct bytes_eq (all_names names) → come_twice (all_names names) pins ≡ false → IsDistinct bytes_eq (all_names (with_pins names pins))
unfolding all_names
distinct_pins names pins apart fine = subst (IsDistinct bytes_eq) (append_assoc (names_of names.families) names.pins pins) (distinct_more (names_of names.families ++ names.pins) pins apart fine)

-- ---- how many names there are

length_counted : {X : Type 0} (n : ℕ) (f : ℕ → X) → length (counted n f) ≡ n
unfolding counted
length_counted zero f = refl
length_counted (suc n) f = omega (arith, length_counted n (λ (i : ℕ). f (suc i)))

pub length_numbered : (family : PlainFamily) → length (numbered_names family) ≡ family.bits
length_numbered family = length_counted family.bits (λ (bit : ℕ). family.base ++ text_of bit)

pub length_sides : (names : PlainNames) (source dest : Option PlainFamily) → length (all_names (with_sides names source dest)) ≡ length (all_names names) + length (names_of (sides_of source dest))
unfolding all_names
length_sides names source dest =
    let old = names_of names.families in
    let new = names_of (sides_of source dest) in
    omega (arith, length-append old names.pins, length-append (names_of (names.families ++ sides_of source dest)) names.pins, ap length (names_of_append names.families (sides_of source dest)), length-append old new)

pub length_pins : (names : PlainNames) (pins : List (List ℕ)) → length (all_names (with_pins names pins)) ≡ length (all_names names) + length pins
unfolding all_names
length_pins names pins =
    let old = names_of names.families in
    omega (arith, length-append old names.pins, length-append old (names.pins ++ pins), length-append names.pins pins)
