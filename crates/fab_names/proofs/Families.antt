-- Two families share a name exactly where the first name of one is a name of the other.
use Rattle.std.proofs.Common.{◌≡◌, ◌⊎◌, ℕ, zero, suc, ◌+◌, ◌*◌, ◌<◌, ◌≤◌, ◌==◌, ◌&&◌, ◌||◌, Bool, true, false, List, [], ◌∷◌, ◌++◌, drop, length, refl, sym, ap, ◌∙◌, subst, inl, inr, arith, length-append, append_assoc}
use Rattle.std.specs.Prelude.{codes, not, nat_eq, nat_lt, slice_index}
use Rattle.std.specs.List.{list_all, list_any, starts_with}
use Rattle.std.specs.Char.{digit_value}
use Rattle.std.specs.Str.{bytes_eq}
use Rattle.std.specs.Str.Parse.{digits_value_after}
use Rattle.std.proofs.lemmas.Bool.Decides.{nat_tests, Decides-eqb}
use Rattle.std.proofs.lemmas.List.Folds.{list_all-append}
use Rattle.std.proofs.lemmas.Slice.Eq.{starts_is, bytes_eq-Decides}
use Rattle.std.proofs.lemmas.Int.Digits.{digits_value_push}
use Rattle.fab_lines.specs.Numbers.{is_digit, is_number, number_of}
use Rattle.fab_model.specs.Tiles.{counted}
use Rattle.fab_names.specs.Names.{PlainFamily, text_of, numbered_names, has_bit, first_name, meet}
use Rattle.fab_names.proofs.Texts.{text_is_number, number_of_text, text_of_number}

pub both_first : (a b : Bool) → (a && b) ≡ true → a ≡ true
both_first true b h = refl
both_first false b h = h

pub both_second : (a b : Bool) → (a && b) ≡ true → b ≡ true
both_second true b h = h
both_second false b h = absurd cc

pub both_are : (a b : Bool) → a ≡ true → b ≡ true → (a && b) ≡ true
both_are true b h k = k
both_are false b h k = h

pub either_first : (a b : Bool) → a ≡ true → (a || b) ≡ true
either_first true b h = refl
either_first false b h = absurd cc

pub either_second : (a b : Bool) → b ≡ true → (a || b) ≡ true
either_second true b h = refl
either_second false b h = h

pub either_is : (a b : Bool) → (a || b) ≡ true → (a ≡ true) ⊎ (b ≡ true)
either_is true b h = inl refl
either_is false b h = inr h

-- ---- what a name of a family is

pub record IsBit (family : PlainFamily) (name : List ℕ) : Type 0 where
  pub digits : List ℕ
  pub is : name ≡ family.base ++ digits
  pub number : is_number digits ≡ true
  pub below : number_of digits < family.bits

lt_true : (a b : ℕ) → a < b → nat_lt a b ≡ true
lt_true a b h = grind (arith, nat_tests)

true_lt : (a b : ℕ) → nat_lt a b ≡ true → a < b
true_lt a b h = grind (arith, nat_tests)

pub drop_front : (front back : List ℕ) → drop (length front) (front ++ back) ≡ back
drop_front [] back = refl
drop_front (x ∷ front) back = drop_front front back

pub bit_of : (family : PlainFamily) (name : List ℕ) → has_bit family name ≡ true → IsBit family name
unfolding has_bit
bit_of family name has =
    let base = family.base in
    let rest = drop (length base) name in
    let front = both_first (starts_with nat_eq name base && is_number rest) _ has in
    record {
      digits = rest;
      is = (starts_is Decides-eqb name base (starts_with nat_eq name base) refl).0 (both_first (starts_with nat_eq name base) _ front);
      number = both_second (starts_with nat_eq name base) (is_number rest) front;
      below = true_lt _ _ (both_second (starts_with nat_eq name base && is_number rest) _ has);
    }

has_digits : (family : PlainFamily) (digits : List ℕ) → is_number digits ≡ true → number_of digits < family.bits → has_bit family (family.base ++ digits) ≡ true
unfolding has_bit
has_digits family digits number below =
    let base = family.base in
    let same = drop_front base digits in
    both_are _ _
    (both_are _ _ ((starts_is Decides-eqb (base ++ digits) base (starts_with nat_eq (base ++ digits) base) refl).1 digits refl) (ap is_number same ∙ number))
    (lt_true _ _ (subst (λ (d : List ℕ). number_of d < family.bits) (sym same) below))

pub has_of_bit : (family : PlainFamily) (name : List ℕ) → IsBit family name → has_bit family name ≡ true
has_of_bit family name bit = ap (has_bit family) bit.is ∙ has_digits family bit.digits bit.number bit.below

-- ---- the list of names

pub any_counted : {X : Type 0} (test : X → Bool) (n : ℕ) (f : ℕ → X) → list_any test (counted n f) ≡ true → (i : ℕ) × ((i < n) × (test (f i) ≡ true))
unfolding counted
any_counted test zero f h = absurd cc
any_counted test (suc n) f h =
    elim (either_is (test (f 0)) _ h) [
      | inl here ↦ (0, (omega arith, here))
      | inr later ↦ (let found = any_counted test n (λ (i : ℕ). f (suc i)) later in (suc found.0, (omega (arith, found.1.0), found.1.1)))
    ]

pub counted_any : {X : Type 0} (test : X → Bool) (n : ℕ) (f : ℕ → X) (i : ℕ) → i < n → test (f i) ≡ true → list_any test (counted n f) ≡ true
unfolding counted
counted_any test zero f i within h = absurd (omega arith)
counted_any test (suc n) f zero within h = either_first (test (f 0)) _ h
counted_any test (suc n) f (suc i) within h = either_second (test (f 0)) _ (counted_any test n (λ (i : ℕ). f (suc i)) i (omega arith) h)

pub bit_among : (family : PlainFamily) (name : List ℕ) → list_any (bytes_eq name) (numbered_names family) ≡ true → IsBit family name
bit_among family name among =
    let found = any_counted (bytes_eq name) family.bits (λ (bit : ℕ). family.base ++ text_of bit) among in
    record {
      digits = text_of found.0;
      is = (bytes_eq-Decides name (family.base ++ text_of found.0)).0 found.1.1;
      number = text_is_number found.0;
      below = subst (λ (n : ℕ). n < family.bits) (sym (number_of_text found.0)) found.1.0;
    }

pub among_bit : (family : PlainFamily) (name : List ℕ) → IsBit family name → list_any (bytes_eq name) (numbered_names family) ≡ true
among_bit family name bit =
    counted_any (bytes_eq name) family.bits (λ (bit : ℕ). family.base ++ text_of bit) (number_of bit.digits) bit.below
    ((bytes_eq-Decides name (family.base ++ text_of (number_of bit.digits))).1 (bit.is ∙ ap (λ (d : List ℕ). family.base ++ d) (sym (text_of_number bit.digits bit.number))))

-- ---- names that two families share

pub record Front (a b d e : List ℕ) : Type 0 where
  pub more : List ℕ
  pub is : b ≡ a ++ more
  pub rest : d ≡ more ++ e

pub fronts : (a b d e : List ℕ) → a ++ d ≡ b ++ e → Front a b d e ⊎ Front b a e d
fronts [] b d e same = inl (record { more = b; is = refl; rest = same })
fronts (x ∷ a) [] d e same = inr (record { more = x ∷ a; is = refl; rest = sym same })
fronts (x ∷ a) (y ∷ b) d e same =
    let head : x ≡ y = cc in
    let tail : a ++ d ≡ b ++ e = cc in
    elim (fronts a b d e tail) [
      | inl f ↦ inl (record { more = f.more; is = ap (λ (n : ℕ). n ∷ b) (sym head) ∙ ap (λ (l : List ℕ). x ∷ l) f.is; rest = f.rest })
      | inr f ↦ inr (record { more = f.more; is = ap (λ (n : ℕ). n ∷ a) head ∙ ap (λ (l : List ℕ). y ∷ l) f.is; rest = f.rest })
    ]

after_append : (n : ℕ) (xs ys : List ℕ) → digits_value_after 10 n (xs ++ ys) ≡ digits_value_after 10 (digits_value_after 10 n xs) ys
after_append n [] ys = refl
after_append n (x ∷ xs) ys = after_append (n * 10 + digit_value x) xs ys

after_ge : (n : ℕ) (xs : List ℕ) → n ≤ digits_value_after 10 n xs
after_ge n [] = omega arith
after_ge n (x ∷ xs) = omega (arith, after_ge (n * 10 + digit_value x) xs)

after_some : (n : ℕ) (xs : List ℕ) → 0 < length xs → n * 10 ≤ digits_value_after 10 n xs
after_some n [] some = absurd (omega arith)
after_some n (x ∷ xs) some = omega (arith, after_ge (n * 10 + digit_value x) xs)

zero_value : digit_value 48 ≡ 0
zero_value = refl

-- with 0 in place of the last digits a number is no greater
zero_least : (more rest : List ℕ) → 0 < length rest → number_of (more ++ codes "0") ≤ number_of (more ++ rest)
zero_least more rest some =
    omega (arith, digits_value_push 10 more 48, zero_value, after_append 0 more rest, after_some (number_of more) rest some)

not_none : (long : ℕ) → not (long == 0) ≡ true → 0 < long
not_none long is = grind (arith, nat_tests)

some_is : (long : ℕ) → 0 < long → not (long == 0) ≡ true
some_is long some = grind (arith, nat_tests)

number_parts : (digits : List ℕ) → is_number digits ≡ true → (0 < length digits) × ((list_all is_digit digits ≡ true) × ((not (slice_index digits 0 == 48) || (length digits == 1)) ≡ true))
number_parts digits is =
    let front = both_first (not (length digits == 0) && list_all is_digit digits) _ is in
    (not_none (length digits) (both_first (not (length digits == 0)) _ front), (both_second (not (length digits == 0)) _ front, both_second (not (length digits == 0) && list_all is_digit digits) _ is))

pub number_digits : (digits : List ℕ) → is_number digits ≡ true → list_all is_digit digits ≡ true
number_digits digits is = (number_parts digits is).1.0

head_stays : (first long : ℕ) → 2 ≤ long → (not (first == 48) || (long == 1)) ≡ true → not (first == 48) ≡ true
head_stays first long two h = grind (arith, nat_tests)

-- and it is a number again
zero_is_number : (more rest : List ℕ) → is_number (more ++ rest) ≡ true → 0 < length rest → is_number (more ++ codes "0") ≡ true
zero_is_number [] rest is some = refl
zero_is_number (x ∷ more) rest is some =
    let parts = number_parts (x ∷ more ++ rest) is in
    let all : list_all is_digit (x ∷ more) ≡ true = both_first _ (list_all is_digit rest) (sym (list_all-append is_digit (x ∷ more) rest) ∙ parts.1.0) in
    let digits : list_all is_digit ((x ∷ more) ++ codes "0") ≡ true = list_all-append is_digit (x ∷ more) (codes "0") ∙ both_are _ _ all refl in
    let head = head_stays x (length (x ∷ more ++ rest)) (omega (arith, length-append more rest)) parts.1.1 in
    both_are _ _ (both_are _ _ (some_is (length ((x ∷ more) ++ codes "0")) (omega (arith, length-append more (codes "0")))) digits) (either_first _ _ head)

-- a name that both have: then the first name of the longer base is one of the other family
shorter_has : (one other : PlainFamily) (d e : List ℕ) → Front one.base other.base d e → is_number d ≡ true → is_number e ≡ true → number_of d < one.bits → has_bit one (first_name other) ≡ true
shorter_has one other d e front number last below =
    let some = (number_parts e last).0 in
    let whole = ap is_number (sym front.rest) ∙ number in
    let least = zero_least front.more e some in
    let same = ap number_of front.rest in
    has_of_bit one (first_name other) (record {
      digits = front.more ++ codes "0";
      is = ap (λ (b : List ℕ). b ++ codes "0") front.is ∙ append_assoc one.base front.more (codes "0");
      number = zero_is_number front.more e whole some;
      below = omega (arith, least, same, below);
    })

pub shared_meet : (one other : PlainFamily) (name : List ℕ) → IsBit one name → IsBit other name → meet one other ≡ true
unfolding meet
shared_meet one other name here there =
    let either : (has_bit one (first_name other) || has_bit other (first_name one)) ≡ true =
    elim (fronts one.base other.base here.digits there.digits (sym here.is ∙ there.is)) [
      | inl front ↦ either_first _ _ (shorter_has one other here.digits there.digits front here.number there.number here.below)
      | inr front ↦ either_second _ _ (shorter_has other one there.digits here.digits front there.number here.number there.below)
    ] in
    both_are _ _ (both_are _ _ (lt_true 0 one.bits (omega (arith, here.below))) (lt_true 0 other.bits (omega (arith, there.below)))) either

first_is_bit : (family : PlainFamily) → 0 < family.bits → IsBit family (first_name family)
first_is_bit family some = record { digits = codes "0"; is = refl; number = refl; below = some }

pub record Shared (one other : PlainFamily) : Type 0 where
  pub name : List ℕ
  pub here : IsBit one name
  pub there : IsBit other name

pub meet_shared : (one other : PlainFamily) → meet one other ≡ true → Shared one other
unfolding meet
meet_shared one other meets =
    let some = both_first (nat_lt 0 one.bits && nat_lt 0 other.bits) _ meets in
    let one_some = true_lt 0 one.bits (both_first (nat_lt 0 one.bits) _ some) in
    let other_some = true_lt 0 other.bits (both_second (nat_lt 0 one.bits) _ some) in
    elim (either_is (has_bit one (first_name other)) _ (both_second (nat_lt 0 one.bits && nat_lt 0 other.bits) _ meets)) [
      | inl has ↦ record { name = first_name other; here = bit_of one (first_name other) has; there = first_is_bit other other_some }
      | inr has ↦ record { name = first_name one; here = first_is_bit one one_some; there = bit_of other (first_name one) has }
    ]
