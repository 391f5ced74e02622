-- Families that are looked up by their bases.
use Rattle.std.proofs.Common.{◌≡◌, ◌⊎◌, ℕ, zero, suc, ◌<◌, ◌≤◌, Bool, true, false, ◌&&◌, List, [], ◌∷◌, ◌++◌, length, get_or, Contains, refl, sym, ap, subst, ◌∙◌, inl, inr, arith}
use Rattle.std.specs.Prelude.{codes, nat_lt}
use Rattle.std.specs.List.{list_all, list_any}
use Rattle.std.proofs.lemmas.Bool.{cases_Bool}
use Rattle.std.proofs.lemmas.Bool.Decides.{nat_tests}
use Rattle.std.proofs.lemmas.List.{append-nil}
use Rattle.std.proofs.lemmas.List.Folds.{list_all-append}
use Rattle.fab_lines.specs.Numbers.{is_digit}
use Rattle.fab_names.specs.inner.Keyed.{Adds, AddsFronts, IsKept, family_at, no_family}
use Rattle.fab_names.specs.Names.{PlainFamily, first_name, has_bit, meet}
use Rattle.fab_names.proofs.Families.{IsBit, bit_of, both_first, both_second, either_first, either_is, either_second, fronts, number_digits}

-- ---- lists

pub any_at : {X : Type 0} (test : X → Bool) (xs : List X) (d : X) → list_any test xs ≡ true → (place : ℕ) × ((place < length xs) × (test (get_or xs place d) ≡ true))
any_at test [] d some = absurd cc
any_at test (x ∷ xs) d some =
    elim (either_is (test x) (list_any test xs) some) [
      | inl here ↦ (0, (omega arith, here))
      | inr later ↦ (let found = any_at test xs d later in (suc found.0, (omega (arith, found.1.0), found.1.1)))
    ]

pub at_any : {X : Type 0} (test : X → Bool) (xs : List X) (d : X) (place : ℕ) → place < length xs → test (get_or xs place d) ≡ true → list_any test xs ≡ true
at_any test [] d place within here = absurd (omega (arith, within))
at_any test (x ∷ xs) d zero within here = either_first (test x) (list_any test xs) here
at_any test (x ∷ xs) d (suc place) within here = either_second (test x) (list_any test xs) (at_any test xs d place (omega (arith, within)) here)

-- ---- the bases of families that share a name

pub record Near (one other : PlainFamily) : Type 0 where
  pub digits : List ℕ
  pub all : list_all is_digit digits ≡ true
  pub apart : (other.base ≡ one.base ++ digits) ⊎ (one.base ≡ other.base ++ digits)

front_digits : (front back digits : List ℕ) → list_all is_digit digits ≡ true → digits ≡ front ++ back → list_all is_digit front ≡ true
front_digits front back digits all is = both_first (list_all is_digit front) (list_all is_digit back) (sym (list_all-append is_digit front back) ∙ ap (list_all is_digit) (sym is) ∙ all)

-- the first name of one is a name of the other
near_by : (one other : PlainFamily) → has_bit one (first_name other) ≡ true → Near one other
near_by one other has =
    let bit : IsBit one (first_name other) = bit_of one (first_name other) has in
    let digits : list_all is_digit bit.digits ≡ true = number_digits bit.digits bit.number in
    elim (fronts other.base one.base (codes "0") bit.digits bit.is) [
      | inl front ↦ record { digits = front.more; all = front_digits front.more bit.digits (codes "0") refl front.rest; apart = inr front.is }
      | inr front ↦ record { digits = front.more; all = front_digits front.more (codes "0") bit.digits digits front.rest; apart = inl front.is }
    ]

turned : (one other : PlainFamily) → Near one other → Near other one
turned one other near = record {
  digits = near.digits;
  all = near.all;
  apart = elim near.apart [ inl front ↦ inr front | inr front ↦ inl front ];
}

pub near : (one other : PlainFamily) → meet one other ≡ true → Near one other
unfolding meet
near one other meets =
    elim (either_is (has_bit one (first_name other)) (has_bit other (first_name one)) (both_second (nat_lt 0 one.bits && nat_lt 0 other.bits) _ meets)) [
      | inl has ↦ near_by one other has
      | inr has ↦ turned other one (near_by other one has)
    ]

some_bits : (n : ℕ) → nat_lt 0 n ≡ true → 0 < n
some_bits n is = grind (arith, nat_tests)

pub meets_with_bits : (one other : PlainFamily) → meet one other ≡ true → (0 < one.bits) × (0 < other.bits)
unfolding meet
meets_with_bits one other meets =
    let some = both_first (nat_lt 0 one.bits && nat_lt 0 other.bits) _ meets in
    (some_bits one.bits (both_first (nat_lt 0 one.bits) _ some), some_bits other.bits (both_second (nat_lt 0 one.bits) _ some))

-- nothing shares a name with a family without bits
pub bare_meets_none : (all : List PlainFamily) (new : PlainFamily) → nat_lt 0 new.bits ≡ false → list_any (λ (family : PlainFamily). meet family new) all ≡ false
bare_meets_none all new none =
    elim (cases_Bool (list_any (λ (family : PlainFamily). meet family new) all)) [
      | inl t ↦ (
          let found = any_at (λ (family : PlainFamily). meet family new) all no_family t in
          let bits : 0 < new.bits = (meets_with_bits (family_at all found.0) new found.1.1).1 in
          absurd (no_bits new.bits none bits)
          )
      | inr f ↦ f
    ]
  where
    no_bits : (n : ℕ) → nat_lt 0 n ≡ false → 0 < n → ⊥
    no_bits n is some = grind (arith, nat_tests)

-- ---- which families are compared

-- What is to be shown of a place under a base, and of one under a front.
pub found_near : (all : List PlainFamily) (bases fronts : List ℕ → List ℕ) (longest : ℕ) (new : PlainFamily) (found_base found_front : Bool) → IsKept all bases fronts longest →
    ((front digits : List ℕ) (place : ℕ) → new.base ≡ front ++ digits → list_all is_digit digits ≡ true → length front ≤ longest → Contains (bases front) place → place < length all →
    meet (family_at all place) new ≡ true → found_base ≡ true) →
    ((place : ℕ) → Contains (fronts new.base) place → place < length all → meet (family_at all place) new ≡ true → found_front ≡ true) →
    (place : ℕ) → place < length all → meet (family_at all place) new ≡ true → (found_base ≡ true) ⊎ (found_front ≡ true)
found_near all bases fronts longest new found_base found_front kept base_tried front_tried place within meets =
    by_side (near family new meets).digits (near family new meets).all (near family new meets).apart
  where
    family : PlainFamily
    family = family_at all place

    bits : 0 < family.bits
    bits = (meets_with_bits family new meets).0

    behind : (digits : List ℕ) → new.base ≡ family.base ++ digits → list_all is_digit digits ≡ true → found_base ≡ true
    behind digits is only = base_tried family.base digits place is only (kept.short place within bits) (kept.based place within bits) within meets

    by_digits : (digits : List ℕ) → list_all is_digit digits ≡ true → family.base ≡ new.base ++ digits → (found_base ≡ true) ⊎ (found_front ≡ true)
    by_digits [] only is = inl (behind [] (sym (append-nil new.base) ∙ sym is ∙ sym (append-nil family.base)) refl)
    by_digits (digit ∷ digits) only is = inr (front_tried place (kept.fronted place new.base (digit ∷ digits) within bits is (omega arith) only) within meets)

    by_side : (digits : List ℕ) → list_all is_digit digits ≡ true → (new.base ≡ family.base ++ digits) ⊎ (family.base ≡ new.base ++ digits) → (found_base ≡ true) ⊎ (found_front ≡ true)
    by_side digits only (inl is) = inl (behind digits is only)
    by_side digits only (inr is) = by_digits digits only is

pub none_is : (n : ℕ) → nat_lt 0 n ≡ false → n ≡ 0
none_is n none = grind (arith, nat_tests)

-- ---- one family more

same_or_last : (all : List PlainFamily) (family : PlainFamily) (place : ℕ) → place < length (all ++ family ∷ []) →
    ((place < length all) × (family_at (all ++ family ∷ []) place ≡ family_at all place)) ⊎ ((place ≡ length all) × (family_at (all ++ family ∷ []) place ≡ family))
same_or_last [] family zero within = inr (refl, refl)
same_or_last [] family (suc place) within = absurd (omega (arith, within))
same_or_last (first ∷ all) family zero within = inl (omega arith, refl)
same_or_last (first ∷ all) family (suc place) within =
    elim (same_or_last all family place (omega (arith, within))) [
      | inl before ↦ inl (omega (arith, before.0), before.1)
      | inr last ↦ inr (ap suc last.0, last.1)
    ]

module _ (all : List PlainFamily) (bases fronts : List ℕ → List ℕ) (longest : ℕ) (kept : IsKept all bases fronts longest) (family : PlainFamily) where
  -- a family without bits shares no name
  pub kept_bare : family.bits ≡ 0 → IsKept (all ++ family ∷ []) bases fronts longest
  kept_bare none = record {
    based = λ place within bits. elim (same_or_last all family place within) [
      | inl before ↦ subst (λ (f : PlainFamily). Contains (bases f.base) place) (sym before.1) (kept.based place before.0 (subst (λ (f : PlainFamily). 0 < f.bits) before.1 bits))
      | inr last ↦ absurd (no_bits place last.1 bits)
    ];
    fronted = λ place front digits within bits is some only. elim (same_or_last all family place within) [
      | inl before ↦ kept.fronted place front digits before.0 (subst (λ (f : PlainFamily). 0 < f.bits) before.1 bits) (ap (λ (f : PlainFamily). f.base) (sym before.1) ∙ is) some only
      | inr last ↦ absurd (no_bits place last.1 bits)
    ];
    short = λ place within bits. elim (same_or_last all family place within) [
      | inl before ↦ subst (λ (f : PlainFamily). length f.base ≤ longest) (sym before.1) (kept.short place before.0 (subst (λ (f : PlainFamily). 0 < f.bits) before.1 bits))
      | inr last ↦ absurd (no_bits place last.1 bits)
    ];
  }
    where
      no_bits : (place : ℕ) → family_at (all ++ family ∷ []) place ≡ family → 0 < (family_at (all ++ family ∷ []) place).bits → ⊥
      no_bits place is bits =
          let here : 0 < family.bits = subst (λ (f : PlainFamily). 0 < f.bits) is bits in
          omega (arith, here, none)

  pub kept_more : (bases_new fronts_new : List ℕ → List ℕ) (longest_new : ℕ) → Adds bases bases_new family.base (length all) → AddsFronts fronts fronts_new family.base (length all) →
      longest ≤ longest_new → length family.base ≤ longest_new → IsKept (all ++ family ∷ []) bases_new fronts_new longest_new
  kept_more bases_new fronts_new longest_new more_bases more_fronts longer fits = record {
    based = λ place within bits. elim (same_or_last all family place within) [
      | inl before ↦ subst (λ (f : PlainFamily). Contains (bases_new f.base) place) (sym before.1)
          (more_bases.kept (family_at all place).base place (kept.based place before.0 (subst (λ (f : PlainFamily). 0 < f.bits) before.1 bits)))
      | inr last ↦ subst (λ (f : PlainFamily). Contains (bases_new f.base) place) (sym last.1) (subst (λ (p : ℕ). Contains (bases_new family.base) p) (sym last.0) more_bases.added)
    ];
    fronted = λ place front digits within bits is some only. elim (same_or_last all family place within) [
      | inl before ↦ more_fronts.kept front place (kept.fronted place front digits before.0 (subst (λ (f : PlainFamily). 0 < f.bits) before.1 bits) (ap (λ (f : PlainFamily). f.base) (sym before.1) ∙ is) some only)
      | inr last ↦ subst (λ (p : ℕ). Contains (fronts_new front) p) (sym last.0) (more_fronts.added front digits (ap (λ (f : PlainFamily). f.base) (sym last.1) ∙ is) some only)
    ];
    short = λ place within bits. elim (same_or_last all family place within) [
      | inl before ↦ (
          let old : length (family_at (all ++ family ∷ []) place).base ≤ longest =
          subst (λ (f : PlainFamily). length f.base ≤ longest) (sym before.1) (kept.short place before.0 (subst (λ (f : PlainFamily). 0 < f.bits) before.1 bits)) in
          omega (arith, old, longer)
          )
      | inr last ↦ subst (λ (f : PlainFamily). length f.base ≤ longest_new) (sym last.1) fits
    ];
  }

pub kept_none : (bases fronts : List ℕ → List ℕ) (longest : ℕ) → IsKept [] bases fronts longest
kept_none bases fronts longest = record {
  based = λ place within bits. absurd (omega (arith, within));
  fronted = λ place front digits within bits is some only. absurd (omega (arith, within));
  short = λ place within bits. absurd (omega (arith, within));
}
