-- The fields of the kinds of BELs, and the features that their bits spell.
use Rattle.std.proofs.Common.{◌≡◌, ◌≢◌, ◌⊎◌, ℕ, ◌+◌, ◌-◌, ◌<◌, ◌≤◌, Bool, true, false, cond, List, [], ◌∷◌, ◌++◌, codes, Contains, Option, Some, None, nat_eq, bytes_eq, sym, refl, ap, ◌∙◌, subst, inl, inr, arith}
use Rattle.std.proofs.lemmas.Bool.{cases_lt}
use Rattle.std.proofs.lemmas.Bool.Decides.{eqb_tells}
use Rattle.fab_kinds.specs.declared.kind.Kind.{Kind}
use Rattle.fab_kinds.specs.declared.kind.Kind.TheVariants as kinds
use Rattle.fab_kinds.specs.Pins.{bit_count}
use Rattle.fab_fabric.specs.declared.wire.Site.{Site}
use Rattle.fab_netlist.proofs.Members.{in_none, first_or_later, first_in, in_left, in_right}
use Rattle.fab_legal.proofs.Members.{in_either}
use Rattle.fab_fasm.specs.declared.feature.Feature.{Feature}
use Rattle.fab_features.specs.Said.{field_of, TwoNumbers}
use Rattle.fab_features.specs.Design.{feature_of, field_name}
use Rattle.fab_features.specs.Spelled.{TileBits, value_of, unless_zero, field_features, kind_features}

-- ---- one field

from_test : (test : Bool) (only g : Feature) → Contains (cond test [] (only ∷ [])) g → only ≡ g
from_test true only g here = absurd (in_none g here)
from_test false only g here = elim (first_or_later only [] g here) [ inl same ↦ same | inr none ↦ absurd (in_none g none) ]

from_unless : (name : List ℕ) (high value : ℕ) (g : Feature) → Contains (unless_zero name high value) g → feature_of name high 0 value ≡ g
from_unless name high value g here = from_test (nat_eq value 0) (feature_of name high 0 value) g here

pub into_unless : (name : List ℕ) (high value : ℕ) → value ≢ 0 → Contains (unless_zero name high value) (feature_of name high 0 value)
into_unless name high value some =
    elim (eqb_tells value 0) [
      | inl t ↦ absurd (some t.1)
      | inr f ↦ rw f.0 (first_in (feature_of name high 0 value) [] (feature_of name high 0 value) refl)
    ]

-- ---- the fields of a kind

in_four : {X : Type 0} (a b c d : List X) (x : X) → Contains (a ++ b ++ c ++ d) x → Contains a x ⊎ (Contains b x ⊎ (Contains c x ⊎ Contains d x))
in_four a b c d x here =
    elim (in_either (a ++ b ++ c) d x here) [
      | inr last ↦ inr (inr (inr last))
      | inl three ↦ elim (in_either (a ++ b) c x three) [
        | inr third ↦ inr (inr (inl third))
        | inl two ↦ elim (in_either a b x two) [ inl first ↦ inl first | inr second ↦ inr (inl second) ]
      ]
    ]

module _ (bits : TileBits) (site : Site) (low : ℕ) where
  -- a field of a kind, and a feature of it
  pub record OfField (kind : Kind) (g : Feature) : Type 0 where
    pub word : List ℕ
    pub field : TwoNumbers
    pub field_is : field_of kind word ≡ Some field
    pub is : feature_of (field_name site word) (field.1 - 1) 0 (value_of bits (low + field.0) field.1) ≡ g

  of_word : (kind : Kind) (word : List ℕ) (at first width : ℕ) (g : Feature) → field_of kind word ≡ Some (first, width) → at ≡ low + first →
      Contains (field_features bits site word at width) g → OfField kind g
  of_word kind word at first width g field_is at_is here = record {
    word = word;
    field = (first, width);
    field_is = field_is;
    is = ap (λ n. feature_of (field_name site word) (width - 1) 0 (value_of bits n width)) (sym at_is) ∙ from_unless (field_name site word) (width - 1) (value_of bits at width) g here;
  }

  pub from_kind : (kind : Kind) (g : Feature) → Contains (kind_features bits site low kind) g → OfField kind g
  from_kind kinds.Lut4c g here =
      elim (in_four (field_features bits site (codes "INIT") low 16) (field_features bits site (codes "FF") (low + 16) 1) (field_features bits site (codes "IOmux") (low + 17) 1)
      (field_features bits site (codes "SET_NORESET") (low + 18) 1) g here) [
        | inl table ↦ of_word kinds.Lut4c (codes "INIT") low 0 16 g refl (omega arith) table
        | inr more ↦ elim more [
          | inl latch ↦ of_word kinds.Lut4c (codes "FF") (low + 16) 16 1 g refl refl latch
          | inr last ↦ elim last [
            | inl mux ↦ of_word kinds.Lut4c (codes "IOmux") (low + 17) 17 1 g refl refl mux
            | inr reset ↦ of_word kinds.Lut4c (codes "SET_NORESET") (low + 18) 18 1 g refl refl reset
          ]
        ]
      ]
  from_kind kinds.Io g here = absurd (in_none g here)
  from_kind kinds.Mux8 g here =
      elim (in_either (field_features bits site (codes "c0") low 1) (field_features bits site (codes "c1") (low + 1) 1) g here) [
        | inl first ↦ of_word kinds.Mux8 (codes "c0") low 0 1 g refl (omega arith) first
        | inr second ↦ of_word kinds.Mux8 (codes "c1") (low + 1) 1 1 g refl refl second
      ]

  -- the field of a bit
  pub record HasBit (kind : Kind) (bit : ℕ) : Type 0 where
    pub word : List ℕ
    pub field : TwoNumbers
    pub field_is : field_of kind word ≡ Some field
    pub above : field.0 ≤ bit
    pub below : bit < field.0 + field.1
    pub listed : (g : Feature) → Contains (field_features bits site word (low + field.0) field.1) g → Contains (kind_features bits site low kind) g

  at_first : (word : List ℕ) (width : ℕ) (g : Feature) → Contains (field_features bits site word (low + 0) width) g →
      Contains (field_features bits site word low width) g
  at_first word width g here = (let same : low + 0 ≡ low = omega arith in subst (λ n. Contains (field_features bits site word n width) g) same here)

  pub bit_field : (kind : Kind) (bit : ℕ) → bit < bit_count kind → HasBit kind bit
  bit_field kinds.Lut4c bit few =
      let small : bit < 19 = few in
      let a : List Feature = field_features bits site (codes "INIT") low 16 in
      let b : List Feature = field_features bits site (codes "FF") (low + 16) 1 in
      let c : List Feature = field_features bits site (codes "IOmux") (low + 17) 1 in
      let d : List Feature = field_features bits site (codes "SET_NORESET") (low + 18) 1 in
      elim (cases_lt bit 16) [
        | inl table ↦ record {
          word = codes "INIT";
          field = (0, 16);
          field_is = refl;
          above = omega arith;
          below = omega (arith, table);
          listed = λ g here. in_left (a ++ b ++ c) d g (in_left (a ++ b) c g (in_left a b g (at_first (codes "INIT") 16 g here)));
        }
        | inr past ↦ elim (cases_lt bit 17) [
          | inl latch ↦ record {
            word = codes "FF";
            field = (16, 1);
            field_is = refl;
            above = past;
            below = omega (arith, latch);
            listed = λ g here. in_left (a ++ b ++ c) d g (in_left (a ++ b) c g (in_right a b g here));
          }
          | inr more ↦ elim (cases_lt bit 18) [
            | inl mux ↦ record {
              word = codes "IOmux";
              field = (17, 1);
              field_is = refl;
              above = more;
              below = omega (arith, mux);
              listed = λ g here. in_left (a ++ b ++ c) d g (in_right (a ++ b) c g here);
            }
            | inr last ↦ record { word = codes "SET_NORESET"; field = (18, 1); field_is = refl; above = last; below = omega (arith, small); listed = λ g here. in_right (a ++ b ++ c) d g here }
          ]
        ]
      ]
  bit_field kinds.Io bit few = (let small : bit < 0 = few in absurd (omega (arith, small)))
  bit_field kinds.Mux8 bit few =
      let small : bit < 2 = few in
      let a : List Feature = field_features bits site (codes "c0") low 1 in
      let b : List Feature = field_features bits site (codes "c1") (low + 1) 1 in
      elim (cases_lt bit 1) [
        | inl first ↦ record { word = codes "c0"; field = (0, 1); field_is = refl; above = omega arith; below = omega (arith, first); listed = λ g here. in_left a b g (at_first (codes "c0") 1 g here) }
        | inr second ↦ record { word = codes "c1"; field = (1, 1); field_is = refl; above = second; below = omega (arith, small); listed = λ g here. in_right a b g here }
      ]

-- a field has a bit
IsWide : Option TwoNumbers → Type 0
IsWide None = Unit {0}
IsWide (Some field) = 0 < field.1

wide_next : (test : Bool) (a b : Option TwoNumbers) → IsWide a → IsWide b → IsWide (cond test a b)
wide_next true a b first second = first
wide_next false a b first second = second

fields_wide : (kind : Kind) (word : List ℕ) → IsWide (field_of kind word)
unfolding IsWide
fields_wide kinds.Lut4c word =
    wide_next (bytes_eq word (codes "INIT")) _ _ (omega arith)
    (wide_next (bytes_eq word (codes "FF")) _ _ (omega arith)
    (wide_next (bytes_eq word (codes "IOmux")) _ _ (omega arith) (wide_next (bytes_eq word (codes "SET_NORESET")) _ _ (omega arith) tt)))
fields_wide kinds.Io word = tt
fields_wide kinds.Mux8 word = wide_next (bytes_eq word (codes "c0")) _ _ (omega arith) (wide_next (bytes_eq word (codes "c1")) _ _ (omega arith) tt)

pub wide_field : (kind : Kind) (word : List ℕ) (field : TwoNumbers) → field_of kind word ≡ Some field → 0 < field.1
unfolding IsWide
wide_field kind word field is = subst IsWide is (fields_wide kind word)
