-- Bits of the top's names, by numbers.
use Rattle.std.proofs.Common.{◌≡◌, ◌⊎◌, ℕ, ◌+◌, ◌-◌, ◌<◌, ◌≤◌, List, [], slice_get, Some, None, sym, ap, ◌∙◌, subst, inl, inr, arith}
use Rattle.fab_syntax.specs.Declarations.{width}
use Rattle.fab_syntax.specs.Plain.{PlainModule}
use Rattle.fab_syntax.specs.Sound.{IsSound}
use Rattle.fab_meaning.specs.Points.{Point, point, outside, Drives}
use Rattle.fab_meaning.specs.Runs.{clock_name}
use Rattle.fab_meaning.specs.Loading.{IsStream, write_strobe_name, write_data_name}
use Rattle.fab_values.specs.Declarations.{declarations, found_in}
use Rattle.fab_values.specs.declared.names.Local.{Local}
use Rattle.fab_equations.specs.Instances.{Instance, instances, points}
use Rattle.fab_equations.specs.Numbering.{IsInstanceOfNumber, points_before}
use Rattle.fab_equations.specs.Equations.{IsPoint, declared_as, declared_in}
use Rattle.fab_equations.specs.declared.driver.Declared.{Declared}
use Rattle.fab_equations.proofs.Numbering.{same_value}
use Rattle.fab_equations.proofs.Paths.{paths_differ, top_path}
use Rattle.fab_equations.proofs.Places.{names_have_points}
use Rattle.fab_equations.proofs.Points.{point_at}
use Rattle.fab_load_points.specs.inner.Causes.{IsTopBit}
use Rattle.fab_load_points.proofs.Names.{some_mapped, none_mapped, point_declared}
use Rattle.fab_load_points.proofs.Streams.{driven_outside}

module _ (text : List PlainModule) (sound : IsSound text) (i : Instance) (is : IsInstanceOfNumber text 0 i) (name : List ℕ) where
  -- where the name of a bit is declared
  record IsBitAt (number : ℕ) : Type 0 where
    local : Local
    found : found_in (declarations i.here) name ≡ Some local
    bit : ℕ
    less : bit < width local.shape
    place : number ≡ points_before text 0 + (local.first + bit)

  bit_at : (number : ℕ) → IsTopBit text name number → IsBitAt number
  bit_at number (bit, there) =
      let at = point_at text sound number (point [] name bit) there in
      let above : at.above ≡ 0 = paths_differ text sound at.above 0 at.i i at.is is (at.same ∙ sym (top_path text i is)) in
      let same : at.i ≡ i = same_value (slice_get (instances text) 0) at.i i (ap (slice_get (instances text)) (sym above) ∙ at.is) is in
      record {
        local = at.local;
        found = ap (λ (x : Instance). found_in (declarations x.here) name) (sym same) ∙ at.found;
        bit = bit;
        less = at.less;
        place = at.place ∙ ap (λ n. points_before text n + (at.local.first + bit)) above;
      }

  pub not_declared : None ≡ declared_in text 0 i name → (number : ℕ) → ¬ IsTopBit text name number
  not_declared none number top =
      let at = bit_at number top in
      let absent : found_in (declarations i.here) name ≡ None = none_mapped (declared_as text 0) (found_in (declarations i.here) name) none in
      let found = at.found in cc

  module _ (d : Declared) (some : Some d ≡ declared_in text 0 i name) (number : ℕ) where
    abbrev as_declared : (local : Local) × (found_in (declarations i.here) name ≡ Some local) × (d ≡ declared_as text 0 local)
    as_declared = some_mapped (declared_as text 0) (found_in (declarations i.here) name) d some

    pub bit_within : IsTopBit text name number → (d.first ≤ number) × (number < d.first + width d.shape)
    bit_within top =
        let at = bit_at number top in
        let f = as_declared in
        let same : f.0 ≡ at.local = same_value _ f.0 at.local f.1 at.found in
        let first : d.first ≡ points_before text 0 + at.local.first = ap (λ (x : Declared). x.first) f.2 ∙ ap (λ (l : Local). points_before text 0 + l.first) same in
        let wide : width d.shape ≡ width at.local.shape = ap (λ (x : Declared). width x.shape) f.2 ∙ ap (λ (l : Local). width l.shape) same in
        let less = at.less in
        let place = at.place in
        (omega (arith, first, place), omega (arith, first, place, wide, less))

    pub within_bit : d.first ≤ number → number < d.first + width d.shape → IsTopBit text name number
    within_bit low high =
        let f = as_declared in
        let first : d.first ≡ points_before text 0 + f.0.first = ap (λ (x : Declared). x.first) f.2 in
        let wide : width d.shape ≡ width f.0.shape = ap (λ (x : Declared). width x.shape) f.2 in
        let bit = number - d.first in
        let place : number ≡ points_before text 0 + (f.0.first + (number - d.first)) = omega (arith, first, low) in (
          number - d.first,
          ap (slice_get (points text)) place
              ∙ names_have_points text 0 i is name f.0 f.1 (number - d.first) (omega (arith, wide, high, low))
              ∙ ap (λ path. Some (point path name (number - d.first))) (top_path text i is),
        )

-- ---- the inputs that carry words

module _ (text : List PlainModule) (sound : IsSound text) (number : ℕ) (p : Point) (is : IsPoint text number p) where
  abbrev pub Carries : Type 0
  Carries = IsTopBit text clock_name number ⊎ (IsTopBit text write_strobe_name number ⊎ IsTopBit text write_data_name number)

  named_so : (name : List ℕ) → IsTopBit text name number → p.name ≡ name
  named_so name top = ap (λ (q : Point). q.name) (same_value _ p (point [] name top.0) is top.1)

  pub carried : Drives text p outside → Carries → IsStream text p
  carried drives one = record {
    input = driven_outside text p drives;
    declared = point_declared text sound number p is;
    named =
        elim one [
          | inl clock ↦ inl (named_so clock_name clock)
          | inr other ↦ elim other [ inl strobe ↦ inr (inl (named_so write_strobe_name strobe)) | inr bits ↦ inr (inr (named_so write_data_name bits)) ]
        ];
  }

  bit_so : (name : List ℕ) → p.path ≡ [] → p.name ≡ name → IsTopBit text name number
  bit_so name top named =
      let same : p ≡ point [] name p.bit = (λ k. point (top k) (named k) p.bit) in
      (p.bit, subst (IsPoint text number) same is)

  pub carries : IsStream text p → Carries
  carries stream =
      elim stream.named [
        | inl clock ↦ inl (bit_so clock_name stream.input.top clock)
        | inr other ↦ elim other [
          | inl strobe ↦ inr (inl (bit_so write_strobe_name stream.input.top strobe))
          | inr bits ↦ inr (inr (bit_so write_data_name stream.input.top bits))
        ]
      ]
