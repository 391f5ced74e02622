-- The command `partial` has one first refusal, or is ready.
use Rattle.std.proofs.Common.{◌≡◌, ◌<◌, ℕ, List, refl, sym, ap, ◌∙◌, subst, arith}
use Rattle.fab_base.specs.declared.fault.Fault.{Fault}
use Rattle.fab_base.specs.declared.fault.Fault.TheVariants as faults
use Rattle.fab_desk.specs.Files.{Map}
use Rattle.fab_files.specs.Files.{refuses}
use Rattle.fab_files.specs.Stages.{MeetsBehind, MeetsLast, IsJudged}
use Rattle.fab_files.proofs.Stages.{turn_is_judged}
use Rattle.fab_model.specs.declared.mode.Mode.TheVariants as modes
use Rattle.fab_model.specs.Grid.{PlainFabric}
use Rattle.fab_fabric.specs.Names.{full_name, name_at}
use Rattle.fab_fabric.specs.Wires.{wire_index}
use Rattle.fab_fabric.specs.declared.wire.Wire.{Wire}
use Rattle.fab_fabric.proofs.Numbered.{one_place}
use Rattle.fab_implementation.specs.Plain.{PlainImplementation}
use Rattle.fab_legal.specs.Broken.{IsWireText}
use Rattle.fab_legal.specs.Turns.{AreRight}
use Rattle.fab_fasm.specs.declared.feature.Feature.{Feature}
use Rattle.fab_partial.specs.Columns.{lies_within}
use Rattle.fab_partial.specs.Use.{AreUnused}
use Rattle.fab_partial.specs.declared.uses.Use.{Use}
use Rattle.fab_partial.specs.declared.uses.Use.TheVariants as uses
use Rattle.fab_partial.proofs.UseOnce.{one_use, unused_has_no_use}
use Rattle.fab_read.specs.Fabrics.{SpellsFabric, MeetsFabric}
use Rattle.fab_designs.specs.Implementations.{ReadsImplementation, MeetsImplementation}
use Rattle.fab_designs.proofs.Judged.{implementation_is_judged}
use Rattle.fab_assemble.specs.fab_features_Wrong.{IsRightFeature}
use Rattle.fab_flow.specs.Bits.{MeetsFeatures, ReadsFeatures, illegal}
use Rattle.fab_flow.specs.Partial.{HasFrames, IsReadyToExchange, IsUseText, MeetsContent, MeetsPartial, MeetsRunning, PartialFiles, RefusesChain, RefusesPartial, in_use, too_far, wrong}
use Rattle.fab_flow.proofs.BitsOnce.{fasm_is_judged, wrong_apart, wrong_once}
use Rattle.fab_flow.proofs.Once.{fabric_is_judged}

refuses_is : {a b : Fault} → refuses a ≡ refuses b → a ≡ b
refuses_is same = cc

-- ---- the mode of a fabric

no_chain : (fabric : PlainFabric) → fabric.mode ≡ modes.Frames → fabric.mode ≡ modes.Chain → ⊥
no_chain fabric frames chain = cc

mode_is_judged : (name : List ℕ) (fabric : PlainFabric) → IsJudged (λ a b. a ≡ b) (HasFrames fabric) (MeetsLast (RefusesChain name fabric))
mode_is_judged name fabric = record {
  once = λ first second x y. refl;
  refused_once = λ first second x y. refuses_is x.1 ∙ x.2.is ∙ sym y.2.is ∙ sym (refuses_is y.1);
  apart = λ value fault frames x. no_chain fabric frames x.2.chain;
}

-- ---- what stands in the way

one_wire_text : (fabric : PlainFabric) (wire : Wire) (a b : List ℕ) → IsWireText fabric wire a → IsWireText fabric wire b → a ≡ b
one_wire_text fabric wire a b first second =
    let index : wire_index fabric first.x first.y first.number ≡ wire_index fabric second.x second.y second.number = ap (λ (w : Wire). w.0) (sym first.wire_is ∙ second.wire_is) in
    let same = one_place fabric first.x first.y first.number second.x second.y second.number first.inside second.inside index in
    first.text_is
    ∙ (λ j. full_name (same.0 j) (same.1 j) (name_at fabric (same.0 j) (same.1 j) (same.2 j)))
    ∙ sym second.text_is

one_use_text : (fabric : PlainFabric) (found : Use) (a b : List ℕ) → IsUseText fabric found a → IsUseText fabric found b → a ≡ b
one_use_text fabric (uses.Cell site) a b first second = first ∙ sym second
one_use_text fabric (uses.Edge wire) a b first second = one_wire_text fabric wire a b first second

-- ---- what is refused behind all files

module _ (fabric : PlainFabric) (implementation : PlainImplementation) (features : List Feature) (first last : ℕ) where
  refused_once : (a b : Fault) → RefusesPartial fabric implementation features first last a → RefusesPartial fabric implementation features first last b → a ≡ b
  refused_once a b (too_far far) (too_far also) = refl
  refused_once a b (too_far far) (in_use within here text) = absurd (omega (arith, far, within))
  refused_once a b (too_far far) (wrong within unused breaks) = absurd (omega (arith, far, within))
  refused_once a b (in_use within here text) (too_far far) = absurd (omega (arith, far, within))
  refused_once a b (in_use {found = found} {item = item} within here text) (in_use {found = other} {item = again} _ used named) =
      let same : found ≡ other = one_use fabric implementation (lies_within first last) found other here used in
      ap (λ (name : List ℕ). faults.Illegal 13 name) (one_use_text fabric other item again (subst (λ (u : Use). IsUseText fabric u item) same text) named)
  refused_once a b (in_use {found = found} within here text) (wrong _ unused breaks) = absurd (unused_has_no_use fabric implementation (lies_within first last) found unused here)
  refused_once a b (wrong within unused breaks) (too_far far) = absurd (omega (arith, far, within))
  refused_once a b (wrong within unused breaks) (in_use {found = found} _ here text) = absurd (unused_has_no_use fabric implementation (lies_within first last) found unused here)
  refused_once a b (wrong within unused breaks) (wrong _ _ other) = wrong_once fabric features a b (illegal breaks) (illegal other)

  -- the columns are there and free, and no feature is wrong
  abbrev IsTaken : Unit {0} → Type 0
  IsTaken _ = (last < fabric.columns) × AreUnused fabric implementation (lies_within first last) × AreRight (IsRightFeature fabric) features

  taken_apart : (fault : Fault) → IsTaken tt → RefusesPartial fabric implementation features first last fault → ⊥
  taken_apart fault taken (too_far far) = omega (arith, far, taken.0)
  taken_apart fault taken (in_use {found = found} within here text) = unused_has_no_use fabric implementation (lies_within first last) found taken.1 here
  taken_apart fault taken (wrong within unused breaks) = wrong_apart fabric features fault taken.2 (illegal breaks)

  content_is_judged : IsJudged (λ a b. a ≡ b) IsTaken (MeetsLast (RefusesPartial fabric implementation features first last))
  content_is_judged = record {
    once = λ one other x y. refl;
    refused_once = λ one other x y. refuses_is x.1 ∙ refused_once x.0 y.0 x.2 y.2 ∙ sym (refuses_is y.1);
    apart = λ value fault taken x. taken_apart x.0 taken x.2;
  }

-- ---- the command

module _ (files : Map) (names : PartialFiles) where
  -- features are read, and all that is read is taken
  abbrev IsFilled : PlainFabric → PlainImplementation → List Feature × Unit {0} → Type 0
  IsFilled fabric implementation value = ReadsFeatures files names.fasm value.0 × IsTaken fabric implementation value.0 names.first names.last value.1

  filled_is_judged : (fabric : PlainFabric) (implementation : PlainImplementation) → IsJudged (λ a b. a ≡ b) (IsFilled fabric implementation) (MeetsContent files names fabric implementation)
  filled_is_judged fabric implementation =
      turn_is_judged (λ a b. a ≡ b) (ReadsFeatures files names.fasm) (MeetsFeatures files names.fasm)
      (λ features. MeetsLast (RefusesPartial fabric implementation features names.first names.last)) (fasm_is_judged files names.fasm)
      (λ features. IsTaken fabric implementation features names.first names.last) (λ features read. content_is_judged fabric implementation features names.first names.last)

  -- an implementation is read before
  abbrev IsRunning : PlainFabric → PlainImplementation × (List Feature × Unit {0}) → Type 0
  IsRunning fabric value = ReadsImplementation files names.implementation fabric value.0 × IsFilled fabric value.0 value.1

  running_is_judged : (fabric : PlainFabric) → SpellsFabric files names.fabric fabric → IsJudged (λ a b. a ≡ b) (IsRunning fabric) (MeetsRunning files names fabric)
  running_is_judged fabric spelled =
      turn_is_judged (λ a b. a ≡ b) (ReadsImplementation files names.implementation fabric) (MeetsImplementation files names.implementation fabric)
      (λ it. MeetsContent files names fabric it) (implementation_is_judged files names.implementation fabric) (IsFilled fabric) (λ it read. filled_is_judged fabric it)

  -- the fabric has frames
  abbrev IsInFrames : PlainFabric → Unit {0} × (PlainImplementation × (List Feature × Unit {0})) → Type 0
  IsInFrames fabric value = HasFrames fabric value.0 × IsRunning fabric value.1

  frames_are_judged : (fabric : PlainFabric) → SpellsFabric files names.fabric fabric
      → IsJudged (λ a b. a ≡ b) (IsInFrames fabric) (MeetsBehind (HasFrames fabric) (MeetsLast (RefusesChain names.fabric fabric)) (λ _. MeetsRunning files names fabric))
  frames_are_judged fabric spelled =
      turn_is_judged (λ a b. a ≡ b) (HasFrames fabric) (MeetsLast (RefusesChain names.fabric fabric)) (λ _. MeetsRunning files names fabric)
      (mode_is_judged names.fabric fabric) (λ _. IsRunning fabric) (λ _ frames. running_is_judged fabric spelled)

  partial_is_judged : IsJudged (λ a b. a ≡ b)
      (λ (value : PlainFabric × (Unit {0} × (PlainImplementation × (List Feature × Unit {0})))). SpellsFabric files names.fabric value.0 × IsInFrames value.0 value.1)
      (MeetsPartial files names)
  partial_is_judged =
      turn_is_judged (λ a b. a ≡ b) (SpellsFabric files names.fabric) (MeetsFabric files names.fabric)
      (λ fabric. MeetsBehind (HasFrames fabric) (MeetsLast (RefusesChain names.fabric fabric)) (λ _. MeetsRunning files names fabric))
      (fabric_is_judged files names.fabric) IsInFrames frames_are_judged

  -- what the command comes upon is one refusal
  pub one_refusal : (a b : Fault) → MeetsPartial files names (refuses a) → MeetsPartial files names (refuses b) → a ≡ b
  one_refusal a b = partial_is_judged.refused_once a b

  -- what is ready is not refused
  pub not_both : (fault : Fault) → IsReadyToExchange files names → MeetsPartial files names (refuses fault) → ⊥
  not_both fault ready =
      partial_is_judged.apart (ready.fabric, (tt, (ready.implementation, (ready.features, tt)))) fault
      (ready.spelled, (ready.frames, (ready.implemented, (ready.read, (ready.within, ready.unused, ready.right)))))
