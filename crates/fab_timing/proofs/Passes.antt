-- What one turn of a pass adds.
use Rattle.std.proofs.Common.{◌≡◌, ◌⊎◌, ℕ, length, refl, sym, ap, ◌∙◌, subst, inl, inr, Option, Some, None, is_some, true}
use Rattle.std.proofs.lemmas.Bool.{false≢true}
use Rattle.std.proofs.lemmas.List.{get_or_default}
use Rattle.fab_kinds.specs.Pins.{lut_o, lut_sr}
use Rattle.fab_model.specs.Grid.{PlainFabric}
use Rattle.fab_fabric.specs.declared.wire.Site.{Site}
use Rattle.fab_fabric.specs.declared.wire.Wire.{Wire}
use Rattle.fab_netlist.specs.Plain.{IsAt}
use Rattle.fab_netlist.specs.Packed.{PlainCell, PlainPacked}
use Rattle.fab_implementation.specs.Plain.{Edge}
use Rattle.fab_legal.specs.Steps.{pin_wire}
use Rattle.fab_timing.specs.inner.Adding.{Adds, AddedBelow}
use Rattle.fab_timing.specs.inner.Passes.{TimedPin, TimedStep, IsPin, IsLatchStart, IsLatchEnd, OfLine, IsFromPin, IsCellStep, AreUnits, IsEdgeStep}
use Rattle.fab_timing.proofs.Added.{added_as, both_added}

-- ---- edges

one_units : (fabric : PlainFabric) (from to : Wire) (a b : ℕ) → AreUnits fabric from to a → AreUnits fabric from to b → a ≡ b
one_units fabric from to a b (inl first) (inl second) = first.1 ∙ sym second.1
one_units fabric from to a b (inl first) (inr second) = absurd (second.0 first.0)
one_units fabric from to a b (inr first) (inl second) = absurd (first.0 second.0)
one_units fabric from to a b (inr first) (inr second) = first.1 ∙ sym second.1

pub edge_added : (fabric : PlainFabric) (edge : Edge) (units : ℕ) (Was IsThere : TimedStep → Type 0) → AreUnits fabric edge.0 edge.1 units →
    Adds (λ (step : TimedStep). step ≡ (edge.0, edge.1, units)) Was IsThere → Adds (IsEdgeStep fabric edge) Was IsThere
edge_added fabric edge units Was IsThere are adds =
    added_as (λ (step : TimedStep). step ≡ (edge.0, edge.1, units)) (IsEdgeStep fabric edge) Was IsThere
    (λ step. (
      (λ same.
          (ap (λ (s : TimedStep). s.0) same, ap (λ (s : TimedStep). s.1) same, subst (AreUnits fabric edge.0 edge.1) (ap (λ (s : TimedStep). s.2) (sym same)) are)),
      λ is. (let units_are : step.2 ≡ units = one_units fabric edge.0 edge.1 step.2 units is.2 are in λ j. (is.0 j, is.1 j, units_are j)),
    )) adds

-- ---- cells

pub line_added : {Y : Type 0} (packed : PlainPacked) (IsAdded : Site → PlainCell → Y → Type 0) (line : ℕ × Site) (cell : PlainCell) (Was IsThere : Y → Type 0) → IsAt packed.cells line.0 cell →
    Adds (IsAdded line.1 cell) Was IsThere → Adds (OfLine packed IsAdded line) Was IsThere
line_added {Y} packed IsAdded line cell Was IsThere at adds =
    added_as (IsAdded line.1 cell) (OfLine packed IsAdded line) Was IsThere
    (λ y. (
      (λ is. (cell, at, is)),
      λ found.
          (let same : found.0 ≡ cell = sym found.1.1 ∙ get_or_default packed.cells line.0 found.0 cell at.0 ∙ at.1 in
          subst (λ (c : PlainCell). IsAdded line.1 c y) same found.2),
    )) adds

pub cell_added : (fabric : PlainFabric) (site : Site) (cell : PlainCell) (Was IsThere : TimedStep → Type 0) → cell.latch ≡ None →
    Adds (AddedBelow (IsFromPin fabric site (pin_wire fabric site lut_o)) (length cell.inputs)) Was IsThere → Adds (IsCellStep fabric site cell) Was IsThere
cell_added fabric site cell Was IsThere none adds =
    added_as (AddedBelow (IsFromPin fabric site (pin_wire fabric site lut_o)) (length cell.inputs)) (IsCellStep fabric site cell) Was IsThere (λ step. ((λ is. (none, is)), λ is. is.1)) adds

-- ---- latches

pub some_latch : (latch : Option ℕ) → is_some latch ≡ true → (init : ℕ) × (latch ≡ Some init)
some_latch None there = absurd (false≢true there)
some_latch (Some init) there = (init, refl)

module _ (fabric : PlainFabric) (site : Site) (cell : PlainCell) (Was : TimedPin → Type 0) where
  pub start_added : (init : ℕ) (IsThere : TimedPin → Type 0) → cell.latch ≡ Some init → Adds (IsPin fabric site 3 lut_o) Was IsThere → Adds (IsLatchStart fabric site cell) Was IsThere
  start_added init IsThere some adds = added_as (IsPin fabric site 3 lut_o) (IsLatchStart fabric site cell) Was IsThere (λ at. ((λ is. (init, some, is)), λ is. is.2)) adds

  pub end_added : (init : ℕ) (IsThere After : TimedPin → Type 0) → cell.latch ≡ Some init → Adds (AddedBelow (IsPin fabric site 7) (length cell.inputs)) Was IsThere →
      Adds (IsPin fabric site 7 lut_sr) IsThere After → Adds (IsLatchEnd fabric site cell) Was After
  end_added init IsThere After some first second =
      let Pins : TimedPin → Type 0 = AddedBelow (IsPin fabric site 7) (length cell.inputs) in
      let Reset : TimedPin → Type 0 = IsPin fabric site 7 lut_sr in
      added_as (λ (at : TimedPin). Pins at ⊎ Reset at) (IsLatchEnd fabric site cell) Was After (λ at. ((λ is. (init, some, is)), λ is. is.2))
      (both_added Pins Reset Was IsThere After first second)
