-- An implementation is legal, or a rule is the first that it breaks.
use Rattle.std.proofs.Common.{List, inl, inr}
use Rattle.fab_model.specs.Grid.{PlainFabric}
use Rattle.fab_fabric.specs.Fabric.{AreTiles}
use Rattle.fab_netlist.specs.Packed.{PlainPacked}
use Rattle.fab_implementation.specs.Plain.{Pad, PlainImplementation}
use Rattle.fab_implementation.specs.OnFabric.{IsOnFabric}
use Rattle.fab_legal.specs.WellMade.{IsWellMadePacked}
use Rattle.fab_legal.specs.Lines.{CellsHaveSites, SitesDiffer, ConstraintsHold}
use Rattle.fab_legal.specs.Legal.{ArePlaced, EdgesAreSteps, WiresAreReached, NetsBeginRight, SinksStand}
use Rattle.fab_legal.specs.Broken.{rule_1, rule_2, rule_3, rule_4, rule_5, rule_6, rule_7, rule_8, rule_9}
use Rattle.fab_ways_laws.specs.Laws.{EndsAreSteps}
use Rattle.fab_ready_laws.proofs.NetRules.{steps_judged, entries_judged, nets_judged, sinks_judged, shared_judged}
use Rattle.fab_ready_laws.proofs.Placements.{cells_judged, sites_judged, ports_judged, constraints_judged}
use Rattle.fab_ready_laws.specs.Implementations.{IsLegalOrBroken, ImplementationsAreJudged}

module _ (steps_are : EndsAreSteps) (fabric : PlainFabric) (packed : PlainPacked) (fixed : List Pad) (i : PlainImplementation) (tiles : AreTiles fabric) (made : IsWellMadePacked packed) (on : IsOnFabric fabric i) where
  abbrev IsJudged : Type 0
  IsJudged = IsLegalOrBroken fabric packed fixed i

  module _ (placed : ArePlaced fabric packed i) (hold : ConstraintsHold fixed i) where
    by_sharing : EdgesAreSteps fabric i → WiresAreReached i → NetsBeginRight fabric packed i → SinksStand fabric packed i → IsJudged
    by_sharing steps reached nets stand = elim (shared_judged fabric packed i on) [
      | inr found ↦ inr (9, found.0, rule_9 placed hold steps reached nets stand found.1)
      | inl apart ↦ inl (record { placed = placed; constraints = hold; steps = steps; reached = reached; nets = nets; sinks = stand; apart = apart })
    ]

    by_sinks : EdgesAreSteps fabric i → WiresAreReached i → NetsBeginRight fabric packed i → IsJudged
    by_sinks steps reached nets = elim (sinks_judged fabric packed i on made placed.cells placed.ports) [
      | inr found ↦ inr (8, found.0, rule_8 placed hold steps reached nets found.1)
      | inl stand ↦ by_sharing steps reached nets stand
    ]

    by_nets : EdgesAreSteps fabric i → WiresAreReached i → IsJudged
    by_nets steps reached = elim (nets_judged fabric packed i on) [
      | inr found ↦ inr (7, found.0, rule_7 placed hold steps reached found.1)
      | inl nets ↦ by_sinks steps reached nets
    ]

    by_entries : EdgesAreSteps fabric i → IsJudged
    by_entries steps = elim (entries_judged fabric packed i on) [
      | inr found ↦ inr (6, found.0, rule_6 placed hold steps found.1)
      | inl reached ↦ by_nets steps reached
    ]

    by_steps : IsJudged
    by_steps = elim (steps_judged fabric packed i on steps_are tiles) [
      | inr found ↦ inr (5, found.0, rule_5 placed hold found.1)
      | inl steps ↦ by_entries steps
    ]

  by_constraints : ArePlaced fabric packed i → IsJudged
  by_constraints placed = elim (constraints_judged fabric packed i fixed) [
    | inr found ↦ inr (4, found.0, rule_4 placed found.1)
    | inl hold ↦ by_steps placed hold
  ]

  by_ports : CellsHaveSites fabric packed i → SitesDiffer i → IsJudged
  by_ports cells sites = elim (ports_judged fabric packed i) [
    | inr found ↦ inr (3, found.0, rule_3 cells sites found.1)
    | inl ports ↦ by_constraints (record { cells = cells; sites = sites; ports = ports })
  ]

  by_sites : CellsHaveSites fabric packed i → IsJudged
  by_sites cells = elim (sites_judged fabric packed i) [
    | inr found ↦ inr (2, found.0, rule_2 cells found.1)
    | inl sites ↦ by_ports cells sites
  ]

  implementation_judged : IsJudged
  implementation_judged = elim (cells_judged fabric packed i) [
    | inr found ↦ inr (1, found.0, rule_1 found.1)
    | inl cells ↦ by_sites cells
  ]

pub implementations_are_judged : EndsAreSteps → ImplementationsAreJudged
implementations_are_judged steps_are fabric packed fixed i tiles made on = implementation_judged steps_are fabric packed fixed i tiles made on
