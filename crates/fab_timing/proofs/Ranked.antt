-- The steps of a design are ranked.
use Rattle.std.proofs.Common.{◌≡◌, ℕ, List, sym, subst}
use Rattle.fab_model.specs.Grid.{PlainFabric}
use Rattle.fab_fabric.specs.Fabric.{AreTiles}
use Rattle.fab_fabric.specs.Wires.{numbered_wire}
use Rattle.fab_fabric.specs.declared.wire.Wire.{Wire}
use Rattle.fab_netlist.specs.Plain.{PlainNetlist}
use Rattle.fab_netlist.specs.WellMade.{IsWellMade}
use Rattle.fab_netlist.specs.Cycles.{HasNoCycle}
use Rattle.fab_netlist.specs.Packed.{PlainPacked}
use Rattle.fab_netlist.specs.Packing.{packed}
use Rattle.fab_implementation.specs.Plain.{Pad, PlainImplementation}
use Rattle.fab_legal.specs.Legal.{IsLegal}
use Rattle.fab_legal.specs.WellMade.{IsWellMadePacked}
use Rattle.fab_legal.proofs.PackedMade.{packed_made}
use Rattle.fab_timing.specs.inner.Arrivals.{PlainSteps, IsRanked, IsGrounded}
use Rattle.fab_timing.specs.inner.Arrivals as arrivals
use Rattle.fab_timing.specs.inner.Design.{StepsAre}
use Rattle.fab_timing.proofs.Grounds.{Grounded, grounded, all_grounded}
use Rattle.fab_timing.proofs.Ranks.{grounded_are_ranked}

module _ (fabric : PlainFabric) (p : PlainPacked) (implementation : PlainImplementation) (steps : PlainSteps) (are : StepsAre fabric p implementation steps) where
  node_grounded : (wire : Wire) → Grounded fabric p implementation wire → IsGrounded steps wire.0
  node_grounded wire (grounded each) =
      arrivals.grounded (λ step among. node_grounded (numbered_wire step.0) (each (numbered_wire step.0) step.1 ((are.before (numbered_wire step.0) wire step.1).0 among)))

design_ranked : (fabric : PlainFabric) (netlist : PlainNetlist) (fixed_pads : List Pad) (implementation : PlainImplementation) (steps : PlainSteps) → AreTiles fabric → IsWellMade netlist → HasNoCycle netlist →
    IsLegal fabric (packed netlist) fixed_pads implementation → StepsAre fabric (packed netlist) implementation steps → (rank : ℕ → ℕ) × IsRanked steps rank
design_ranked fabric netlist fixed_pads implementation steps tiles made acyclic legal are =
    grounded_are_ranked steps
    (λ node. node_grounded fabric (packed netlist) implementation steps are (numbered_wire node) (all_grounded fabric netlist fixed_pads implementation tiles made acyclic legal (numbered_wire node)))

-- the same of a packed netlist that is given
pub given_ranked : (fabric : PlainFabric) (p : PlainPacked) (implementation : PlainImplementation) (steps : PlainSteps) → AreTiles fabric →
    (netlist : PlainNetlist) × IsWellMade netlist × HasNoCycle netlist × (p ≡ packed netlist) → (fixed_pads : List Pad) × IsLegal fabric p fixed_pads implementation →
    StepsAre fabric p implementation steps → (rank : ℕ → ℕ) × IsRanked steps rank
given_ranked fabric p implementation steps tiles packs legal are =
    design_ranked fabric packs.0 legal.0 implementation steps tiles packs.1 packs.2 (subst (λ (q : PlainPacked). IsLegal fabric q legal.0 implementation) packs.3 legal.1)
    (subst (λ (q : PlainPacked). StepsAre fabric q implementation steps) packs.3 are)

pub given_made : (p : PlainPacked) → (netlist : PlainNetlist) × IsWellMade netlist × HasNoCycle netlist × (p ≡ packed netlist) → IsWellMadePacked p
given_made p packs = subst IsWellMadePacked (sym packs.3) (packed_made packs.0 packs.1)
