-- Why a design is not mapped onto a fabric.
use Rattle.std.specs.Prelude.{◌≡◌, ℕ, List}
use Rattle.fab_base.specs.declared.fault.Fault.{Fault}
use Rattle.fab_base.specs.declared.fault.Fault.TheVariants as faults
use Rattle.fab_model.specs.Grid.{PlainFabric}
use Rattle.fab_fabric.specs.declared.wire.Wire.{Wire}
use Rattle.fab_netlist.specs.declared.net_id.NetId.{NetId}
use Rattle.fab_netlist.specs.Packed.{PlainPacked}
use Rattle.fab_implementation.specs.Plain.{Pad, PlainTree, PlainImplementation}
use Rattle.fab_legal.specs.Broken.{net_text, IsWireText}
use Rattle.fab_legal.specs.Sinks.{packed_net}
use Rattle.fab_ways_laws.specs.Placing.{IsGoodPlacement}
use Rattle.fab_ways_laws.specs.Trees.{trees_of, with_trees}
use Rattle.fab_route.specs.Answers.{IsCutOff, IsOverused}
use Rattle.fab_impl.specs.Spelled.{implementation_text}

-- the name of a net of the design
abbrev pub name_of : PlainPacked → NetId → List ℕ
name_of packed net = net_text (packed_net packed net)

-- On a good placement a net is cut off from a sink. The report names both, and has the text of the placement, in which no net is routed.
pub record IsNoPath (fabric : PlainFabric) (packed : PlainPacked) (fixed : List Pad) (net_name wire_name text : List ℕ) : Type 0 where
  pub placement : PlainImplementation
  pub good : IsGoodPlacement fabric packed fixed placement
  pub net : NetId
  pub sink : Wire
  pub cut_off : IsCutOff fabric packed placement net sink
  pub net_is : net_name ≡ name_of packed net
  pub sink_is : IsWireText fabric sink wire_name
  pub text_is : text ≡ implementation_text fabric placement

-- On a good placement a run of all allowed rounds leaves a wire in the trees of two nets. The report names the wire and both nets, and has the text of
-- the placement with the last trees of the run.
pub record IsLeftShared (fabric : PlainFabric) (packed : PlainPacked) (fixed : List Pad) (allowed : ℕ) (wire_name first_name second_name text : List ℕ) : Type 0 where
  pub placement : PlainImplementation
  pub good : IsGoodPlacement fabric packed fixed placement
  pub wire : Wire
  pub first : NetId
  pub second : NetId
  pub told : List (List PlainTree)
  pub overused : IsOverused fabric packed placement allowed wire first second told
  pub wire_is : IsWireText fabric wire wire_name
  pub first_is : first_name ≡ name_of packed first
  pub second_is : second_name ≡ name_of packed second
  pub text_is : text ≡ implementation_text fabric (with_trees placement (trees_of packed placement overused.last))

-- Why a design that fits is not mapped in so many rounds. Memory may be refused at any time. No other fault comes.
abbrev pub HasMapCause : PlainFabric → PlainPacked → (fixed : List Pad) → (allowed : ℕ) → Fault → Type 0
HasMapCause fabric packed fixed allowed faults.Memory = Unit {0}
HasMapCause fabric packed fixed allowed (faults.NoPath net wire text) = IsNoPath fabric packed fixed net wire text
HasMapCause fabric packed fixed allowed (faults.Overused wire first second text) = IsLeftShared fabric packed fixed allowed wire first second text
HasMapCause fabric packed fixed allowed fault = ⊥
