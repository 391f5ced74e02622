-- Pads on which no port stands.
use Rattle.std.specs.Prelude.{◌≡◌, ℕ, List, ◌++◌, Contains, Some}
use Rattle.fab_kinds.specs.declared.kind.Kind.TheVariants as kinds
use Rattle.fab_kinds.specs.Pins.{pad_t}
use Rattle.fab_legal.specs.fab_model.specs.Grid.{PlainFabric}
use Rattle.fab_legal.specs.fab_fabric.specs.Fabric.{AreTiles}
use Rattle.fab_legal.specs.fab_fabric.specs.declared.wire.Site.{Site}
use Rattle.fab_legal.specs.fab_netlist.specs.Packed.{PlainPacked}
use Rattle.fab_legal.specs.fab_implementation.specs.Plain.{Edge, Pad, PlainTree, PlainImplementation}
use Rattle.fab_legal.specs.fab_implementation.specs.OnFabric.{kind_at}
use Rattle.fab_legal.specs.WellMade.{IsWellMadePacked}
use Rattle.fab_legal.specs.Steps.{pin_wire}
use Rattle.fab_ways_laws.specs.Mapping.{IsMapping}

-- a pad of the fabric that no line gives to a port
pub record IsIdlePad (fabric : PlainFabric) (implementation : PlainImplementation) (site : Site) : Type 0 where
  pub is_pad : kind_at fabric site ≡ Some kinds.Io
  pub no_port : (port : List ℕ) → Contains (implementation.ins ++ implementation.outs) (port, site) → ⊥

-- No edge of a mapping enters T of such a pad.
abbrev pub MappingsLeaveIdlePads : Type 0
MappingsLeaveIdlePads =
    (fabric : PlainFabric) (packed : PlainPacked) (fixed : List Pad) (allowed : ℕ) (implementation : PlainImplementation) → AreTiles fabric → IsWellMadePacked packed →
    IsMapping fabric packed fixed allowed implementation → (site : Site) → IsIdlePad fabric implementation site →
    (tree : PlainTree) (edge : Edge) → Contains implementation.trees tree → Contains tree.edges edge → edge.1 ≡ pin_wire fabric site pad_t → ⊥
