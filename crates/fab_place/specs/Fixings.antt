-- What a design and its constraints have to be for it to be placed.
use Rattle.std.specs.Prelude.{◌≡◌, ◌≢◌, ◌+◌, ◌≤◌, List, All, AllPairs, Contains, length, Some}
use Rattle.fab_kinds.specs.declared.kind.Kind.TheVariants as kinds
use Rattle.fab_model.specs.Grid.{PlainFabric}
use Rattle.fab_netlist.specs.Packed.{PlainPacked}
use Rattle.fab_implementation.specs.Plain.{Pad}
use Rattle.fab_implementation.specs.OnFabric.{kind_at}
use Rattle.fab_ways_laws.specs.fab_legal_WellMade.{ports, IsWellMadePacked}
use Rattle.fab_ways_laws.specs.fab_legal_Lines.{named, sited}
use Rattle.fab_fabric.specs.Sites.{sites_of_kind}

-- data ports on IO sites of the fabric, of which none stands twice
pub record AreFixed (fabric : PlainFabric) (packed : PlainPacked) (fixed : List Pad) : Type 0 where
  pub known : All (λ (pad : Pad). Contains (ports packed) pad.0) fixed
  pub kinds : All (λ (pad : Pad). kind_at fabric pad.1 ≡ Some kinds.Io) fixed
  pub ports_apart : AllPairs (λ first second. first ≢ second) (named fixed)
  pub sites_apart : AllPairs (λ first second. first ≢ second) (sited fixed)

-- a well-made design that has a site for each cell and each port
pub record Fits (fabric : PlainFabric) (packed : PlainPacked) : Type 0 where
  pub made : IsWellMadePacked packed
  pub cells : length packed.cells ≤ length (sites_of_kind fabric kinds.Lut4c)
  pub ports : length packed.inputs + length packed.outputs ≤ length (sites_of_kind fabric kinds.Io)
