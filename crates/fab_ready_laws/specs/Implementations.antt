-- An implementation on a fabric is legal, or a rule is the first that it breaks.
use Rattle.std.specs.Prelude.{◌⊎◌, ℕ, List}
use Rattle.fab_model.specs.Grid.{PlainFabric}
use Rattle.fab_fabric.specs.Fabric.{AreTiles}
use Rattle.fab_netlist.specs.Packed.{PlainPacked}
use Rattle.fab_implementation.specs.Plain.{Pad, PlainImplementation}
use Rattle.fab_implementation.specs.OnFabric.{IsOnFabric}
use Rattle.fab_legal.specs.WellMade.{IsWellMadePacked}
use Rattle.fab_legal.specs.Legal.{IsLegal}
use Rattle.fab_legal.specs.Broken.{IsFirstBroken}

abbrev pub IsLegalOrBroken : PlainFabric → PlainPacked → (fixed : List Pad) → PlainImplementation → Type 0
IsLegalOrBroken fabric packed fixed implementation =
    IsLegal fabric packed fixed implementation ⊎ ((rule : ℕ) × (item : List ℕ) × IsFirstBroken fabric packed fixed implementation rule item)

-- The implementation names sites and wires of the fabric alone, as each does that a file spells. The text of a wire that is told is that of such a wire.
abbrev pub ImplementationsAreJudged : Type 0
ImplementationsAreJudged =
    (fabric : PlainFabric) (packed : PlainPacked) (fixed : List Pad) (implementation : PlainImplementation) → AreTiles fabric → IsWellMadePacked packed →
    IsOnFabric fabric implementation → IsLegalOrBroken fabric packed fixed implementation
