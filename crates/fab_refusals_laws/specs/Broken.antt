-- The first broken rule of an implementation is one, and so is its first item.
use Rattle.std.specs.Prelude.{◌≡◌, ℕ, List}
use Rattle.fab_model.specs.Grid.{PlainFabric}
use Rattle.fab_netlist.specs.Packed.{PlainPacked}
use Rattle.fab_implementation.specs.Plain.{Pad, PlainImplementation}
use Rattle.fab_legal.specs.Broken.{IsFirstBroken}

abbrev pub BrokenOnce : Type 0
BrokenOnce =
    (fabric : PlainFabric) (packed : PlainPacked) (fixed : List Pad) (implementation : PlainImplementation) (rule other : ℕ) (item text : List ℕ) →
    IsFirstBroken fabric packed fixed implementation rule item → IsFirstBroken fabric packed fixed implementation other text → (rule ≡ other) × (item ≡ text)
