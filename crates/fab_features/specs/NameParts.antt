-- What the name of a feature says, by its parts.
use Rattle.std.specs.Prelude.{◌≡◌, ◌↔◌, ℕ, true, List, All, nat_eq, slice_get, Some}
use Rattle.std.specs.List.{list_any}
use Rattle.fab_model.specs.declared.tiles.Bel.{Bel}
use Rattle.fab_model.specs.Tiles.{PlainTile}
use Rattle.fab_model.specs.Grid.{PlainFabric, tile_at}
use Rattle.fab_model.specs.Drive.{matrix_inputs}
use Rattle.fab_fabric.specs.Fabric.{IsFabric, AreTiles}
use Rattle.fab_fabric.specs.declared.wire.Site.{Site}
use Rattle.fab_use_defs.specs.fab_gen_tile_Words.{IsNamed}
use Rattle.fab_features.specs.Said.{TwoNumbers, field_of, said_of, bel_field, choice}
use Rattle.fab_features.specs.Design.{field_name, pair_name}
use Rattle.fab_features.specs.Naming.{HasPrefixes}
use Rattle.fab_features.specs.declared.said.Said.{Said}
use Rattle.fab_features.specs.declared.said.Said.TheVariants as said

-- The name of a field is a place, the letter of a BEL there, and a field of its kind, as X1Y2.A.INIT. The name of a pair is a place, and the matrix names
-- of an input and of an output that has it, as X1Y2.E1END0.LA_I0.
pub data Names (fabric : PlainFabric) : (name : List ℕ) → Said → Type 0 where
  of_field : (site : Site) (word : List ℕ) {tile : PlainTile} {found : Bel} {field : TwoNumbers}
      → tile_at fabric site.x site.y ≡ Some tile → slice_get tile.bels site.bel ≡ Some found → field_of found.kind word ≡ Some field
      → Names fabric (field_name site word) (said.OfBel (bel_field site.x site.y site.bel field.0 field.1))
  of_pair : (x y input output : ℕ) {tile : PlainTile} → tile_at fabric x y ≡ Some tile → list_any (λ other. nat_eq other input) (matrix_inputs tile output) ≡ true
      → Names fabric (pair_name fabric x y input output) (said.OfPair (choice x y output input))

-- A name is read as what its parts say, and as nothing else: the names that are printed are the names that are read.
abbrev pub NamesAreRead : Type 0
NamesAreRead =
    (fabric : PlainFabric) → IsFabric fabric → AreTiles fabric → All IsNamed fabric.types → All HasPrefixes fabric.types → (name : List ℕ) (what : Said) →
    (said_of fabric name ≡ Some what) ↔ Names fabric name what
