-- What is kept of the switch matrices of a fabric.
use Rattle.std.specs.Prelude.{◌≡◌, ℕ, List, slice_get, nat_eq, Some}
use Rattle.fab_select.specs.Selection.{in_order}
use Rattle.fab_model.specs.Tiles.{PlainTile, numbered_pairs}
use Rattle.fab_model.specs.Drive.{matrix_inputs}
use Rattle.fab_bits.specs.Keys.{group_at}
use Rattle.fab_features.specs.declared.matrices.Matrix.{Matrix}

-- the inputs of each output of a tile type, and the outputs in the order of their first pairs
pub record IsMatrixOf (tile : PlainTile) (matrix : Matrix) : Type 0 where
  pub inputs : (output : ℕ) → group_at matrix.inputs.items output ≡ matrix_inputs tile output
  pub outputs : matrix.outputs.keys ≡ in_order nat_eq (numbered_pairs tile)

-- those of all types
abbrev pub AreMatricesOf : List PlainTile → List Matrix → Type 0
AreMatricesOf types matrices = (number : ℕ) (tile : PlainTile) → slice_get types number ≡ Some tile → (matrix : Matrix) × (slice_get matrices number ≡ Some matrix) × IsMatrixOf tile matrix
