-- In which mode the text of a fabric is.
use Rattle.fab_gen_tile.specs.fab_model.specs.declared.mode.Mode.{Mode}
use Rattle.fab_gen_tile.specs.fab_model.specs.Grid.{PlainFabric}

-- It is that of the fabric. Proofs do not unfold it, so what they say of a text holds of each mode.
unfoldable pub text_mode : PlainFabric → Mode
text_mode fabric = fabric.mode
