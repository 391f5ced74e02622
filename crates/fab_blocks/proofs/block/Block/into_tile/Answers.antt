use Rattle.std.proofs.Common.{◌≤◌, List, length, sym, subst}
use Rattle.fab_model.specs.declared.tiles.WireRow.{WireRow}
use Rattle.fab_model.specs.Tiles.{bare_tile, IsTile}
use Rattle.fab_blocks.specs.Blocks.{PlainBlock, names}
use Rattle.fab_blocks.proofs.Bridge.{is_tile}
use Rattle.fab_blocks.proofs.block.Block.into_tile.Goals as goal

pub new-requires : goal.new-requires
new-requires c =
    let block : PlainBlock = record { name = c.self.inside.name; rows = c.self.inside.rows.items; bels = c.self.inside.bels.items; matrix = c.self.inside.matrix } in
    subst (λ (rows : List WireRow). IsTile (bare_tile c.self.inside.name rows c.self.inside.bels.items)) (sym c.in_ok-rows.ensures)
    (is_tile block c.self.invariant.is_block (subst (λ (b : PlainBlock). length (names b) ≤ 4096) (sym c.self.view_is) c.requires))
