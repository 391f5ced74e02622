use Rattle.std.proofs.Common.{sym, ◌∙◌, subst}
use Rattle.fab_model.specs.declared.tiles.WireRow.{WireRow}
use Rattle.fab_blocks.specs.Blocks.{IsBlock, with_row}
use Rattle.fab_blocks.proofs.Fine.{block_with_row}
use Rattle.fab_blocks.proofs.block.Block.take_wire.Goals as goal

pub push_wire-requires : goal.push_wire-requires
push_wire-requires c =
    let block = c.args.self.now in
    let cells = c.args.cells.now in
    subst (λ (row : WireRow). IsBlock (with_row block row)) (sym c.in_ok-wire.ensures)
    (block_with_row block cells (subst IsBlock c.self.view_is c.self.invariant.is_block) (sym c.in_ok-problem.ensures ∙ c.in_default.is))
