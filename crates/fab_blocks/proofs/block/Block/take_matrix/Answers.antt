use Rattle.fab_blocks.specs.Blocks.{PlainBlock}
use Rattle.fab_blocks.proofs.Fine.{kept_matrix}
use Rattle.fab_blocks.proofs.block.Block.take_matrix.Goals as goal

pub invariant_of-self : goal.invariant_of-self
invariant_of-self c =
    let block : PlainBlock = record { name = c.self.inside.name; rows = c.self.inside.rows.items; bels = c.self.inside.bels.items; matrix = c.self.inside.matrix } in
    kept_matrix block c.in-Some.found c.self.inside.names c.self.inside.is_whole c.self.inside.count c.self.invariant
