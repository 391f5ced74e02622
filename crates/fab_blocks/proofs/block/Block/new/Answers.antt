use Rattle.fab_blocks.proofs.Fine.{kept_new}
use Rattle.fab_blocks.proofs.block.Block.new.Goals as goal

pub invariant_of-result : goal.invariant_of-result
invariant_of-result c = kept_new c.args.name c.new.result.items c.new-2.result.items c.new-3.result c.new.ensures.items c.new-2.ensures.items c.new-3.ensures
