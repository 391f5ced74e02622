use Rattle.std.proofs.Common.{get_or}
use Rattle.fab_implementation.specs.fab_model.specs.Tiles.{pair_numbers}
use Rattle.fab_legal.specs.inner.Tables.{same_pair}
use Rattle.fab_legal.proofs.Lists.{at_default}
use Rattle.fab_legal.proofs.Sets.{keys_more}
use Rattle.fab_legal.proofs.steps.pair_set.Goals as goal

pub loop-pair-preserved : goal.loop-pair-preserved
loop-pair-preserved c =
    keys_more same_pair pair_numbers c.args.pairs.now c.loop-pair.pair-index (get_or c.args.pairs.now c.loop-pair.pair-index (record { output = 0; input = 0 })) c.loop-pair.set.keys c.insert.new.self.keys
    (at_default c.args.pairs.now c.loop-pair.pair-index (record { output = 0; input = 0 }) c.loop-pair-test.true) c.loop-pair.invariant c.in_ok-insert.ensures.keys
