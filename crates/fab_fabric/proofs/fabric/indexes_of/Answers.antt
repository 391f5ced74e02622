use Rattle.std.proofs.Common.{arith}
use Rattle.fab_fabric.proofs.Kept.{have_more, have_all, all_tiles}
use Rattle.fab_fabric.proofs.fabric.indexes_of.Goals as goal

pub loop-tile-preserved : goal.loop-tile-preserved
loop-tile-preserved c =
    let l = c.loop-tile in
    record {
      as_many = omega (arith, c.in_ok-push.ensures.len, l.invariant.as_many);
      have =
          have_more c.args.types.now l.indexes.items c.push.new.self.items l.tile-index c.tile-item.result c.in_ok-of.field-0 l.invariant.as_many c.loop-tile-test.true c.tile-item.is
          c.in_ok-push.ensures.items c.in_ok-of.ensures l.invariant.have;
    }

pub returns-clause-indexes : goal.returns-clause-indexes
returns-clause-indexes c = have_all c.args.types.now c.loop-tile.indexes.items c.loop-tile.tile-index c.loop-tile-test.false c.loop-tile.invariant.have

pub returns-clause-are_tiles : goal.returns-clause-are_tiles
returns-clause-are_tiles c =
    all_tiles c.args.types.now c.loop-tile.indexes.items (have_all c.args.types.now c.loop-tile.indexes.items c.loop-tile.tile-index c.loop-tile-test.false c.loop-tile.invariant.have)
