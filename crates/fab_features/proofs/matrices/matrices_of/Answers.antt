use Rattle.std.proofs.Common.{subst, List, arith}
use Rattle.fab_model.specs.Tiles.{PlainTile}
use Rattle.fab_features.specs.inner.Matrices.{AreMatricesOf}
use Rattle.fab_features.proofs.Kept.{have_more, have_all}
use Rattle.fab_features.proofs.matrices.matrices_of.Goals as goal

pub loop-tile-preserved : goal.loop-tile-preserved
loop-tile-preserved c =
    let l = c.loop-tile in
    record {
      as_many = omega (arith, c.in_ok-push.ensures.len, l.invariant.as_many);
      have =
          have_more c.types-types.result.now l.matrices.items c.push.new.self.items l.tile-index c.tile-item.result c.in_ok-of.field-0 l.invariant.as_many c.loop-tile-test.true c.tile-item.is
          c.in_ok-push.ensures.items c.in_ok-of.ensures l.invariant.have;
    }

pub returns-clause-matrices : goal.returns-clause-matrices
returns-clause-matrices c =
    subst (λ (types : List PlainTile). AreMatricesOf types c.loop-tile.matrices.items) c.types-types.ensures.types
    (have_all c.types-types.result.now c.loop-tile.matrices.items c.loop-tile.tile-index c.loop-tile-test.false c.loop-tile.invariant.have)
