use Rattle.std.proofs.Common.{sym, ◌∙◌, arith}
use Rattle.fab_route.proofs.Testing.{tested_more}
use Rattle.fab_route.proofs.Hopping.{group_read}
use Rattle.fab_route.proofs.tested.is_tested.Goals as goal

pub loop-to-preserved : goal.loop-to-preserved
loop-to-preserved c =
    tested_more c.args.entries.now c.args.window c.args.hops.now.items c.args.start c.loop-to.to c.deref.result.now
    (c.deref.ensures.value ∙ sym (group_read c.args.hops.now.items c.loop-to.to c.index.result.now (omega (arith, c.loop-to-test.true, c.len-to-end.ensures)) c.index.ensures)) c.if-not-are_tested.ensures c.loop-to.invariant
