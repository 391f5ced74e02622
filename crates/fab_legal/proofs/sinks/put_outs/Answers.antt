use Rattle.fab_legal.specs.inner.Kept.{site_at}
use Rattle.fab_legal.proofs.Lists.{at_read}
use Rattle.fab_legal.proofs.SinkLists.{outs_step}
use Rattle.fab_legal.proofs.sinks.put_outs.Goals as goal

pub loop-number-preserved : goal.loop-number-preserved
loop-number-preserved c =
    outs_step c.args.fabric.now (site_at c.args.sites.now) c.args.outputs.now c.loop-number.number c.index-outputs-number.result c.args.sinks.now.items c.loop-number.sinks.items c.put_sink.new.sinks.items
    (c.put_sink-in-loop-number).new.sinks.items (at_read c.args.outputs.now c.loop-number.number c.index-outputs-number.result c.loop-number-test.true c.index-outputs-number.is) c.loop-number.invariant
    c.in_ok-put_sink.ensures c.in_ok-put_sink-2.ensures
