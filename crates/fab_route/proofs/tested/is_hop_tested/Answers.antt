use Rattle.std.proofs.Common.{◌+◌, ◌-◌, ◌*◌, refl}
use Rattle.fab_route.proofs.Testing.{lines_none, lines_more, lines_all}
use Rattle.fab_route.proofs.tested.is_hop_tested.Goals as goal

pub loop-across-init : goal.loop-across-init
loop-across-init c = lines_none c.args.entries.now c.args.window c.args.start c.args.to c.args.hop c.overlap-low.result.0 c.overlap-low.result.1 c.overlap-low.ensures.all

pub loop-across-preserved : goal.loop-across-preserved
loop-across-preserved c =
    lines_more c.args.entries.now c.args.window c.args.start c.args.to c.args.hop c.loop-across.across (c.args.start + c.args.hop.from * 4096 + c.loop-across.across * 64)
    (c.args.start + c.args.to * 4096 + (c.loop-across.across + 32 - c.args.hop.across) * 64) c.loop-across.invariant (c.overlap-low.ensures.bounds c.loop-across.across c.loop-across.auto.across c.loop-across-test.true).1 refl refl
    c.if-not-is_line_tested.ensures

pub returns : goal.returns
returns c =
    lines_all c.args.entries.now c.args.window c.args.start c.args.to c.args.hop c.overlap-low.result.0 c.overlap-low.result.1 c.loop-across.across c.overlap-low.ensures.all c.loop-across-test.false c.loop-across.invariant
