use Rattle.fab_route.proofs.Testing.{line_none, line_all}
use Rattle.fab_route.proofs.tested.is_line_tested.Goals as goal

pub loop-here-init : goal.loop-here-init
loop-here-init c = line_none c.args.entries.now c.args.rows c.args.from_line c.args.to_line c.args.down c.overlap-low.result.0 c.overlap-low.result.1 c.overlap-low.ensures.all

pub returns : goal.returns
returns c =
    line_all c.args.entries.now c.args.rows c.args.from_line c.args.to_line c.args.down c.overlap-low.result.0 c.overlap-low.result.1 c.loop-here.here c.overlap-low.ensures.all c.loop-here-test.false c.loop-here.invariant
