use Rattle.std.proofs.Common.{false, ◌∙◌, sym}
use Rattle.fab_netlist.proofs.Turns.{placed_from}
use Rattle.fab_netlist.proofs.cycle.place_held.Goals as goal

pub loop-place-preserved : goal.loop-place-preserved
loop-place-preserved c = sym (placed_from (λ latch. latch.output) c.args.latches.now c.args.held.now c.loop-place.values c.loop-place.place _ false c.loop-place-test.true c.requires.fits) ∙ c.loop-place.invariant
