use Rattle.std.proofs.Common.{arith}
use Rattle.fab_ternary.specs.Terns.{plain_tern}
use Rattle.fab_network.specs.Passes.{kept_tern}
use Rattle.fab_sim.proofs.Building.{filled_all, filled_more, filled_none}
use Rattle.fab_sim.proofs.starting.fill.Goals as goal

pub loop-bit-init : goal.loop-bit-init
loop-bit-init c = filled_none c.args.first c.args.width (plain_tern c.args.value) c.args.given.now

pub loop-bit-preserved : goal.loop-bit-preserved
loop-bit-preserved c =
    filled_more c.args.first c.args.width c.loop-bit.bit c.args.value (kept_tern c.args.given.now) c.loop-bit.given c.loop-bit-test.true (omega arith) c.loop-bit.invariant

pub returns : goal.returns
returns c =
    filled_all c.args.first c.args.width c.loop-bit.bit (plain_tern c.args.value) (kept_tern c.args.given.now) c.loop-bit.given (omega arith) c.loop-bit.invariant
