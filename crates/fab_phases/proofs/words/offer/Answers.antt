use Rattle.std.proofs.Common.{arith}
use Rattle.fab_network.specs.Passes.{kept_tern}
use Rattle.fab_phases.proofs.Offering.{offered_all, offered_more, offered_none}
use Rattle.fab_phases.proofs.words.offer.Goals as goal

pub loop-bit-init : goal.loop-bit-init
loop-bit-init c = offered_none c.args.first c.args.word c.args.given.now

pub loop-bit-preserved : goal.loop-bit-preserved
loop-bit-preserved c =
    offered_more c.args.first c.args.word c.loop-bit.bit c.loop-bit.rest (kept_tern c.args.given.now) c.loop-bit.given c.known.result c.loop-bit-test.true (omega arith)
    c.loop-bit.invariant c.known.ensures

pub returns : goal.returns
returns c =
    offered_all c.args.first c.args.word c.loop-bit.bit c.loop-bit.rest (kept_tern c.args.given.now) c.loop-bit.given (omega arith) c.loop-bit.invariant
