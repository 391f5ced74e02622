use Rattle.std.proofs.Common.{get_or, sym, ◌∙◌}
use Rattle.std.proofs.lemmas.Bool.{false≢true}
use Rattle.fab_implementation.specs.fab_fabric.specs.declared.wire.Wire.{Wire}
use Rattle.fab_implementation.specs.fab_netlist.specs.declared.net_id.NetId.{NetId}
use Rattle.fab_implementation.specs.fab_netlist.specs.declared.net_id.NetId.TheVariants as ids
use Rattle.fab_legal.specs.inner.Tables.{key_lists}
use Rattle.fab_legal.specs.inner.Standing.{SinkStands}
use Rattle.fab_legal.proofs.Lists.{at_default, right_more, wrong_here}
use Rattle.fab_legal.proofs.standing.wrong_sink.Goals as goal

pub returns-then-not-is_there : goal.returns-then-not-is_there
returns-then-not-is_there c =
    let none : NetId × Wire = (ids.Zero, record { 0 = 0 }) in
    let sinks = c.args.sinks.now in
    let n = c.loop-place.place in
    wrong_here (SinkStands c.args.placed.now c.args.numbers.now.keys (key_lists c.args.sets.now)) sinks n (get_or sinks n none) c.loop-place.invariant (at_default sinks n none c.loop-place-test.true)
    (λ stands. false≢true (sym c.if-not-is_there.true ∙ c.stands-is_there.ensures.1 stands))

pub loop-place-preserved : goal.loop-place-preserved
loop-place-preserved c =
    let none : NetId × Wire = (ids.Zero, record { 0 = 0 }) in
    let sinks = c.args.sinks.now in
    let n = c.loop-place.place in
    right_more (SinkStands c.args.placed.now c.args.numbers.now.keys (key_lists c.args.sets.now)) sinks n (get_or sinks n none) c.loop-place.invariant (at_default sinks n none c.loop-place-test.true)
    (c.stands-is_there.ensures.0 c.if-not-is_there.false)
