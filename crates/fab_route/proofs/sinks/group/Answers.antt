use Rattle.std.proofs.Common.{List, get_or, ◌∙◌, subst}
use Rattle.std.proofs.lemmas.List.{length-set, take_all}
use Rattle.fab_fabric.specs.declared.wire.Wire.{Wire}
use Rattle.fab_netlist.specs.declared.net_id.NetId.{NetId}
use Rattle.fab_netlist.specs.declared.net_id.NetId.TheVariants as ids
use Rattle.fab_legal.proofs.Lists.{at_default}
use Rattle.fab_route.proofs.Grouping.{AreGrouped, group_more, all_grouped}
use Rattle.fab_route.proofs.sinks.group.Goals as goal

pub loop-sink-preserved : goal.loop-sink-preserved
loop-sink-preserved c =
    let none : NetId × Wire = (ids.Zero, record { 0 = 0 }) in
    let sink = get_or c.args.sinks.now c.loop-sink.sink-index none in
    record {
      long = length-set c.loop-sink.groups.items c.place_of.result c.push.new.self ∙ c.loop-sink.invariant.long;
      groups = group_more c.args.packed.now c.requires.made c.loop-sink.groups.items c.push.new.self c.index_mut.result.now c.args.sinks.now c.loop-sink.sink-index c.place_of.result sink
          (at_default c.args.sinks.now c.loop-sink.sink-index none c.loop-sink-test.true) c.place_of.ensures c.loop-sink.invariant.long c.index_mut.ensures.value c.in_ok-push.ensures.items c.loop-sink.invariant.groups;
    }

pub returns : goal.returns
returns c =
    all_grouped c.args.packed.now c.loop-sink.groups.items c.args.sinks.now c.loop-sink.invariant.long
    (subst (λ (sinks : List (NetId × Wire)). AreGrouped c.args.packed.now c.loop-sink.groups.items sinks) (take_all c.loop-sink.sink-index c.args.sinks.now c.loop-sink-test.false) c.loop-sink.invariant.groups)
