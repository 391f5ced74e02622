use Rattle.std.proofs.Common.{List, Contains, ◌∙◌, subst}
use Rattle.fab_fabric.specs.declared.wire.Wire.{Wire}
use Rattle.fab_netlist.specs.declared.net_id.NetId.{NetId}
use Rattle.fab_netlist.proofs.Stepping.{all_of}
use Rattle.fab_legal.specs.WellMade.{IsNetId}
use Rattle.fab_legal.proofs.SinkLaw.{sink_known}
use Rattle.fab_route.proofs.sinks.sinks_by_net.Goals as goal

pub group-requires-clause-known : goal.group-requires-clause-known
group-requires-clause-known c =
    all_of (λ (sink : NetId × Wire). IsNetId c.args.packed.now sink.0) c.deref.result.now (λ sink here.
    sink_known c.args.fabric.now c.args.packed.now c.args.placed.now c.requires.placed.cells c.requires.placed.ports c.requires.made sink
    (subst (λ (sinks : List (NetId × Wire)). Contains sinks sink) (c.deref.ensures.value ∙ c.in_ok-sinks.ensures.sinks) here))
