use Rattle.std.proofs.Common.{◌≡◌, ◌∙◌, ◌<◌, All, Vec, Global, subst, sym}
use Rattle.std.proofs.lemmas.Result.{IfOk-weaker}
use Rattle.fab_implementation.specs.fab_fabric.specs.declared.wire.Wire.{Wire}
use Rattle.fab_implementation.specs.fab_netlist.specs.declared.net_id.NetId.{NetId}
use Rattle.fab_implementation.specs.fab_fabric.specs.Fabric.{wire_count}
use Rattle.fab_legal.specs.Sinks.{Sinks, sinks}
use Rattle.fab_legal.specs.inner.Kept.{sinks_by}
use Rattle.fab_legal.proofs.SinkLaw.{sinks_within}
use Rattle.fab_legal.proofs.SinkLists.{have_kinds, sinks_are}
use Rattle.fab_legal.proofs.sinks.required.Goals as goal

pub sinks_of-requires-clause-kinds : goal.sinks_of-requires-clause-kinds
sinks_of-requires-clause-kinds c = have_kinds c.args.fabric.now c.args.packed.now c.args.placed.now c.in_ok-kept.kept c.in_ok-kept.ensures c.requires.cells c.requires.ports

pub returns-clause-sinks : goal.returns-clause-sinks
returns-clause-sinks c =
    let same = sinks_are c.args.fabric.now c.args.packed.now c.args.placed.now c.in_ok-kept.kept c.requires.made c.in_ok-kept.ensures c.requires.cells c.requires.ports in
    IfOk-weaker c.sinks_of.result (λ (v : Vec (NetId × Wire) Global). v.items ≡ sinks_by c.args.fabric.now c.args.packed.now c.in_ok-kept.kept)
    (λ (v : Vec (NetId × Wire) Global). v.items ≡ sinks c.args.fabric.now c.args.packed.now c.args.placed.now) (λ v is. is ∙ same) c.sinks_of.ensures

pub returns-clause-wires : goal.returns-clause-wires
returns-clause-wires c =
    let fabric = c.args.fabric.now in
    let within = sinks_within fabric c.args.packed.now c.args.placed.now c.requires.made c.requires.cells c.requires.ports in
    IfOk-weaker c.sinks_of.result _ _ (λ found is. subst (λ (l : Sinks). All (λ sink. sink.1.0 < wire_count fabric) l) (sym is) within) (returns-clause-sinks c)
