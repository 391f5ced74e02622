use Rattle.std.proofs.Common.{subst}
use Rattle.fab_legal.specs.WellMade.{output_ports}
use Rattle.fab_legal.specs.Broken.{IsPortItem}
use Rattle.fab_legal.specs.inner.Keeping.{BindsPads}
use Rattle.fab_legal.specs.declared.ports.PadBinding.{PadBinding}
use Rattle.fab_legal.proofs.Bindings.{port_broken, within}
use Rattle.fab_legal.proofs.Cells.{breaks_by}
use Rattle.fab_legal.proofs.placed.place_ports.Goals as goal

pub wrong_port-requires-clause-ins : goal.wrong_port-requires-clause-ins
wrong_port-requires-clause-ins c = within c.args.fabric.now c.args.packed.now.inputs c.args.implementation.now.ins c.in_ok-ins.ins c.in_ok-ins.ensures.ins

pub returns-in-Some-clause-err : goal.returns-in-Some-clause-err
returns-in-Some-clause-err c =
    let f = c.args.fabric.now in
    let p = c.args.packed.now in
    let i = c.args.implementation.now in
    breaks_by 3 (IsPortItem f p i) c.broken_by.result c.in_ok-copy.field-0 c.in-Some.name.now c.broken_by.ensures c.in_ok-copy.ensures
    (port_broken f p i c.in_ok-ins.ins c.in_ok-ins.outs c.in-Some.name.now c.in_ok-ins.ensures.ins c.in_ok-ins.ensures.outs c.in-Some.ensures)

pub returns-clause-placed : goal.returns-clause-placed
returns-clause-placed c =
    let f = c.args.fabric.now in
    let p = c.args.packed.now in
    let i = c.args.implementation.now in
    record {
      ins = (subst (λ (b : PadBinding). BindsPads f p.inputs i.ins b) c.bound_pads.ensures c.in_ok-ins.ensures.ins).0;
      outs = (subst (λ (b : PadBinding). BindsPads f (output_ports p) i.outs b) c.bound_pads-2.ensures c.in_ok-ins.ensures.outs).0;
    }
