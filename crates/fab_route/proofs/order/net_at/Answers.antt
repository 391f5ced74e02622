use Rattle.std.proofs.Common.{◌-◌, length, ap, arith}
use Rattle.fab_netlist.specs.Packed.{PlainPacked}
use Rattle.fab_route.proofs.Places.{nets_long, in_at, cell_at}
use Rattle.fab_route.proofs.order.net_at.Goals as goal

pub returns-then-place-inputs : goal.returns-then-place-inputs
returns-then-place-inputs c =
    in_at c.args.packed.now (c.args.place - 2) c.args.place (omega (arith, c.len-inputs.ensures, ap (λ (p : PlainPacked). length p.inputs) c.packed.view_is, c.if-place-inputs.true, c.if-place-eq0.false, c.if-place-eq1.false))
    (omega (arith, c.if-place-eq0.false, c.if-place-eq1.false))

pub overflow_cast-result-2 : goal.overflow_cast-result-2
overflow_cast-result-2 c =
    omega (arith, nets_long c.args.packed.now, c.requires.place, c.requires.made.few_cells, c.len-inputs.ensures, ap (λ (p : PlainPacked). length p.inputs) c.packed.view_is, c.if-place-inputs.false)

pub returns : goal.returns
returns c =
    cell_at c.args.packed.now (c.args.place - 2 - c.len-inputs.result) c.args.place
    (omega (arith, nets_long c.args.packed.now, c.requires.place, c.len-inputs.ensures, ap (λ (p : PlainPacked). length p.inputs) c.packed.view_is, c.if-place-inputs.false))
    (omega (arith, c.len-inputs.ensures, ap (λ (p : PlainPacked). length p.inputs) c.packed.view_is, c.if-place-inputs.false))
