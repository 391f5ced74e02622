use Rattle.std.proofs.Common.{length, ap, arith}
use Rattle.fab_netlist.specs.Packed.{PlainPacked}
use Rattle.fab_route.proofs.Places.{nets_long}
use Rattle.fab_route.proofs.order.net_count.Goals as goal

pub returns-clause-count : goal.returns-clause-count
returns-clause-count c =
    omega (arith, nets_long c.args.packed.now, c.len.ensures, c.len-2.ensures, ap (λ (p : PlainPacked). length p.inputs) c.packed.view_is, ap (λ (p : PlainPacked). length p.cells) c.packed.view_is)
