use Rattle.std.proofs.Common.{◌+◌, length, refl, sym, ap, subst, arith}
use Rattle.fab_netlist.specs.declared.net_id.NetId.{NetId}
use Rattle.fab_netlist.specs.Packed.{PlainPacked}
use Rattle.fab_netlist.specs.Plain.{IsAt}
use Rattle.fab_legal.specs.WellMade.{IsNetId}
use Rattle.fab_ways_laws.specs.Routing.{nets}
use Rattle.fab_route.proofs.Places.{in_at, cell_at}
use Rattle.fab_route.proofs.order.place_of.Goals as goal

pub returns-in-In : goal.returns-in-In
returns-in-In c =
    subst (λ (n : NetId). IsAt (nets c.args.packed.now) (2 + c.in-In.number) n) (sym c.in-In.is)
    (in_at c.args.packed.now c.in-In.number (2 + c.in-In.number) (subst (λ (n : NetId). IsNetId c.args.packed.now n) c.in-In.is c.requires.known) refl)

pub returns-in-Cell : goal.returns-in-Cell
returns-in-Cell c =
    subst (λ (n : NetId). IsAt (nets c.args.packed.now) (2 + c.len.result + c.in-Cell.number) n) (sym c.in-Cell.is)
    (cell_at c.args.packed.now c.in-Cell.number (2 + c.len.result + c.in-Cell.number) (subst (λ (n : NetId). IsNetId c.args.packed.now n) c.in-Cell.is c.requires.known)
    (omega (arith, c.len.ensures, ap (λ (p : PlainPacked). length p.inputs) c.packed.view_is)))
