use Rattle.std.proofs.Common.{sym, ap, ◌∙◌, subst}
use Rattle.fab_netlist.specs.declared.net_id.NetId.{NetId}
use Rattle.fab_netlist.specs.declared.net_id.NetId.TheVariants as ids
use Rattle.fab_legal.specs.WellMade.{IsNetId}
use Rattle.fab_ways_laws.specs.Trees.{by_line}
use Rattle.fab_route.proofs.Naming.{line_listed}
use Rattle.fab_route.proofs.trees.net_name.Goals as goal

pub returns-in-In : goal.returns-in-In
returns-in-In c =
    ap ids.In (line_listed c.args.packed.now c.args._placed.now c.args.lines.now c.in-In.number 0 c.requires.lines (subst (λ (n : NetId). IsNetId c.args.packed.now n) c.in-In.is c.requires.known))
    ∙ sym (ap (by_line c.args.packed.now c.args._placed.now) c.in-In.is)
