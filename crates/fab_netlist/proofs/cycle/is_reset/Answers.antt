use Rattle.std.proofs.Common.{rules, ◌≡◌, get_or, arith}
use Rattle.fab_netlist.proofs.Meaning.{input_small}
use Rattle.fab_netlist.proofs.Wired.{wired}
use Rattle.fab_netlist.proofs.cycle.is_reset.Goals as goal

pub bounds-values-index : goal.bounds-values-index
bounds-values-index c =
    let few = c.is_well_made.ensures.reset_below c.in-Some.place (search rules) in
    let at : get_or c.args.netlist.now.inputs c.in-Some.place c.index.result.now ≡ c.index.result.now = search rules in
    omega (arith, input_small c.args.netlist.now (wired c.is_well_made.ensures) c.index.result.now (c.in-Some.place, few, at), c.requires)
