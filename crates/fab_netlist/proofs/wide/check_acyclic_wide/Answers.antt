use Rattle.std.proofs.Common.{sym, subst, inr}
use Rattle.fab_netlist.specs.declared.netlist.Order.{Order}
use Rattle.fab_netlist.specs.declared.netlist.Order.TheVariants as orders
use Rattle.fab_netlist.specs.Plain.{PlainNetlist}
use Rattle.fab_netlist.specs.Cycles.{HasNoCycle, NamesCycle}
use Rattle.fab_netlist.specs.WellMade.{IsWired}
use Rattle.fab_netlist.specs.inner.Order.{IsFound}
use Rattle.fab_netlist.proofs.Bare.{bare_wired, has_wires, names_same, no_cycle_same}
use Rattle.fab_netlist.proofs.wide.check_acyclic_wide.Goals as goal

pub find_order-requires : goal.find_order-requires
find_order-requires c = subst (λ (netlist : PlainNetlist). IsWired netlist) (sym c.with_bare-parts.ensures) (bare_wired c.args.netlist.now c.requires.wired)

pub returns-in-Straight-clause-acyclic : goal.returns-in-Straight-clause-acyclic
returns-in-Straight-clause-acyclic c =
    let found : IsFound c.with_bare-parts.result (orders.Straight c.in-Straight.field-0) = subst (λ (order : Order). IsFound c.with_bare-parts.result order) c.in-Straight.is c.in_ok-find_order.ensures in
    no_cycle_same (has_wires c.args.netlist.now) (subst (λ (netlist : PlainNetlist). HasNoCycle netlist) c.with_bare-parts.ensures found.1)

pub fault_of-requires-clause-wired : goal.fault_of-requires-clause-wired
fault_of-requires-clause-wired c = subst (λ (netlist : PlainNetlist). IsWired netlist) (sym c.with_bare-parts.ensures) (bare_wired c.args.netlist.now c.requires.wired)

pub returns-clause-refused : goal.returns-clause-refused
returns-clause-refused c =
    inr (names_same (has_wires c.args.netlist.now) c.args.file.now c.in_ok-fault_of-in-Round.field-0
    (subst (λ (netlist : PlainNetlist). NamesCycle c.args.file.now netlist c.in_ok-fault_of-in-Round.field-0) c.with_bare-parts.ensures c.in_ok-fault_of-in-Round.ensures))
