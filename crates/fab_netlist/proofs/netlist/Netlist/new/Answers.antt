use Rattle.std.proofs.Common.{◌≡◌, None, sym, subst}
use Rattle.fab_netlist.specs.Plain.{PlainNetlist}
use Rattle.fab_netlist.specs.WellMade.{IsWired}
use Rattle.fab_netlist.proofs.Wired.{wired}
use Rattle.fab_netlist.proofs.netlist.Netlist.new.Goals as goal

pub find_order-requires : goal.find_order-requires
find_order-requires c =
    let given : PlainNetlist = record { nets = c.args.nets.items; inputs = c.args.inputs.items; outputs = c.args.outputs.items; covers = c.args.covers.items; latches = c.args.latches.items; reset = None } in
    let lent : PlainNetlist = record { nets = c.deref.result.now; inputs = c.deref-2.result.now; outputs = c.deref-3.result.now; covers = c.deref-4.result.now; latches = c.deref-5.result.now; reset = None } in
    let same : given ≡ lent = λ j. record {
      nets = sym c.deref.ensures.value j;
      inputs = sym c.deref-2.ensures.value j;
      outputs = sym c.deref-3.ensures.value j;
      covers = sym c.deref-4.ensures.value j;
      latches = sym c.deref-5.ensures.value j;
      reset = None;
    } in
    subst (λ (netlist : PlainNetlist). IsWired netlist) same (wired c.requires)
