use Rattle.std.proofs.Common.{sym}
use Rattle.fab_demand.proofs.KeptGates.{finding_searching, gates_same}
use Rattle.fab_demand.proofs.search.Search.passes_at.Goals as goal

pub gate_passes-requires-clause-gates : goal.gate_passes-requires-clause-gates
gate_passes-requires-clause-gates c =
    let is = c.requires.searching in
    gates_same c.args.self.now.gates.kept.items c.args.network.now.trees.items c.deref-3.result.now c.args.self.now.terns.items c.deref.result.now
    c.args.self.now.leads.items c.deref-2.result.now c.args.self.now.marks.items c.deref-4.result.now (sym c.deref-3.ensures.value) (sym c.deref.ensures.value)
    (sym c.deref-2.ensures.value) (sym c.deref-4.ensures.value) is.2.gates

pub returns-clause-searching : goal.returns-clause-searching
returns-clause-searching c clock given searching =
    finding_searching c.args.self.now c.gate_passes.new.gates c.args.network.now clock given c.deref-3.result.now c.deref.result.now c.deref-2.result.now
    c.deref-4.result.now c.deref-3.ensures.value c.deref.ensures.value c.deref-2.ensures.value c.deref-4.ensures.value searching c.gate_passes.ensures.gates
