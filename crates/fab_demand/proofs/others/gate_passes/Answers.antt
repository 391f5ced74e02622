use Rattle.std.proofs.Common.{true, Option, length, sym, subst}
use Rattle.std.specs.Prelude.{IfSome}
use Rattle.fab_network.specs.declared.network.Source.{Source}
use Rattle.fab_network.specs.Network.{IsFitSource}
use Rattle.fab_demand.specs.inner.Beside.{TellsGate}
use Rattle.fab_demand.proofs.others.gate_passes.Goals as goal

pub source_passes-requires-clause-fit : goal.source_passes-requires-clause-fit
source_passes-requires-clause-fit c =
    subst (λ (g : Option Source). IfSome g (IsFitSource c.args.trees.now (length c.args.view.now.leads.now))) c.in-Some.is c.requires.fit

pub returns-in-Some-clause-passes : goal.returns-in-Some-clause-passes
returns-in-Some-clause-passes c =
    subst (λ (g : Option Source). IfSome c.source_passes.result (TellsGate c.args.trees.now c.args.view.now.terns.now c.args.view.now.leads.now c.args.marks.now g))
    (sym c.in-Some.is) c.source_passes.ensures.passes

pub returns-in-None-clause-passes : goal.returns-in-None-clause-passes
returns-in-None-clause-passes c =
    subst (λ (g : Option Source). TellsGate c.args.trees.now c.args.view.now.terns.now c.args.view.now.leads.now c.args.marks.now g true) (sym c.in-None.is) tt
