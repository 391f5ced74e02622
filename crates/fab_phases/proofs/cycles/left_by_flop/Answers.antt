use Rattle.std.proofs.Common.{List, length, sym, subst}
use Rattle.fab_compiled.specs.Terns.{seen}
use Rattle.fab_compiled.specs.declared.tree.Tree.{Tree}
use Rattle.fab_network.specs.Sharing.{IsShared}
use Rattle.fab_phases.proofs.cycles.left_by_flop.Goals as goal

pub value-requires-clause-shared : goal.value-requires-clause-shared
value-requires-clause-shared c =
    subst (λ (trees : List Tree). IsShared trees (length c.args.view.now.leads.now) (seen c.args.view.now.terns.now c.args.view.now.leads.now) c.args.shared.now)
    (sym c.deref.ensures.value) c.requires.shared

pub returns-in-User-clause-shared : goal.returns-in-User-clause-shared
returns-in-User-clause-shared c =
    subst (λ (trees : List Tree). IsShared trees (length c.args.view.now.leads.now) (seen c.args.view.now.terns.now c.args.view.now.leads.now) c.value.new.self)
    c.deref.ensures.value c.value.ensures.shared
