use Rattle.std.proofs.Common.{length}
use Rattle.fab_compiled.specs.Terns.{seen}
use Rattle.fab_network.proofs.Shares.{kept_right}
use Rattle.fab_network.proofs.sharing.Shared.value.Goals as goal

pub returns-then-self-source-clause-shared : goal.returns-then-self-source-clause-shared
returns-then-self-source-clause-shared c =
    c.turn_to.ensures c.args.trees.now (length c.args.view.now.leads.now) (seen c.args.view.now.terns.now c.args.view.now.leads.now)

pub returns-in-Some-clause-value : goal.returns-in-Some-clause-value
returns-in-Some-clause-value c =
    kept_right c.args.trees.now (length c.args.view.now.leads.now) (seen c.args.view.now.terns.now c.args.view.now.leads.now) c.args.self.now c.args.source
    c.in-Some.bit c.if-self-source.false c.if-self-source-2.false c.requires.shared c.in-Some.ensures.is c.in-Some.ensures.right

pub returns-in-Some-kept-clause-value : goal.returns-in-Some-kept-clause-value
returns-in-Some-kept-clause-value c =
    kept_right c.args.trees.now (length c.args.view.now.leads.now) (seen c.args.view.now.terns.now c.args.view.now.leads.now) c.find.new.self c.args.source
    c.in-Some-kept.bit c.find.ensures.tree c.find.ensures.first c.find.ensures.shared c.in-Some-kept.ensures.is c.in-Some-kept.ensures.right

pub find-requires-clause-shared : goal.find-requires-clause-shared
find-requires-clause-shared c =
    c.is_due.ensures.shared c.args.trees.now (length c.args.view.now.leads.now) (seen c.args.view.now.terns.now c.args.view.now.leads.now) c.requires.shared

pub returns-then-not-is_due-clause-shared : goal.returns-then-not-is_due-clause-shared
returns-then-not-is_due-clause-shared c =
    c.is_due.ensures.shared c.args.trees.now (length c.args.view.now.leads.now) (seen c.args.view.now.terns.now c.args.view.now.leads.now) c.requires.shared
