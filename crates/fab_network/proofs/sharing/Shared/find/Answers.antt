use Rattle.std.proofs.Common.{length}
use Rattle.fab_compiled.specs.Terns.{seen}
use Rattle.fab_network.proofs.Shares.{found_shared, read_there}
use Rattle.fab_network.proofs.sharing.Shared.find.Goals as goal

pub returns-in-Ok-clause-shared : goal.returns-in-Ok-clause-shared
returns-in-Ok-clause-shared c =
    let fit = c.requires.fit in
    found_shared c.args.trees.now c.args.view.now.terns.now c.args.view.now.leads.now c.args.source c.index-trees-source.result c.args.self.now.tree
    c.args.self.now.first c.whole_into.new.bits.items fit
    (read_there c.args.trees.now c.args.source.tree fit.tree c.index-trees-source.result fit.is c.index-trees-source.is) c.in-Ok.ensures c.requires.tree
    c.requires.first

pub returns-in-Err-clause-shared : goal.returns-in-Err-clause-shared
returns-in-Err-clause-shared c =
    c.give_up.ensures.shared c.args.trees.now (length c.args.view.now.leads.now) (seen c.args.view.now.terns.now c.args.view.now.leads.now)
