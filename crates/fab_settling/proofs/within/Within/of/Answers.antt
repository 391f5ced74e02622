use Rattle.std.proofs.Common.{◌≡◌, length, slice_get, Some, subst}
use Rattle.fab_compiled.proofs.fab_equations_Numbering.{same_value}
use Rattle.fab_compiled.specs.declared.tree.Tree.{Tree}
use Rattle.fab_compiled.specs.Evaluation.{IsWithin}
use Rattle.fab_compiled.specs.Trees.{IsMade}
use Rattle.fab_network.proofs.Shares.{read_there}
use Rattle.fab_settling.proofs.within.Within.of.Goals as goal

pub returns-in-Ok : goal.returns-in-Ok
returns-in-Ok c =
    let fit = c.requires.fit in
    let tree : Tree = c.index-trees-source.result in
    let there : slice_get c.args.trees.now c.args.source.tree ≡ Some tree = read_there c.args.trees.now c.args.source.tree fit.tree tree fit.is c.index-trees-source.is in
    let one : fit.tree ≡ tree = same_value (slice_get c.args.trees.now c.args.source.tree) fit.tree tree fit.is there in
    record {
      tree = tree;
      is = there;
      made = subst IsMade one fit.made;
      begins = fit.begins;
      inside = subst (λ (x : Tree). IsWithin x c.args.source.first (length c.args.view.now.leads.now)) one fit.inside;
      kept = c.in-Ok.ensures;
    }
