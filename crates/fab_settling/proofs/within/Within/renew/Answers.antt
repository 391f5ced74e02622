use Rattle.std.proofs.Common.{◌≡◌, ℕ, ◌+◌, Some, slice_get, sym, subst}
use Rattle.fab_systems_laws.specs.Ternary.{Tern as PlainTern}
use Rattle.fab_compiled.proofs.fab_equations_Numbering.{same_value}
use Rattle.fab_compiled.specs.declared.tree.Tree.{Tree}
use Rattle.fab_compiled.specs.Terns.{seen}
use Rattle.fab_nodes.specs.Nodes.{AreKept}
use Rattle.fab_network.proofs.Shares.{read_there}
use Rattle.fab_settling.proofs.within.Within.renew.Goals as goal

pub renew-requires-clause-kept : goal.renew-requires-clause-kept
renew-requires-clause-kept c =
    let k = c.requires.kept in
    let trees = c.args.trees.now in
    let number = c.args.self.now.tree in
    let tree : Tree = c.index-trees-self.result in
    let there : slice_get trees number ≡ Some tree = read_there trees number k.tree tree k.is c.index-trees-self.is in
    let one : k.tree ≡ tree = same_value (slice_get trees number) k.tree tree k.is there in
    let at : ℕ → PlainTern = λ place. seen c.args.view.now.terns.now c.args.view.now.leads.now (c.args.self.now.first + place) in
    subst (λ (x : Tree). AreKept at x c.args.self.now.values) one k.kept

pub returns : goal.returns
returns c =
    let k = c.requires.kept in
    let trees = c.args.trees.now in
    let number = c.args.self.now.tree in
    let tree : Tree = c.index-trees-self.result in
    let there : slice_get trees number ≡ Some tree = read_there trees number k.tree tree k.is c.index-trees-self.is in
    let one : k.tree ≡ tree = same_value (slice_get trees number) k.tree tree k.is there in
    let at : ℕ → PlainTern = λ place. seen c.args.view.now.terns.now c.args.view.now.leads.now (c.args.self.now.first + place) in
    record {
      tree = k.tree;
      is = k.is;
      made = k.made;
      begins = k.begins;
      inside = k.inside;
      kept = subst (λ (x : Tree). AreKept at x c.renew.new.self) (sym one) c.renew.ensures.kept;
    }
