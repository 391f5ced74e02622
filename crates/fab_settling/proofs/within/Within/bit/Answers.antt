use Rattle.std.proofs.Common.{◌≡◌, ℕ, ◌+◌, Option, Some, slice_get, sym, subst}
use Rattle.fab_systems_laws.specs.Ternary.{IsBelow, Tern as PlainTern}
use Rattle.fab_ternary.specs.Terns.{plain_tern}
use Rattle.fab_compiled.proofs.fab_equations_Numbering.{same_value}
use Rattle.fab_compiled.specs.declared.tree.Tree.{Tree}
use Rattle.fab_nodes.specs.Nodes.{AreKept}
use Rattle.fab_compiled.specs.Leading.{PointTerns}
use Rattle.fab_compiled.specs.Terns.{seen}
use Rattle.fab_network.specs.declared.network.Source.{Source}
use Rattle.fab_network.specs.Network.{source_tern, tern_in}
use Rattle.fab_network.proofs.Shares.{read_there}
use Rattle.fab_settling.proofs.within.Within.bit.Goals as goal

pub bit-requires-clause-kept : goal.bit-requires-clause-kept
bit-requires-clause-kept c =
    let k = c.requires.kept in
    let trees = c.args.trees.now in
    let number = c.args.self.now.tree in
    let tree : Tree = c.index-trees-self.result in
    let there : slice_get trees number ≡ Some tree = read_there trees number k.tree tree k.is c.index-trees-self.is in
    let one : k.tree ≡ tree = same_value (slice_get trees number) k.tree tree k.is there in
    let at : ℕ → PlainTern = λ place. seen c.args.view.now.terns.now c.args.view.now.leads.now (c.args.self.now.first + place) in
    subst (λ (x : Tree). AreKept at x c.args.self.now.values) one k.kept

pub returns : goal.returns
returns c =
    let k = c.requires.kept in
    let trees = c.args.trees.now in
    let number = c.args.self.now.tree in
    let first = c.args.self.now.first in
    let tree : Tree = c.index-trees-self.result in
    let there : slice_get trees number ≡ Some tree = read_there trees number k.tree tree k.is c.index-trees-self.is in
    let t : PointTerns = seen c.args.view.now.terns.now c.args.view.now.leads.now in
    let found = plain_tern c.bit.result in
    let this : Source = record { tree = number; first = first; bit = c.from.result } in
    let same : this ≡ c.args.source = (λ j. record { tree = c.if-self-source-2.false j; first = c.if-self-source.false j; bit = c.from.ensures j }) in
    subst (λ (s : Source). IsBelow found (source_tern trees t s)) same
    (subst (λ (o : Option Tree). IsBelow found (tern_in o t first c.from.result)) (sym there) c.bit.ensures)
