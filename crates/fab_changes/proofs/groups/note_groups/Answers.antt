use Rattle.std.proofs.Common.{◌≡◌, ℕ, List, Some, length, get_or, rules, sym, ap, ◌∙◌, subst, arith, slice_get}
use Rattle.std.proofs.lemmas.Option.{slice_get-get_or}
use Rattle.fab_compiled.specs.declared.tree.Tree.{Tree}
use Rattle.fab_compiled.specs.Evaluation.{IsWithin}
use Rattle.fab_changes.specs.declared.groups.Group.{Group}
use Rattle.fab_changes.specs.Fanout.{WatchesTree}
use Rattle.fab_changes.proofs.Making.{group_fits, watched_one}
use Rattle.fab_changes.proofs.groups.note_groups.Goals as goal

abbrev none : Group
none = record { begin = 0; end = 0; source = record { tree = 0; first = 0; bit = 0 } }

pub note_tree-requires-clause-made : goal.note_tree-requires-clause-made
note_tree-requires-clause-made c =
    let groups = c.args.groups.now in
    let number = c.loop-number.number in
    let group : Group = get_or groups number none in
    let there : slice_get groups number ≡ Some group = slice_get-get_or groups number none c.loop-number-test.true in
    let tree : Tree = c.in_ok-tree.tree.now in
    let found = c.in_ok-tree.ensures.lookup in
    let at : slice_get c.args.network.now.trees.items group.source.tree ≡ Some tree =
    ap (λ (trees : List Tree). slice_get trees group.source.tree) (sym c.deref.ensures.value)
    ∙ slice_get-get_or c.deref.result.now group.source.tree tree found.3.0
    ∙ ap (λ (t : Tree). Some t) (sym (found.3.1 tree)) in
    let own = c.args.places.now.own.now in
    let fits = group_fits c.args.network.now own (length own) groups c.requires.fit c.requires.groups number group there tree at in
    fits.made

pub note_tree-requires-clause-begins : goal.note_tree-requires-clause-begins
note_tree-requires-clause-begins c =
    let groups = c.args.groups.now in
    let number = c.loop-number.number in
    let group : Group = get_or groups number none in
    let there : slice_get groups number ≡ Some group = slice_get-get_or groups number none c.loop-number-test.true in
    let tree : Tree = c.in_ok-tree.tree.now in
    let found = c.in_ok-tree.ensures.lookup in
    let at : slice_get c.args.network.now.trees.items group.source.tree ≡ Some tree =
    ap (λ (trees : List Tree). slice_get trees group.source.tree) (sym c.deref.ensures.value)
    ∙ slice_get-get_or c.deref.result.now group.source.tree tree found.3.0
    ∙ ap (λ (t : Tree). Some t) (sym (found.3.1 tree)) in
    let own = c.args.places.now.own.now in
    let fits = group_fits c.args.network.now own (length own) groups c.requires.fit c.requires.groups number group there tree at in
    omega (arith, fits.begins, c.requires.points)

pub note_tree-requires-clause-inside : goal.note_tree-requires-clause-inside
note_tree-requires-clause-inside c =
    let groups = c.args.groups.now in
    let number = c.loop-number.number in
    let group : Group = get_or groups number none in
    let there : slice_get groups number ≡ Some group = slice_get-get_or groups number none c.loop-number-test.true in
    let tree : Tree = c.in_ok-tree.tree.now in
    let found = c.in_ok-tree.ensures.lookup in
    let at : slice_get c.args.network.now.trees.items group.source.tree ≡ Some tree =
    ap (λ (trees : List Tree). slice_get trees group.source.tree) (sym c.deref.ensures.value)
    ∙ slice_get-get_or c.deref.result.now group.source.tree tree found.3.0
    ∙ ap (λ (t : Tree). Some t) (sym (found.3.1 tree)) in
    let own = c.args.places.now.own.now in
    let fits = group_fits c.args.network.now own (length own) groups c.requires.fit c.requires.groups number group there tree at in
    subst (λ (n : ℕ). IsWithin tree group.source.first n) c.requires.points fits.inside

pub loop-number-preserved : goal.loop-number-preserved
loop-number-preserved c =
    let own = c.args.places.now.own.now in
    let leads = c.args.places.now.leads.now in
    let groups = c.args.groups.now in
    let number = c.loop-number.number in
    let group : Group = get_or groups number none in
    let there : slice_get groups number ≡ Some group = slice_get-get_or groups number none c.loop-number-test.true in
    let tree : Tree = c.in_ok-tree.tree.now in
    let found = c.in_ok-tree.ensures.lookup in
    let at : slice_get c.args.network.now.trees.items group.source.tree ≡ Some tree =
    ap (λ (trees : List Tree). slice_get trees group.source.tree) (sym c.deref.ensures.value)
    ∙ slice_get-get_or c.deref.result.now group.source.tree tree found.3.0
    ∙ ap (λ (t : Tree). Some t) (sym (found.3.1 tree)) in
    let reader : c.in_ok-reader.reader ≡ number = search rules in
    record {
      watched = watched_one c.args.network.now own leads c.loop-number.fanout.readers.items c.note_tree.new.self.readers.items number groups group tree there at
          c.in_ok-note_tree.ensures.more
          (subst (λ (n : ℕ). WatchesTree own leads c.note_tree.new.self.readers.items n group.source.first tree) reader c.in_ok-note_tree.ensures.watched)
          c.loop-number.invariant.watched;
      stale = c.note_tree.ensures.stale ∙ c.loop-number.invariant.stale;
    }
