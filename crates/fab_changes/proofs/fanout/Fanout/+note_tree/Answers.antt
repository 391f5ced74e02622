use Rattle.std.proofs.Common.{◌+◌, rules, sym, subst, arith}
use Rattle.fab_changes.specs.Fanout.{WatchesTree}
use Rattle.fab_changes.proofs.Noting.{reads_then, tree_more, watched_more}
use Rattle.fab_changes.proofs.Options.{on_both, on_some}
use Rattle.fab_changes.proofs.fanout.Fanout.+note_tree.Goals as goal

pub returns-in-Bits-clause-watched : goal.returns-in-Bits-clause-watched
returns-in-Bits-clause-watched t c =
    on_some c.note_points.result
    (λ each. subst (WatchesTree c.args.places.now.own.now c.args.places.now.leads.now c.note_points.new.self.readers.items c.args.reader c.args.first)
    (sym c.in-Bits.is) each)
    c.note_points.ensures.watched

-- the points from which one is picked, and those of the index
pub returns-in_ok-note_points-in-Pick-clause-watched : goal.returns-in_ok-note_points-in-Pick-clause-watched
returns-in_ok-note_points-in-Pick-clause-watched t c =
    let own = c.args.places.now.own.now in
    let leads = c.args.places.now.leads.now in
    let mid = c.note_points-in-Pick.new.self.readers.items in
    let new = c.note_tree.new.self.readers.items in
    let picked = c.in_ok-note_points-in-Pick.ensures.watched in
    on_both c.note_tree.result
    (λ watched more.
    subst (WatchesTree own leads new c.args.reader c.args.first) (sym c.in-Pick.is) (
      λ k l. watched_more own leads mid new c.args.reader (c.args.first + (c.in-Pick.place + k)) more (picked k (omega (arith, l, c.pow-count.ensures))),
      subst (WatchesTree own leads new c.args.reader c.args.first) c.deref.ensures watched,
    ))
    c.note_tree.ensures.watched c.note_tree.ensures.more

pub returns-in_ok-note_points-in-Pick-clause-more : goal.returns-in_ok-note_points-in-Pick-clause-more
returns-in_ok-note_points-in-Pick-clause-more t c =
    on_some c.note_tree.result
    (λ more. reads_then c.args.self.now.readers.items c.note_points-in-Pick.new.self.readers.items c.note_tree.new.self.readers.items
    c.in_ok-note_points-in-Pick.ensures.more more)
    c.note_tree.ensures.more

-- a test and two branches
pub returns-in_ok-note_tree-in-Cond-2-clause-watched : goal.returns-in_ok-note_tree-in-Cond-2-clause-watched
returns-in_ok-note_tree-in-Cond-2-clause-watched t c =
    let own = c.args.places.now.own.now in
    let leads = c.args.places.now.leads.now in
    let one = c.note_tree-in-Cond.new.self.readers.items in
    let two = c.note_tree-in-Cond-2.new.self.readers.items in
    let new = c.note_tree-in-Cond-3.new.self.readers.items in
    on_both c.note_tree-in-Cond-3.result
    (λ watched more.
    subst (WatchesTree own leads new c.args.reader c.args.first) (sym c.in-Cond.is) (
      tree_more own leads one new c.args.reader c.args.first c.in-Cond.test.value (reads_then one two new c.in_ok-note_tree-in-Cond-2.ensures.more more)
          (subst (WatchesTree own leads one c.args.reader c.args.first) c.deref-in-Cond.ensures c.in_ok-note_tree-in-Cond.ensures.watched),
      tree_more own leads two new c.args.reader c.args.first c.in-Cond.yes.value more
          (subst (WatchesTree own leads two c.args.reader c.args.first) c.deref-in-Cond-2.ensures c.in_ok-note_tree-in-Cond-2.ensures.watched),
      subst (WatchesTree own leads new c.args.reader c.args.first) c.deref-in-Cond-3.ensures watched,
    ))
    c.note_tree-in-Cond-3.ensures.watched c.note_tree-in-Cond-3.ensures.more

pub returns-in_ok-note_tree-in-Cond-2-clause-more : goal.returns-in_ok-note_tree-in-Cond-2-clause-more
returns-in_ok-note_tree-in-Cond-2-clause-more t c =
    let one = c.note_tree-in-Cond.new.self.readers.items in
    let two = c.note_tree-in-Cond-2.new.self.readers.items in
    let new = c.note_tree-in-Cond-3.new.self.readers.items in
    on_some c.note_tree-in-Cond-3.result
    (λ more. reads_then c.args.self.now.readers.items one new c.in_ok-note_tree-in-Cond.ensures.more
    (reads_then one two new c.in_ok-note_tree-in-Cond-2.ensures.more more))
    c.note_tree-in-Cond-3.ensures.more

-- two operands
pub returns-in_ok-note_tree-in-Cat-clause-watched : goal.returns-in_ok-note_tree-in-Cat-clause-watched
returns-in_ok-note_tree-in-Cat-clause-watched t c =
    let own = c.args.places.now.own.now in
    let leads = c.args.places.now.leads.now in
    let mid = c.note_tree-in-Cat.new.self.readers.items in
    let new = c.note_tree-in-Cat-2.new.self.readers.items in
    on_both c.note_tree-in-Cat-2.result
    (λ watched more.
    let left : WatchesTree own leads new c.args.reader c.args.first c.in-Cat.left.value =
    tree_more own leads mid new c.args.reader c.args.first c.in-Cat.left.value more
    (subst (WatchesTree own leads mid c.args.reader c.args.first) c.deref-in-Cat.ensures c.in_ok-note_tree-in-Cat.ensures.watched) in
    let right : WatchesTree own leads new c.args.reader c.args.first c.in-Cat.right.value =
    subst (WatchesTree own leads new c.args.reader c.args.first) c.deref-in-Cat-2.ensures watched in
    search rules)
    c.note_tree-in-Cat-2.ensures.watched c.note_tree-in-Cat-2.ensures.more

pub returns-in_ok-note_tree-in-Cat-clause-more : goal.returns-in_ok-note_tree-in-Cat-clause-more
returns-in_ok-note_tree-in-Cat-clause-more t c =
    on_some c.note_tree-in-Cat-2.result
    (λ more. reads_then c.args.self.now.readers.items c.note_tree-in-Cat.new.self.readers.items c.note_tree-in-Cat-2.new.self.readers.items
    c.in_ok-note_tree-in-Cat.ensures.more more)
    c.note_tree-in-Cat-2.ensures.more
