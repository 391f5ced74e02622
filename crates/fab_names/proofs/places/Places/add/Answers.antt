use Rattle.std.proofs.Common.{List, ℕ, subst}
use Rattle.fab_names.specs.inner.Keyed.{Adds, under}
use Rattle.fab_names.proofs.Keys.{more_under}
use Rattle.fab_names.proofs.places.Places.add.Goals as goal

pub returns : goal.returns
returns c =
    let keys = c.args.self.now.keys.keys in
    let groups = c.args.self.now.groups.items in
    let next = c.insert_full.new.self.keys in
    let grown = c.add_to_group.new.groups.items in
    subst (λ (name : List ℕ). Adds (under keys groups) (under next grown) name c.args.place) c.in_ok-key.ensures.items
    (more_under keys next groups c.make_group.new.groups.items grown c.in_ok-key.key c.in_ok-slot.slot c.args.place c.in_ok-slot.ensures.keys c.in_ok-slot.ensures.index c.in_ok-make_group.ensures c.in_ok-add_to_group.ensures)
