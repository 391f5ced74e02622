use Rattle.std.proofs.Common.{◌≡◌, ◌⊎◌, ◌+◌, ◌<◌, ℕ, List, Some, sym, ap, ◌∙◌, subst, inl, inr, slice_get}
use Rattle.std.proofs.lemmas.List.{with_items_is}
use Rattle.std.proofs.lemmas.Option.{slice_get-get_or}
use Rattle.fab_ternary.specs.declared.Tern.{Tern}
use Rattle.fab_changes.specs.declared.groups.Group.{Group}
use Rattle.fab_changes.specs.Changes.{IsRightGroup}
use Rattle.fab_changes.specs.Fanout.{IsFresh}
use Rattle.fab_changes.specs.inner.Looking.{HasTakenGroup}
use Rattle.fab_changes.proofs.Right.{all_right, group_written}
use Rattle.fab_changes.proofs.changes.Changes.settle_group.Goals as goal

pub returns-clause-right : goal.returns-clause-right
returns-clause-right c =
    let old = c.args.demand.now in
    let new = c.take_values.new.demand in
    let self = c.args.self.now in
    let groups = self.groups.items in
    let group = c.index-group.result.now in
    let found = c.find_values.new.found in
    let there : slice_get groups c.args.number ≡ Some group =
    slice_get-get_or groups c.args.number group c.requires.within ∙ ap (λ (g : Group). Some g) (sym c.index-group.ensures) in
    let same : c.deref.result.now ≡ found = c.deref.ensures.value ∙ with_items_is self.found found (c.find_values.ensures.long ∙ c.deref_mut.ensures.len) in
    let wrote : HasTakenGroup group group.end found old new =
    subst (λ (xs : List Tern). HasTakenGroup group group.end xs old new) same c.take_values.ensures.taken in
    let right : (at : ℕ) (other : Group) → (at < c.args.number + 1) ⊎ IsFresh c.take_values.new.fanout.stale at → slice_get groups at ≡ Some other →
    IsRightGroup c.args.network.now new other =
    all_right c.args.network.now old new self.fanout.readers.items self.taken.items groups c.requires.fit c.requires.groups c.args.number group found there
    wrote self.fanout.stale c.set_fresh.new.self c.take_values.new.fanout c.set_fresh.ensures.readers
    c.set_fresh.ensures.stale c.take_values.ensures.fanout c.find_values.ensures.found c.requires.right.done c.requires.right.rest in
    record {
      done = λ at other l first. right at other (inl l) first;
      rest = λ at other first fresh. right at other (inr fresh) first;
    }

pub returns-clause-written : goal.returns-clause-written
returns-clause-written c =
    let old = c.args.demand.now in
    let new = c.take_values.new.demand in
    let self = c.args.self.now in
    let groups = self.groups.items in
    let group = c.index-group.result.now in
    let there : slice_get groups c.args.number ≡ Some group =
    slice_get-get_or groups c.args.number group c.requires.within ∙ ap (λ (g : Group). Some g) (sym c.index-group.ensures) in
    group_written c.args.network.now old new self.fanout.readers.items self.taken.items groups c.requires.fit c.requires.groups c.args.number group
    c.deref.result.now there c.take_values.ensures.taken
