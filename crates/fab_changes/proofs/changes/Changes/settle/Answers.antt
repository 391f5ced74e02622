use Rattle.std.proofs.Common.{◌≡◌, ℕ, List, Some, length, refl, sym, ap, ◌∙◌, subst, arith, slice_get, slice_index}
use Rattle.fab_compiled.specs.Terns.{seen}
use Rattle.fab_demand.proofs.Lists.{get_within}
use Rattle.fab_changes.specs.declared.changes.Changes.{Changes}
use Rattle.fab_changes.specs.declared.groups.Group.{Group}
use Rattle.fab_changes.specs.Changes.{IsRightGroup}
use Rattle.fab_changes.specs.inner.Looking.{AreRightFrom}
use Rattle.fab_changes.proofs.Cycle.{changes_after}
use Rattle.fab_changes.proofs.Noted.{given_held}
use Rattle.fab_changes.proofs.Right.{given_right, points_then}
use Rattle.fab_changes.proofs.Settled.{changed_shows, has_given}
use Rattle.fab_changes.proofs.Touching.{touched_by, touched_then}
use Rattle.fab_changes.proofs.changes.Changes.settle.Goals as goal
use Rattle.fab_changes.proofs.changes.Changes.settle.Goals.{After-settle_groups}

pub take_waiting-requires-clause-within : goal.take_waiting-requires-clause-within
take_waiting-requires-clause-within c place listed = (c.requires.changes.groups.takes place listed).0

pub settle_groups-requires-clause-right : goal.settle_groups-requires-clause-right
settle_groups-requires-clause-right c =
    let self = c.args.self.now in
    let done = c.take_waiting.ensures in
    record {
      done = λ number group l there. absurd (omega (arith, l));
      rest = λ number group there fresh.
          given_right c.args.network.now c.args.demand.now c.take_waiting.new.demand self.fanout.readers.items self.taken.items self.groups.items c.requires.fit
          c.requires.changes.groups c.args.given.now self.fanout c.take_waiting.new.self.fanout refl done.taken done.fanout c.requires.changes.right number
          group (ap (λ (s : Changes). slice_get s.groups.items number) (sym done.same) ∙ there) fresh;
    }

-- all groups are right
all_right : (c : After-settle_groups) → (number : ℕ) (group : Group) → slice_get c.args.self.now.groups.items number ≡ Some group →
    IsRightGroup c.args.network.now c.settle_groups.new.demand group
all_right c number group there =
    let same = c.take_waiting.ensures.same in
    let done = c.settle_groups.ensures in
    let groups = done.same.groups ∙ ap (λ (s : Changes). s.groups.items) same in
    done.right.done number group
    (omega (arith, get_within c.args.self.now.groups.items number group there, ap (λ (s : Changes). length s.groups.items) same))
    (ap (λ (gs : List Group). slice_get gs number) groups ∙ there)

pub returns-clause-changes : goal.returns-clause-changes
returns-clause-changes c =
    let old = c.args.demand.now in
    let mid = c.take_waiting.new.demand in
    let new = c.settle_groups.new.demand in
    let taken = c.take_waiting.ensures in
    let done = c.settle_groups.ensures in
    let after = c.settle_groups.new.self in
    changes_after c.args.network.now old new c.args.self.now after (points_then old mid new taken.taken.points done.written.points)
    (record {
      taken = done.same.taken ∙ ap (λ (s : Changes). s.taken.items) taken.same;
      groups = done.same.groups ∙ ap (λ (s : Changes). s.groups.items) taken.same;
      lists = done.same.lists ∙ taken.fanout.readers;
      long = done.same.long ∙ taken.fanout.long;
      room = done.same.room ∙ ap (λ (s : Changes). length s.found.items) taken.same;
    })
    (done.waits.places ∙ ap (λ (s : Changes). s.places.items) taken.same)
    (done.waits.waiting ∙ c.clear.ensures.items)
    (subst (AreRightFrom c.args.network.now new after) (ap (λ (s : Changes). length s.groups.items) taken.same) done.right)
    c.requires.changes

pub returns-clause-has : goal.returns-clause-has
returns-clause-has c =
    let old = c.args.demand.now in
    let new = c.settle_groups.new.demand in
    let self = c.args.self.now in
    let are = c.requires.changes in
    let done = c.settle_groups.ensures in
    given_held c.args.network.now old new c.args.given.now self.fanout.readers.items self.groups.items self c.settle_groups.new.self are.groups are.waiting
    (done.waits.places ∙ ap (λ (s : Changes). s.places.items) c.take_waiting.ensures.same)
    (has_given c.args.network.now old c.take_waiting.new.demand new c.args.given.now self.fanout.readers.items self.taken.items self.groups.items
    c.requires.fit c.requires.points are.groups c.take_waiting.ensures.taken done.written (all_right c))

pub returns-clause-shows : goal.returns-clause-shows
returns-clause-shows c =
    let self = c.args.self.now in
    changed_shows c.args.network.now c.args.demand.now c.take_waiting.new.demand c.settle_groups.new.demand c.args.given.now self.fanout.readers.items
    self.taken.items self.groups.items c.requires.fit c.requires.points c.requires.changes.groups c.take_waiting.ensures.taken
    c.settle_groups.ensures.written (all_right c)

pub returns-clause-kept : goal.returns-clause-kept
returns-clause-kept c reader fresh =
    let old = c.args.demand.now in
    let mid = c.take_waiting.new.demand in
    let new = c.settle_groups.new.demand in
    let taken = c.take_waiting.ensures in
    let done = c.settle_groups.ensures in
    let both = touched_then old.own old.terns mid.terns new.terns c.args.watches.now c.take_waiting.new.watches c.settle_groups.new.watches taken.watches
    (touched_by old.own mid.own mid.terns new.terns mid.terns new.terns c.take_waiting.new.watches c.settle_groups.new.watches taken.taken.points.own
    refl refl done.watches) in
    record {
      fresh = both.fresh reader fresh;
      same = λ point watched.
          ap (λ (xs : List ℕ). seen new.terns xs point) (done.written.points.leads ∙ taken.taken.points.leads)
          ∙ both.same reader fresh (slice_index old.leads point) watched;
    }
