-- A cycle: what waits is taken, and stale groups are looked at.
use Rattle.std.proofs.Common.{◌≡◌, ℕ, ◌+◌, ◌≤◌, List, [], length, sym, ap, ◌∙◌, subst, inl, inr, arith, slice_get, slice_index}
use Rattle.std.proofs.lemmas.Bool.{cases_lt}
use Rattle.fab_network.specs.declared.network.Network.{Network}
use Rattle.fab_network.specs.Passes.{IsListed}
use Rattle.fab_demand.specs.Asked.{Asked}
use Rattle.fab_demand.proofs.Lists.{get_within}
use Rattle.fab_changes.specs.declared.changes.Changes.{Changes}
use Rattle.fab_changes.specs.declared.groups.Group.{Group}
use Rattle.fab_changes.specs.Changes.{AreChangesOf, AreGroups, AreWaiting}
use Rattle.fab_changes.specs.Fanout.{AreFresh}
use Rattle.fab_changes.specs.inner.Looking.{AreRightFrom, AreSameGroups, AreSamePoints, HasRoom}
use Rattle.fab_changes.proofs.Right.{groups_by}

-- groups that are not stale are passed over
pub right_passed : (network : Network) (asked : Asked) (changes : Changes) (from end : ℕ) → AreFresh changes.fanout.stale from end →
    AreRightFrom network asked changes from → AreRightFrom network asked changes end
right_passed network asked changes from end fresh right = record {
  done = λ number group l there. elim (cases_lt number from) [
    | inl early ↦ right.done number group early there
    | inr later ↦ right.rest number group there (fresh number (omega (arith, later)) l)
  ];
  rest = right.rest;
}

-- the same groups of the same points
pub groups_after : (network : Network) (old new : Asked) (before after : Changes) → AreSamePoints old new → AreSameGroups before after →
    AreGroups network old.own old.leads before.fanout.readers.items before.taken.items before.groups.items →
    AreGroups network new.own new.leads after.fanout.readers.items after.taken.items after.groups.items
groups_after network old new before after points same are =
    groups_by network old.own new.own old.leads new.leads before.fanout.readers.items after.fanout.readers.items before.taken.items after.taken.items
    before.groups.items after.groups.items points.own points.leads same.lists same.taken same.groups are

pub room_after : (before after : Changes) → AreSameGroups before after → HasRoom before.groups.items before.found.items →
    HasRoom after.groups.items after.found.items
room_after before after same room number group there =
    let fits : group.end ≤ group.begin + length before.found.items = room number group (ap (λ (gs : List Group). slice_get gs number) (sym same.groups) ∙ there) in
    omega (arith, fits, same.room)

-- none waits any more
pub waiting_after : (own other_own : List ℕ) (before after : Changes) → other_own ≡ own → after.taken.items ≡ before.taken.items →
    after.places.items ≡ before.places.items → after.waiting.items ≡ [] → AreWaiting own before → AreWaiting other_own after
waiting_after own other_own before after e taken places none are = record {
  found = λ place at.
      ap (λ (xs : List ℕ). slice_get xs (slice_index other_own place)) places
      ∙ ap (λ (xs : List ℕ). slice_get before.places.items (slice_index xs place)) e
      ∙ are.found place (subst (λ (xs : List ℕ). IsListed xs place) taken at);
  placed = λ point place is.
      let placed = are.placed point place (ap (λ (xs : List ℕ). slice_get xs point) (sym places) ∙ is) in
      (subst (λ (xs : List ℕ). IsListed xs place) (sym taken) placed.0, ap (λ (xs : List ℕ). slice_index xs place) e ∙ placed.1);
  among = λ place (k, l, is). absurd (omega (arith, l, ap length none));
}

-- The changes after a cycle, where no more than what waits and what is stale differs.
pub changes_after : (network : Network) (old new : Asked) (before after : Changes) → AreSamePoints old new → AreSameGroups before after →
    after.places.items ≡ before.places.items → after.waiting.items ≡ [] → AreRightFrom network new after (length before.groups.items) →
    AreChangesOf network old before → AreChangesOf network new after
changes_after network old new before after points same places none right are = record {
  groups = groups_after network old new before after points same are.groups;
  waiting = waiting_after old.own new.own before after points.own same.taken places none are.waiting;
  long = same.long ∙ are.long ∙ sym (ap length same.groups);
  room = room_after before after same are.room;
  right = λ number group there fresh.
      right.done number group (omega (arith, get_within after.groups.items number group there, ap length same.groups)) there;
}
