use Rattle.std.proofs.Common.{◌≡◌, ◌<◌, true, ℕ, List, length, rules, ap, ◌∙◌, subst, arith, slice_get}
use Rattle.fab_network.specs.Passes.{IsListed}
use Rattle.fab_changes.specs.declared.changes.Changes.{Changes}
use Rattle.fab_changes.specs.declared.groups.Group.{Group}
use Rattle.fab_changes.specs.inner.Grouping.{ArePlacedBy, IsFanoutOf, IsOrderedAt}
use Rattle.fab_changes.proofs.Making.{changes_made}
use Rattle.fab_changes.proofs.changes.Changes.new.Goals as goal

pub places_of-requires-clause-within : goal.places_of-requires-clause-within
places_of-requires-clause-within c place listed =
    (c.in_ok-taken.ensures.takes place (subst (λ (xs : List ℕ). IsListed xs place) c.deref.ensures.value listed)).0

pub returns-clause-changes : goal.returns-clause-changes
returns-clause-changes c =
    let network = c.args.network.now in
    let own = c.args.places.now.own.now in
    let leads = c.args.places.now.leads.now in
    let fanout = c.in_ok-fanout.fanout in
    let found = c.in_ok-found.found in
    let made : Changes =
    record { taken = c.in_ok-taken.taken; places = c.in_ok-by_point.by_point; waiting = c.new.result; all_wait = true; groups = c.in_ok-groups.groups; fanout = fanout; found = found; shared = c.new-2.result } in
    let long : length found.items ≡ c.longest.result = search rules in
    let is : c.are_ordered.result ≡ true = search rules in
    changes_made network own leads made c.requires.places.own c.requires.once c.in_ok-taken.ensures c.in_ok-groups.ensures
    (subst (λ (xs : List ℕ). ArePlacedBy own xs (length xs) c.in_ok-by_point.by_point.items) c.deref.ensures.value c.in_ok-by_point.ensures)
    (ap length c.new.ensures.items)
    (subst (λ (gs : List Group). IsFanoutOf network own leads gs fanout) c.deref-3.ensures.value c.in_ok-fanout.ensures)
    (λ number group there. omega (arith, c.longest.ensures number group (ap (λ (gs : List Group). slice_get gs number) c.deref-2.ensures.value ∙ there), long))
    (subst (λ (gs : List Group). (place : ℕ) → place < length own → IsOrderedAt network own fanout.readers.items gs place) c.deref-4.ensures.value
    (c.are_ordered.ensures is))
