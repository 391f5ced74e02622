use Rattle.std.proofs.Common.{◌≡◌, ◌+◌, ◌<◌, ℕ, length, refl, sym, ◌∙◌, subst, arith, slice_index, slice_set}
use Rattle.std.proofs.lemmas.List.{length-set}
use Rattle.fab_changes.specs.inner.Grouping.{ArePlacedBy}
use Rattle.fab_changes.proofs.Noted.{places_more}
use Rattle.fab_changes.proofs.groups.places_of.Goals as goal

pub bounds-places-place : goal.bounds-places-place
bounds-places-place c =
    c.requires.within (slice_index c.args.taken.now c.loop-place.place-index) (c.loop-place.place-index, c.loop-place-test.true, refl)

pub index_mut-requires : goal.index_mut-requires
index_mut-requires c =
    let place = slice_index c.args.taken.now c.loop-place.place-index in
    let within : place < length c.args.places.now.own.now = c.requires.within place (c.loop-place.place-index, c.loop-place-test.true, refl) in
    omega (arith, (c.requires.places.own place within).0, c.loop-place.invariant.long, c.loop-place.by_point.ok)

pub loop-place-preserved : goal.loop-place-preserved
loop-place-preserved c =
    let own = c.args.places.now.own.now in
    let taken = c.args.taken.now in
    let index = c.loop-place.place-index in
    let inv = c.loop-place.invariant in
    let place = slice_index taken index in
    let items = c.loop-place.by_point.items in
    let within : place < length own = c.requires.within place (index, c.loop-place-test.true, refl) in
    let room : slice_index own place < length items = omega (arith, (c.requires.places.own place within).0, inv.long) in
    let behind : c.in_ok-behind.behind ≡ place + 1 = c.in_ok-behind.ensures.1 in
    record {
      long = length-set items (slice_index own place) c.in_ok-behind.behind ∙ inv.long;
      placed = subst (λ (n : ℕ). ArePlacedBy own taken (index + 1) (slice_set items (slice_index own place) n)) (sym behind)
          (places_more own taken index items c.requires.once (λ k l. c.requires.within (slice_index taken k) (k, l, refl)) c.loop-place-test.true room inv.placed);
    }
