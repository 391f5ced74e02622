use Rattle.std.proofs.Common.{◌<◌, ◌+◌, List, ℕ, length, slice_get, sym, ap, ◌∙◌, subst, arith}
use Rattle.fab_syntax.specs.Plain.{plain_text}
use Rattle.fab_equations.specs.Instances.{points}
use Rattle.fab_load_points.specs.inner.Known.{AddsPlaces}
use Rattle.fab_load_points.proofs.Places.{known_adds, known_few}
use Rattle.fab_load_points.proofs.Reading.{on_ok}
use Rattle.fab_load_points.proofs.causes.add_source.Goals as goal

pub add_places-requires-clause-few : goal.add_places-requires-clause-few
add_places-requires-clause-few c k place low l at =
    let text = plain_text c.args.equations.now in
    let s = c.requires.source in
    let first = c.points_of-first.result.start in
    let less : first + place < length (points text) =
    known_few text c.requires.sound c.args.known.now c.requires.known c.args.source s.0 s.1 s.2 c.in-Some.known_reads c.in-Some.ensures.there c.module_of.result
    c.in-Some.ensures.of_module c.module_of.ensures first (λ i is. ap (λ r. r.start) (c.points_of-first.ensures i is)) k place low l
    (ap (λ (xs : List ℕ). slice_get xs k) (sym c.deref.ensures.value) ∙ at) in
    omega (arith, less, c.points-points.ensures)

pub returns-in-Some : goal.returns-in-Some
returns-in-Some c =
    let text = plain_text c.args.equations.now in
    let first = c.points_of-first.result.start in
    let known = c.in-Some.known_reads in
    let old = c.args.reads.now.items in
    let new = c.add_places.new.reads.items in
    on_ok c.add_places.result _ _ c.add_places.ensures
    (λ adds path e is.
    known_adds text c.requires.sound c.args.known.now c.requires.known c.args.source path e is known c.in-Some.ensures.there c.module_of.result c.in-Some.ensures.of_module
    c.module_of.ensures first (λ i at. ap (λ r. r.start) (c.points_of-first.ensures i at)) old new
    (subst (λ (xs : List ℕ). AddsPlaces first xs known.from known.end old new) c.deref.ensures.value adds))
