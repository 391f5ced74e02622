use Rattle.std.proofs.Common.{Option, get_or, subst, sym}
use Rattle.std.proofs.lemmas.Option.{slice_get-get_or}
use Rattle.fab_gen_top.specs.declared.places.Place.{Place}
use Rattle.fab_gen_top.specs.inner.Standing.{IsBehind}
use Rattle.fab_gen_top.proofs.Chain.{is_behind}
use Rattle.fab_gen_top.proofs.Grid.{spot}
use Rattle.fab_gen_top.proofs.joins.push_instances.Goals as goal

pub tile_instance-requires-clause-behind : goal.tile_instance-requires-clause-behind
tile_instance-requires-clause-behind c =
    let fabric = c.args.fabric.now in
    let i = c.loop-number.number in
    let places = c.args.places.now in
    let place = get_or places i (spot 0 0 0) in
    subst (λ (before : Option Place). IsBehind fabric before place) (sym c.place_before-before.ensures)
    (is_behind fabric places i place c.requires.places (slice_get-get_or places i (spot 0 0 0) c.loop-number-test.true))
