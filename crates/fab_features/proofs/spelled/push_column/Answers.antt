use Rattle.std.proofs.Common.{◌≡◌, Option, Some, None, ◌++◌, List, Bool, get_or, false, ap}
use Rattle.std.specs.List.{flat_map, filter_map}
use Rattle.std.specs.Option.{option_map}
use Rattle.fab_model.specs.Tiles.{PlainTile, counted}
use Rattle.fab_fabric.specs.Bits.{plain_bits}
use Rattle.fab_use_defs.specs.fab_fabric_text_defs_Places.{placed_at}
use Rattle.fab_features.specs.inner.Listing.{placed_tile}
use Rattle.fab_features.specs.Spelled.{place_spells, tile_spells}
use Rattle.fab_features.proofs.Pushed.{none_filtered, some_counted, none_counted, pushes_both, pushes_same}
use Rattle.fab_features.proofs.Tables.{few_bels}
use Rattle.fab_features.proofs.spelled.push_column.Goals as goal
use Rattle.fab_features.proofs.spelled.push_column.Goals.{in-Some+in_ok-push_tile, in_default}

pub loop-y-init : goal.loop-y-init
loop-y-init c = none_filtered c.args.features.now.items (place_spells (plain_bits c.args.bits.now)) (placed_at c.args.fabric.now c.args.x)

pub push_tile-requires-clause-bels : goal.push_tile-requires-clause-bels
push_tile-requires-clause-bels c = few_bels c.args.fabric.now c.args.x c.loop-y.y c.in-Some.tile.now c.requires.is_fabric c.in-Some.ensures.found.0

pub loop-y-preserved : goal.loop-y-preserved
loop-y-preserved c =
    let l = c.loop-y in
    let g = place_spells (plain_bits c.args.bits.now) in
    let f = placed_at c.args.fabric.now c.args.x in
    let start = c.args.features.now.items in
    let before = flat_map g (filter_map f (counted l.y (λ i. i))) in
    elim c.match-tile_with.branch [
      | in-Some+in_ok-push_tile w ↦ (
          let placed = placed_tile c.args.x l.y w.in-Some.tile.now in
          let is : f l.y ≡ Some placed = ap (λ (found : Option PlainTile). option_map (placed_tile c.args.x l.y) found) w.in-Some.ensures.found.0 in
          let same : tile_spells (λ place. get_or w.tile.result.now place false) placed ≡ g placed = ap (λ (bits : List Bool). tile_spells (λ place. get_or bits place false) placed) w.tile.ensures in
          rw w.features-is (pushes_same start w.push_tile.new.features.items (before ++ g placed) _ (some_counted g f l.y placed is)
          (pushes_both start l.features.items w.push_tile.new.features.items before (g placed) l.invariant
          (pushes_same l.features.items w.push_tile.new.features.items _ (g placed) same w.in_ok-push_tile.ensures))))
      | in_default w ↦ (
          let is : f l.y ≡ None = ap (λ (found : Option PlainTile). option_map (placed_tile c.args.x l.y) found) w.in_default.ensures.found in
          rw w.features-is (pushes_same start l.features.items before _ (none_counted g f l.y is) l.invariant))
    ]
