use Rattle.std.proofs.Common.{◌++◌}
use Rattle.std.specs.List.{flat_map}
use Rattle.fab_model.specs.Tiles.{counted}
use Rattle.fab_fabric.specs.Bits.{plain_bits}
use Rattle.fab_use_defs.specs.fab_fabric_text_defs_Places.{column_tiles}
use Rattle.fab_features.specs.Spelled.{place_spells}
use Rattle.fab_features.proofs.Pushed.{none_listed, lists_more, pushes_both, pushes_same}
use Rattle.fab_features.proofs.spelled.push_columns.Goals as goal

pub loop-x-init : goal.loop-x-init
loop-x-init c = none_listed c.args.features.now.items (place_spells (plain_bits c.args.bits.now)) (column_tiles c.args.fabric.now)

pub loop-x-preserved : goal.loop-x-preserved
loop-x-preserved c =
    let l = c.loop-x in
    let g = place_spells (plain_bits c.args.bits.now) in
    let f = column_tiles c.args.fabric.now in
    let start = c.args.features.now.items in
    let before = flat_map g (flat_map f (counted l.x (λ i. i))) in
    pushes_same start c.push_column.new.features.items (before ++ flat_map g (f l.x)) _ (lists_more g f l.x)
    (pushes_both start l.features.items c.push_column.new.features.items before (flat_map g (f l.x)) l.invariant c.in_ok-push_column.ensures)
