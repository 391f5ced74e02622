use Rattle.std.proofs.Common.{◌++◌, ℕ, sym, ◌∙◌, ap}
use Rattle.std.specs.List.{flat_map}
use Rattle.fab_model.specs.Tiles.{counted}
use Rattle.fab_model.specs.Grid.{tile_at}
use Rattle.fab_fabric.specs.Sites.{tile_sites}
use Rattle.fab_place.proofs.Listed.{no_pieces, pieces_more}
use Rattle.fab_place.proofs.sites.sites_of_kind.Goals as goal

pub loop-x-init : goal.loop-x-init
loop-x-init c =
    let fabric = c.args.fabric.now in
    c.new-sites.ensures.items ∙ sym (no_pieces (λ x. flat_map (λ y. tile_sites c.args.kind x y (tile_at fabric x y)) (counted fabric.rows (λ y. y))))

pub loop-x-preserved : goal.loop-x-preserved
loop-x-preserved c =
    let fabric = c.args.fabric.now in
    let column = λ (x : ℕ). flat_map (λ y. tile_sites c.args.kind x y (tile_at fabric x y)) (counted fabric.rows (λ y. y)) in
    c.in_ok-put_column.ensures ∙ ap (λ front. front ++ column c.loop-x.x) c.loop-x.invariant ∙ sym (pieces_more column c.loop-x.x)
