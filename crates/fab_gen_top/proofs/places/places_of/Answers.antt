use Rattle.std.proofs.Common.{◌∙◌, ◌++◌, ap, sym, map, subst, All, List, arith}
use Rattle.std.specs.List.{flat_map}
use Rattle.fab_text_loads_laws.specs.fab_fabric_text_defs_Places.{column_tiles}
use Rattle.fab_gen_tile.proofs.Counted.{counted_none}
use Rattle.fab_gen_top.specs.declared.places.Place.{Place}
use Rattle.fab_gen_top.specs.inner.Standing.{placed_of, IsPlaceOf}
use Rattle.fab_gen_top.proofs.Grid.{column_more}
use Rattle.fab_gen_top.proofs.places.places_of.Goals as goal

pub loop-x-init : goal.loop-x-init
loop-x-init c =
    let fabric = c.args.fabric.now in
    record {
      places = ap (map (placed_of fabric)) c.new-places.ensures.items ∙ sym (ap (flat_map (column_tiles fabric)) (counted_none (λ x. x)));
      stand = subst (λ (ps : List Place). All (IsPlaceOf fabric) ps) (sym c.new-places.ensures.items) (λ k d less. absurd (omega (arith, less)));
    }

pub loop-x-preserved : goal.loop-x-preserved
loop-x-preserved c =
    let fabric = c.args.fabric.now in
    record {
      places = c.in_ok-push_column.ensures.places ∙ ap (λ xs. xs ++ column_tiles fabric c.loop-x.x) c.loop-x.invariant.places ∙ sym (column_more fabric c.loop-x.x);
      stand = c.in_ok-push_column.ensures.stand;
    }
