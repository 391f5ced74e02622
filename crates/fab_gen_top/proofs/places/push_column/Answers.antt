use Rattle.std.proofs.Common.{◌∙◌, ◌<◌, ap, sym, map, subst, Some, All, List, arith}
use Rattle.std.proofs.lemmas.List.Elements.{All-push}
use Rattle.fab_gen_top.specs.declared.places.Place.{Place}
use Rattle.fab_gen_top.specs.inner.Standing.{placed_of, IsPlaceOf}
use Rattle.fab_gen_top.proofs.Grid.{spot, stands_at, no_rows, row_with, row_without}
use Rattle.fab_gen_top.proofs.places.push_column.Goals as goal
use Rattle.fab_gen_top.proofs.places.push_column.Goals.{in-Some+in_ok-push-in-Some, in-None}

pub loop-y-init : goal.loop-y-init
loop-y-init c = record { places = no_rows c.args.fabric.now c.args.x (map (placed_of c.args.fabric.now) c.args.places.now.items); stand = c.requires.stand }

pub loop-y-preserved : goal.loop-y-preserved
loop-y-preserved c =
    let fabric = c.args.fabric.now in
    let x = c.args.x in
    let y = c.loop-y.y in
    let front = map (placed_of fabric) c.args.places.now.items in
    let low : y < fabric.rows = omega (arith, c.loop-y-test.true, c.rows-y-end.ensures) in
    elim c.match-type_at.branch [
      | in-Some+in_ok-push-in-Some w ↦
          let number = w.in-Some.number in
          let here = stands_at fabric x y number c.requires.is_fabric c.requires.column low (c.type_at.ensures ∙ ap Some w.in-Some.is) in
          let items = ap (λ v. v.items) w.places-is ∙ w.in_ok-push-in-Some.ensures.items in
          record {
            places = ap (map (placed_of fabric)) items ∙ row_with fabric x y number c.loop-y.places.items front here c.loop-y.invariant.places;
            stand = subst (λ (ps : List Place). All (IsPlaceOf fabric) ps) (sym items) (All-push (IsPlaceOf fabric) c.loop-y.places.items (spot x y number) c.loop-y.invariant.stand here);
          }
      | in-None w ↦
          let items = ap (λ v. v.items) w.places-is in
          record {
            places = ap (map (placed_of fabric)) items ∙ row_without fabric x y c.loop-y.places.items front c.requires.column low (c.type_at.ensures ∙ ap Some w.in-None.is) c.loop-y.invariant.places;
            stand = subst (λ (ps : List Place). All (IsPlaceOf fabric) ps) (sym items) c.loop-y.invariant.stand;
          }
    ]
