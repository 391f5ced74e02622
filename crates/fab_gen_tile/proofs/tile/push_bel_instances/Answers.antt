use Rattle.std.proofs.Common.{◌++◌, ◌∷◌, [], ◌+◌, ◌∙◌, ap, map, sym, take, arith, ◌<◌, length}
use Rattle.std.proofs.lemmas.List.{map_push}
use Rattle.std.specs.List.{enumerate_from}
use Rattle.fab_kinds.specs.Pins.{bit_count}
use Rattle.fab_syntax.specs.Plain.{plain_item}
use Rattle.fab_model.specs.Tiles.{bits_before}
use Rattle.fab_gen_tile.specs.TileModule.{bel_instance}
use Rattle.fab_gen_tile.proofs.Steps.{behind, map_placed_more, bits_before_more}
use Rattle.fab_gen_tile.proofs.tile.push_bel_instances.Goals as goal

pub loop-place-preserved : goal.loop-place-preserved
loop-place-preserved c =
    let bels = c.args.bels.now in
    let i = c.loop-place.place in
    let bel = c.index-bels-place.result in
    let within : i < length bels = omega (arith, c.loop-place-test.true, c.loop-place.auto.place-end) in
    record {
      low = c.in_ok-low.ensures ∙ (λ j. c.loop-place.invariant.low j + (c.bits.ensures ∙ ap (λ b. bit_count b.kind) c.index-bels-place.is) j) ∙ sym (bits_before_more bels i bel within);
      items =
          ap (map plain_item) c.in_ok-push.ensures.items
          ∙ map_push plain_item c.loop-place.items.items _
          ∙ behind (map plain_item c.loop-place.items.items) (map plain_item c.args.items.now.items) _ _ _ c.loop-place.invariant.items
          (ap (λ item. map (λ placed. bel_instance placed.0 (bits_before bels placed.0) placed.1) (enumerate_from 0 (take i bels)) ++ item ∷ [])
          (c.in_ok-bel_instance.ensures ∙ (λ j. bel_instance i (c.loop-place.invariant.low j) (c.index-bels-place.is j)))
          ∙ sym (map_placed_more (λ placed. bel_instance placed.0 (bits_before bels placed.0) placed.1) bels i bel within));
    }
