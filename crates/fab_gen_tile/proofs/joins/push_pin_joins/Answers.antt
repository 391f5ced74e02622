use Rattle.std.proofs.Common.{◌∙◌, ◌++◌, [], ◌∷◌, ap, map, arith}
use Rattle.std.proofs.lemmas.List.{map_push}
use Rattle.fab_kinds.specs.Pins.{pin_names}
use Rattle.fab_syntax.specs.Plain.{plain_join}
use Rattle.fab_gen_tile.specs.TileModule.{pin_join}
use Rattle.fab_gen_tile.proofs.Steps.{pins_more}
use Rattle.fab_gen_tile.proofs.joins.push_pin_joins.Goals as goal

pub loop-pin-preserved : goal.loop-pin-preserved
loop-pin-preserved c =
    let names = pin_names c.args.bel.now.kind in
    let join = pin_join c.args.bel.now in
    record {
      least = omega arith;
      joins =
          ap (map plain_join) c.in_ok-push.ensures.items
          ∙ map_push plain_join c.loop-pin.joins.items c.in_ok-pin_join.field-0
          ∙ (λ j. c.loop-pin.invariant.joins j ++ (c.in_ok-pin_join.ensures ∙ ap join c.as_bytes.ensures.value) j ∷ [])
          ∙ pins_more join names c.args.from c.loop-pin.pin c.pin_name.result.now (map plain_join c.args.joins.now.items) c.loop-pin.invariant.least c.pin_name.ensures;
    }
