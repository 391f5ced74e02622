use Rattle.std.proofs.Common.{◌++◌, ◌∷◌, [], ◌∙◌, ◌-◌, ◌==◌, ap, map, sym, codes, sum_by}
use Rattle.fab_kinds.specs.Pins.{bit_count}
use Rattle.std.proofs.lemmas.List.{map_push, map-append, length-map}
use Rattle.fab_syntax.specs.Plain.{plain_item, plain_join, instance}
use Rattle.fab_gen_tile.specs.TileModule.{matrix_output_names}
use Rattle.fab_gen_tile.proofs.Steps.{some_matrix, joins_made}
use Rattle.fab_gen_tile.proofs.tile.push_matrix_instance.Goals as goal

pub returns : goal.returns
returns c =
    let joined = ap (map plain_join) c.in_ok-append.ensures.items ∙ map-append plain_join c.push_bits_join.new.joins.items c.in_ok-outputs.outputs.items
    ∙ joins_made c.args.tile.now _ _ _ _ _ c.in_ok-joins.ensures (c.in_ok-low.ensures ∙ ap (sum_by (λ bel. bit_count bel.kind)) c.bels.ensures) (ap (λ b. b - c.in_ok-low.low) c.bits.ensures) c.in_ok-push_bits_join.ensures c.in_ok-outputs.ensures in
    ap (map plain_item) c.in_ok-push.ensures.items
    ∙ map_push plain_item c.args.items.now.items _
    ∙ ap (λ item. map plain_item c.args.items.now.items ++ item ∷ []) (λ j. instance ((c.in_ok-of.ensures ∙ ap (λ n. codes "matrix_" ++ n) c.name.ensures) j) (c.in_ok-name.ensures j) (joined j))
    ∙ ap (λ items. map plain_item c.args.items.now.items ++ items) (sym (some_matrix c.args.tile.now (matrix_output_names c.args.tile.now) _ c.in_ok-outputs.ensures (ap (λ n. n == 0) (length-map c.in_ok-outputs.outputs.items plain_join ∙ sym c.in_ok-outputs.outputs.ok.0) ∙ sym c.is_empty.ensures ∙ c.if-is_empty.false)))
