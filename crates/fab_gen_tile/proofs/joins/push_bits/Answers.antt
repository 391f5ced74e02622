use Rattle.std.proofs.Common.{ℕ, ◌∙◌, ap, map}
use Rattle.std.proofs.lemmas.List.{map_push}
use Rattle.fab_syntax.specs.Plain.{PlainJoin, plain_join}
use Rattle.fab_model.specs.Rows.{bit_name}
use Rattle.fab_gen_tile.specs.Names.{same_join}
use Rattle.fab_gen_tile.proofs.Counted.{none_behind, items_more}
use Rattle.fab_gen_tile.proofs.joins.push_bits.Goals as goal

pub loop-bit-init : goal.loop-bit-init
loop-bit-init c = none_behind (map plain_join c.args.joins.now.items) (λ bit. same_join (bit_name c.args.side.now bit))

pub loop-bit-preserved : goal.loop-bit-preserved
loop-bit-preserved c =
    let f : ℕ → PlainJoin = λ bit. same_join (bit_name c.args.side.now bit) in
    ap (map plain_join) c.in_ok-push.ensures.items
    ∙ map_push plain_join c.loop-bit.joins.items _
    ∙ items_more c.loop-bit.bit f (map plain_join c.loop-bit.joins.items) (map plain_join c.args.joins.now.items) _ c.loop-bit.invariant
    (c.in_ok-same_join.ensures ∙ ap same_join (c.bytes.ensures ∙ c.in_ok-name.ensures))
