use Rattle.std.proofs.Common.{◌++◌, ◌∷◌, [], ◌∙◌, ap, map, sym}
use Rattle.std.proofs.lemmas.List.{map_push}
use Rattle.fab_syntax.specs.Plain.{plain_join, part}
use Rattle.fab_matrix.specs.fab_meaning.specs.Ports.{config_name}
use Rattle.fab_gen_tile.specs.Names.{port_join, bits_name}
use Rattle.fab_gen_tile.proofs.Steps.{some_bits}
use Rattle.fab_gen_tile.proofs.joins.push_bits_join.Goals as goal

pub returns : goal.returns
returns c =
    ap (map plain_join) c.in_ok-push.ensures.items
    ∙ map_push plain_join c.args.joins.now.items _
    ∙ ap (λ join. map plain_join c.args.joins.now.items ++ join ∷ [])
    (c.in_ok-port_join.ensures ∙ ap (port_join config_name) (c.in_ok-value.ensures ∙ ap (λ high. part bits_name high c.args.low) c.in_ok-high.ensures))
    ∙ ap (λ joins. map plain_join c.args.joins.now.items ++ joins) (sym (some_bits c.args.low c.args.bits c.if-bits-eq0.false))
