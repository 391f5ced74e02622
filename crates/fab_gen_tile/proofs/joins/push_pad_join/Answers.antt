use Rattle.std.proofs.Common.{◌++◌, ◌∷◌, [], ◌∙◌, ap, map}
use Rattle.std.proofs.lemmas.List.{map_push}
use Rattle.fab_syntax.specs.Plain.{plain_join, variable}
use Rattle.fab_gen_tile.specs.Names.{port_join}
use Rattle.fab_gen_tile.proofs.joins.push_pad_join.Goals as goal

pub returns : goal.returns
returns c =
    ap (map plain_join) c.in_ok-push.ensures.items
    ∙ map_push plain_join c.args.joins.now.items _
    ∙ ap (λ join. map plain_join c.args.joins.now.items ++ join ∷ []) (c.in_ok-port_join.ensures ∙ ap (λ name. port_join c.args.port.now (variable name)) c.in_ok-name.ensures)
