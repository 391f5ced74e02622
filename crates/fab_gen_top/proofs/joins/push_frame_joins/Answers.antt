use Rattle.std.proofs.Common.{◌≡◌, ◌∙◌, ◌++◌, ◌∷◌, [], ap, append_assoc, map, refl}
use Rattle.fab_syntax.specs.Plain.{PlainJoin, plain_join, variable}
use Rattle.fab_gen_loader.specs.Loader.{row_port}
use Rattle.fab_gen_tile.specs.Names.{frame_data_name, frame_strobe_name, port_join}
use Rattle.fab_text_loads_laws.specs.fab_fabric_text_defs_Names.{column_strobe_name}
use Rattle.fab_gen_top.proofs.Steps.{pushed}
use Rattle.fab_gen_top.proofs.joins.push_frame_joins.Goals as goal

pub returns : goal.returns
returns c =
    let old = map plain_join c.args.joins.now.items in
    let word : PlainJoin = port_join frame_data_name (variable (row_port c.args.place.y)) in
    let strobe : PlainJoin = port_join frame_strobe_name (variable (column_strobe_name c.args.place.x)) in
    let first : map plain_join c.push.new.self.items ≡ old ++ word ∷ [] =
    pushed plain_join c.args.joins.now.items c.push.new.self.items _ old word c.in_ok-push.ensures.items refl
    (c.in_ok-port_join.ensures ∙ ap (λ name. port_join frame_data_name (variable name)) c.in_ok-row_name.ensures) in
    pushed plain_join c.push.new.self.items c.push-2.new.self.items _ (old ++ word ∷ []) strobe c.in_ok-push-2.ensures.items first
    (c.in_ok-port_join-2.ensures ∙ ap (λ name. port_join frame_strobe_name (variable name)) c.in_ok-column_strobe_name.ensures)
    ∙ append_assoc old (word ∷ []) (strobe ∷ [])
