use Rattle.std.proofs.Common.{◌∙◌, true, [], ◌∷◌, ◌++◌, ap, append_assoc}
use Rattle.std.proofs.lemmas.Result.{on_ok_weaker}
use Rattle.fab_gen_tile.specs.Names.{frame_data_name, frame_strobe_name, vector}
use Rattle.fab_gen_tile.proofs.config.push_frame_ports.Goals as goal

pub returns : goal.returns
returns c =
    let strobe = vector true 20 frame_strobe_name in
    on_ok_weaker c.push_vector-2.result
    (λ last.
    last
    ∙ ap (λ ports. ports ++ strobe ∷ []) c.in_ok-push_vector.ensures
    ∙ append_assoc c.args.ports.now.items (vector true 32 frame_data_name ∷ []) (strobe ∷ []))
    c.push_vector-2.ensures
