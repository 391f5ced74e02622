use Rattle.std.proofs.Common.{◌++◌, ◌∷◌, [], ◌∙◌, ap, map, sym, append-nil}
use Rattle.fab_syntax.specs.declared.tree.Port.{Port}
use Rattle.fab_syntax.specs.Plain.{plain_join}
use Rattle.fab_matrix.specs.fab_meaning.specs.Runs.{clock_name}
use Rattle.fab_matrix.specs.fab_meaning.specs.Loading.{write_strobe_name}
use Rattle.fab_gen_tile.specs.Names.{frame_data_name, frame_strobe_name, chain_in_name, chain_out_name, same_join}
use Rattle.fab_gen_tile.specs.ConfigModule.{config_ports}
use Rattle.fab_gen_tile.proofs.Steps.{join_more}
use Rattle.fab_gen_tile.proofs.joins.push_carrying_joins.Goals as goal

pub returns-in_ok-push-in-Frames-2 : goal.returns-in_ok-push-in-Frames-2
returns-in_ok-push-in-Frames-2 c =
    let front = map plain_join c.args.joins.now.items in
    let frame_data = same_join frame_data_name in
    ap (map plain_join) c.in_ok-push-in-Frames-2.ensures.items
    ∙ join_more _ _ front (frame_data ∷ []) (same_join frame_strobe_name)
    (ap (map plain_join) c.in_ok-push-in-Frames.ensures.items
    ∙ join_more _ _ front [] frame_data (sym (append-nil front)) c.in_ok-same_join-in-Frames.ensures)
    c.in_ok-same_join-in-Frames-2.ensures
    ∙ ap (λ mode. front ++ map (λ (port : Port). same_join port.name) (config_ports mode)) (sym c.in-Frames.is)

pub returns-in_ok-push-in-Chain-4 : goal.returns-in_ok-push-in-Chain-4
returns-in_ok-push-in-Chain-4 c =
    let front = map plain_join c.args.joins.now.items in
    let clock = same_join clock_name in
    let strobe = same_join write_strobe_name in
    let chain_in = same_join chain_in_name in
    ap (map plain_join) c.in_ok-push-in-Chain-4.ensures.items
    ∙ join_more _ _ front (clock ∷ strobe ∷ chain_in ∷ []) (same_join chain_out_name)
    (ap (map plain_join) c.in_ok-push-in-Chain-3.ensures.items
    ∙ join_more _ _ front (clock ∷ strobe ∷ []) chain_in
    (ap (map plain_join) c.in_ok-push-in-Chain-2.ensures.items
    ∙ join_more _ _ front (clock ∷ []) strobe
    (ap (map plain_join) c.in_ok-push-in-Chain.ensures.items
    ∙ join_more _ _ front [] clock (sym (append-nil front)) c.in_ok-same_join-in-Chain.ensures)
    c.in_ok-same_join-in-Chain-2.ensures)
    c.in_ok-same_join-in-Chain-3.ensures)
    c.in_ok-same_join-in-Chain-4.ensures
    ∙ ap (λ mode. front ++ map (λ (port : Port). same_join port.name) (config_ports mode)) (sym c.in-Chain.is)
