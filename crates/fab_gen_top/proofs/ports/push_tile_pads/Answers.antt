use Rattle.std.proofs.Common.{◌++◌, ◌∙◌, ap, sym, take, arith}
use Rattle.std.specs.List.{flat_map, enumerate_from}
use Rattle.fab_model.specs.declared.tiles.Bel.{Bel}
use Rattle.fab_text_loads_laws.specs.fab_fabric_text_defs_Top.{pad_ports}
use Rattle.fab_gen_tile.proofs.Steps.{behind, flat_placed_more}
use Rattle.fab_gen_top.proofs.ports.push_tile_pads.Goals as goal

pub loop-number-preserved : goal.loop-number-preserved
loop-number-preserved c =
    let i = c.loop-number.number in
    let xs = c.args.bels.now in
    let x = c.index-bels-number.result in
    c.in_ok-push_bel_pads.ensures
    ∙ behind c.loop-number.ports.items c.args.ports.now.items _ _ _ c.loop-number.invariant
    (ap (λ (b : Bel). flat_map (pad_ports c.args.place.x c.args.place.y) (enumerate_from 0 (take i xs)) ++ (pad_ports c.args.place.x c.args.place.y) (i, b)) c.index-bels-number.is
    ∙ sym (flat_placed_more (pad_ports c.args.place.x c.args.place.y) xs i x (omega (arith, c.loop-number-test.true, c.loop-number.auto.number-end))))
