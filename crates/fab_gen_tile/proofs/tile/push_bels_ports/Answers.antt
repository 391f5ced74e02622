use Rattle.std.proofs.Common.{◌++◌, ◌∙◌, ap, sym, take, arith}
use Rattle.fab_gen_tile.specs.TileModule.{pad_ports, bels_ports}
use Rattle.fab_gen_tile.proofs.Steps.{behind, flat_placed_more}
use Rattle.fab_gen_tile.proofs.tile.push_bels_ports.Goals as goal

pub loop-place-preserved : goal.loop-place-preserved
loop-place-preserved c =
    let bel = c.index-bels-place.result in
    c.in_ok-push_pad_ports.ensures
    ∙ behind c.loop-place.ports.items c.args.ports.now.items _ _ _ c.loop-place.invariant
    (ap (λ b. bels_ports (take c.loop-place.place c.args.bels.now) ++ pad_ports c.loop-place.place b.kind) c.index-bels-place.is
    ∙ sym (flat_placed_more (λ placed. pad_ports placed.0 placed.1.kind) c.args.bels.now c.loop-place.place bel (omega (arith, c.loop-place-test.true, c.loop-place.auto.place-end))))
