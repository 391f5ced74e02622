use Rattle.std.proofs.Common.{◌<◌, ◌∙◌, refl, arith}
use Rattle.fab_model.specs.Tiles.{tile_bits}
use Rattle.fab_frames.proofs.Placed.{one_mapped, all_mapped}
use Rattle.fab_frames.proofs.placing.FrameMap.of.Goals as goal

pub loop-number-preserved : goal.loop-number-preserved
loop-number-preserved c =
    let few : c.loop-number.number < tile_bits c.args.tile.now = omega (arith, c.loop-number-test.true, c.bits-number-end.ensures, c.loop-number.auto.number-end) in
    one_mapped c.args.tile.now c.loop-number.placed.items _ c.places-places.result.now c.loop-number.number c.from.result c.from-in-loop-number.result
    c.requires few (c.places-places.ensures ∙ c.table.ensures) c.from.ensures c.from-in-loop-number.ensures refl c.loop-number.invariant

pub returns : goal.returns
returns c = all_mapped c.args.tile.now c.loop-number.placed.items c.loop-number.number c.requires (omega (arith, c.loop-number-test.false)) c.loop-number.invariant
