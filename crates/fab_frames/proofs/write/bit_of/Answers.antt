use Rattle.std.proofs.Common.{◌∙◌, sym}
use Rattle.fab_frames.specs.inner.Taking.{plain_part}
use Rattle.fab_frames.proofs.Standing.{placed_is_bit, placed_has_bit}
use Rattle.fab_frames.proofs.write.bit_of.Goals as goal

pub get-requires : goal.get-requires
get-requires c =
    let of = placed_is_bit c.args.fabric.now (plain_part c.args.part) c.args.bit c.in-Some.at c.requires.places.maps.is_fabric c.requires.part (sym c.at.ensures ∙ c.in-Some.is) in
    placed_has_bit c.args.fabric.now c.in-Some.at c.args.bits.now of c.requires.bits
