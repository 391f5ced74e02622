use Rattle.std.proofs.Common.{◌≤◌, ◌^◌, ◌∙◌, sym, arith}
use Rattle.std.proofs.lemmas.Bool.{le-ltb}
use Rattle.fab_fasm.specs.Values.{value_number, room}
use Rattle.fab_fasm.specs.inner.Plain.{plain_literal}
use Rattle.fab_fasm.proofs.Numerals.{small_is_none}
use Rattle.fab_fasm.proofs.Powers.{power_more}
use Rattle.fab_fasm.proofs.literal.Literal.fits.Goals as goal

pub returns-then-room-le-MOST_BITS : goal.returns-then-room-le-MOST_BITS
returns-then-room-le-MOST_BITS c =
    let number = value_number (plain_literal c.args.self.now) in
    let bits = room c.args.self.now.width c.args.bits in
    let large : 2 ^ 128 ≤ number = small_is_none number (sym c.in-None.is ∙ c.requires) in
    let few : bits ≤ 128 = omega arith in
    let power : 2 ^ bits ≤ 2 ^ 128 = power_more bits 128 few in
    sym (le-ltb number (2 ^ bits) (omega arith))
