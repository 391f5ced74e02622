use Rattle.std.proofs.Common.{arith}
use Rattle.fab_fasm.proofs.Powers.{fits_more-ltb, nothing_left}
use Rattle.fab_fasm.proofs.literal.is_narrow.Goals as goal

pub returns-then-bits-ge-MOST_BITS : goal.returns-then-bits-ge-MOST_BITS
returns-then-bits-ge-MOST_BITS c = fits_more-ltb c.args.number 128 c.args.bits (omega arith) c.if-bits-ge-MOST_BITS.true

pub returns-else-bits-ge-MOST_BITS : goal.returns-else-bits-ge-MOST_BITS
returns-else-bits-ge-MOST_BITS c = nothing_left c.args.number c.args.bits
