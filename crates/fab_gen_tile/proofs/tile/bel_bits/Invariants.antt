use Rattle.std.proofs.Common.{◌≡◌, sum_by, take}
use Rattle.fab_kinds.specs.Pins.{bit_count}
use Rattle.fab_gen_tile.proofs.tile.bel_bits.Given as goal

-- the bits of the BELs so far
abbrev pub invariant-loop-bel : goal.invariant-loop-bel
invariant-loop-bel l = l.bits ≡ sum_by (λ bel. bit_count bel.kind) (take l.bel-index l.bels)
