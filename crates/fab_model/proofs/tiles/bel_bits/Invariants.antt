use Rattle.std.proofs.Common.{◌≡◌, sum_by, take}
use Rattle.fab_kinds.specs.Pins.{bit_count}
use Rattle.fab_model.proofs.tiles.bel_bits.Given as goal

abbrev pub invariant-loop-bel : goal.invariant-loop-bel
invariant-loop-bel l = l.bits ≡ sum_by (λ bel. bit_count bel.kind) (take l.bel-index l.bels)
