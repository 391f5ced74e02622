use Rattle.std.proofs.Common.{◌≡◌, ◌++◌, map, reverse}
use Rattle.fab_model.specs.Tiles.{counted}
use Rattle.fab_syntax.specs.Plain.{plain_expr, variable}
use Rattle.fab_gen_tile.specs.Names.{latch_name}
use Rattle.fab_gen_tile.proofs.config.latches_down.Given as goal

-- the latches so far, and then those of the bits that are left
abbrev pub invariant-loop-bit : goal.invariant-loop-bit
invariant-loop-bit l =
    map plain_expr l.latches.items ++ reverse (counted l.bit (λ bit. variable (latch_name bit))) ≡ reverse (counted l.bits (λ bit. variable (latch_name bit)))
