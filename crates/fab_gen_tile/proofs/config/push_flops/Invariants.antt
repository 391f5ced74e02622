use Rattle.std.proofs.Common.{◌≡◌, ◌++◌, map}
use Rattle.fab_model.specs.Tiles.{counted}
use Rattle.fab_syntax.specs.Plain.{plain_item}
use Rattle.fab_gen_tile.specs.ConfigModule.{bit_flop}
use Rattle.fab_gen_tile.proofs.config.push_flops.Given as goal

-- the items so far are those of the bits so far
abbrev pub invariant-loop-bit : goal.invariant-loop-bit
invariant-loop-bit l = map plain_item l.items.items ≡ map plain_item l.initial.items.items ++ counted l.bit bit_flop
