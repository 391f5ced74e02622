use Rattle.std.proofs.Common.{◌≡◌, ◌++◌, map}
use Rattle.fab_syntax.specs.Plain.{plain_join}
use Rattle.fab_model.specs.Rows.{bit_name}
use Rattle.fab_model.specs.Tiles.{counted}
use Rattle.fab_gen_tile.specs.Names.{same_join}
use Rattle.fab_gen_tile.proofs.joins.push_bits.Given as goal

-- the joins so far
abbrev pub invariant-loop-bit : goal.invariant-loop-bit
invariant-loop-bit l = map plain_join l.joins.items ≡ map plain_join l.initial.joins.items ++ counted l.bit (λ bit. same_join (bit_name l.side bit))
