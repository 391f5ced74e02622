use Rattle.std.proofs.Common.{◌≡◌, ◌++◌, false}
use Rattle.fab_model.specs.Tiles.{counted}
use Rattle.fab_matrix.specs.fab_meaning.specs.Ports.{scalar}
use Rattle.fab_gen_tile.specs.Names.{begin_name}
use Rattle.fab_gen_tile.proofs.borders.push_begin_ports.Given as goal

-- the ports so far
abbrev pub invariant-loop-bit : goal.invariant-loop-bit
invariant-loop-bit l = l.ports.items ≡ l.initial.ports.items ++ counted l.bit (λ bit. scalar false (begin_name l.row bit))
