use Rattle.std.proofs.Common.{◌≡◌, map}
use Rattle.fab_tables.proofs.cell.pieces.Given as goal

abbrev pub invariant-loop-piece : goal.invariant-loop-piece
invariant-loop-piece l = map (λ s. s.now) l.pieces.items ≡ map (λ s. s.now) l.yielded
