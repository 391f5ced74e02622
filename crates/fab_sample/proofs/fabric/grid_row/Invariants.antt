use Rattle.std.proofs.Common.{◌≡◌, ◌++◌, ◌∷◌, codes, replicate}
use Rattle.std.specs.List.{flat_map}
use Rattle.fab_sample.proofs.fabric.grid_row.Given as goal

abbrev pub invariant-loop-column : goal.invariant-loop-column
invariant-loop-column l = l.row.items ≡ codes "SW" ++ flat_map (λ part. 44 ∷ part) (replicate l._column (codes "SLOG"))
