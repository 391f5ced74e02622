use Rattle.std.proofs.Common.{◌++◌, ◌∷◌, codes, replicate, ◌∙◌, ap, arith, ℕ, List}
use Rattle.std.specs.List.{flat_map}
use Rattle.fab_sample.proofs.Steps.{at_end, grid_row_is}
use Rattle.fab_sample.proofs.fabric.grid_row.Goals as goal

pub returns : goal.returns
returns c =
    let row : ℕ → List ℕ = λ n. codes "SW" ++ flat_map (λ part. 44 ∷ part) (replicate n (codes "SLOG")) in
    let whole = c.loop-column.invariant ∙ at_end row c.loop-column._column c.args.size (omega arith) (omega arith) in
    c.from.ensures ∙ c.in_ok-put-2.ensures ∙ ap (λ (l : List ℕ). l ++ codes ",SE") whole ∙ grid_row_is c.args.size
