-- The lines of a trace.
use Rattle.std.proofs.Common.{◌≡◌, List, [], ◌∷◌, map, refl, ap}
use Rattle.std.specs.Prelude.{Vec}
use Rattle.fab_ternary.specs.declared.Tern.{Tern}
use Rattle.fab_texts.specs.Rows.{Word}
use Rattle.fab_stimulus.specs.Traces.{values_line}

pub lines_same : {A : Type 0} (lines : List (Vec Tern A)) → map (λ line. values_line line.items) lines ≡ map values_line (map (λ line. line.items) lines)
lines_same [] = refl
lines_same (line ∷ lines) = ap (λ (rest : List (List Word)). values_line line.items ∷ rest) (lines_same lines)
