use Rattle.std.proofs.Common.{◌≡◌, ℕ, List, take, unwrap_or}
use Rattle.std.specs.Str.{bytes_eq}
use Rattle.std.specs.Map.{lookup}
use Rattle.fab_list_files.specs.Sides.{input_count}
use Rattle.fab_list_files.proofs.crowd.count_inputs.Given as goal

abbrev pub invariant-loop-pair : goal.invariant-loop-pair
invariant-loop-pair l = (output : List ℕ) → unwrap_or (lookup (λ key. bytes_eq output key.items) l.counts.entries) 0 ≡ input_count bytes_eq (take l.pair-index l.pairs) output
