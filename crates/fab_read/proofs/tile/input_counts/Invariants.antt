use Rattle.std.proofs.Common.{◌≡◌, ℕ, length, map, nat_eq, take, get_or}
use Rattle.fab_model.specs.Tiles.{pair_numbers}
use Rattle.fab_list_files.specs.Sides.{input_count}
use Rattle.fab_read.proofs.tile.input_counts.Given as goal

-- the counts are those of the pairs so far
abbrev pub invariant-loop-pair : goal.invariant-loop-pair
invariant-loop-pair l = record {
  len : length l.counts.items ≡ l.names;
  counts : (output : ℕ) → get_or l.counts.items output 0 ≡ input_count nat_eq (map pair_numbers (take l.pair-index l.pairs)) output;
}
