use Rattle.std.proofs.Common.{◌≡◌, ◌+◌, ◌⊎◌, bit_and}
use Rattle.fab_wide.proofs.Blocks.{first_of, marked_from}
use Rattle.fab_wide.proofs.marks.mark.Given as goal

abbrev pub invariant-loop-above : goal.invariant-loop-above
invariant-loop-above l = record {
  free_alone : (l.above ≡ l.free + 1) ⊎ (bit_and l.above l.free ≡ l.above);
  so_far : l.words ≡ marked_from l.care l.value l.bits (first_of l.value l.above) l.initial.words;
}

abbrev pub decreases-loop-above : goal.decreases-loop-above
decreases-loop-above l = l.above
