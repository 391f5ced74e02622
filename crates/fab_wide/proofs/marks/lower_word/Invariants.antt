use Rattle.std.proofs.Common.{◌≡◌, ◌+◌, ◌-◌, ◌≤◌, ◌<◌, ◌^◌}
use Rattle.fab_bits.specs.Bits.{number, first_bits}
use Rattle.fab_netlist.proofs.Rows.{asks_lower}
use Rattle.fab_wide.proofs.marks.lower_word.Given as goal

abbrev pub invariant-loop-low : goal.invariant-loop-low
invariant-loop-low l = record {
  within : l.low ≤ 16;
  high : l.word ≡ number (first_bits (16 - l.low) (λ place. asks_lower l.row (l.low + place)));
  small : l.word < 2 ^ (16 - l.low);
}

abbrev pub decreases-loop-low : goal.decreases-loop-low
decreases-loop-low l = l.low
