use Rattle.std.proofs.Common.{◌≡◌, ◌+◌, ◌-◌, ◌≤◌, ◌<◌, ◌^◌}
use Rattle.fab_bits.specs.Bits.{number, first_bits}
use Rattle.fab_netlist.proofs.Rows.{asks_lower}
use Rattle.fab_netlist.proofs.wide.Cube.lower_mask.Given as goal

abbrev pub invariant-loop-low : goal.invariant-loop-low
invariant-loop-low l = record {
  within : l.low ≤ 16;
  high : l.mask ≡ number (first_bits (16 - l.low) (λ place. asks_lower l.self (l.low + place)));
  small : l.mask < 2 ^ (16 - l.low);
}

abbrev pub decreases-loop-low : goal.decreases-loop-low
decreases-loop-low l = l.low
