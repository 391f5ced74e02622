use Rattle.std.proofs.Common.{◌≡◌, ◌-◌, ◌^◌, ◌<◌, ◌≤◌}
use Rattle.fab_bits.specs.Widths.{width_from}
use Rattle.fab_bits.proofs.select_width.Given as goal

abbrev pub invariant-loop-values : goal.invariant-loop-values
invariant-loop-values l = record {
  power : l.values ≡ 2 ^ l.width;
  small : l.values < 2 ^ 33;
  within : l.width ≤ l.n;
  same : width_from (l.n - l.width) l.width l.n ≡ width_from l.n 0 l.n;
  below : 0 < l.width → 2 ^ (l.width - 1) < l.n;
}

abbrev pub decreases-loop-values : goal.decreases-loop-values
decreases-loop-values l = l.n - l.values
