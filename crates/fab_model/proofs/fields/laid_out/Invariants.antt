use Rattle.std.proofs.Common.{◌≡◌, ◌<◌, ◌+◌, ℕ, length, sum_by, take, get_or}
use Rattle.fab_model.specs.inner.Numbering.{width_in}
use Rattle.fab_model.proofs.fields.laid_out.Given as goal

-- the fields so far, and the bit behind them
abbrev pub invariant-loop-output : goal.invariant-loop-output
invariant-loop-output l = record {
  low : l.low ≡ l.first + sum_by (width_in l.counts) (take l.output-index l.order);
  len : length l.fields.items ≡ l.output-index;
  each : (place : ℕ) → place < l.output-index →
      get_or l.fields.items place (0, 0) ≡ (l.first + sum_by (width_in l.counts) (take place l.order), width_in l.counts (get_or l.order place 0));
}
