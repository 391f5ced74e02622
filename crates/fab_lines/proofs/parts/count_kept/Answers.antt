use Rattle.std.proofs.Common.{ℕ, List, arith, ◌∙◌, Bor}
use Rattle.fab_lines.proofs.LastItems.{empty_goes, filled_stays}
use Rattle.fab_lines.proofs.parts.count_kept.Goals as goal

pub loop-count-preserved : goal.loop-count-preserved
loop-count-preserved c = record {
  within = omega arith;
  same = empty_goes (λ (s : Bor (List ℕ)). s.now) c.args.cells.now c.loop-count.count _ c.loop-count-test.true c.loop-count.invariant.within c.if-cells-count-gt0.false ∙ c.loop-count.invariant.same;
}

pub returns-then-cells-count-gt0-clause-kept : goal.returns-then-cells-count-gt0-clause-kept
returns-then-cells-count-gt0-clause-kept c = filled_stays (λ (s : Bor (List ℕ)). s.now) c.args.cells.now c.loop-count.count _ c.loop-count-test.true c.loop-count.invariant.within c.if-cells-count-gt0.true ∙ c.loop-count.invariant.same
