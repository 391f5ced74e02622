use Rattle.std.proofs.Common.{ℕ, List, Bor, arith}
use Rattle.fab_tables.proofs.Products.{count_more}
use Rattle.fab_tables.proofs.expansion.count_choices.Goals as goal

pub loop-choice-preserved : goal.loop-choice-preserved
loop-choice-preserved c = record {
  fits = omega arith;
  so_far = count_more (λ (choice : Bor (List ℕ)). choice.now) c.args.choices.now c.loop-choice.choice-index _ c.loop-choice.count c.saturating_mul-count.result c.in_ok-count_alternatives.field-0 _
      c.loop-choice-test.true c.saturating_mul-count.ensures c.in_ok-count_alternatives.ensures c.loop-choice.invariant.so_far;
}
