use Rattle.std.proofs.Common.{map, take, reverse, sym, subst}
use Rattle.fab_syntax.specs.Plain.{plain_module}
use Rattle.fab_equations.specs.Counting.{AreCounts}
use Rattle.fab_equations.proofs.Counted.{reversed_push}
use Rattle.fab_equations.proofs.counts.module_counts.Goals as goal

pub loop-module-preserved : goal.loop-module-preserved
loop-module-preserved c =
    let modules = c.args.modules.now in
    let i = c.loop-module.module-index in
    subst (λ ms. AreCounts ms c.count_module.new.counts.entries) (sym (reversed_push modules i c.module-item.result c.loop-module-test.true c.module-item.is))
    (c.in_ok-count_module.ensures (reverse (map plain_module (take i modules))) c.loop-module.invariant)
