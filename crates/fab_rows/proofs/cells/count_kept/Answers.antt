use Rattle.std.proofs.Common.{◌≡◌, ◌<◌, ◌≤◌, ◌-◌, ℕ, List, length, get_or, ◌∙◌, sym, ap, arith, subst}
use Rattle.fab_rows.proofs.Kept.{empty_goes, filled_stays}
use Rattle.fab_rows.proofs.cells.count_kept.Goals as goal

pub loop-count-preserved : goal.loop-count-preserved
loop-count-preserved c =
    let seen = ap length (c.bytes.ensures ∙ c.index-cells-count.is) in
    let none : length (get_or c.args.cells.now (c.loop-count.count - 1) c.index-cells-count.result) ≤ 0 = omega (arith, seen) in
    record {
      within = omega arith;
      same = empty_goes c.args.cells.now c.loop-count.count c.index-cells-count.result c.loop-count-test.true c.loop-count.invariant.within none ∙ c.loop-count.invariant.same;
    }

pub returns-then-bytes-gt0-clause-kept : goal.returns-then-bytes-gt0-clause-kept
returns-then-bytes-gt0-clause-kept c =
    let seen = ap length (c.bytes.ensures ∙ c.index-cells-count.is) in
    let filled : 0 < length (get_or c.args.cells.now (c.loop-count.count - 1) c.index-cells-count.result) = omega (arith, seen) in
    filled_stays c.args.cells.now c.loop-count.count c.index-cells-count.result c.loop-count-test.true c.loop-count.invariant.within filled ∙ c.loop-count.invariant.same
