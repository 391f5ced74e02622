use Rattle.std.proofs.Common.{rules, ◌≡◌, ℕ, List, get_or, subst}
use Rattle.std.proofs.lemmas.List.{take_all}
use Rattle.fab_timing.specs.inner.Tables.{sum_at, IsLatestEnd}
use Rattle.fab_timing.specs.inner.Trails.{better}
use Rattle.fab_timing.proofs.Trails.{best_turn}
use Rattle.fab_timing.proofs.trace.latest_end.Goals as goal

pub loop-node-preserved : goal.loop-node-preserved
loop-node-preserved c =
    let ends = c.args.ends.now in
    let place = c.loop-node.node-index in
    let is : c.better-latest.result ≡ better c.loop-node.latest (get_or ends place (0, 0)) (sum_at c.args.sums.now (get_or ends place (0, 0)).0) = search rules in
    best_turn (sum_at c.args.sums.now) ends place (0, 0) c.loop-node.latest c.better-latest.result c.loop-node-test.true c.loop-node.invariant is

pub returns : goal.returns
returns c =
    subst (λ (ends : List (ℕ × ℕ)). IsLatestEnd ends (sum_at c.args.sums.now) c.loop-node.latest) (take_all c.loop-node.node-index c.args.ends.now c.loop-node-test.false) c.loop-node.invariant
