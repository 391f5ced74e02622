use Rattle.std.proofs.Common.{rules, ◌≡◌, ◌↔◌, ◌∙◌, ℕ, List, None, Some, Contains, Option, ap, get_or, length, replicate, subst, arith}
use Rattle.std.proofs.lemmas.List.{length-set, length-replicate, take_all}
use Rattle.fab_legal.proofs.Lists.{at_default}
use Rattle.fab_timing.specs.inner.Tables.{sum_at}
use Rattle.fab_timing.proofs.Starts.{none_set, no_starts, start_more}
use Rattle.fab_timing.proofs.steps.start_table.Goals as goal

pub loop-node-init : goal.loop-node-init
loop-node-init c =
    let items : c.in_ok-table.table.items ≡ replicate c.args.count None = c.in_ok-table.ensures.items_if_clones_equal (λ y is. search rules) in
    record {
      len = ap length items ∙ length-replicate {A = Option ℕ} c.args.count None;
      starts = no_starts c.in_ok-table.table.items c.args.starts.now (none_set c.in_ok-table.table.items c.args.count items);
    }

pub loop-node-preserved : goal.loop-node-preserved
loop-node-preserved c =
    let none : ℕ × ℕ = (0, 0) in
    let starts = c.args.starts.now in
    let start : ℕ × ℕ = get_or starts c.loop-node.node-index none in
    let at = at_default starts c.loop-node.node-index none c.loop-node-test.true in
    let inside = c.requires.within c.loop-node.node-index none c.loop-node-test.true in
    record {
      len = length-set c.loop-node.table.items start.0 (Some start.1) ∙ c.loop-node.invariant.len;
      starts = start_more c.loop-node.table.items starts c.loop-node.node-index start c.requires.apart at.0 at.1 (omega (arith, inside, c.loop-node.invariant.len)) c.loop-node.invariant.starts;
    }

pub returns-clause-starts : goal.returns-clause-starts
returns-clause-starts c =
    let table = c.loop-node.table.items in
    subst (λ (starts : List (ℕ × ℕ)). (node units : ℕ) → (sum_at table node ≡ Some units) ↔ Contains starts (node, units)) (take_all c.loop-node.node-index c.args.starts.now c.loop-node-test.false)
    c.loop-node.invariant.starts
