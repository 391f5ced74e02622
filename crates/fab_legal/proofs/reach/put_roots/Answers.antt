use Rattle.std.proofs.Common.{◌+◌, List, ℕ, get_or, take, sym, ◌∙◌, subst}
use Rattle.fab_legal.specs.inner.Tables.{IsRootSet}
use Rattle.fab_legal.proofs.Lists.{at_default}
use Rattle.fab_legal.proofs.ReachSearch.{no_root, root_more}
use Rattle.fab_legal.proofs.reach.put_roots.Goals as goal

pub loop-wire-preserved-then-contains : goal.loop-wire-preserved-then-contains
loop-wire-preserved-then-contains c =
    let wires = c.as_slice-wire-items.result.now in
    no_root c.args.entered.now.keys wires c.loop-wire.wire-index (get_or wires c.loop-wire.wire-index 0) c.loop-wire.set.keys (at_default wires c.loop-wire.wire-index 0 c.loop-wire-test.true) c.loop-wire.invariant
    (sym c.contains.ensures ∙ c.if-contains.true)

pub loop-wire-preserved : goal.loop-wire-preserved
loop-wire-preserved c =
    let wires = c.as_slice-wire-items.result.now in
    subst (λ (keys : List ℕ). IsRootSet (take (c.loop-wire.wire-index + 1) wires) c.args.entered.now.keys keys) (sym c.in_ok-insert.ensures.keys)
    (root_more c.args.entered.now.keys wires c.loop-wire.wire-index (get_or wires c.loop-wire.wire-index 0) c.loop-wire.set.keys (at_default wires c.loop-wire.wire-index 0 c.loop-wire-test.true) c.loop-wire.invariant
    (sym c.contains.ensures ∙ c.if-contains.false))
