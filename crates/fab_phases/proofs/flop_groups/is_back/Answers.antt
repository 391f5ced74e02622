use Rattle.std.proofs.Common.{◌+◌, refl, sym, subst}
use Rattle.fab_compiled.specs.declared.tree.Tree.{Tree}
use Rattle.fab_phases.specs.inner.Enables.{HasBack}
use Rattle.fab_phases.proofs.Grouping.{back_of}
use Rattle.fab_phases.proofs.flop_groups.is_back.Goals as goal

pub returns-then-flop-count : goal.returns-then-flop-count
returns-then-flop-count c holds =
    subst (λ (tree : Tree). HasBack c.args.demand.now tree c.args.flop) (sym c.in-Bits.is)
    (back_of c.args.demand.now c.in-Bits.place c.in-Bits.count c.args.flop (c.args.flop.next.first + c.in-Bits.place + c.args.flop.next.bit) refl c.if-flop-count.true
    (c.is_led.ensures holds))
