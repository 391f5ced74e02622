use Rattle.std.proofs.Common.{List, get_or, refl, subst, arith}
use Rattle.fab_fabric.specs.declared.wire.Site.{Site}
use Rattle.fab_ways_laws.proofs.fab_legal_Lists.{at_default}
use Rattle.fab_ways_laws.specs.Placing.{no_site}
use Rattle.fab_place.proofs.Constrained.{AreNumbered, numbers_more}
use Rattle.fab_place.proofs.Linked.{take_past}
use Rattle.fab_place.proofs.constraints.numbers_of.Goals as goal

pub loop-number-preserved : goal.loop-number-preserved
loop-number-preserved c =
    let pads = c.args.pads.now in
    let n = c.loop-number.number in
    numbers_more pads n n c.loop-number.numbers.entries c.insert.new.self.entries (get_or pads n no_site) c.requires.apart (at_default pads n no_site c.loop-number-test.true) refl c.in_ok-insert.ensures.entries c.loop-number.invariant

pub returns : goal.returns
returns c =
    subst (λ (pads : List Site). AreNumbered pads c.loop-number.numbers.entries) (take_past c.loop-number.number c.args.pads.now (omega (arith, c.loop-number-test.false, c.loop-number.auto.number-end))) c.loop-number.invariant
