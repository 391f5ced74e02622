use Rattle.std.proofs.Common.{◌+◌, ◌∙◌, ap, arith, take, set, if◌then◌else◌}
use Rattle.fab_netlist.specs.declared.netlist.Latch.{Latch}
use Rattle.fab_netlist.specs.Meaning.{first_value}
use Rattle.fab_netlist.specs.Plain.{bit_at}
use Rattle.fab_netlist.proofs.Turns.{held_more}
use Rattle.fab_netlist.proofs.cycle.hold.Goals as goal

pub loop-place-preserved : goal.loop-place-preserved
loop-place-preserved c =
    ap (λ bit. take (c.loop-place.place + 1) (set c.loop-place.held c.loop-place.place bit)) c.next_value.ensures
    ∙ held_more (λ (latch : Latch). if c.args.reset then first_value latch else bit_at c.args.values.now latch.input) c.args.latches.now c.loop-place.held c.loop-place.place _ c.loop-place-test.true (omega (arith, c.loop-place.auto.held, c.requires.fits, c.loop-place-test.true)) c.loop-place.invariant
