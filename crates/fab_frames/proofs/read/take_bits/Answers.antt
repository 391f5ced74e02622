use Rattle.std.proofs.Common.{◌≡◌, ◌<◌, ◌∙◌, not, sym, ap, arith}
use Rattle.fab_frames.specs.inner.Taking.{plain_part, placed_by}
use Rattle.fab_frames.proofs.Standing.{placed_is_bit, placed_has_bit, placed_once}
use Rattle.fab_frames.proofs.Taken.{ArePlacedOnce, still_bits, bit_set, bit_passed, spare_found, none_spare}
use Rattle.fab_frames.proofs.read.take_bits.Goals as goal
use Rattle.fab_frames.proofs.read.take_bits.Goals.{in-Some, in-None+else-value}

pub set-requires : goal.set-requires
set-requires c =
    let part = plain_part c.args.part in
    let placed = placed_by c.args.fabric.now part in
    let there : placed c.loop-bit.bit ≡ _ = sym c.at.ensures ∙ c.in-Some.is in
    let of = placed_is_bit c.args.fabric.now part c.loop-bit.bit c.in-Some.at c.requires.places.maps.is_fabric c.requires.part there in
    placed_has_bit c.args.fabric.now c.in-Some.at c.loop-bit.bits of
    (still_bits c.args.fabric.now placed c.args.word c.loop-bit.bit c.args.bits.now c.loop-bit.bits c.requires.bits c.loop-bit.invariant)

pub returns-then-value-clause-spare : goal.returns-then-value-clause-spare
returns-then-value-clause-spare c =
    let placed = placed_by c.args.fabric.now (plain_part c.args.part) in
    let small : c.loop-bit.bit < 32 = omega (arith, c.loop-bit-test.true) in
    sym (ap not (spare_found placed c.args.word c.loop-bit.bit c.word_bit-value.result small (sym c.at.ensures ∙ c.in-None.is) c.word_bit-value.ensures c.if-value.true))

pub returns-clause-spare : goal.returns-clause-spare
returns-clause-spare c =
    let placed = placed_by c.args.fabric.now (plain_part c.args.part) in
    sym (ap not (none_spare placed c.args.word c.loop-bit.bit c.args.bits.now c.loop-bit.bits (omega (arith, c.loop-bit-test.false)) c.loop-bit.invariant))

pub loop-bit-preserved : goal.loop-bit-preserved
loop-bit-preserved c =
    let part = plain_part c.args.part in
    let placed = placed_by c.args.fabric.now part in
    let small : c.loop-bit.bit < 32 = omega (arith, c.loop-bit-test.true) in
    let once : ArePlacedOnce placed = λ first second at few few2 there there2.
    (placed_once c.args.fabric.now part part first second at c.requires.part c.requires.part few few2 there there2).1 in
    elim c.match-at.branch [
      | in-Some w ↦
          rw w.bits-is (bit_set placed c.args.word c.loop-bit.bit w.in-Some.at c.word_bit-value.result c.args.bits.now c.loop-bit.bits w.set.new.self
          small once (sym c.at.ensures ∙ w.in-Some.is) c.word_bit-value.ensures w.set.ensures c.loop-bit.invariant)
      | in-None+else-value w ↦
          rw w.bits-is (bit_passed placed c.args.word c.loop-bit.bit c.word_bit-value.result c.args.bits.now c.loop-bit.bits
          (sym c.at.ensures ∙ w.in-None.is) c.word_bit-value.ensures w.if-value.false c.loop-bit.invariant)
    ]
