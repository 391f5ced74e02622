use Rattle.std.proofs.Common.{◌<◌, map, length, sym, ap, ◌∙◌, arith}
use Rattle.std.proofs.lemmas.List.{length-map}
use Rattle.fab_solutions_laws.specs.fab_ternary_laws_Operators.{inverse as inverse_of}
use Rattle.fab_ternary.specs.Terns.{plain_tern}
use Rattle.fab_compiled.proofs.Bits.{inverse_at}
use Rattle.fab_compiled.proofs.Written.{plain, none_done, one_done, all_done, read}
use Rattle.fab_compiled.proofs.whole_values.invert.Goals as goal

pub loop-place-init : goal.loop-place-init
loop-place-init c = none_done (map inverse_of (plain c.args.bits.now)) (plain c.args.bits.now)

pub loop-place-preserved : goal.loop-place-preserved
loop-place-preserved c =
    let old = plain c.args.bits.now in
    let place = c.loop-place.place in
    let within : place < length old = omega (arith, c.loop-place-test.true, length-map c.args.bits.now plain_tern) in
    one_done place (map inverse_of old) old c.loop-place.bits c.inverse.result c.loop-place.invariant (omega (arith, c.loop-place-test.true, c.loop-place.auto.bits))
    (c.inverse.ensures ∙ ap inverse_of (read c.loop-place.bits place ∙ c.loop-place.invariant.after place (omega arith)) ∙ sym (inverse_at old place within))

pub returns : goal.returns
returns c =
    let old = plain c.args.bits.now in
    all_done c.loop-place.place (map inverse_of old) old (plain c.loop-place.bits) c.loop-place.invariant
    (omega (arith, c.loop-place-test.false, length-map c.args.bits.now plain_tern)) (length-map old inverse_of)
