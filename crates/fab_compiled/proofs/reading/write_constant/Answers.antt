use Rattle.std.proofs.Common.{map, sym, ◌∙◌, arith}
use Rattle.std.proofs.lemmas.List.{length-map}
use Rattle.fab_systems_laws.specs.Ternary.{known}
use Rattle.fab_solutions_laws.proofs.fab_ternary_laws_Known.{known_at}
use Rattle.fab_ternary.specs.Terns.{plain_tern}
use Rattle.fab_compiled.proofs.Written.{plain, none_done, one_done, all_done}
use Rattle.fab_compiled.proofs.reading.write_constant.Goals as goal

pub loop-place-init : goal.loop-place-init
loop-place-init c = none_done (map known c.args.constant.now) (plain c.args.bits.now)

pub loop-place-preserved : goal.loop-place-preserved
loop-place-preserved c =
    let place = c.loop-place.place in
    one_done place (map known c.args.constant.now) (plain c.args.bits.now) c.loop-place.bits c.known.result c.loop-place.invariant
    (omega (arith, c.loop-place-test.true, c.loop-place.auto.bits)) (c.known.ensures ∙ sym (known_at c.args.constant.now place))

pub returns : goal.returns
returns c =
    all_done c.loop-place.place (map known c.args.constant.now) (plain c.args.bits.now) (plain c.loop-place.bits) c.loop-place.invariant
    (omega (arith, c.loop-place-test.false, length-map c.args.bits.now plain_tern))
    (length-map c.args.constant.now known ∙ sym c.requires ∙ sym (length-map c.args.bits.now plain_tern))
