use Rattle.std.proofs.Common.{◌<◌, map, length, sym, ◌∙◌, arith}
use Rattle.std.proofs.lemmas.List.{length-map}
use Rattle.fab_systems_laws.specs.Ternary.{unknown}
use Rattle.fab_ternary.specs.declared.Tern.TheVariants.{Open}
use Rattle.fab_ternary.specs.Terns.{plain_tern}
use Rattle.fab_compiled.proofs.Bits.{open_at}
use Rattle.fab_compiled.proofs.Written.{plain, none_done, one_done, all_done, open_difference}
use Rattle.fab_compiled.proofs.whole_values.forget.Goals as goal

pub loop-place-init : goal.loop-place-init
loop-place-init c = none_done (map (λ t. unknown) (plain c.args.left.now)) (plain c.args.left.now)

pub loop-place-preserved : goal.loop-place-preserved
loop-place-preserved c =
    let old = plain c.args.left.now in
    let place = c.loop-place.place in
    let within : place < length old = omega (arith, c.loop-place-test.true, length-map c.args.left.now plain_tern) in
    one_done place (map (λ t. unknown) old) old c.loop-place.left Open c.loop-place.invariant (omega (arith, c.loop-place-test.true, c.loop-place.auto.left))
    (sym (open_at old place within))

pub returns : goal.returns
returns c =
    let old = plain c.args.left.now in
    all_done c.loop-place.place (map (λ t. unknown) old) old (plain c.loop-place.left) c.loop-place.invariant
    (omega (arith, c.loop-place-test.false, length-map c.args.left.now plain_tern)) (length-map old (λ t. unknown))
    ∙ open_difference old (plain c.args.right.now) c.requires
