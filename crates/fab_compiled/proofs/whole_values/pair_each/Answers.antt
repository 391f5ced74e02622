use Rattle.std.proofs.Common.{◌≡◌, ◌<◌, length, sym, ap₂, ◌∙◌, arith}
use Rattle.std.proofs.lemmas.List.{length-map}
use Rattle.fab_solutions_laws.specs.fab_ternary_laws_Operators.{each_tern}
use Rattle.fab_ternary.specs.Terns.{plain_tern}
use Rattle.fab_compiled.specs.Pairs.{by}
use Rattle.fab_compiled.proofs.Bits.{each_at}
use Rattle.fab_compiled.proofs.Lengths.{length_each}
use Rattle.fab_compiled.proofs.Written.{plain, none_done, one_done, all_done, read}
use Rattle.fab_compiled.proofs.whole_values.pair_each.Goals as goal

pub loop-place-init : goal.loop-place-init
loop-place-init c = none_done (each_tern (by c.args.pairing) (plain c.args.left.now) (plain c.args.right.now)) (plain c.args.left.now)

pub loop-place-preserved : goal.loop-place-preserved
loop-place-preserved c =
    let old = plain c.args.left.now in
    let right = plain c.args.right.now in
    let place = c.loop-place.place in
    let within : place < length old = omega (arith, c.loop-place-test.true, length-map c.args.left.now plain_tern) in
    let same : length old ≡ length right = length-map c.args.left.now plain_tern ∙ c.requires ∙ sym (length-map c.args.right.now plain_tern) in
    one_done place (each_tern (by c.args.pairing) old right) old c.loop-place.left c.pair.result c.loop-place.invariant
    (omega (arith, c.loop-place-test.true, c.loop-place.auto.left))
    (c.pair.ensures
    ∙ ap₂ (by c.args.pairing) (read c.loop-place.left place ∙ c.loop-place.invariant.after place (omega arith)) (read c.args.right.now place)
    ∙ sym (each_at (by c.args.pairing) old right place within same))

pub returns : goal.returns
returns c =
    let old = plain c.args.left.now in
    let right = plain c.args.right.now in
    let same : length old ≡ length right = length-map c.args.left.now plain_tern ∙ c.requires ∙ sym (length-map c.args.right.now plain_tern) in
    all_done c.loop-place.place (each_tern (by c.args.pairing) old right) old (plain c.loop-place.left) c.loop-place.invariant
    (omega (arith, c.loop-place-test.false, length-map c.args.left.now plain_tern)) (length_each (by c.args.pairing) old right same)
