use Rattle.std.proofs.Common.{◌<◌, length, get_or, ◌∙◌, ap, arith}
use Rattle.std.proofs.lemmas.Option.{slice_get-get_or}
use Rattle.fab_ternary.specs.Terns.{is_one}
use Rattle.fab_ternary.specs.declared.Tern.TheVariants.{No}
use Rattle.fab_network.specs.Passes.{kept_tern}
use Rattle.fab_phases.proofs.Ticking.{kept_get}
use Rattle.fab_sim.proofs.Ended.{all_shown, shown_more}
use Rattle.fab_sim.proofs.stepper.show.Goals as goal

pub loop-place-init : goal.loop-place-init
loop-place-init c place point bit l e f = absurd (omega arith)

pub loop-place-preserved : goal.loop-place-preserved
loop-place-preserved c =
    let outs = c.args.outs.now in
    let place = c.loop-place.place in
    let point = get_or outs place 0 in
    let at = slice_get-get_or outs place 0 c.loop-place-test.true in
    let inside : point < length c.args.terns.now = c.requires.outs place point at in
    shown_more outs (kept_tern c.args.terns.now) place c.loop-place.outputs point c.is_yes.result at (c.is_yes.ensures ∙ ap is_one (kept_get c.args.terns.now point No inside))
    c.loop-place.invariant

pub returns : goal.returns
returns c =
    all_shown c.args.outs.now (kept_tern c.args.terns.now) c.loop-place.outputs (omega (arith, c.requires.outputs))
    (λ place point bit l e f. c.loop-place.invariant place point bit (omega (arith, l)) e f)
