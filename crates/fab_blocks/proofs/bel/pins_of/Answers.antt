use Rattle.std.proofs.Common.{◌<◌, List, ℕ, ◌++◌, ◌∷◌, [], map, take, length, length-append, ap, ◌∙◌, arith}
use Rattle.fab_kinds.specs.Pins.{pin_names, input_names, output_names}
use Rattle.fab_blocks.proofs.Fine.{pins_more}
use Rattle.fab_blocks.proofs.bel.pins_of.Goals as goal

pub loop-pin-preserved : goal.loop-pin-preserved
loop-pin-preserved c =
    let kind = c.args.kind in
    let within : c.loop-pin.pin < length (pin_names kind) = omega (arith, length-append (input_names kind) (output_names kind), c.inputs.ensures, c.outputs.ensures) in
    c.in_ok-push.ensures.items
    ∙ ap (λ (l : List (List ℕ)). l ++ c.in_ok-name.name ∷ []) c.loop-pin.invariant
    ∙ ap (λ (n : List ℕ). map (λ (p : List ℕ). c.args.prefix.now ++ p) (take c.loop-pin.pin (pin_names kind)) ++ n ∷ []) c.in_ok-name.ensures
    ∙ pins_more (pin_names kind) c.args.prefix.now c.loop-pin.pin c.pin_name.result.now within c.pin_name.ensures
