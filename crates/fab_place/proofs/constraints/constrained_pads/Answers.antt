use Rattle.std.proofs.Common.{◌≡◌, ◌++◌, ◌∙◌, List, Option, ℕ, map, ap, subst}
use Rattle.fab_netlist.specs.declared.net_id.NetId.{NetId}
use Rattle.fab_netlist.specs.Packed.{PlainPacked}
use Rattle.fab_implementation.specs.Plain.{Pad}
use Rattle.fab_ways_laws.specs.fab_legal_WellMade.{ports}
use Rattle.fab_place.specs.inner.Constraints.{HasConstraints, pad_in}
use Rattle.fab_place.proofs.Constrained.{all_found, are_constrained}
use Rattle.fab_place.proofs.constraints.constrained_pads.Goals as goal

pub returns : goal.returns
returns c =
    let constraints = c.in_ok-constraints.constraints in
    let numbers = c.in_ok-numbers.numbers in
    let packed = c.args.packed.now in
    let f : List ℕ → Option ℕ = pad_in constraints numbers in
    let none = c.new-found.result.items in
    let first = c.put_inputs.new.found.items in
    let kept = subst (λ (pads : List Pad). HasConstraints pads constraints) (c.deref.ensures.value ∙ c.fixed.view_is) c.in_ok-constraints.ensures in
    let inputs : first ≡ none ++ map f packed.inputs = c.in_ok-put_inputs.ensures ∙ ap (λ (names : List (List ℕ)). none ++ map f names) (c.deref-2.ensures.value ∙ ap (λ (p : PlainPacked). p.inputs) c.packed.view_is) in
    let outputs : c.put_outputs.new.found.items ≡ first ++ map (λ (output : List ℕ × NetId). f output.0) packed.outputs =
    c.in_ok-put_outputs.ensures ∙ ap (λ (outputs : List (List ℕ × NetId)). first ++ map (λ (output : List ℕ × NetId). f output.0) outputs) (c.deref-3.ensures.value ∙ ap (λ (p : PlainPacked). p.outputs) c.packed.view_is) in
    are_constrained c.args.fixed.now c.args.pads.now constraints numbers kept c.in_ok-numbers.ensures (ports packed) c.put_outputs.new.found.items
    (all_found packed f none first c.put_outputs.new.found.items c.new-found.ensures.items inputs outputs)
