use Rattle.std.proofs.Common.{rules, ◌≡◌, List, length, sym, ◌∙◌, subst, arith}
use Rattle.std.specs.List.{All}
use Rattle.std.proofs.lemmas.Grind.{common_steps}
use Rattle.fab_place.specs.declared.nets.Pin.{Pin}
use Rattle.fab_place.proofs.Inside.{IsInside, pins_inside}
use Rattle.fab_place.proofs.board.nets_of_design.Goals as goal

pub nets_of-requires-clause-nets : goal.nets_of-requires-clause-nets
nets_of-requires-clause-nets c k d low =
    let all = subst (λ (ps : List Pin). All (IsInside c.args.packed.now c.requires.made) ps) (sym (c.deref.ensures.value ∙ c.in_ok-pins.ensures)) (pins_inside c.args.packed.now c.requires.made) in
    let inputs : c.len.result ≡ length c.args.packed.now.inputs = first_of (search rules, grind (arith, common_steps)) in
    let cells : c.len-cells.result ≡ length c.args.packed.now.cells = first_of (search rules, grind (arith, common_steps)) in
    omega (arith, (all k d low).0, inputs, cells)

pub nets_of-requires-clause-items : goal.nets_of-requires-clause-items
nets_of-requires-clause-items c k d low =
    let all = subst (λ (ps : List Pin). All (IsInside c.args.packed.now c.requires.made) ps) (sym (c.deref.ensures.value ∙ c.in_ok-pins.ensures)) (pins_inside c.args.packed.now c.requires.made) in
    let cells : c.len-cells.result ≡ length c.args.packed.now.cells = first_of (search rules, grind (arith, common_steps)) in
    omega (arith, (all k d low).1, cells, c.requires.ports)
