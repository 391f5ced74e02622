use Rattle.std.proofs.Common.{rules, ◌≡◌, ◌++◌, ℕ, List, [], true, false, not, cond, Option, is_some, sym, ◌∙◌, ap}
use Rattle.std.proofs.lemmas.List.{append-nil}
use Rattle.fab_netlist.specs.Packed.{PlainCell}
use Rattle.fab_place.specs.declared.nets.Pin.{Pin}
use Rattle.fab_place.specs.Pins.{pin_on}
use Rattle.fab_place.proofs.Listed.{numbered_behind}
use Rattle.fab_place.proofs.pins.put_resets.Goals as goal

pub loop-item-init : goal.loop-item-init
loop-item-init c = sym (append-nil c.args.made.now.items)

pub loop-item-preserved-then-is_none : goal.loop-item-preserved-then-is_none
loop-item-preserved-then-is_none c =
    let made = c.loop-item.made.items in
    let n = c.loop-item.item in
    let cell = c.index-cells-item.result in
    let g : ℕ × PlainCell → List Pin = λ at. cond (is_some at.1.latch) (pin_on c.args.inputs at.0 c.args.reset) [] in
    let seen : c.cell.inside.latch ≡ cell.latch = search rules in
    let none : is_some cell.latch ≡ false = ap (λ (latch : Option ℕ). is_some latch) (sym seen) ∙ c.is_none.ensures ∙ ap not c.if-is_none.true in
    let nothing : g (n, cell) ≡ [] = ap (λ some. cond some (pin_on c.args.inputs n c.args.reset) []) none in
    numbered_behind c.args.made.now.items made made g c.args.cells.now n cell c.loop-item-test.true c.loop-item.invariant
    (sym (append-nil made) ∙ ap (λ (more : List Pin). made ++ more) (sym nothing) ∙ ap (λ (read : PlainCell). made ++ g (n, read)) c.index-cells-item.is)

pub loop-item-preserved : goal.loop-item-preserved
loop-item-preserved c =
    let made = c.loop-item.made.items in
    let n = c.loop-item.item in
    let cell = c.index-cells-item.result in
    let g : ℕ × PlainCell → List Pin = λ at. cond (is_some at.1.latch) (pin_on c.args.inputs at.0 c.args.reset) [] in
    let seen : c.cell.inside.latch ≡ cell.latch = search rules in
    let some : is_some cell.latch ≡ true = ap (λ (latch : Option ℕ). is_some latch) (sym seen) ∙ c.is_none.ensures ∙ ap not c.if-is_none.false in
    let pins : g (n, cell) ≡ pin_on c.args.inputs n c.args.reset = ap (λ some. cond some (pin_on c.args.inputs n c.args.reset) []) some in
    numbered_behind c.args.made.now.items made c.put_pin.new.made.items g c.args.cells.now n cell c.loop-item-test.true c.loop-item.invariant
    (c.in_ok-put_pin.ensures ∙ ap (λ (more : List Pin). made ++ more) (sym pins) ∙ ap (λ (read : PlainCell). made ++ g (n, read)) c.index-cells-item.is)
