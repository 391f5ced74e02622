use Rattle.std.proofs.Common.{◌≡◌, ◌+◌, ◌-◌, ◌/◌, ◌%◌, ◌^◌, ◌++◌, ◌∷◌, [], ap, ◌∙◌, suc, arith}
use Rattle.fab_fasm.specs.Printing.{binary}
use Rattle.fab_fasm.proofs.Digits.{binary_none, binary_more, binary_all}
use Rattle.fab_fasm.proofs.printing.put_binary.Goals as goal

pub loop-place-init : goal.loop-place-init
loop-place-init c = binary_none c.args.width _ c.args.out.now.items

pub loop-place-preserved : goal.loop-place-preserved
loop-place-preserved c =
    let place = c.loop-place.place - 1 in
    let one : c.loop-place.place ≡ suc place = omega arith in
    let digit : 48 + c.bit.result ≡ 48 + c.args.number / 2 ^ place % 2 = ap (λ n. 48 + n) c.bit.ensures in
    c.in_ok-push.ensures.items
    ∙ ap (λ d. c.loop-place.out.items ++ d ∷ []) digit
    ∙ ap (λ l. l ++ (48 + c.args.number / 2 ^ place % 2) ∷ []) (c.loop-place.invariant ∙ ap (λ n. c.args.out.now.items ++ binary (c.args.width - n) (c.args.number / 2 ^ n)) one)
    ∙ binary_more c.args.width place c.args.number c.args.out.now.items (omega arith)

pub returns : goal.returns
returns c =
    let none : c.loop-place.place ≡ 0 = omega arith in
    c.loop-place.invariant ∙ ap (λ n. c.args.out.now.items ++ binary (c.args.width - n) (c.args.number / 2 ^ n)) none ∙ binary_all c.args.width c.args.number c.args.out.now.items
