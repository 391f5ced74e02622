use Rattle.std.proofs.Common.{◌≡◌, ap, ◌∙◌, length, take, ◌-◌, drop, reverse, ◌∷◌, rules}
use Rattle.fab_syntax.specs.Plain.{plain_expr}
use Rattle.fab_sound.specs.inner.Checks.{found_width, width_over}
use Rattle.fab_sound.proofs.Sizing.{stack_step}
use Rattle.fab_sound.proofs.sizes.take_operands.Goals as goal

pub returns-clause-pushed : goal.returns-clause-pushed
returns-clause-pushed c =
    let xs = c.args.widths.now.items in
    let e = plain_expr c.args.part.now in
    let names = found_width c.args.names.now in
    let cut : c.truncate.new.self.items ≡ take (length xs - c.operand_count.result) xs = search rules in
    stack_step xs c.truncate.new.self.items c.push.new.self.items c.operand_count.result c.in_ok-own.own cut c.in_ok-push.ensures.items
    ∙ ap (λ w. w ∷ drop c.operand_count.result (reverse xs)) (c.in_ok-own.ensures ∙ ap (λ ws. width_over names e (reverse ws)) c.deref.ensures.value)
    ∙ ap (λ n. width_over names e (reverse xs) ∷ drop n (reverse xs)) c.operand_count.ensures
