use Rattle.std.proofs.Common.{◌≡◌, rules, ap, ◌∙◌, sym, ℕ, subst, length, take, reverse, IfOk}
use Rattle.std.specs.List.{sum}
use Rattle.fab_sound.specs.inner.Checks.{found_width, width_over}
use Rattle.fab_sound.proofs.Sizing.{cat_operands}
use Rattle.fab_sound.proofs.sizes.own_width.Goals as goal

pub returns-in-Cat : goal.returns-in-Cat
returns-in-Cat c =
    let h = cat_operands c.args.part.now c.in-Cat.parts c.in-Cat.is in
    let ws = reverse c.args.widths.now in
    let size : c.len.result ≡ length c.in-Cat.parts.items = search rules in
    let is = ap (λ n. sum (take n ws)) (size ∙ sym h.2) ∙ ap (λ e. width_over (found_width c.args.names.now) e ws) (sym h.1) in
    subst (λ (w : ℕ). IfOk c.sum_of_first.result (λ own. own ≡ w)) is c.sum_of_first.ensures
