use Rattle.std.proofs.Common.{◌≡◌, rules, ap, ◌∙◌, sym, length}
use Rattle.fab_sound.specs.inner.Checks.{operands}
use Rattle.fab_sound.proofs.Sizing.{cat_operands}
use Rattle.fab_sound.proofs.sizes.operand_count.Goals as goal

pub returns-in-Cat : goal.returns-in-Cat
returns-in-Cat c =
    let h = cat_operands c.args.part.now c.in-Cat.parts c.in-Cat.is in
    let size : c.len.result ≡ length c.in-Cat.parts.items = search rules in
    size ∙ sym h.2 ∙ ap (λ e. length (operands e)) (sym h.1)
