use Rattle.std.proofs.Common.{ℕ, ◌+◌, Option, ap, sym, ◌∙◌, length}
use Rattle.fab_lines.specs.Numbers.{capped}
use Rattle.fab_names.specs.Names.{PlainFamily, names_of, side_families}
use Rattle.fab_blocks.proofs.Fine.{capped_more, length_of_side}
use Rattle.fab_blocks.proofs.block.more.Goals as goal

pub returns-in-Some : goal.returns-in-Some
returns-in-Some c = λ n is.
    c.saturating_add.ensures
    ∙ ap (λ (a : ℕ). capped (a + c.count.result)) is
    ∙ ap (λ (b : ℕ). capped (capped n + b)) c.count.ensures
    ∙ capped_more n c.in-Some.family.bits
    ∙ ap (λ (l : ℕ). capped (n + l)) (sym (length_of_side c.in-Some.family))
    ∙ ap (λ (side : Option PlainFamily). capped (n + length (names_of (side_families side)))) (sym c.in-Some.is)
