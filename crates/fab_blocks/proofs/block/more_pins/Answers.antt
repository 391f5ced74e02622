use Rattle.std.proofs.Common.{ℕ, ◌+◌, ap, ◌∙◌, length}
use Rattle.fab_lines.specs.Numbers.{capped}
use Rattle.fab_blocks.proofs.Fine.{capped_once}
use Rattle.fab_blocks.proofs.block.more_pins.Goals as goal

pub returns : goal.returns
returns c = λ n is. c.saturating_add.ensures ∙ ap (λ (a : ℕ). capped (a + length c.args.pins.now)) is ∙ capped_once n (length c.args.pins.now)
