use Rattle.std.proofs.Common.{◌≡◌, ◌∙◌, ap, reverse}
use Rattle.fab_tokens.proofs.literal.bits_of.Goals as goal

pub returns : goal.returns
returns c = c.from.ensures ∙ c.reverse.ensures.items ∙ ap reverse c.in_ok-bits.ensures
