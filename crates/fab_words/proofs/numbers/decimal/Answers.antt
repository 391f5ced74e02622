use Rattle.std.proofs.Common.{◌∙◌, sym}
use Rattle.fab_words.proofs.Decimals.{decimal_is}
use Rattle.fab_words.proofs.numbers.decimal.Goals as goal

pub returns : goal.returns
returns c = c.ok.ensures.value ∙ decimal_is c.args.word.now _ (sym c.is_decimal.ensures ∙ c.if-not-is_decimal.false) c.parse.ensures.value.0
