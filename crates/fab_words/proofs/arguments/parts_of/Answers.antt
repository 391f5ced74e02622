use Rattle.std.proofs.Common.{arith}
use Rattle.std.proofs.lemmas.Str.Pattern.{split_once_first}
use Rattle.fab_words.proofs.OptionWords.{parts_are}
use Rattle.fab_words.proofs.arguments.parts_of.Goals as goal

pub returns : goal.returns
returns c = parts_are c.args.text.now c.split_once.result (split_once_first 61 c.args.text.now c.split_once.result c.split_once.ensures.cases (omega arith))
