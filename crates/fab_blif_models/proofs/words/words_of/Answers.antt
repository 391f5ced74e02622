use Rattle.std.proofs.Common.{filter, rules, tests, ap, ◌∙◌}
use Rattle.std.specs.Prelude.{not}
use Rattle.std.proofs.lemmas.Iterator.Consumers.{YieldsList-at, YieldsList-end}
use Rattle.std.proofs.lemmas.Iterator.Splits.{YieldsList-from_slice_split}
use Rattle.fab_blif_models.specs.Words.{is_of_word}
use Rattle.fab_lines.specs.Items.{is_filled}
use Rattle.fab_blif_models.proofs.words.words_of.Goals as goal

pub returns : goal.returns
returns c =
    let all = YieldsList-end (YieldsList-at c.into_iter-word-iterator.ensures.into_iter_gives (YieldsList-from_slice_split _ (λ byte. not (is_of_word byte)) c.args.line.now c.split-word-items.ensures.rest c.split-word-items.ensures.done c.split-word-items.ensures.closure (λ x b q k. search (rules, tests)))) c.loop-word.yielded c.loop-word.word-iterator c.loop-word.yielded_by c.next.result c.next.new.self c.in-None.is c.next.ensures.steps in
    c.loop-word.invariant ∙ ap (filter is_filled) all.0
