use Rattle.std.proofs.Common.{map, ap}
use Rattle.fab_words.specs.inner.Plain.{plain_setting}
use Rattle.fab_words.proofs.Taken.{taken_from_nothing}
use Rattle.fab_words.proofs.arguments.Arguments.of.Goals as goal

pub returns-clause-arguments : goal.returns-clause-arguments
returns-clause-arguments c =
    taken_from_nothing _ _ _ (ap (map (λ word. word.now)) c.new.ensures.items) (ap (map plain_setting) c.new-2.ensures.items) c.in_ok-take_all.ensures.taken
