use Rattle.fab_words.proofs.arguments.Arguments.take.Goals as goal

pub returns-in-Some-clause-usage : goal.returns-in-Some-clause-usage
returns-in-Some-clause-usage c = rw c.in-Some.is c.take_value.ensures.usage

pub returns-in-None-clause-usage : goal.returns-in-None-clause-usage
returns-in-None-clause-usage c = rw c.in-None.is c.take_word.ensures.usage
