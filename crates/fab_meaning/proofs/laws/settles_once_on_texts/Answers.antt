use Rattle.fab_meaning.proofs.Settling.{some_settled, one_settled}
use Rattle.fab_meaning.proofs.laws.settles_once_on_texts.Goals as goal

pub returns : goal.returns
returns c text has given driver rank ranks driven ranked inputs held =
    (some_settled text has given driver rank ranks driven ranked inputs held, one_settled text has given driver rank ranks driven ranked inputs held)
