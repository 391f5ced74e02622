use Rattle.fab_model.proofs.Found.{joins_source, joins_dest}
use Rattle.fab_model.proofs.laws.joins_have_both_ends.Goals as goal

pub returns-clause-source : goal.returns-clause-source
returns-clause-source c = joins_source

pub returns-clause-dest : goal.returns-clause-dest
returns-clause-dest c = λ fabric here there source dest are. joins_dest fabric are here there source dest
