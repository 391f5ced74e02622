use Rattle.fab_state.proofs.FixingsBack.{spelled_fixings}
use Rattle.fab_state.proofs.ReadBack.{spelled_is_read}
use Rattle.fab_state.proofs.laws.spelled_texts_are_read.Goals as goal

pub returns : goal.returns
returns c = record { states = spelled_is_read; constraints = spelled_fixings }
