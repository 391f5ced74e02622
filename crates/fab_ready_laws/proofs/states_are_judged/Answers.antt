use Rattle.fab_ready_laws.proofs.Simulations.{state_judged}
use Rattle.fab_ready_laws.proofs.states_are_judged.Goals as goal

pub returns : goal.returns
returns c = state_judged c.points_of_sound_texts_have_one_driver.ensures
