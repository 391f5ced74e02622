use Rattle.fab_ready_laws.proofs.Simulations.{simulate_judged}
use Rattle.fab_ready_laws.proofs.simulate_is_ready_or_refused.Goals as goal

pub returns : goal.returns
returns c = λ files hold names. simulate_judged c.points_of_sound_texts_have_one_driver.ensures files hold names
