use Rattle.fab_simulation_laws.proofs.Agree.{simulations_agree as they_agree}
use Rattle.fab_simulation_laws.proofs.simulations_agree.Goals as goal

pub returns : goal.returns
returns c =
    they_agree c.points_of_sound_texts_have_one_driver.ensures c.least_solutions.ensures.agree c.loading_is_decided.ensures c.loading_runs_agree.ensures.words
