use Rattle.fab_simulation_laws.proofs.Exist.{simulations_exist as they_exist}
use Rattle.fab_simulation_laws.proofs.simulations_exist.Goals as goal

pub returns : goal.returns
returns c =
    they_exist c.points_of_sound_texts_have_one_driver.ensures c.least_solutions.ensures.exist c.loading_is_decided.ensures c.loading_runs_exist.ensures.words
