use Rattle.fab_points_laws.proofs.Once.{shown_settles_once}
use Rattle.fab_points_laws.proofs.Solved.{solved_once}
use Rattle.fab_points_laws.proofs.shown_design_settles_once.Goals as goal

pub returns : goal.returns
returns c =
    shown_settles_once c.points_of_sound_texts_have_one_driver.ensures c.loading_is_decided.ensures solved_once c.fabric_texts_load.ensures
