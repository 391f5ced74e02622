use Rattle.fab_points_laws.proofs.Laws.{design_settles_shown}
use Rattle.fab_points_laws.proofs.design_settles_by_shown_sources.Goals as goal

pub returns : goal.returns
returns c = design_settles_shown c.points_of_sound_texts_have_one_driver.ensures
