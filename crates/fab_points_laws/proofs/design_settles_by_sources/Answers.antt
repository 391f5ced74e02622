use Rattle.fab_points_laws.proofs.Laws.{design_settles}
use Rattle.fab_points_laws.proofs.design_settles_by_sources.Goals as goal

pub returns : goal.returns
returns c = design_settles c.points_of_sound_texts_have_one_driver.ensures
