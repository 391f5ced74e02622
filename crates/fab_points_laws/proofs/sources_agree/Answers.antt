use Rattle.fab_points_laws.proofs.Laws.{sources_agree}
use Rattle.fab_points_laws.proofs.sources_agree.Goals as goal

pub returns : goal.returns
returns c = sources_agree c.points_of_sound_texts_have_one_driver.ensures
