use Rattle.fab_meaning.proofs.SoundDrivers.{has_one_driver}
use Rattle.fab_meaning.proofs.laws.points_of_sound_texts_have_one_driver.Goals as goal

pub returns : goal.returns
returns c text sound p declared = has_one_driver text sound p declared
