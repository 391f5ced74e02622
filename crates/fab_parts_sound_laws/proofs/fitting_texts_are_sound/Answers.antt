use Rattle.fab_parts_sound_laws.proofs.Fitting.{fitting_is_sound}
use Rattle.fab_parts_sound_laws.proofs.fitting_texts_are_sound.Goals as goal

pub returns : goal.returns
returns c = fitting_is_sound
