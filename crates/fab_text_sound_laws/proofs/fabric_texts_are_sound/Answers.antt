use Rattle.fab_text_sound_laws.proofs.TextFits.{text_is_sound}
use Rattle.fab_text_sound_laws.proofs.fabric_texts_are_sound.Goals as goal

pub returns : goal.returns
returns c = text_is_sound
