use Rattle.fab_meaning.proofs.SoundTexts.{sound_drives_once}
use Rattle.fab_meaning.proofs.laws.sound_texts_drive_once.Goals as goal

pub returns : goal.returns
returns c text sound = sound_drives_once text sound
