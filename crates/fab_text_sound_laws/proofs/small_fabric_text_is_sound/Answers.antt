use Rattle.fab_text_sound_laws.proofs.SmallText.{small_is_named, small_text_is_sound, small_chain_text_is_sound}
use Rattle.fab_text_sound_laws.proofs.small_fabric_text_is_sound.Goals as goal

pub returns-clause-named : goal.returns-clause-named
returns-clause-named c = small_is_named

pub returns-clause-sound : goal.returns-clause-sound
returns-clause-sound c = small_text_is_sound

pub returns-clause-chain : goal.returns-clause-chain
returns-clause-chain c = small_chain_text_is_sound
