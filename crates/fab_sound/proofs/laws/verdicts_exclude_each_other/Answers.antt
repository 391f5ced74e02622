use Rattle.fab_sound.proofs.Verdicts.{not_sound, one_reason}
use Rattle.fab_sound.proofs.laws.verdicts_exclude_each_other.Goals as goal

pub returns-clause-not_sound : goal.returns-clause-not_sound
returns-clause-not_sound c = not_sound

pub returns-clause-one_reason : goal.returns-clause-one_reason
returns-clause-one_reason c = one_reason
