use Rattle.fab_text_sound_laws.proofs.TopFits.{top_fits}
use Rattle.fab_text_sound_laws.proofs.tops_fit.Goals as goal

pub returns : goal.returns
returns c fabric text before is are named has_before has clocks = top_fits fabric text before is are named has_before has clocks
