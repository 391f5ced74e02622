use Rattle.fab_gen_top.proofs.Modes.{text_mode_told}
use Rattle.fab_gen_top.proofs.mode.text_mode.Goals as goal

pub returns : goal.returns
returns c = text_mode_told c.args.fabric.now c.mode.result c.mode.ensures
