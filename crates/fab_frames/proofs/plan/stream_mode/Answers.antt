use Rattle.fab_frames.proofs.Modes.{mode_told}
use Rattle.fab_frames.proofs.plan.stream_mode.Goals as goal

pub returns-clause-told : goal.returns-clause-told
returns-clause-told c = mode_told c.args.fabric.now c.mode.result c.mode.ensures
