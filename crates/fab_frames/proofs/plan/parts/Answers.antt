use Rattle.std.proofs.lemmas.Result.{IfOk-weaker}
use Rattle.fab_frames.proofs.Parts.{all_of_frames, all_of_chain}
use Rattle.fab_frames.proofs.plan.parts.Goals as goal

pub returns-in-Frames : goal.returns-in-Frames
returns-in-Frames c =
    IfOk-weaker c.all_frames.result _ _ (λ found. all_of_frames c.args.fabric.now c.stream_mode.result found.items c.stream_mode.ensures.told c.in-Frames.is) c.all_frames.ensures

pub returns-in-Chain : goal.returns-in-Chain
returns-in-Chain c =
    IfOk-weaker c.whole_chain.result _ _ (λ found. all_of_chain c.args.fabric.now c.stream_mode.result found.items c.args.positions c.div_ceil.result
    c.stream_mode.ensures.told c.in-Chain.is c.requires.positions c.div_ceil.ensures) c.whole_chain.ensures
