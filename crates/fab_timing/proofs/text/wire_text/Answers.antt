use Rattle.std.proofs.lemmas.Result.{IfOk-weaker}
use Rattle.fab_impl.proofs.WireNames.{wire_named}
use Rattle.fab_timing.proofs.text.wire_text.Goals as goal

pub returns : goal.returns
returns c = IfOk-weaker c.wire_name.result _ _ (λ name named. wire_named c.args.fabric.now c.args.wire name c.requires named) c.wire_name.ensures
