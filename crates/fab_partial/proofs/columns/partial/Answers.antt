use Rattle.std.proofs.Common.{◌∙◌}
use Rattle.std.proofs.lemmas.Result.{IfOk-weaker}
use Rattle.fab_implementation.specs.fab_fabric.specs.Bits.{plain_bits}
use Rattle.fab_partial.proofs.Fits.{fits, made}
use Rattle.fab_partial.proofs.columns.partial.Goals as goal

pub put_together-requires-clause-within : goal.put_together-requires-clause-within
put_together-requires-clause-within c =
    fits c.args.fabric.now (plain_bits c.args.bits.now) c.args.first c.args.last c.rows.result c.deref.result.now c.requires.frames c.requires.order c.requires.within c.rows.ensures
    (c.deref.ensures.value ∙ c.in_ok-all.ensures)

pub returns : goal.returns
returns c =
    IfOk-weaker c.put_together.result _ _
    (λ words are. are ∙ made c.args.fabric.now (plain_bits c.args.bits.now) c.args.first c.args.last c.rows.result c.deref.result.now c.requires.frames c.requires.order c.requires.within c.rows.ensures
    (c.deref.ensures.value ∙ c.in_ok-all.ensures)) c.put_together.ensures
