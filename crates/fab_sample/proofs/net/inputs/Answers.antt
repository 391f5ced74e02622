use Rattle.fab_sample.specs.declared.net.Net.TheVariants as nets
use Rattle.fab_sample.proofs.Steps.{map_more}
use Rattle.fab_sample.proofs.net.inputs.Goals as goal

pub loop-number-preserved : goal.loop-number-preserved
loop-number-preserved c = map_more (λ number. nets.Input number) c.loop-number.number _ _ c.loop-number.invariant c.in_ok-push.ensures.items
