use Rattle.std.proofs.Common.{refl}
use Rattle.fab_meaning.proofs.Settling.{steps_settle}
use Rattle.fab_meaning.proofs.laws.blocks_settle_on_texts.Goals as goal

pub returns : goal.returns
returns c text has given driver rank ranks driven ranked steady before after inputs settled s agree blocks more all enough steps =
    steps_settle text has given driver rank ranks driven ranked inputs before.held steady before after settled (λ p h. refl) s agree blocks more all enough steps
