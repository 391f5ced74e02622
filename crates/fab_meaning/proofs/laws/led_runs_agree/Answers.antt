use Rattle.fab_meaning.specs.Loading.{IsStreamOf}
use Rattle.fab_meaning.proofs.Loaded.{runs_agree}
use Rattle.fab_meaning.proofs.laws.led_runs_agree.Goals as goal

pub returns : goal.returns
returns c text names = runs_agree text (IsStreamOf text names) (λ q is. is.input)
