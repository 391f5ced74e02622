use Rattle.fab_meaning.specs.Loading.{IsStream}
use Rattle.fab_meaning.proofs.Loaded.{runs_agree}
use Rattle.fab_meaning.proofs.Words.{loads_agree}
use Rattle.fab_meaning.proofs.laws.loading_runs_agree.Goals as goal

pub returns : goal.returns
returns c = record { runs = λ text. runs_agree text (IsStream text) (λ q is. is.input); words = loads_agree }
