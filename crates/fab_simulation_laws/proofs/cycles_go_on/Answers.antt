use Rattle.fab_simulation_laws.proofs.Agree.{cycles_go_on as they_go_on}
use Rattle.fab_simulation_laws.proofs.cycles_go_on.Goals as goal

pub returns : goal.returns
returns c text state held between next lines values shown last run cycle = they_go_on text state held between next lines values shown last run cycle
