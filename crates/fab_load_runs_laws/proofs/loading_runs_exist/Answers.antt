use Rattle.fab_load_runs_laws.proofs.Sound.{sound_runs, sound_loads}
use Rattle.fab_load_runs_laws.proofs.loading_runs_exist.Goals as goal

pub returns-clause-runs : goal.returns-clause-runs
returns-clause-runs c = λ text sound clocks moments low held. sound_runs text sound clocks moments low held

pub returns-clause-words : goal.returns-clause-words
returns-clause-words c = λ text sound clocks words held. sound_loads text sound clocks words held
