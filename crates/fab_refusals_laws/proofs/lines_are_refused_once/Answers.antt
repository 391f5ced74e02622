use Rattle.fab_fasm.specs.Fasm.{fasm_judge}
use Rattle.fab_blif_models.specs.Judge.{judge}
use Rattle.fab_refusals_laws.proofs.RefusedFirsts.{lines_once}
use Rattle.fab_refusals_laws.proofs.lines_are_refused_once.Goals as goal

pub returns-clause-any : goal.returns-clause-any
returns-clause-any c = lines_once

pub returns-clause-fasm : goal.returns-clause-fasm
returns-clause-fasm c = lines_once fasm_judge

pub returns-clause-blif : goal.returns-clause-blif
returns-clause-blif c = λ most. lines_once (judge most)
