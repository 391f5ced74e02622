use Rattle.std.proofs.Common.{[]}
use Rattle.fab_state_points.proofs.finding.top_input.Goals as goal

pub returns : goal.returns
returns c = c.declared.ensures [] c.top.ensures
