use Rattle.std.proofs.Common.{sym, ◌∙◌}
use Rattle.fab_netlist.proofs.Rows.{row_above, row_none}
use Rattle.fab_netlist.proofs.wide.Cube.covered_at.Goals as goal

pub returns-then-matches_upper : goal.returns-then-matches_upper
returns-then-matches_upper c = c.lower_mask.ensures ∙ row_above c.args.self c.args.place (sym c.if-matches_upper.ensures)

pub returns-else-matches_upper : goal.returns-else-matches_upper
returns-else-matches_upper c = row_none c.args.self c.args.place (sym c.if-matches_upper.ensures)
