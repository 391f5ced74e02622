use Rattle.std.proofs.Common.{◌≡◌, ◌≤◌, map, take, option_map}
use Rattle.fab_outputs.specs.Storing.{plain_output, with_outputs}
use Rattle.fab_outputs.proofs.storing.store_all.Given as goal

abbrev pub invariant-loop-output : goal.invariant-loop-output
invariant-loop-output g l =
    (g.D.Desk.told l.desk ≡ option_map (with_outputs (map plain_output (take l.output-index l.fn.outputs))) (g.D.Desk.told l.fn.desk))
    × (g.D.Desk.reads l.desk ≡ g.D.Desk.reads l.fn.desk)
    × (g.D.Desk.writes l.fn.desk ≤ g.D.Desk.writes l.desk)
