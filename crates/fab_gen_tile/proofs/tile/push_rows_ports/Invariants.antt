use Rattle.std.proofs.Common.{◌≡◌, ◌++◌, take}
use Rattle.std.specs.List.{flat_map}
use Rattle.fab_gen_tile.specs.Borders.{border_ports}
use Rattle.fab_gen_tile.proofs.tile.push_rows_ports.Given as goal

-- the ports so far are those of the rows so far
abbrev pub invariant-loop-row : goal.invariant-loop-row
invariant-loop-row l = l.ports.items ≡ l.initial.ports.items ++ flat_map border_ports (take l.row-index l.rows)
