use Rattle.std.proofs.Common.{◌≡◌, drop, length}
use Rattle.std.specs.Prelude.{option_map}
use Rattle.std.specs.List.{find}
use Rattle.fab_tables.specs.Lists.{is_long}
use Rattle.fab_tables.proofs.list_cells.first_long.Given as goal

abbrev pub invariant-loop-name : goal.invariant-loop-name
invariant-loop-name l = option_map (λ name. length name) (find is_long (drop l.name-index l.names)) ≡ option_map (λ name. length name) (find is_long l.names)
