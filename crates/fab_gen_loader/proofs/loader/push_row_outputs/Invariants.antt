use Rattle.std.proofs.Common.{◌≡◌, ◌++◌, map}
use Rattle.fab_syntax.specs.Plain.{plain_item, assign, variable}
use Rattle.fab_gen_loader.specs.Loader.{row_port, row_register_name}
use Rattle.fab_model.specs.Tiles.{counted}
use Rattle.fab_gen_loader.proofs.loader.push_row_outputs.Given as goal

-- the items so far
abbrev pub invariant-loop-row : goal.invariant-loop-row
invariant-loop-row l = map plain_item l.items.items ≡ map plain_item l.initial.items.items ++ counted l.row (λ row. assign (row_port row) (variable (row_register_name row)))
