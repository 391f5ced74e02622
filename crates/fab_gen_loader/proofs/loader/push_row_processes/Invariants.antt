use Rattle.std.proofs.Common.{◌≡◌, ◌++◌, map}
use Rattle.fab_syntax.specs.Plain.{plain_item, clocked}
use Rattle.fab_prim.specs.fab_meaning.specs.Runs.{clock_name}
use Rattle.fab_gen_loader.specs.Loader.{row_register_name}
use Rattle.fab_gen_loader.specs.Expressions.{next_row}
use Rattle.fab_model.specs.Tiles.{counted}
use Rattle.fab_gen_loader.proofs.loader.push_row_processes.Given as goal

-- the items so far
abbrev pub invariant-loop-row : goal.invariant-loop-row
invariant-loop-row l = map plain_item l.items.items ≡ map plain_item l.initial.items.items ++ counted l.row (λ row. clocked clock_name (row_register_name row) (next_row l.rows row))
