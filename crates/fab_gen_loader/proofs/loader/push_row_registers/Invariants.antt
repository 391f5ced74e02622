use Rattle.std.proofs.Common.{◌≡◌, ◌++◌, map}
use Rattle.fab_syntax.specs.declared.tree.Shape.TheVariants.{Vector}
use Rattle.fab_syntax.specs.Plain.{plain_item, reg}
use Rattle.fab_gen_loader.specs.Loader.{row_register_name}
use Rattle.fab_model.specs.Tiles.{counted}
use Rattle.fab_gen_loader.proofs.loader.push_row_registers.Given as goal

-- the items so far
abbrev pub invariant-loop-row : goal.invariant-loop-row
invariant-loop-row l = map plain_item l.items.items ≡ map plain_item l.initial.items.items ++ counted l.row (λ row. reg (Vector 32) (row_register_name row))
