use Rattle.std.proofs.Common.{◌≡◌, ◌++◌, false}
use Rattle.fab_syntax.specs.declared.tree.Shape.TheVariants.{Vector}
use Rattle.fab_model.specs.Tiles.{counted}
use Rattle.fab_gen_loader.specs.Loader.{port, row_port}
use Rattle.fab_gen_loader.proofs.loader.push_row_ports.Given as goal

-- the ports so far
abbrev pub invariant-loop-row : goal.invariant-loop-row
invariant-loop-row l = l.ports.items ≡ l.initial.ports.items ++ counted l.row (λ row. port false (Vector 32) (row_port row))
