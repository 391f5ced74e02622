use Rattle.std.proofs.Common.{ℕ, ap, false}
use Rattle.fab_syntax.specs.declared.tree.Shape.TheVariants.{Vector}
use Rattle.fab_syntax.specs.declared.tree.Port.{Port}
use Rattle.fab_gen_loader.specs.Loader.{port, row_port}
use Rattle.fab_gen_loader.proofs.Counted.{none_behind, one_behind}
use Rattle.fab_gen_loader.proofs.loader.push_row_ports.Goals as goal

pub loop-row-init : goal.loop-row-init
loop-row-init c = none_behind c.args.ports.now.items (λ row. port false (Vector 32) (row_port row))

pub loop-row-preserved : goal.loop-row-preserved
loop-row-preserved c =
    let f : ℕ → Port = λ row. port false (Vector 32) (row_port row) in
    one_behind c.loop-row.row f _ c.loop-row.ports.items c.args.ports.now.items _
    c.in_ok-push.ensures.items c.loop-row.invariant (ap (port false (Vector 32)) c.in_ok-numbered.ensures)
