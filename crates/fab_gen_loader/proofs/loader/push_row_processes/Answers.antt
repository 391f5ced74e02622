use Rattle.std.proofs.Common.{ℕ, ◌∙◌, ap₂, map}
use Rattle.fab_syntax.specs.Plain.{PlainItem, plain_item, clocked}
use Rattle.fab_prim.specs.fab_meaning.specs.Runs.{clock_name}
use Rattle.fab_gen_loader.specs.Loader.{row_register_name}
use Rattle.fab_gen_loader.specs.Expressions.{next_row}
use Rattle.fab_gen_loader.proofs.Counted.{none_behind, one_behind}
use Rattle.fab_gen_loader.proofs.loader.push_row_processes.Goals as goal

pub loop-row-init : goal.loop-row-init
loop-row-init c = none_behind (map plain_item c.args.items.now.items) (λ row. clocked clock_name (row_register_name row) (next_row c.args.rows row))

pub loop-row-preserved : goal.loop-row-preserved
loop-row-preserved c =
    let f : ℕ → PlainItem = λ row. clocked clock_name (row_register_name row) (next_row c.args.rows row) in
    one_behind c.loop-row.row f _ (map plain_item c.loop-row.items.items) (map plain_item c.args.items.now.items) _
    c.in_ok-push_process.ensures c.loop-row.invariant (ap₂ (λ name next. clocked clock_name name next) (c.bytes.ensures ∙ c.in_ok-register.ensures) c.in_ok-next_row.ensures)
