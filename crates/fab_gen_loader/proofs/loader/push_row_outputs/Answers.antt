use Rattle.std.proofs.Common.{ℕ, ◌∙◌, ap, map}
use Rattle.std.proofs.lemmas.List.{map_push}
use Rattle.fab_syntax.specs.Plain.{PlainItem, plain_item, assign, variable}
use Rattle.fab_gen_loader.specs.Loader.{row_port, row_register_name}
use Rattle.fab_gen_loader.proofs.Counted.{none_behind, one_behind}
use Rattle.fab_gen_loader.proofs.loader.push_row_outputs.Goals as goal

pub loop-row-init : goal.loop-row-init
loop-row-init c = none_behind (map plain_item c.args.items.now.items) (λ row. assign (row_port row) (variable (row_register_name row)))

pub loop-row-preserved : goal.loop-row-preserved
loop-row-preserved c =
    let f : ℕ → PlainItem = λ row. assign (row_port row) (variable (row_register_name row)) in
    one_behind c.loop-row.row f _ (map plain_item c.loop-row.items.items) (map plain_item c.args.items.now.items) _
    (ap (map plain_item) c.in_ok-push.ensures.items ∙ map_push plain_item c.loop-row.items.items _) c.loop-row.invariant (λ j. assign (c.in_ok-name.ensures j) (variable (c.in_ok-shown.ensures j)))
