use Rattle.std.proofs.Common.{◌≡◌, ℕ, ◌∙◌, List, [], ◌∷◌, ◌++◌, ap, map}
use Rattle.std.proofs.lemmas.Result.{on_ok_weaker}
use Rattle.fab_syntax.specs.Plain.{PlainExpr, PlainItem, plain_item, clocked}
use Rattle.fab_prim.specs.fab_meaning.specs.Runs.{clock_name}
use Rattle.fab_model.specs.Tiles.{counted}
use Rattle.fab_gen_loader.specs.Loader.{state_name, count_name, strobe_register_name, address_register_name, row_register_name}
use Rattle.fab_gen_loader.specs.Expressions.{next_state, next_count, next_address, next_strobe, next_row}
use Rattle.fab_gen_loader.proofs.Counted.{four_behind}
use Rattle.fab_gen_loader.proofs.loader.push_processes.Goals as goal

-- a process behind others, whose expression is this
behind : (items front : List PlainItem) (register : List ℕ) (e next : PlainExpr) → items ≡ front ++ clocked clock_name register e ∷ [] → e ≡ next →
    items ≡ front ++ clocked clock_name register next ∷ []
behind items front register e next is same = is ∙ ap (λ taken. front ++ clocked clock_name register taken ∷ []) same

pub returns : goal.returns
returns c =
    on_ok_weaker c.push_row_processes.result
    (λ last.
    last
    ∙ four_behind (map plain_item c.args.items.now.items) _ _ _ _
    (counted c.args.rows (λ row. clocked clock_name (row_register_name row) (next_row c.args.rows row)))
    (clocked clock_name state_name next_state) (clocked clock_name count_name (next_count c.args.rows))
    (clocked clock_name address_register_name next_address) (clocked clock_name strobe_register_name next_strobe)
    (behind _ _ state_name _ next_state c.in_ok-push_process.ensures c.in_ok-next_state.ensures)
    (behind _ _ count_name _ (next_count c.args.rows) c.in_ok-push_process-2.ensures c.in_ok-next_count.ensures)
    (behind _ _ address_register_name _ next_address c.in_ok-push_process-3.ensures c.in_ok-next_address.ensures)
    (behind _ _ strobe_register_name _ next_strobe c.in_ok-push_process-4.ensures c.in_ok-next_strobe.ensures))
    c.push_row_processes.ensures
