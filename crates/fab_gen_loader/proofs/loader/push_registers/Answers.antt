use Rattle.std.proofs.Common.{◌∙◌, map}
use Rattle.std.proofs.lemmas.Result.{on_ok_weaker}
use Rattle.fab_syntax.specs.declared.tree.Shape.TheVariants.{Scalar, Vector}
use Rattle.fab_syntax.specs.Plain.{plain_item, reg}
use Rattle.fab_model.specs.Tiles.{counted}
use Rattle.fab_gen_loader.specs.Loader.{state_name, count_name, strobe_register_name, address_register_name, row_register_name}
use Rattle.fab_gen_loader.proofs.Counted.{four_behind}
use Rattle.fab_gen_loader.proofs.loader.push_registers.Goals as goal

pub returns : goal.returns
returns c =
    on_ok_weaker c.push_row_registers.result
    (λ last.
    last
    ∙ four_behind (map plain_item c.args.items.now.items) _ _ _ _ (counted c.args.rows (λ row. reg (Vector 32) (row_register_name row)))
    (reg (Vector 2) state_name) (reg (Vector 5) count_name) (reg (Vector 32) address_register_name) (reg Scalar strobe_register_name)
    c.in_ok-push_register.ensures c.in_ok-push_register-2.ensures c.in_ok-push_register-3.ensures c.in_ok-push_register-4.ensures)
    c.push_row_registers.ensures
