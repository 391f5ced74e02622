use Rattle.std.proofs.lemmas.Result.{IfOk-weaker}
use Rattle.fab_syntax.specs.Plain.{plain_module}
use Rattle.fab_flow.proofs.Spelled.{module_of_pairs}
use Rattle.fab_flow.proofs.matrix.matrix_text.Goals as goal

pub returns : goal.returns
returns c = λ apart.
    IfOk-weaker c.printed_module.result _ _ (λ text printed.
    module_of_pairs c.args.list.now text.items c.in_ok-module_name.field-0 c.args.pairs.now (plain_module c.in_ok-matrix.matrix)
    c.in_ok-module_name.ensures c.in_ok-matrix.ensures.module printed (c.in_ok-matrix.ensures.selects apart))
    c.printed_module.ensures
