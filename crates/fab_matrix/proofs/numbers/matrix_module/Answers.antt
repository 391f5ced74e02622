use Rattle.std.proofs.Common.{ℕ, [], All, Contains, sym, subst, get_or, nat_eq}
use Rattle.std.proofs.lemmas.Bool.Decides.{Decides-eqb}
use Rattle.std.proofs.lemmas.List.Elements.{All-map, Contains-get_or}
use Rattle.fab_syntax.specs.Plain.{PlainModule}
use Rattle.fab_select.specs.declared.pair.Pair.{Pair}
use Rattle.fab_matrix.specs.Names.{Name}
use Rattle.fab_matrix.specs.Matrix.{numbered_outputs, named}
use Rattle.fab_matrix.specs.Selects.{Selects}
use Rattle.fab_matrix.specs.inner.Grouped.{name_at}
use Rattle.fab_matrix.proofs.Selecting.{matrix_selects}
use Rattle.fab_matrix.proofs.numbers.matrix_module.Goals as goal

pub returns-clause-selects : goal.returns-clause-selects
returns-clause-selects c = λ apart.
    let inputs = c.args.inputs.now in
    let outputs = numbered_outputs c.args.outputs.now in
    let pairs = c.args.pairs.now in
    let known : All (λ (pair : ℕ × Name). Contains inputs pair.1) (named inputs pairs) =
    All-map (λ (pair : ℕ × Name). Contains inputs pair.1) (λ (pair : Pair). (pair.output, name_at inputs pair.input)) pairs
    (λ k d l. Contains-get_or inputs (get_or pairs k d).input [] (c.requires.inputs k d l)) in
    subst (λ (m : PlainModule). Selects nat_eq m outputs (named inputs pairs)) (sym c.in_ok-module.ensures)
    (matrix_selects nat_eq Decides-eqb c.args.name.now inputs outputs (named inputs pairs) apart known)
