use Rattle.std.proofs.Common.{◌≡◌, ◌<◌, ◌∙◌, length, map, sym, subst}
use Rattle.std.specs.Str.{bytes_eq}
use Rattle.fab_syntax.specs.Plain.{PlainModule, plain_module}
use Rattle.fab_select.specs.declared.pair.Pair.{Pair}
use Rattle.fab_matrix.specs.Names.{Name}
use Rattle.fab_matrix.specs.Matrix.{list_outputs, list_matrix}
use Rattle.fab_matrix.specs.Selects.{Selects}
use Rattle.fab_matrix.proofs.Lists.{All-of_map, numbered_at, list_by_numbers, list_selects}
use Rattle.fab_matrix.proofs.listed.list_module.Goals as goal

pub matrix_module-requires-clause-inputs : goal.matrix_module-requires-clause-inputs
matrix_module-requires-clause-inputs c =
    let inputs = c.deref.result.now in
    let numbers = c.deref-3.result.now in
    let by_input =
    numbered_at (map (λ (p : Name × Name). p.1) c.args.pairs.now) c.in_ok-numbered.numbered.inputs.items inputs (λ (p : Pair). p.input)
    c.in_ok-numbered.numbered.pairs.items numbers c.deref.ensures.value c.deref-3.ensures.value c.in_ok-numbered.ensures.inputs in
    All-of_map (λ n. n < length inputs) (λ (p : Pair). p.input) numbers by_input.within

pub matrix_module-requires-clause-outputs : goal.matrix_module-requires-clause-outputs
matrix_module-requires-clause-outputs c =
    let outputs = c.deref-2.result.now in
    let numbers = c.deref-3.result.now in
    let by_output =
    numbered_at (map (λ (p : Name × Name). p.0) c.args.pairs.now) c.in_ok-numbered.numbered.outputs.items outputs (λ (p : Pair). p.output)
    c.in_ok-numbered.numbered.pairs.items numbers c.deref-2.ensures.value c.deref-3.ensures.value c.in_ok-numbered.ensures.outputs in
    All-of_map (λ n. n < length outputs) (λ (p : Pair). p.output) numbers by_output.within

pub returns : goal.returns
returns c =
    let pairs = c.args.pairs.now in
    let name = c.args.name.now in
    let inputs = c.deref.result.now in
    let outputs = c.deref-2.result.now in
    let numbers = c.deref-3.result.now in
    let by_input =
    numbered_at (map (λ (p : Name × Name). p.1) pairs) c.in_ok-numbered.numbered.inputs.items inputs (λ (p : Pair). p.input)
    c.in_ok-numbered.numbered.pairs.items numbers c.deref.ensures.value c.deref-3.ensures.value c.in_ok-numbered.ensures.inputs in
    let by_output =
    numbered_at (map (λ (p : Name × Name). p.0) pairs) c.in_ok-numbered.numbered.outputs.items outputs (λ (p : Pair). p.output)
    c.in_ok-numbered.numbered.pairs.items numbers c.deref-2.ensures.value c.deref-3.ensures.value c.in_ok-numbered.ensures.outputs in
    let same : plain_module c.in_ok-module.module ≡ list_matrix name pairs =
    c.in_ok-module.ensures.module ∙ list_by_numbers name pairs outputs inputs numbers by_output by_input in
    record {
      «module» = same;
      selects = λ apart. subst (λ (m : PlainModule). Selects bytes_eq m (list_outputs pairs) pairs) (sym same) (list_selects name pairs apart);
    }
