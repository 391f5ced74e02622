use Rattle.std.proofs.Common.{◌≡◌, List, [], ◌∷◌, ℕ, ap, ◌∙◌, subst}
use Rattle.std.proofs.lemmas.Result.{err_from_is_err_and}
use Rattle.fab_designs.specs.Designs.{PlainDesign}
use Rattle.fab_impl.specs.Spelled.{implementation_text}
use Rattle.fab_outputs.specs.Storing.{output}
use Rattle.fab_flow.specs.Mapping.{memory}
use Rattle.fab_flow.proofs.Mapped.{not_packed}
use Rattle.fab_flow.proofs.mapping.mapping.Goals as goal

pub returns-in_err-packed-clause-cause : goal.returns-in_err-packed-clause-cause
returns-in_err-packed-clause-cause g c =
    let residual = err_from_is_err_and c.from_residual.result c.from_residual.ensures.1 in
    rw (residual.1, residual.2) (not_packed c.args.design.now c.args.rounds c.in_err-packed.field-0.0 c.in_err-packed.ensures.short)

pub returns-in_err-text-clause-cause : goal.returns-in_err-text-clause-cause
returns-in_err-text-clause-cause g c =
    let residual = err_from_is_err_and c.from_residual-in_err-text.result c.from_residual-in_err-text.ensures.1 in
    rw (residual.1, residual.2) memory

pub returns-in_err-one_output-clause-cause : goal.returns-in_err-one_output-clause-cause
returns-in_err-one_output-clause-cause g c =
    let residual = err_from_is_err_and c.from_residual-in_err-one_output.result c.from_residual-in_err-one_output.ensures.1 in
    rw (residual.1, residual.2) memory

pub returns-clause-made : goal.returns-clause-made
returns-clause-made g c =
    let implementation = c.in_ok-implementation.implementation in
    let printed : c.in_ok-text.text.items ≡ implementation_text c.args.design.now.fabric implementation =
    subst (λ (d : PlainDesign). c.in_ok-text.text.items ≡ implementation_text d.fabric implementation) c.design.view_is c.in_ok-text.ensures.text in
    record {
      implementation = implementation;
      mapping = c.in_ok-implementation.ensures.mapping;
      legal = c.in_ok-implementation.ensures.legal;
      outputs_are = c.in_ok-one_output.ensures.are ∙ ap (λ (bytes : List ℕ). output c.args.out.now bytes ∷ []) printed;
    }
