use Rattle.std.proofs.Common.{ℕ, List, [], ◌∷◌, ap, ◌∙◌, sym, subst}
use Rattle.std.proofs.lemmas.Result.{err_from_is_err_and}
use Rattle.fab_netlist.specs.Packing.{packed}
use Rattle.fab_implementation.specs.Plain.{PlainImplementation}
use Rattle.fab_implementation.specs.OnFabric.{IsOnFabric}
use Rattle.fab_legal.specs.Legal.{IsLegal}
use Rattle.fab_timing.specs.Walks.{IsLongest}
use Rattle.fab_outputs.specs.Storing.{output}
use Rattle.fab_flow.proofs.Assembled.{short_refused}
use Rattle.fab_flow.proofs.timing.timed.Goals as goal

pub returns-in_err-packed-clause-refused : goal.returns-in_err-packed-clause-refused
returns-in_err-packed-clause-refused c =
    let residual = err_from_is_err_and c.from_residual.result c.from_residual.ensures.1 in
    let design = c.args.design.now in
    rw (residual.1, residual.2)
    (short_refused design.fabric design.netlist design.fixed c.args.implementation c.in_err-packed.field-0.0 c.in_err-packed.ensures.short)

pub walk_text-requires-clause-on_fabric : goal.walk_text-requires-clause-on_fabric
walk_text-requires-clause-on_fabric c = subst (IsOnFabric c.args.design.now.fabric) (sym c.in_ok-legal.ensures.same) c.requires.on_fabric

pub walk_text-requires-clause-legal : goal.walk_text-requires-clause-legal
walk_text-requires-clause-legal c =
    let design = c.args.design.now in
    subst (λ (i : PlainImplementation). IsLegal design.fabric (packed design.netlist) design.fixed i) (sym c.in_ok-legal.ensures.same) c.in_ok-legal.ensures.legal

pub returns-clause-made : goal.returns-clause-made
returns-clause-made c =
    let design = c.args.design.now in
    let walk = c.in_ok-text.ensures.text in
    record {
      path = walk.0;
      longest = subst (λ (i : PlainImplementation). IsLongest design.fabric (packed design.netlist) i walk.0) c.in_ok-legal.ensures.same walk.1;
      outputs_are = c.in_ok-one_output.ensures.are ∙ ap (λ (bytes : List ℕ). output c.args.out.now bytes ∷ []) walk.2;
    }
