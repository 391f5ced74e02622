use Rattle.std.proofs.Common.{ℕ, List, subst}
use Rattle.fab_syntax.specs.Plain.{plain_text}
use Rattle.fab_meaning.specs.Reads.{mentions}
use Rattle.fab_load_points.specs.inner.Causes.{AddsNames}
use Rattle.fab_load_points.proofs.Reading.{expression_found}
use Rattle.fab_load_points.proofs.causes.source_reads.Goals as goal

pub returns : goal.returns
returns c path e is =
    let text = plain_text c.args.equations.now in
    let numbers = c.add_source.new.reads.items in
    expression_found text c.requires.sound path e numbers
    (subst (λ (old : List ℕ). AddsNames text path (mentions e) old numbers) c.new-reads.ensures.items (c.in_ok-add_source.ensures path e is))
