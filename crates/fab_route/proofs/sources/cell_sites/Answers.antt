use Rattle.std.proofs.Common.{ℕ, length, get_or, refl, ap, ◌∙◌}
use Rattle.std.proofs.lemmas.List.{length-set}
use Rattle.fab_fabric.specs.declared.wire.Site.{Site}
use Rattle.fab_implementation.specs.Plain.{PlainImplementation}
use Rattle.fab_legal.proofs.Lists.{at_default}
use Rattle.fab_route.proofs.Stepped.{line_more, all_lines, line_known}
use Rattle.fab_route.proofs.sources.cell_sites.Goals as goal

pub loop-line-preserved : goal.loop-line-preserved
loop-line-preserved c =
    let lines = c.deref-line-items.result.now in
    let none : ℕ × Site = (0, record { x = 0; y = 0; bel = 0 }) in
    let line = get_or lines c.loop-line.line-index none in
    let at = at_default lines c.loop-line.line-index none c.loop-line-test.true in
    record {
      long = length-set c.loop-line.sites.items line.0 line.1 ∙ c.loop-line.invariant.long;
      each = line_more lines (length c.args.packed.now.cells) c.loop-line.line-index line c.loop-line.sites.items _ at
          (line_known c.args._fabric.now c.args.packed.now c.args.placed.now c.requires lines c.loop-line.line-index line (c.deref-line-items.ensures.value ∙ ap (λ (i : PlainImplementation). i.cells) c.placed.view_is) at)
          c.loop-line.invariant.long refl c.loop-line.invariant.each;
    }

pub returns : goal.returns
returns c =
    all_lines c.args._fabric.now c.args.packed.now c.args.placed.now c.requires c.deref-line-items.result.now c.loop-line.line-index c.loop-line.sites.items
    (c.deref-line-items.ensures.value ∙ ap (λ (i : PlainImplementation). i.cells) c.placed.view_is) c.loop-line-test.false c.loop-line.invariant.long c.loop-line.invariant.each
