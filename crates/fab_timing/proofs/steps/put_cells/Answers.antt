use Rattle.std.proofs.Common.{◌≡◌, ◌∙◌, ℕ, get_or, refl, ap}
use Rattle.fab_fabric.specs.declared.wire.Site.{Site}
use Rattle.fab_netlist.specs.Packed.{PlainCell, PlainPacked}
use Rattle.fab_legal.proofs.Lists.{at_default, at_read}
use Rattle.fab_timing.specs.inner.Passes.{HasStep, IsCellStep, OfLine}
use Rattle.fab_timing.proofs.Added.{none_added, item_added, all_added}
use Rattle.fab_timing.proofs.Passes.{line_added}
use Rattle.fab_timing.proofs.steps.put_cells.Goals as goal

pub loop-number-init : goal.loop-number-init
loop-number-init c = record { len = refl; added = none_added (OfLine c.args.packed.now (IsCellStep c.args.fabric.now)) c.args.lines.now (HasStep c.args.before.now.items) }

pub loop-number-preserved : goal.loop-number-preserved
loop-number-preserved c =
    let fabric = c.args.fabric.now in
    let packed = c.args.packed.now in
    let lines = c.args.lines.now in
    let none : ℕ × Site = (0, record { x = 0; y = 0; bel = 0 }) in
    let line : ℕ × Site = get_or lines c.loop-number.number-index none in
    let at = at_default lines c.loop-number.number-index none c.loop-number-test.true in
    let known = c.requires.lines c.loop-number.number-index none c.loop-number-test.true in
    let cell : PlainCell = c.index-cell.result.now in
    let read : cell ≡ get_or packed.cells line.0 cell = c.index-cell.ensures ∙ ap (λ (p : PlainPacked). get_or p.cells line.0 cell) c.packed.view_is in
    record {
      len = c.in_ok-put_cell.ensures.len ∙ c.loop-number.invariant.len;
      added = item_added (OfLine packed (IsCellStep fabric)) lines c.loop-number.number-index line (HasStep c.args.before.now.items) (HasStep c.loop-number.before.items) (HasStep c.put_cell.new.before.items) at.0 at.1
          c.loop-number.invariant.added
          (line_added packed (IsCellStep fabric) line cell (HasStep c.loop-number.before.items) (HasStep c.put_cell.new.before.items) (at_read packed.cells line.0 cell known.known read) c.in_ok-put_cell.ensures.added);
    }

pub returns-clause-added : goal.returns-clause-added
returns-clause-added c =
    all_added (OfLine c.args.packed.now (IsCellStep c.args.fabric.now)) c.args.lines.now c.loop-number.number-index (HasStep c.args.before.now.items) (HasStep c.loop-number.before.items)
    c.loop-number-test.false c.loop-number.invariant.added

pub put_cell-requires-clause-lut : goal.put_cell-requires-clause-lut
put_cell-requires-clause-lut c = (c.requires.lines c.loop-number.number-index (0, record { x = 0; y = 0; bel = 0 }) c.loop-number-test.true).of_kind
