use Rattle.std.proofs.Common.{◌≡◌, ◌∙◌, ℕ, get_or, ap}
use Rattle.fab_fabric.specs.declared.wire.Site.{Site}
use Rattle.fab_netlist.specs.Packed.{PlainCell, PlainPacked}
use Rattle.fab_legal.proofs.Lists.{at_default, at_read}
use Rattle.fab_timing.specs.inner.Passes.{IsLatchEnd, IsListed, OfLine}
use Rattle.fab_timing.proofs.Added.{none_added, item_added, all_added}
use Rattle.fab_timing.proofs.Passes.{line_added}
use Rattle.fab_timing.proofs.ends.put_ends.Goals as goal

pub loop-number-init : goal.loop-number-init
loop-number-init c = none_added (OfLine c.args.packed.now (IsLatchEnd c.args.fabric.now)) c.args.lines.now (IsListed c.args.ends.now.items)

pub loop-number-preserved : goal.loop-number-preserved
loop-number-preserved c =
    let fabric = c.args.fabric.now in
    let packed = c.args.packed.now in
    let lines = c.args.lines.now in
    let none : ℕ × Site = (0, record { x = 0; y = 0; bel = 0 }) in
    let line : ℕ × Site = get_or lines c.loop-number.number-index none in
    let at = at_default lines c.loop-number.number-index none c.loop-number-test.true in
    let known = c.requires.lines c.loop-number.number-index none c.loop-number-test.true in
    let cell : PlainCell = c.index-cell.result.now in
    let read : cell ≡ get_or packed.cells line.0 cell = c.index-cell.ensures ∙ ap (λ (p : PlainPacked). get_or p.cells line.0 cell) c.packed.view_is in
    item_added (OfLine packed (IsLatchEnd fabric)) lines c.loop-number.number-index line (IsListed c.args.ends.now.items) (IsListed c.loop-number.ends.items) (IsListed c.put_end.new.ends.items) at.0 at.1
    c.loop-number.invariant
    (line_added packed (IsLatchEnd fabric) line cell (IsListed c.loop-number.ends.items) (IsListed c.put_end.new.ends.items) (at_read packed.cells line.0 cell known.known read) c.in_ok-put_end.ensures)

pub returns : goal.returns
returns c =
    all_added (OfLine c.args.packed.now (IsLatchEnd c.args.fabric.now)) c.args.lines.now c.loop-number.number-index (IsListed c.args.ends.now.items) (IsListed c.loop-number.ends.items) c.loop-number-test.false
    c.loop-number.invariant

pub put_end-requires-clause-lut : goal.put_end-requires-clause-lut
put_end-requires-clause-lut c = (c.requires.lines c.loop-number.number-index (0, record { x = 0; y = 0; bel = 0 }) c.loop-number-test.true).of_kind
