use Rattle.std.proofs.Common.{rules, ◌≡◌, ℕ, ◌<◌, Bool, List, get_or, length, is_some, ap, ◌∙◌, subst, arith}
use Rattle.std.proofs.lemmas.Grind.{common_steps}
use Rattle.fab_fabric.specs.Bits.{plain_bits}
use Rattle.fab_fabric.specs.declared.wire.Site.{Site}
use Rattle.fab_netlist.specs.Plain.{IsAt}
use Rattle.fab_netlist.specs.Packed.{PlainCell, PlainPacked}
use Rattle.fab_legal.proofs.Lists.{at_default, at_read, same_at}
use Rattle.fab_features.specs.inner.Adding.{Adds, IsCellOne, IsSiteOne}
use Rattle.fab_features.proofs.Added.{more_of, same_added}
use Rattle.fab_features.proofs.design.set_cells.Goals as goal

pub loop-line-preserved : goal.loop-line-preserved
loop-line-preserved c =
    let fabric = c.args.fabric.now in
    let packed = c.args.packed.now in
    let l = c.loop-line in
    let none : ℕ × Site = (0, record { x = 0; y = 0; bel = 0 }) in
    let line = get_or c.args.cells.now l.line-index none in
    let cell = c.index.result.now in
    let few : line.0 < length packed.cells = (c.requires.lines l.line-index none c.loop-line-test.true).number in
    let cells_are : c.packed.inside.cells.items ≡ packed.cells = ap (λ (p : PlainPacked). p.cells) c.packed.view_is in
    let at : IsAt packed.cells line.0 cell = at_read packed.cells line.0 cell few (c.index.ensures ∙ ap (λ (cells : List PlainCell). get_or cells line.0 cell) cells_are) in
    let resets_are : c.is_some.result ≡ is_some packed.reset = first_of (search rules, grind (arith, common_steps)) in
    record {
      are = c.set_cell.ensures.are;
      adds =
          more_of (IsCellOne fabric packed) c.args.cells.now l.line-index line (plain_bits c.args.bits.now) (plain_bits l.bits) (plain_bits c.set_cell.new.bits)
          (at_default c.args.cells.now l.line-index none c.loop-line-test.true) l.invariant.adds
          (same_added (plain_bits l.bits) (plain_bits c.set_cell.new.bits) (IsSiteOne fabric (is_some packed.reset) line.1 cell) (IsCellOne fabric packed line) (λ x y bit one. (cell, at, one))
          (λ x y bit one. subst (λ (k : PlainCell). IsSiteOne fabric (is_some packed.reset) line.1 k x y bit) (same_at packed.cells line.0 one.0 cell one.1 at) one.2)
          (subst (λ (resets : Bool). Adds (plain_bits l.bits) (plain_bits c.set_cell.new.bits) (IsSiteOne fabric resets line.1 cell)) resets_are c.set_cell.ensures.adds));
    }
