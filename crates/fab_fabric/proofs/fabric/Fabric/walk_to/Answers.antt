use Rattle.std.proofs.Common.{◌≡◌, ◌+◌, ◌-◌, arith, sym, ap, None, option_map, ◌∙◌, true, false}
use Rattle.fab_model.specs.Cascade.{placed_row, ends_there, walk_to}
use Rattle.fab_fabric.specs.Walks.{place_of, found_bit}
use Rattle.fab_fabric.proofs.Stepped.{start_to, start_stands, past_to, walk_to_ends, ends_here, goes_on}
use Rattle.fab_fabric.proofs.fabric.Fabric.walk_to.Goals as goal

pub loop-border-init : goal.loop-border-init
loop-border-init c = record {
  stands = start_stands c.args.self.now c.args.from c.in_ok-here.here c.in_ok-here.was c.requires;
  rest = start_to c.args.self.now c.args.from c.in_ok-here.here c.args.borders c.args.bit c.in_ok-here.was;
}

pub row-row-requires : goal.row-row-requires
row-row-requires c = c.loop-border.invariant.stands

pub loop-border-preserved : goal.loop-border-preserved
loop-border-preserved c =
    let l = c.loop-border in
    let fabric = c.args.self.now in
    let row = c.row-row.result.now in
    let ends : ends_there row l.rest ≡ false = sym c.ends_there.ensures ∙ c.if-ends_there.false in
    let same : l.rest - c.from-rest.result ≡ l.rest - row.count = omega (arith, c.from-rest.ensures) in
    let here = c.in_ok-here-2.here in
    record {
      stands = c.in_ok-here-2.ensures.0;
      rest =
          ap (walk_to fabric (c.args.borders - (l._border + 1)) (placed_row fabric (place_of here))) same
          ∙ sym (goes_on fabric c.args.borders l._border l.here row l.rest (placed_row fabric (place_of here)) c.loop-border-test.true c.row-row.ensures.row ends c.in_ok-here-2.ensures.1)
          ∙ l.invariant.rest;
    }

pub returns-then-ends_there : goal.returns-then-ends_there
returns-then-ends_there c =
    let l = c.loop-border in
    let ends : ends_there c.row-row.result.now l.rest ≡ true = sym c.ends_there.ensures ∙ c.if-ends_there.true in
    sym (ends_here c.args.self.now c.args.borders l._border l.here c.row-row.result.now l.rest c.loop-border-test.true c.row-row.ensures.row ends) ∙ l.invariant.rest

pub returns-in_err-here-2 : goal.returns-in_err-here-2
returns-in_err-here-2 c =
    let l = c.loop-border in
    let fabric = c.args.self.now in
    let row = c.row-row.result.now in
    let ends : ends_there row l.rest ≡ false = sym c.ends_there.ensures ∙ c.if-ends_there.false in
    ap (option_map found_bit) c.from_residual-in_err-here-2.ensures
    ∙ sym (past_to fabric (c.args.borders - (l._border + 1)) (l.rest - row.count))
    ∙ sym (goes_on fabric c.args.borders l._border l.here row l.rest None c.loop-border-test.true c.row-row.ensures.row ends c.in_err-here-2.ensures)
    ∙ l.invariant.rest

pub returns : goal.returns
returns c =
    let l = c.loop-border in
    let fabric = c.args.self.now in
    sym (walk_to_ends fabric c.args.borders l._border (placed_row fabric (place_of l.here)) l.rest c.loop-border-test.false) ∙ l.invariant.rest
