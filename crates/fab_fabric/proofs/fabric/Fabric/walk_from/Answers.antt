use Rattle.std.proofs.Common.{◌≡◌, ◌<◌, ◌≤◌, ◌+◌, ◌-◌, arith, sym, ap, Some, None, option_map, ◌∙◌}
use Rattle.fab_model.specs.Cascade.{placed_row, passing_bits, walk_from}
use Rattle.fab_fabric.specs.Walks.{place_of, found_bit}
use Rattle.fab_fabric.proofs.Stepped.{start_from, start_stands, past_from, walk_from_ends, begins_here, comes_from_further}
use Rattle.fab_fabric.proofs.fabric.Fabric.walk_from.Goals as goal

pub loop-border-init : goal.loop-border-init
loop-border-init c = record {
  stands = start_stands c.args.self.now c.args.from c.in_ok-here.here c.in_ok-here.was c.requires;
  rest = start_from c.args.self.now c.args.from c.in_ok-here.here c.args.borders c.args.bit c.in_ok-here.was;
}

pub row-row-requires : goal.row-row-requires
row-row-requires c = c.loop-border.invariant.stands

pub overflow_add-rest : goal.overflow_add-rest
overflow_add-rest c = omega (arith, c.passing_bits-passing.ensures.room, c.if-rest-passing.false, c.from-rest.ensures)

pub loop-border-preserved : goal.loop-border-preserved
loop-border-preserved c =
    let l = c.loop-border in
    let fabric = c.args.self.now in
    let row = c.row-row.result.now in
    let passes : l.rest < passing_bits row = omega (arith, c.if-rest-passing.false, c.passing_bits-passing.ensures.value) in
    let same : l.rest + c.from-rest.result ≡ l.rest + row.count = omega (arith, c.from-rest.ensures) in
    let here = c.in_ok-here-2.here in
    record {
      stands = c.in_ok-here-2.ensures.0;
      rest =
          ap (walk_from fabric (c.args.borders - (l._border + 1)) (placed_row fabric (place_of here))) same
          ∙ sym (comes_from_further fabric c.args.borders l._border l.here row l.rest (placed_row fabric (place_of here)) c.loop-border-test.true c.row-row.ensures.row passes c.in_ok-here-2.ensures.1)
          ∙ l.invariant.rest;
    }

pub returns-then-rest-passing : goal.returns-then-rest-passing
returns-then-rest-passing c =
    let l = c.loop-border in
    let row = c.row-row.result.now in
    let begins : passing_bits row ≤ l.rest = omega (arith, c.if-rest-passing.true, c.passing_bits-passing.ensures.value) in
    ap (λ n. Some (place_of l.here, l.rest - n)) c.passing_bits-passing.ensures.value
    ∙ sym (begins_here c.args.self.now c.args.borders l._border l.here row l.rest c.loop-border-test.true c.row-row.ensures.row begins)
    ∙ l.invariant.rest

pub returns-in_err-here-2 : goal.returns-in_err-here-2
returns-in_err-here-2 c =
    let l = c.loop-border in
    let fabric = c.args.self.now in
    let row = c.row-row.result.now in
    let passes : l.rest < passing_bits row = omega (arith, c.if-rest-passing.false, c.passing_bits-passing.ensures.value) in
    ap (option_map found_bit) c.from_residual-in_err-here-2.ensures
    ∙ sym (past_from fabric (c.args.borders - (l._border + 1)) (l.rest + row.count))
    ∙ sym (comes_from_further fabric c.args.borders l._border l.here row l.rest None c.loop-border-test.true c.row-row.ensures.row passes c.in_err-here-2.ensures)
    ∙ l.invariant.rest

pub returns : goal.returns
returns c =
    let l = c.loop-border in
    let fabric = c.args.self.now in
    sym (walk_from_ends fabric c.args.borders l._border (placed_row fabric (place_of l.here)) l.rest c.loop-border-test.false) ∙ l.invariant.rest
