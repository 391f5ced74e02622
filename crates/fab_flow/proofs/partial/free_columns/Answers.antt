use Rattle.std.proofs.Common.{arith}
use Rattle.fab_partial.specs.Columns.{lies_within}
use Rattle.fab_flow.proofs.PartialMade.{far_refused, site_low, use_refused, wire_inside}
use Rattle.fab_flow.proofs.partial.free_columns.Goals as goal

pub returns-then-last-columns-clause-refused : goal.returns-then-last-columns-clause-refused
returns-then-last-columns-clause-refused c =
    far_refused c.args.fabric.now c.args.implementation.now c.args.first c.args.last c.in_ok-column_text.field-0 c.in_ok-column_text.ensures
    (omega (arith, c.if-last-columns.true, c.columns.ensures))

pub use_text-requires-clause-site : goal.use_text-requires-clause-site
use_text-requires-clause-site c =
    site_low c.args.fabric.now c.is_well_made.ensures.is_fabric c.is_well_made.ensures.are_tiles c.args.implementation.now c.requires.on_fabric (lies_within c.args.first c.args.last)
    c.in-Some.found c.in-Some.ensures

pub use_text-requires-clause-wire : goal.use_text-requires-clause-wire
use_text-requires-clause-wire c =
    wire_inside c.args.fabric.now c.is_well_made.ensures.is_fabric c.is_well_made.ensures.are_tiles c.args.implementation.now c.requires.on_fabric (lies_within c.args.first c.args.last)
    c.in-Some.found c.in-Some.ensures

pub returns-in_ok-use_text-in-Some-clause-refused : goal.returns-in_ok-use_text-in-Some-clause-refused
returns-in_ok-use_text-in-Some-clause-refused c =
    use_refused c.args.fabric.now c.args.implementation.now c.args.first c.args.last c.in-Some.found c.in_ok-use_text-in-Some.field-0
    (omega (arith, c.if-last-columns.false, c.columns.ensures)) c.in-Some.ensures c.in_ok-use_text-in-Some.ensures
