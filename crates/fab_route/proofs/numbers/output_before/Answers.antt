use Rattle.std.proofs.Common.{sym, ap, ◌∙◌}
use Rattle.std.proofs.lemmas.Option.{same_Some}
use Rattle.fab_fabric.specs.declared.wire.Wire.{Wire}
use Rattle.fab_ways_laws.proofs.Lists.{none_some}
use Rattle.fab_route.proofs.Tabled.{joined_output}
use Rattle.fab_route.proofs.numbers.output_before.Goals as goal

pub returns-in-Some : goal.returns-in-Some
returns-in-Some c = λ output joined.
    ap (λ (w : Wire). w.0) (same_Some c.in-Some.output output (sym c.in-Some.is ∙ joined_output c.args.fabric.now c.args.wire c.join_from.result c.is_well_made.ensures.are_tiles c.requires c.join_from.ensures.join output joined))

pub returns-in-None : goal.returns-in-None
returns-in-None c = λ output joined.
    absurd (none_some output (sym c.in-None.is ∙ joined_output c.args.fabric.now c.args.wire c.join_from.result c.is_well_made.ensures.are_tiles c.requires c.join_from.ensures.join output joined))
