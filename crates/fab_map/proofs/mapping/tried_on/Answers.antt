use Rattle.std.proofs.Common.{sym, subst}
use Rattle.fab_implementation.specs.Plain.{PlainImplementation}
use Rattle.fab_legal.specs.Legal.{IsLegal}
use Rattle.fab_map.proofs.Reached.{routed_on_fabric, routed_inputs}
use Rattle.fab_map.proofs.mapping.tried_on.Goals as goal

pub returns-in-Ok-Some-clause-legal : goal.returns-in-Ok-Some-clause-legal
returns-in-Ok-Some-clause-legal g c =
    subst (λ (i : PlainImplementation). IsLegal c.args.fabric.now c.args.packed.now c.args._fixed.now i) (sym (rw c.in-Ok-Some.field-0-is at c.with_trees.ensures))
    ((rw c.in-Ok-Some.field-0-is at c.in-Ok-Some.ensures.legal) c.args._fixed.now c.requires.good.constraints)

pub returns-in-Ok-Some-clause-on_fabric : goal.returns-in-Ok-Some-clause-on_fabric
returns-in-Ok-Some-clause-on_fabric g c =
    routed_on_fabric c.args.fabric.now c.is_well_made.ensures.are_tiles c.args.packed.now c.args.placed c.requires.fits.made c.requires.good.placed c.requires.on_fabric _ c.in-Ok-Some.routed.trees.items
    c.with_trees.result (rw c.in-Ok-Some.field-0-is at c.in-Ok-Some.ensures.routed) (rw c.in-Ok-Some.field-0-is at c.with_trees.ensures)

pub returns-in-Ok-Some-clause-inputs : goal.returns-in-Ok-Some-clause-inputs
returns-in-Ok-Some-clause-inputs g c =
    routed_inputs c.args.fabric.now c.is_well_made.ensures.are_tiles c.args.packed.now c.args.placed c.requires.fits.made c.requires.good.placed c.requires.on_fabric _ c.in-Ok-Some.routed.trees.items
    c.with_trees.result (rw c.in-Ok-Some.field-0-is at c.in-Ok-Some.ensures.routed) (rw c.in-Ok-Some.field-0-is at c.with_trees.ensures)
