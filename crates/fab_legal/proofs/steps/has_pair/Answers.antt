use Rattle.std.proofs.Common.{arith}
use Rattle.fab_implementation.specs.fab_fabric.proofs.Numbered.{wired_within}
use Rattle.fab_legal.proofs.StepLaws.{type_there, sets_inside, keys_there, looked_up}
use Rattle.fab_legal.proofs.steps.has_pair.Goals as goal

pub index-set-requires : goal.index-set-requires
index-set-requires c =
    let inside = wired_within c.args.fabric.now c.args.x c.args.y c.args.input c.requires.input in
    let there = type_there c.args.fabric.now c.args.x c.args.y c.in-Some.number c.type_at.result c.is_well_made.ensures.is_fabric inside.0 inside.1 c.type_at.ensures c.in-Some.is in
    omega (arith, sets_inside c.args.fabric.now.types c.args.sets.now.sets.items c.in-Some.number c.requires.sets there.1.0, c.args.sets.now.sets.ok.0)

pub returns-in-Some : goal.returns-in-Some
returns-in-Some c =
    let inside = wired_within c.args.fabric.now c.args.x c.args.y c.args.input c.requires.input in
    let there = type_there c.args.fabric.now c.args.x c.args.y c.in-Some.number c.type_at.result c.is_well_made.ensures.is_fabric inside.0 inside.1 c.type_at.ensures c.in-Some.is in
    let keys = keys_there c.args.fabric.now.types c.args.sets.now.sets.items c.in-Some.number c.index-set.result.now there.0 c.requires.sets there.1 c.index-set.ensures in
    looked_up c.args.fabric.now c.args.x c.args.y c.args.output c.args.input there.0 c.index-set.result.now.keys there.2 keys.1 c.contains.result c.contains.ensures
