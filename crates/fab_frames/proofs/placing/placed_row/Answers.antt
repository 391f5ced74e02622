use Rattle.std.proofs.Common.{◌-◌, ◌+◌, ◌*◌, arith}
use Rattle.std.proofs.lemmas.Option.{slice_get_within}
use Rattle.fab_frames.proofs.Mapped.{map_at, map_read, empty_row, row_of_map}
use Rattle.fab_frames.proofs.placing.placed_row.Goals as goal

pub returns-in_default : goal.returns-in_default
returns-in_default c = empty_row c.args.fabric.now c.args.x c.args.y c.args.frame c.type_at.result c.requires.x c.requires.y c.type_at.ensures c.in_default.is

pub bounds-maps-number : goal.bounds-maps-number
bounds-maps-number c =
    let found = map_at c.args.fabric.now c.args.maps.now c.args.x c.args.y c.in-Some.number c.type_at.result c.requires.maps c.requires.x c.requires.y c.type_at.ensures c.in-Some.is in
    slice_get_within c.args.maps.now c.in-Some.number found.map found.at

pub slice_bounds-result-end-2 : goal.slice_bounds-result-end-2
slice_bounds-result-end-2 c =
    let found = map_at c.args.fabric.now c.args.maps.now c.args.x c.args.y c.in-Some.number c.type_at.result c.requires.maps c.requires.x c.requires.y c.type_at.ensures c.in-Some.is in
    let read = map_read c.args.fabric.now c.args.maps.now c.args.x c.args.y c.in-Some.number c.index-maps-number.result c.deref.result.now found c.deref.ensures.value in
    omega (arith, read.long, c.requires.frame)

pub returns : goal.returns
returns c =
    let found = map_at c.args.fabric.now c.args.maps.now c.args.x c.args.y c.in-Some.number c.type_at.result c.requires.maps c.requires.x c.requires.y c.type_at.ensures c.in-Some.is in
    let read = map_read c.args.fabric.now c.args.maps.now c.args.x c.args.y c.in-Some.number c.index-maps-number.result c.deref.result.now found c.deref.ensures.value in
    row_of_map c.args.fabric.now c.args.x c.args.y c.args.frame (c.args.frame * 32 + 32 - c.args.frame * 32) found.tile c.deref.result.now found.stands read c.requires.frame (omega arith)
