use Rattle.std.proofs.Common.{◌++◌, ◌∙◌, ap, map, append_assoc, List, Option}
use Rattle.std.proofs.lemmas.Result.{on_ok_weaker}
use Rattle.fab_syntax.specs.Plain.{PlainJoin, plain_join, variable}
use Rattle.fab_model.specs.Cascade.{PlacedRow}
use Rattle.fab_model.specs.Tiles.{counted}
use Rattle.fab_gen_tile.specs.Names.{begin_name, end_name, port_join}
use Rattle.fab_gen_tile.specs.Borders.{side_border}
use Rattle.fab_text_loads_laws.specs.fab_fabric_text_defs_Names.{begin_wire_name}
use Rattle.fab_text_loads_laws.specs.fab_fabric_text_defs_Top.{end_value}
use Rattle.fab_fabric.specs.Walks.{placed_at}
use Rattle.fab_gen_top.proofs.Found.{has_row, found_stands, previous_found}
use Rattle.fab_gen_top.proofs.joins.push_border_joins.Goals as goal

pub previous_row-previous-requires : goal.previous_row-previous-requires
previous_row-previous-requires c = has_row c.args.fabric.now c.args.place c.args.number c.args.row.now c.requires.place c.requires.row

pub push_end_joins-requires : goal.push_end_joins-requires
push_end_joins-requires c = found_stands c.args.fabric.now c.previous_row-previous.result _ c.previous_row-previous.ensures

pub returns : goal.returns
returns c =
    let old = map plain_join c.args.joins.now.items in
    let row = c.args.row.now in
    let begins = counted (side_border row row.source) (λ bit. port_join (begin_name row bit) (variable (begin_wire_name c.args.place.x c.args.place.y row bit))) in
    let ends : Option PlacedRow → List PlainJoin = λ previous. counted (side_border row row.dest) (λ bit. port_join (end_name row bit) (end_value previous bit)) in
    on_ok_weaker c.push_end_joins.result
    (λ last.
    last
    ∙ ap (λ xs. xs ++ ends (placed_at c.args.fabric.now c.previous_row-previous.result)) c.in_ok-push_begin_joins.ensures
    ∙ append_assoc old begins (ends (placed_at c.args.fabric.now c.previous_row-previous.result))
    ∙ ap (λ previous. old ++ (begins ++ ends previous)) (previous_found c.args.fabric.now c.args.place c.args.number row c.previous_row-previous.result c.requires.place c.requires.row c.previous_row-previous.ensures))
    c.push_end_joins.ensures
