use Rattle.std.proofs.Common.{◌≡◌, List, arith, refl, sym, ap, length, get_or, slice_get, subst, Option, Some, ◌∙◌}
use Rattle.std.proofs.lemmas.Option.{slice_get_read}
use Rattle.fab_model.specs.declared.tiles.WireRow.{WireRow}
use Rattle.fab_fabric.specs.declared.fabric.joins.RowAt.{RowAt}
use Rattle.fab_fabric.specs.declared.ends.Side.TheVariants as sides
use Rattle.fab_fabric.specs.Walks.{FindsRow}
use Rattle.fab_fabric.proofs.Stepped.{row_inside, next_of, next_is, no_next, before_read, before_inside}
use Rattle.fab_fabric.proofs.fabric.Fabric.next_row.Goals as goal

pub step-requires-clause-x : goal.step-requires-clause-x
step-requires-clause-x c = c.in_ok-tile.ensures.small.0

pub step-requires-clause-y : goal.step-requires-clause-y
step-requires-clause-y c = c.in_ok-tile.ensures.small.1

pub returns-in_err-x : goal.returns-in_err-x
returns-in_err-x c =
    let fabric = c.args.self.now in
    let here = c.args.here in
    let tile = c.in_ok-tile.tile.now in
    let row = c.index-rows-here.result in
    let inside = row_inside fabric here tile c.requires c.in_ok-tile.ensures.found.0 in
    let row_is : slice_get tile.rows here.row ≡ Some row =
    slice_get_read tile.rows (length tile.rows) here.row row refl inside (c.index-rows-here.is ∙ ap (λ (rows : List WireRow). get_or rows here.row row) c.rows.ensures.rows) in
    subst (λ (found : Option RowAt). FindsRow fabric found (next_of fabric here)) (sym c.from_residual-in_err-x.ensures) (no_next fabric here tile row c.in_ok-tile.ensures.found.0 row_is (sym c.in_err-x.ensures))

pub index-before-requires : goal.index-before-requires
index-before-requires c =
    let tile = c.in_ok-tile.tile.now in
    let inside = row_inside c.args.self.now c.args.here tile c.requires c.in_ok-tile.ensures.found.0 in
    let few = before_inside tile c.in_ok-tile.index.now sides.Source c.index-rows-here.result.dir c.ends.result.now c.args.here.row c.in_ok-tile.ensures.found.1 c.ends.ensures inside in
    omega (arith, few, c.ends.result.now.before.ok)

pub returns : goal.returns
returns c =
    let fabric = c.args.self.now in
    let here = c.args.here in
    let tile = c.in_ok-tile.tile.now in
    let row = c.index-rows-here.result in
    let inside = row_inside fabric here tile c.requires c.in_ok-tile.ensures.found.0 in
    let row_is : slice_get tile.rows here.row ≡ Some row =
    slice_get_read tile.rows (length tile.rows) here.row row refl inside (c.index-rows-here.is ∙ ap (λ (rows : List WireRow). get_or rows here.row row) c.rows.ensures.rows) in
    let number = before_read tile c.in_ok-tile.index.now sides.Source row.dir c.ends.result.now here.row c.index-before.result.now c.in_ok-tile.ensures.found.1 c.ends.ensures inside c.index-before.ensures in
    subst (FindsRow fabric c.fitting_row.result) (sym (next_is fabric here tile row c.in_ok-x.x c.in_ok-x.y c.index-before.result.now c.in_ok-tile.ensures.found.0 row_is (sym c.in_ok-x.ensures) number)) c.fitting_row.ensures
