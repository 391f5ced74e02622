use Rattle.std.proofs.Common.{◌≡◌, ℕ, ◌<◌, ◌*◌, ◌+◌, List, Option, None, length, get_or, slice_get, ap, ◌∙◌, sym, arith, All}
use Rattle.std.specs.List.{find}
use Rattle.std.specs.Option.{option_map, option_and_then}
use Rattle.fab_kinds.specs.declared.kind.Kind.TheVariants as kinds
use Rattle.fab_fabric.specs.declared.wire.Site.{Site}
use Rattle.fab_netlist.specs.Packed.{PlainCell, PlainPacked}
use Rattle.fab_features.specs.Design.{same_site}
use Rattle.fab_features.specs.inner.Listing.{site_index, IsInGrid}
use Rattle.fab_features.specs.declared.features.Lookup.{Lookup}
use Rattle.fab_features.specs.inner.Lookups.{IsLookup}
use Rattle.fab_features.proofs.Tables.{read_is, index_fits, site_near, first_line, cell_of}
use Rattle.fab_features.proofs.features.Lookup.cell_on.Goals as goal

looked : (lookup : Lookup) (site : Site) (place : ℕ) (cell : Option ℕ) → IsLookup lookup → IsInGrid lookup.fabric.now site → place ≡ site_index lookup.fabric.now.rows site →
    cell ≡ get_or lookup.cells.items place cell →
    option_and_then (slice_get lookup.packed.now.cells) cell
    ≡ option_and_then (λ (line : ℕ × Site). slice_get lookup.packed.now.cells line.0) (find (λ line. same_site line.1 site) lookup.implementation.now.cells)
looked lookup site place cell is in_grid place_is read =
    let fabric = lookup.fabric.now in
    let lines = lookup.implementation.now.cells in
    let key = site_index fabric.rows site in
    let fits = index_fits fabric site in_grid in
    let inside : place < length lookup.cells.items = omega (arith, fits, place_is, is.cells.as_many) in
    let near : All (λ (line : ℕ × Site). IsInGrid fabric line.1) lines = λ k d few. site_near fabric (get_or lines k d).1 kinds.Lut4c is.is_fabric (is.lines k d few).of_kind in
    let found : cell ≡ option_map (λ (line : ℕ × Site). line.0) (find (λ line. same_site line.1 site) lines) =
    sym (read_is lookup.cells.items place cell None inside read)
    ∙ ap (λ n. get_or lookup.cells.items n None) place_is
    ∙ is.cells.each key fits
    ∙ first_line fabric lines site near in_grid in
    cell_of lookup.packed.now (find (λ line. same_site line.1 site) lines) cell found

pub returns-in-None : goal.returns-in-None
returns-in-None c =
    let lookup = c.args.self.now in
    let place_is : c.site_number-place.result ≡ site_index lookup.fabric.now.rows c.args.site =
    c.site_number-place.ensures ∙ ap (λ rows. (c.args.site.x * rows + c.args.site.y) * 26 + c.args.site.bel) c.rows.ensures in
    ap (option_and_then (slice_get lookup.packed.now.cells)) (sym c.in-None.is)
    ∙ looked lookup c.args.site c.site_number-place.result c.index.result.now c.requires.is c.requires.in_grid place_is c.index.ensures

pub returns-in-Some : goal.returns-in-Some
returns-in-Some c =
    let lookup = c.args.self.now in
    let place_is : c.site_number-place.result ≡ site_index lookup.fabric.now.rows c.args.site =
    c.site_number-place.ensures ∙ ap (λ rows. (c.args.site.x * rows + c.args.site.y) * 26 + c.args.site.bel) c.rows.ensures in
    let cells_are : c.deref.result.now ≡ lookup.packed.now.cells = c.deref.ensures.value ∙ ap (λ (p : PlainPacked). p.cells) c.packed.view_is in
    c.cell_at.ensures
    ∙ ap (λ (cells : List PlainCell). slice_get cells c.in-Some.number) cells_are
    ∙ ap (option_and_then (slice_get lookup.packed.now.cells)) (sym c.in-Some.is)
    ∙ looked lookup c.args.site c.site_number-place.result c.index.result.now c.requires.is c.requires.in_grid place_is c.index.ensures
