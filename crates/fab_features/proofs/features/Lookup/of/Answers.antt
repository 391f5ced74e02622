use Rattle.std.proofs.Common.{◌≡◌, ℕ, ◌<◌, ◌*◌, List, map, get_or, ap, ◌∙◌, sym, refl, subst, arith, All}
use Rattle.std.specs.List.{flat_map}
use Rattle.std.proofs.lemmas.List.Elements.{All-map}
use Rattle.fab_fabric.specs.Fabric.{wire_count}
use Rattle.fab_fabric.specs.declared.wire.Site.{Site}
use Rattle.fab_implementation.specs.Plain.{Edge, PlainTree, PlainImplementation}
use Rattle.fab_kinds.specs.declared.kind.Kind.TheVariants as kinds
use Rattle.fab_use_defs.proofs.fab_tile_drives_laws_Endings.{all_flat_map}
use Rattle.fab_features.specs.inner.Listing.{Keyed, HoldsFirsts, edge_key, line_key, IsNear}
use Rattle.fab_features.proofs.Tables.{sites_fit, site_near, grid_near, index_fits}
use Rattle.fab_features.proofs.features.Lookup.of.Goals as goal

pub overflow_mul-sites : goal.overflow_mul-sites
overflow_mul-sites c = omega (arith, sites_fit c.columns.result c.rows-rows.result (omega (arith, c.requires.is_fabric.few_columns)) (omega (arith, c.requires.is_fabric.few_rows)))

pub overflow_mul-sites-2 : goal.overflow_mul-sites-2
overflow_mul-sites-2 c = omega (arith, sites_fit c.columns.result c.rows-rows.result (omega (arith, c.requires.is_fabric.few_columns)) (omega (arith, c.requires.is_fabric.few_rows)))

pub line_pairs-requires-clause-rows : goal.line_pairs-requires-clause-rows
line_pairs-requires-clause-rows c = omega (arith, c.requires.is_fabric.few_rows)

pub line_pairs-requires-clause-lines : goal.line_pairs-requires-clause-lines
line_pairs-requires-clause-lines c =
    let fabric = c.args.fabric.now in
    let i = c.args.implementation.now in
    let cells_are : c.deref.result.now ≡ i.cells = c.deref.ensures.value ∙ ap (λ (p : PlainImplementation). p.cells) c.implementation.view_is in
    let all : All (λ (line : ℕ × Site). IsNear fabric.rows line.1) i.cells = λ k d few.
    grid_near fabric (get_or i.cells k d).1 c.requires.is_fabric (site_near fabric (get_or i.cells k d).1 kinds.Lut4c c.requires.is_fabric (c.requires.lines k d few).of_kind) in
    rw c.rows-rows.ensures (subst (λ (cells : List (ℕ × Site)). All (λ (line : ℕ × Site). IsNear fabric.rows line.1) cells) (sym cells_are) all)

pub first_values-requires : goal.first_values-requires
first_values-requires c =
    let fabric = c.args.fabric.now in
    let i = c.args.implementation.now in
    let cells_are : c.deref.result.now ≡ i.cells = c.deref.ensures.value ∙ ap (λ (p : PlainImplementation). p.cells) c.implementation.view_is in
    let pairs_are : c.deref-3.result.now ≡ map (line_key fabric.rows) i.cells =
    c.deref-3.ensures.value ∙ c.in_ok-lines.ensures ∙ ap (λ rows. map (line_key rows) c.deref.result.now) c.rows-rows.ensures ∙ ap (map (line_key fabric.rows)) cells_are in
    let size = fabric.columns * fabric.rows * 26 in
    let all : All (λ (pair : Keyed). pair.0 < size) (map (line_key fabric.rows) i.cells) =
    All-map (λ (pair : Keyed). pair.0 < size) (line_key fabric.rows) i.cells (λ k d few.
    index_fits fabric (get_or i.cells k d).1 (site_near fabric (get_or i.cells k d).1 kinds.Lut4c c.requires.is_fabric (c.requires.lines k d few).of_kind)) in
    rw (c.columns.ensures, c.rows-rows.ensures) (subst (λ (pairs : List Keyed). All (λ (pair : Keyed). pair.0 < size) pairs) (sym pairs_are) all)

pub first_values-requires-2 : goal.first_values-requires-2
first_values-requires-2 c =
    let fabric = c.args.fabric.now in
    let i = c.args.implementation.now in
    let trees_are : c.deref-2.result.now ≡ i.trees = c.deref-2.ensures.value ∙ ap (λ (p : PlainImplementation). p.trees) c.implementation.view_is in
    let edges : List PlainTree → List Edge = λ trees. flat_map (λ (t : PlainTree). t.edges) trees in
    let pairs_are : c.deref-4.result.now ≡ map edge_key (edges i.trees) = c.deref-4.ensures.value ∙ c.in_ok-edges.ensures ∙ ap (λ trees. map edge_key (edges trees)) trees_are in
    let size = wire_count fabric in
    let all : All (λ (pair : Keyed). pair.0 < size) (map edge_key (edges i.trees)) =
    All-map (λ (pair : Keyed). pair.0 < size) edge_key (edges i.trees)
    (all_flat_map (λ (e : Edge). e.1.0 < size) (λ (t : PlainTree). t.edges) i.trees (λ j t few k d small. (c.requires.wires j t few k d small).1)) in
    rw c.wires.ensures (subst (λ (pairs : List Keyed). All (λ (pair : Keyed). pair.0 < size) pairs) (sym pairs_are) all)

pub returns-clause-is : goal.returns-clause-is
returns-clause-is c =
    let fabric = c.args.fabric.now in
    let i = c.args.implementation.now in
    let cells_are : c.deref.result.now ≡ i.cells = c.deref.ensures.value ∙ ap (λ (p : PlainImplementation). p.cells) c.implementation.view_is in
    let pairs_are : c.deref-3.result.now ≡ map (line_key fabric.rows) i.cells =
    c.deref-3.ensures.value ∙ c.in_ok-lines.ensures ∙ ap (λ rows. map (line_key rows) c.deref.result.now) c.rows-rows.ensures ∙ ap (map (line_key fabric.rows)) cells_are in
    let trees_are : c.deref-2.result.now ≡ i.trees = c.deref-2.ensures.value ∙ ap (λ (p : PlainImplementation). p.trees) c.implementation.view_is in
    let edges : List PlainTree → List Edge = λ trees. flat_map (λ (t : PlainTree). t.edges) trees in
    let edge_pairs_are : c.deref-4.result.now ≡ map edge_key (edges i.trees) = c.deref-4.ensures.value ∙ c.in_ok-edges.ensures ∙ ap (λ trees. map edge_key (edges trees)) trees_are in
    let size : c.columns.result * c.rows-rows.result * 26 ≡ fabric.columns * fabric.rows * 26 = rw (c.columns.ensures, c.rows-rows.ensures) refl in
    record {
      is_fabric = c.requires.is_fabric;
      lines = c.requires.lines;
      cells = subst (λ n. HoldsFirsts n (map (line_key fabric.rows) i.cells) c.in_ok-first_values.field-0.items) size
          (subst (λ (pairs : List Keyed). HoldsFirsts (c.columns.result * c.rows-rows.result * 26) pairs c.in_ok-first_values.field-0.items) pairs_are c.in_ok-first_values.ensures);
      entering = subst (λ n. HoldsFirsts n (map edge_key (edges i.trees)) c.in_ok-first_values-2.field-0.items) c.wires.ensures
          (subst (λ (pairs : List Keyed). HoldsFirsts c.wires.result pairs c.in_ok-first_values-2.field-0.items) edge_pairs_are c.in_ok-first_values-2.ensures);
    }
