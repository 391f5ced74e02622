use Rattle.std.proofs.Common.{◌≡◌, ℕ, ◌<◌, List, length, ap, ◌∙◌, sym, subst, refl, nat_eq, All}
use Rattle.std.specs.List.{flat_map, filter_map}
use Rattle.fab_model.specs.declared.tiles.Bel.{Bel}
use Rattle.fab_model.specs.Tiles.{counted, matrix_names, numbered_pairs}
use Rattle.fab_model.proofs.LaidOut.{ordered_within}
use Rattle.fab_select.specs.Selection.{in_order}
use Rattle.fab_fabric.proofs.Numbered.{wires_of_tile}
use Rattle.fab_fabric.proofs.Pairs.{outputs_named}
use Rattle.fab_fasm.specs.declared.feature.Feature.{Feature}
use Rattle.fab_features.specs.Design.{site_features, output_feature}
use Rattle.fab_features.specs.inner.Listing.{site_at}
use Rattle.fab_features.proofs.Pushed.{pushes_both, pushes_same}
use Rattle.fab_features.proofs.features.push_tile.Goals as goal

pub push_outputs-requires-clause-outputs : goal.push_outputs-requires-clause-outputs
push_outputs-requires-clause-outputs c =
    let tile = c.args.tile.now in
    let fabric = c.args.lookup.now.fabric.now in
    let all : All (λ output. output < length (matrix_names tile)) (in_order nat_eq (numbered_pairs tile)) =
    ordered_within (length (matrix_names tile)) tile.pairs (outputs_named tile c.requires.is_tile tile.pairs (length (matrix_names tile)) refl refl) in
    subst (λ n. All (λ output. output < n) c.as_slice.result.now) (sym (wires_of_tile fabric c.args.x c.args.y tile c.requires.tile))
    (subst (λ (outputs : List ℕ). All (λ output. output < length (matrix_names tile)) outputs) (sym (c.as_slice.ensures.keys ∙ c.requires.matrix.outputs)) all)

pub returns : goal.returns
returns c =
    let tile = c.args.tile.now in
    let lookup = c.args.lookup.now in
    let f : ℕ → List Feature = λ bel. site_features lookup.packed.now lookup.implementation.now (site_at c.args.x c.args.y bel) in
    let g = output_feature lookup.fabric.now lookup.implementation.now c.args.x c.args.y in
    let start = c.args.features.now.items in
    let middle = c.push_bels.new.features.items in
    let end = c.push_outputs.new.features.items in
    let bels : flat_map f (counted (length c.bels.result.now) (λ i. i)) ≡ flat_map f (counted (length tile.bels) (λ i. i)) =
    ap (λ (b : List Bel). flat_map f (counted (length b) (λ i. i))) c.bels.ensures in
    let outputs : filter_map g c.as_slice.result.now ≡ filter_map g (in_order nat_eq (numbered_pairs tile)) = ap (filter_map g) (c.as_slice.ensures.keys ∙ c.requires.matrix.outputs) in
    pushes_both start middle end (flat_map f (counted (length tile.bels) (λ i. i))) (filter_map g (in_order nat_eq (numbered_pairs tile)))
    (pushes_same start middle _ _ bels c.in_ok-push_bels.ensures) (pushes_same middle end _ _ outputs c.in_ok-push_outputs.ensures)
