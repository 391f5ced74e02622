use Rattle.std.proofs.Common.{◌≡◌, ◌∙◌, ◌<◌, ap, sym, subst, map, length, All, nat_eq, List, ◌++◌, codes, ℕ}
use Rattle.fab_select.specs.declared.pair.Pair.{Pair}
use Rattle.fab_matrix.specs.Matrix.{matrix, numbered_outputs, named}
use Rattle.fab_gen_tile.specs.Names.{matrix_module_name}
use Rattle.fab_gen_tile.specs.TileModule.{matrix_input_names, matrix_output_names}
use Rattle.fab_gen_tile.specs.inner.Places.{placed_pair}
use Rattle.fab_gen_tile.proofs.Renumbered.{inputs_within, outputs_within, matrix_by_places}
use Rattle.fab_gen_tile.proofs.matrix.tile_matrix_module.Goals as goal

pub matrix_module-requires-clause-inputs : goal.matrix_module-requires-clause-inputs
matrix_module-requires-clause-inputs c =
    let tile = c.args.tile.now in
    let places = c.in_ok-sides.sides.places.items in
    let pairs : c.deref-5.result.now ≡ map (placed_pair places) tile.pairs =
    c.deref-5.ensures.value ∙ c.in_ok-pairs.ensures ∙ (λ j. map (placed_pair (c.deref-2.ensures.value j)) (c.pairs.ensures.pairs j)) in
    let inputs : c.deref-3.result.now ≡ matrix_input_names tile = c.deref-3.ensures.value ∙ c.in_ok-sides.ensures.inputs in
    subst (λ (ps : List Pair). All (λ pair. pair.input < length c.deref-3.result.now) ps) (sym pairs)
    (subst (λ (names : List (List ℕ)). All (λ pair. pair.input < length names) (map (placed_pair places) tile.pairs)) (sym inputs)
    (inputs_within tile c.pairs.ensures.is_tile places c.in_ok-sides.ensures.places))

pub matrix_module-requires-clause-outputs : goal.matrix_module-requires-clause-outputs
matrix_module-requires-clause-outputs c =
    let tile = c.args.tile.now in
    let places = c.in_ok-sides.sides.places.items in
    let pairs : c.deref-5.result.now ≡ map (placed_pair places) tile.pairs =
    c.deref-5.ensures.value ∙ c.in_ok-pairs.ensures ∙ (λ j. map (placed_pair (c.deref-2.ensures.value j)) (c.pairs.ensures.pairs j)) in
    let outputs : c.deref-4.result.now ≡ matrix_output_names tile = c.deref-4.ensures.value ∙ c.in_ok-sides.ensures.outputs in
    subst (λ (ps : List Pair). All (λ pair. pair.output < length c.deref-4.result.now) ps) (sym pairs)
    (subst (λ (names : List (List ℕ)). All (λ pair. pair.output < length names) (map (placed_pair places) tile.pairs)) (sym outputs)
    (outputs_within tile c.pairs.ensures.is_tile places c.in_ok-sides.ensures.places))

pub returns : goal.returns
returns c =
    let tile = c.args.tile.now in
    let places = c.in_ok-sides.sides.places.items in
    let pairs : c.deref-5.result.now ≡ map (placed_pair places) tile.pairs =
    c.deref-5.ensures.value ∙ c.in_ok-pairs.ensures ∙ (λ j. map (placed_pair (c.deref-2.ensures.value j)) (c.pairs.ensures.pairs j)) in
    let inputs : c.deref-3.result.now ≡ matrix_input_names tile = c.deref-3.ensures.value ∙ c.in_ok-sides.ensures.inputs in
    let outputs : c.deref-4.result.now ≡ matrix_output_names tile = c.deref-4.ensures.value ∙ c.in_ok-sides.ensures.outputs in
    let name : c.in_ok-name.name ≡ matrix_module_name tile = c.in_ok-name.ensures ∙ ap (λ (n : List ℕ). codes "matrix_" ++ n) c.name.ensures in
    c.in_ok-module.ensures.module
    ∙ (λ j. matrix nat_eq (name j) (inputs j) (numbered_outputs (outputs j)) (named (inputs j) (pairs j)))
    ∙ matrix_by_places tile c.pairs.ensures.is_tile places c.in_ok-sides.ensures.places
