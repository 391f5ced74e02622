-- The features of BELs and outputs, from what is looked up.
use Rattle.std.proofs.Common.{◌≡◌, ℕ, ◌-◌, List, [], ◌++◌, codes, get_or, Option, Some, None, sym, refl, ap, ◌∙◌}
use Rattle.std.specs.Option.{option_map, option_map_or}
use Rattle.fab_model.specs.Tiles.{PlainTile, matrix_names}
use Rattle.fab_model.specs.Grid.{PlainFabric, tile_at}
use Rattle.fab_fabric.specs.Names.{place_name}
use Rattle.fab_fabric.specs.Wires.{wire_index}
use Rattle.fab_implementation.specs.Plain.{Edge, PlainImplementation}
use Rattle.fab_features.specs.Design.{feature_of, pair_name, edge_feature, edge_into, output_feature}

same_number : (a b : ℕ) → Some a ≡ Some b → a ≡ b
same_number a b e = cc

no_number : {X : Type 0} (a : ℕ) → Some a ≡ None → X
no_number a e = absurd cc

some_no : {X : Type 0} (a : ℕ) → None ≡ Some a → X
some_no a e = absurd cc

feature_there : (fabric : PlainFabric) (x y output input : ℕ) (found : Option Edge) → Some input ≡ option_map (λ (edge : Edge). edge.0.0 - wire_index fabric x y 0) found →
    option_map (edge_feature fabric x y output) found ≡ Some (feature_of (pair_name fabric x y input output) 0 0 1)
feature_there fabric x y output input None e = no_number input e
feature_there fabric x y output input (Some edge) e =
    ap (λ n. Some (feature_of (pair_name fabric x y n output) 0 0 1)) (sym (same_number input (edge.0.0 - wire_index fabric x y 0) e))

feature_none : (fabric : PlainFabric) (x y output : ℕ) (found : Option Edge) → None ≡ option_map (λ (edge : Edge). edge.0.0 - wire_index fabric x y 0) found →
    option_map (edge_feature fabric x y output) found ≡ None
feature_none fabric x y output None e = refl
feature_none fabric x y output (Some edge) e = some_no (edge.0.0 - wire_index fabric x y 0) e

-- the name of a pair by the names of its tile
pub named : (fabric : PlainFabric) (x y input output : ℕ) (tile : PlainTile) → tile_at fabric x y ≡ Some tile →
    pair_name fabric x y input output ≡ place_name x y ++ codes "." ++ get_or (matrix_names tile) input [] ++ codes "." ++ get_or (matrix_names tile) output []
named fabric x y input output tile is =
    ap (λ (found : Option PlainTile). place_name x y ++ codes "." ++ option_map_or (λ t. get_or (matrix_names t) input []) found [] ++ codes "." ++ option_map_or (λ t. get_or (matrix_names t) output []) found []) is

pub output_there : (fabric : PlainFabric) (i : PlainImplementation) (x y output input : ℕ) (tile : PlainTile) (name : List ℕ) → tile_at fabric x y ≡ Some tile →
    Some input ≡ option_map (λ (edge : Edge). edge.0.0 - wire_index fabric x y 0) (edge_into i (wire_index fabric x y output)) →
    name ≡ place_name x y ++ codes "." ++ get_or (matrix_names tile) input [] ++ codes "." ++ get_or (matrix_names tile) output [] →
    output_feature fabric i x y output ≡ Some (feature_of name 0 0 1)
output_there fabric i x y output input tile name is found name_is =
    feature_there fabric x y output input (edge_into i (wire_index fabric x y output)) found
    ∙ ap (λ (n : List ℕ). Some (feature_of n 0 0 1)) (named fabric x y input output tile is ∙ sym name_is)

pub output_none : (fabric : PlainFabric) (i : PlainImplementation) (x y output : ℕ) → None ≡ option_map (λ (edge : Edge). edge.0.0 - wire_index fabric x y 0) (edge_into i (wire_index fabric x y output)) →
    output_feature fabric i x y output ≡ None
output_none fabric i x y output found = feature_none fabric x y output (edge_into i (wire_index fabric x y output)) found
