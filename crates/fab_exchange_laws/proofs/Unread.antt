-- An implementation does not read the configuration bits of columns that it does not use.
use Rattle.std.proofs.Common.{◌≡◌, ◌<◌, ℕ, zero, suc, ◌+◌, Bool, true, false, List, Contains, refl, sym, ap, ◌∙◌, subst, inl, inr, arith, Some, slice_get, not, if◌then◌else◌}
use Rattle.std.specs.Option.{option_and_then}
use Rattle.std.specs.List.{All}
use Rattle.std.proofs.lemmas.Bool.{cases_Bool}
use Rattle.std.proofs.lemmas.List.Elements.{All-contains}
use Rattle.fab_bits.specs.Bits.{number, first_bits}
use Rattle.fab_model.specs.Tiles.{PlainTile, output_field, is_matrix_output, IsPair, IsTile}
use Rattle.fab_model.specs.Wires.{PlainWire, IsMatrixOutput, wire_number, plain_wires}
use Rattle.fab_model.specs.Grid.{PlainFabric, tile_at}
use Rattle.fab_model.specs.Drive.{PlainBits, matrix_inputs, input_at, select_value}
use Rattle.fab_model.proofs.Wires.{number_has_wire}
use Rattle.fab_fabric.specs.Fabric.{AreTiles}
use Rattle.fab_fabric.specs.Wires.{IsIndexOf}
use Rattle.fab_fabric.specs.declared.wire.Site.{Site}
use Rattle.fab_fabric.specs.declared.wire.Wire.{Wire}
use Rattle.fab_fabric.proofs.Numbered.{one_wire, wire_with_number}
use Rattle.fab_netlist.specs.Packed.{PlainPacked}
use Rattle.fab_implementation.specs.Plain.{Edge, Pad, PlainTree, PlainImplementation}
use Rattle.fab_text_loads_laws.proofs.fab_drives_laws_Modules.{tile_of_types}
use Rattle.fab_partial.specs.Columns.{exchanged}
use Rattle.fab_partial.specs.Use.{IsUsedEdge, AreUnused}
use Rattle.fab_runs_laws.specs.fab_legal_Steps.{IsPaired}
use Rattle.fab_runs_laws.proofs.fab_points_laws_Places.{one_tile, passing_plain}
use Rattle.fab_runs_laws.proofs.fab_points_laws_Origins.{OfJoin, of_join, edge_step}
use Rattle.fab_runs_laws.proofs.fab_points_laws_Covers.{dest_no_output}
use Rattle.fab_runs_laws.specs.fab_legal_Legal.{IsLegal}
use Rattle.fab_runs_laws.specs.fab_use_defs_Configuring.{Configures}
use Rattle.fab_exchange_laws.specs.Exchanges.{UnusedBitsMayChange}

-- an output that takes no configuration bits has one value for them
bare_value : (width low : ℕ) (bits others : ℕ → Bool) → (0 < width → ⊥) →
    number (first_bits width (λ place. others (low + place))) ≡ number (first_bits width (λ place. bits (low + place)))
bare_value zero low bits others bare = refl
bare_value (suc width) low bits others bare = absurd (bare (omega arith))

module _ (fabric : PlainFabric) (packed : PlainPacked) (fixed : List Pad) (implementation : PlainImplementation) (there_is : ℕ → Bool) (are : AreTiles fabric)
    (legal : IsLegal fabric packed fixed implementation) (unused : AreUnused fabric implementation there_is) where
  -- an output of these columns that an edge enters takes none
  module _ (tree : PlainTree) (edge : Edge) (x y : ℕ) (tile : PlainTile) (output : PlainWire) (listed : Contains implementation.trees tree) (among : Contains tree.edges edge)
      (there : tile_at fabric x y ≡ Some tile) (index : IsIndexOf fabric edge.1.0 x y output) (is_output : IsMatrixOutput tile output) (inside : there_is x ≡ true) where
    of_pair : IsPaired fabric edge.0 edge.1 → 0 < (output_field tile (wire_number tile output)).1 → ⊥
    of_pair p some =
        let is_tile : IsTile p.tile = All-contains IsTile fabric.types p.tile are (tile_of_types fabric p.x p.y p.tile p.tile_is) in
        let is_pair : IsPair p.tile p.pair = All-contains (IsPair p.tile) p.tile.pairs p.pair is_tile.pairs p.listed in
        let out = passing_plain is_matrix_output p.tile p.pair.output is_pair.output in
        let to : IsIndexOf fabric edge.1.0 p.x p.y out.0 =
        subst (λ (w : Wire). IsIndexOf fabric w.0 p.x p.y out.0) (sym p.to_is) (wire_with_number fabric p.x p.y p.pair.output p.tile out.0 p.tile_is out.1) in
        let g = one_wire fabric edge.1.0 p.x p.y x y out.0 output to index in
        let same_tile : p.tile ≡ tile = one_tile fabric x y p.tile tile ((λ j. tile_at fabric (sym g.0 j) (sym g.1 j)) ∙ p.tile_is) there in
        let number_is : wire_number tile output ≡ p.pair.output = (λ j. wire_number (sym same_tile j) (sym g.2 j)) ∙ (number_has_wire p.tile p.pair.output out.0 out.1).1 in
        let field : (output_field tile (wire_number tile output)).1 ≡ (output_field p.tile p.pair.output).1 = λ j. (output_field (sym same_tile j) (number_is j)).1 in
        All-contains (λ edge. IsUsedEdge fabric there_is edge → ⊥) tree.edges edge
        (All-contains (λ (tree : PlainTree). All (λ edge. IsUsedEdge fabric there_is edge → ⊥) tree.edges) implementation.trees tree unused.edges listed) among
        (record { paired = p; within = ap there_is g.0 ∙ inside; some = subst (λ n. 0 < n) field some })

    takes_none : 0 < (output_field tile (wire_number tile output)).1 → ⊥
    takes_none some =
        elim (edge_step fabric packed fixed implementation are legal x y tile output there tree edge listed among index) [
          | inl p ↦ of_pair p some
          | inr p ↦ (
              let join : OfJoin fabric x y output edge = of_join fabric packed fixed implementation are legal x y tile output there edge index p in
              dest_no_output tile join.row join.bit (subst (λ w. IsMatrixOutput tile w) join.plain_is is_output))
        ]

  pub bits_change : (bits others : PlainBits) → Configures fabric packed implementation bits → Configures fabric packed implementation (exchanged there_is bits others)
  bits_change bits others configures = record {
    cells = λ cell_number bit site cell tile bound there few.
        let outside : there_is site.x ≡ false =
        All-contains (λ (line : ℕ × Site). there_is line.1.x ≡ false) implementation.cells (cell_number, site) unused.cells bound.listed in
        rw outside (configures.cells cell_number bit site cell tile bound there few);
    edges = λ tree edge x y tile output input listed among there index is_output from.
        let before = configures.edges tree edge x y tile output input listed among there index is_output from in
        elim (cases_Bool (there_is x)) [
          | inl inside ↦ (
              let number_of = wire_number tile output in
              let field = output_field tile number_of in
              let same : select_value tile (exchanged there_is bits others x y) number_of ≡ select_value tile (bits x y) number_of =
              bare_value field.1 field.0 (bits x y) (exchanged there_is bits others x y) (takes_none tree edge x y tile output listed among there index is_output inside) in
              ap (λ value. option_and_then (slice_get (plain_wires tile)) (input_at (matrix_inputs tile number_of) value)) same ∙ before)
          | inr outside ↦ rw outside before
        ];
  }

pub unused_change : UnusedBitsMayChange
unused_change fabric packed fixed implementation there bits others are legal unused configures =
    bits_change fabric packed fixed implementation there are legal unused bits others configures

-- where the implementation uses none of the other columns, it reads the new bits alone
other_way : (b : Bool) (x y : Bool) → (if not b then x else y) ≡ (if b then y else x)
other_way true x y = refl
other_way false x y = refl

pub new_bits : (fabric : PlainFabric) (packed : PlainPacked) (fixed : List Pad) (implementation : PlainImplementation) (there_is : ℕ → Bool) → AreTiles fabric →
    IsLegal fabric packed fixed implementation → AreUnused fabric implementation (λ x. not (there_is x)) → (bits others : PlainBits) →
    Configures fabric packed implementation others → Configures fabric packed implementation (exchanged there_is bits others)
new_bits fabric packed fixed implementation there_is are legal unused bits others configures =
    let same : exchanged (λ x. not (there_is x)) others bits ≡ exchanged there_is bits others = λ j x y bit. other_way (there_is x) (bits x y bit) (others x y bit) j in
    subst (Configures fabric packed implementation) same (bits_change fabric packed fixed implementation (λ x. not (there_is x)) are legal unused others bits configures)
