-- A used edge, told by the numbers of its two wires.
use Rattle.std.proofs.Common.{◌≡◌, ℕ, ◌<◌, Bool, true, false, not, length, Contains, Some, sym, ap, ◌∙◌, subst, inl, inr, arith}
use Rattle.std.proofs.lemmas.List.{length-map}
use Rattle.std.proofs.lemmas.Option.{slice_get_cases}
use Rattle.fab_select.specs.declared.pair.Pair.{Pair}
use Rattle.fab_implementation.specs.fab_model.specs.Tiles.{PlainTile, IsTile, IsPair, TileWire, tile_wires, matrix_names, wire_name, wire_passes, is_matrix_output, output_field}
use Rattle.fab_implementation.specs.fab_model.specs.Grid.{PlainFabric, tile_at}
use Rattle.fab_implementation.specs.fab_fabric.specs.Fabric.{AreTiles, wires_at, wire_count}
use Rattle.fab_implementation.specs.fab_fabric.specs.Wires.{wire_index, numbered_wire}
use Rattle.fab_implementation.specs.fab_fabric.specs.declared.wire.Wire.{Wire}
use Rattle.fab_implementation.specs.fab_fabric.proofs.Numbered.{index_within, one_place, wires_of_tile}
use Rattle.fab_implementation.specs.Plain.{Edge}
use Rattle.fab_legal.specs.Steps.{IsPaired}
use Rattle.fab_legal.proofs.Pins.{is_tile_at}
use Rattle.fab_partial.specs.Use.{IsUsedEdge}

same_some : {X : Type 0} (x y : X) → Some x ≡ Some y → x ≡ y
same_some x y e = cc

-- a number of which the wire passes a test is that of a wire
passes_within : (test : TileWire → Bool) (tile : PlainTile) (n : ℕ) → wire_passes test tile n ≡ true → n < length (matrix_names tile)
passes_within test tile n passes =
    elim (slice_get_cases (tile_wires tile) n).1 [
      | inl there ↦ omega (arith, there.1, length-map (tile_wires tile) wire_name)
      | inr none ↦ absurd (never (rw none.1 at passes))
    ]
  where
    never : false ≡ true → ⊥
    never e = cc

-- the numbers of a pair are those of wires of its tile
record IsPlaced (fabric : PlainFabric) {from to : Wire} (p : IsPaired fabric from to) : Type 0 where
  pub input : p.pair.input < wires_at fabric p.x p.y
  pub output : p.pair.output < wires_at fabric p.x p.y

placed : (fabric : PlainFabric) {from to : Wire} → AreTiles fabric → (p : IsPaired fabric from to) → IsPlaced fabric p
placed fabric tiles p =
    let is_tile : IsTile p.tile = is_tile_at fabric p.x p.y p.tile p.tile_is tiles in
    let is_pair : IsPair p.tile p.pair = subst (λ (q : Pair). IsPair p.tile q) p.listed.2 (is_tile.pairs p.listed.0 p.pair p.listed.1) in
    let names = wires_of_tile fabric p.x p.y p.tile p.tile_is in
    record {
      input = omega (arith, names, passes_within (λ wire. not (is_matrix_output wire)) p.tile p.pair.input is_pair.input);
      output = omega (arith, names, passes_within is_matrix_output p.tile p.pair.output is_pair.output);
    }

module _ (fabric : PlainFabric) (there : ℕ → Bool) (edge : Edge) (tiles : AreTiles fabric) where
  -- a used edge names wires of the fabric
  pub from_within : IsUsedEdge fabric there edge → edge.0.0 < wire_count fabric
  from_within u =
      let from_is : edge.0.0 ≡ wire_index fabric u.paired.x u.paired.y u.paired.pair.input = ap (λ (w : Wire). w.0) u.paired.from_is in
      omega (arith, from_is, index_within fabric u.paired.x u.paired.y u.paired.pair.input (placed fabric tiles u.paired).input)

  pub to_within : IsUsedEdge fabric there edge → edge.1.0 < wire_count fabric
  to_within u =
      let to_is : edge.1.0 ≡ wire_index fabric u.paired.x u.paired.y u.paired.pair.output = ap (λ (w : Wire). w.0) u.paired.to_is in
      omega (arith, to_is, index_within fabric u.paired.x u.paired.y u.paired.pair.output (placed fabric tiles u.paired).output)

-- the edge by its places: both wires stand in one tile, which is in the columns
pub record UsedAt (fabric : PlainFabric) (there : ℕ → Bool) (x y input x2 y2 output : ℕ) : Type 0 where
  pub x_same : x ≡ x2
  pub y_same : y ≡ y2
  pub within : there x ≡ true
  pub tile : PlainTile
  pub tile_is : tile_at fabric x y ≡ Some tile
  pub some : 0 < (output_field tile output).1
  pub listed : Contains tile.pairs (record { output = output; input = input })

module _ (fabric : PlainFabric) (there : ℕ → Bool) (edge : Edge) (x y input x2 y2 output : ℕ) (few_in : input < wires_at fabric x y) (from_is : edge.0.0 ≡ wire_index fabric x y input)
    (few_out : output < wires_at fabric x2 y2) (to_is : edge.1.0 ≡ wire_index fabric x2 y2 output) where
  pub used_at : AreTiles fabric → IsUsedEdge fabric there edge → UsedAt fabric there x y input x2 y2 output
  used_at tiles u =
      let p : IsPaired fabric edge.0 edge.1 = u.paired in
      let few = placed fabric tiles p in
      let first = one_place fabric x y input p.x p.y p.pair.input few_in few.input (sym from_is ∙ ap (λ (w : Wire). w.0) p.from_is) in
      let second = one_place fabric x2 y2 output p.x p.y p.pair.output few_out few.output (sym to_is ∙ ap (λ (w : Wire). w.0) p.to_is) in
      let pair_is : p.pair ≡ record { output = output; input = input } = λ j. record { output = sym second.2 j; input = sym first.2 j } in
      record {
        x_same = first.0 ∙ sym second.0;
        y_same = first.1 ∙ sym second.1;
        within = ap there first.0 ∙ u.within;
        tile = p.tile;
        tile_is = (λ j. tile_at fabric (first.0 j) (first.1 j)) ∙ p.tile_is;
        some = subst (λ (n : ℕ). 0 < (output_field p.tile n).1) (sym second.2) u.some;
        listed = subst (λ (pair : Pair). Contains p.tile.pairs pair) pair_is p.listed;
      }

  pub used_by : UsedAt fabric there x y input x2 y2 output → IsUsedEdge fabric there edge
  used_by at = record {
    paired = record {
      x = x;
      y = y;
      tile = at.tile;
      tile_is = at.tile_is;
      pair = record { output = output; input = input };
      listed = at.listed;
      from_is = ap numbered_wire from_is;
      to_is = ap numbered_wire (to_is ∙ (λ j. wire_index fabric (sym at.x_same j) (sym at.y_same j) output));
    };
    within = at.within;
    some = at.some;
  }

  -- where the tile is known
  pub used_in : AreTiles fabric → (tile : PlainTile) → tile_at fabric x y ≡ Some tile → IsUsedEdge fabric there edge
      → (0 < (output_field tile output).1) × Contains tile.pairs (record { output = output; input = input })
  used_in tiles tile tile_is u =
      let at = used_at tiles u in
      let same : at.tile ≡ tile = same_some at.tile tile (sym at.tile_is ∙ tile_is) in
      (subst (λ (t : PlainTile). 0 < (output_field t output).1) same at.some, subst (λ (t : PlainTile). Contains t.pairs (record { output = output; input = input })) same at.listed)
