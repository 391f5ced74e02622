-- The edges of a wire are the steps of the fabric from it.
use Rattle.std.proofs.Common.{◌≡◌, ℕ, ◌+◌, ◌-◌, ◌<◌, Bool, true, false, not, if◌then◌else◌, List, [], ◌∷◌, map, filter, length, get_or, Contains, Option, Some, nat_eq, nat_le, nat_lt, option_to_list, option_and_then, slice_get, refl, sym, ap, ◌∙◌, subst, inl, inr, arith, eq-eqb, eqb-true}
use Rattle.std.specs.List.{flat_map}
use Rattle.std.proofs.lemmas.Bool.{cases_Bool, cases_lt, false≢true, le-leb, lt-ltb, lt-leb, le-ltb, and_left, and_right}
use Rattle.std.proofs.lemmas.Option.{same_Some, slice_get_cases}
use Rattle.std.proofs.lemmas.List.{length-map}
use Rattle.fab_select.specs.declared.pair.Pair.{Pair}
use Rattle.fab_legal.specs.fab_model.specs.Tiles.{PlainTile, IsTile, IsPair, TileWire, counted, matrix_names, tile_wires, wire_name, wire_passes, is_matrix_output}
use Rattle.fab_legal.specs.fab_model.specs.Wires.{PlainWire, plain_wires}
use Rattle.fab_legal.specs.fab_model.specs.Grid.{PlainFabric, tile_at}
use Rattle.fab_legal.specs.fab_fabric.specs.Fabric.{AreTiles, wires_at}
use Rattle.fab_legal.specs.fab_fabric.specs.Wires.{wire_index, numbered_wire, wire_join_to}
use Rattle.fab_legal.specs.fab_fabric.specs.declared.wire.Wire.{Wire}
use Rattle.fab_legal.specs.fab_fabric.proofs.Numbered.{one_place, some_place, one_wire, some_item, wired_tile, wired_within, wires_of_tile, wires_are_named, wire_with_number}
use Rattle.fab_legal.specs.fab_netlist.proofs.Members.{first_in, in_left, in_right, mapped_in}
use Rattle.fab_legal.specs.Steps.{IsPaired, IsJoined, IsStep}
use Rattle.fab_legal.proofs.Members.{in_either, from_mapped}
use Rattle.fab_legal.proofs.Pins.{is_tile_at}
use Rattle.fab_ways_laws.specs.Edges.{outputs_of, wire_at, join_after, ends_in, ends_at, stands_at, at_place, ends}
use Rattle.fab_ways_laws.specs.Laws.{EndsAreThere, PlaceIs, EndsAreSteps}
use Rattle.fab_ways_laws.proofs.Lists.{into_filter, from_filter, from_firsts, into_firsts, none_flat, one_flat, in_option}

-- ---- one place

module _ (fabric : PlainFabric) where
  -- a wire is one of a tile where the test says so
  pub here_is : (index x y : ℕ) → stands_at fabric index x y ≡ true → (index - wire_index fabric x y 0 < wires_at fabric x y) × (index ≡ wire_index fabric x y (index - wire_index fabric x y 0))
  here_is index x y test = elim (cases_lt index (wire_index fabric x y 0)) [
    | inl less ↦ absurd (false≢true (sym (and_left (nat_le (wire_index fabric x y 0) index) (nat_lt index (wire_index fabric x y 0 + wires_at fabric x y)) (lt-leb (wire_index fabric x y 0) index less)) ∙ test))
    | inr low ↦ elim (cases_lt index (wire_index fabric x y 0 + wires_at fabric x y)) [
      | inl high ↦ (omega (arith, low, high), omega (arith, low))
      | inr past ↦ absurd (false≢true (sym (and_right (nat_le (wire_index fabric x y 0) index) (nat_lt index (wire_index fabric x y 0 + wires_at fabric x y)) (le-ltb index (wire_index fabric x y 0 + wires_at fabric x y) past)) ∙ test))
    ]
  ]

  is_there : (x y number : ℕ) → number < wires_at fabric x y → stands_at fabric (wire_index fabric x y number) x y ≡ true
  is_there x y number few =
      let low = le-leb (wire_index fabric x y 0) (wire_index fabric x y number) (omega arith) in
      let high = lt-ltb (wire_index fabric x y number) (wire_index fabric x y 0 + wires_at fabric x y) (omega (arith, few)) in
      rw (low, high) refl

  module _ {X : Type 0} (x y number : ℕ) (few : number < wires_at fabric x y) (at : ℕ → ℕ → List X) where
    abbrev one_here : ℕ → ℕ → List X
    one_here x2 y2 = if stands_at fabric (wire_index fabric x y number) x2 y2 then at x2 y2 else []

    elsewhere : (x2 y2 : ℕ) → ((x2 ≡ x) × (y2 ≡ y) → ⊥) → one_here x2 y2 ≡ []
    elsewhere x2 y2 other = elim (cases_Bool (stands_at fabric (wire_index fabric x y number) x2 y2)) [
      | inl t ↦ (
          let place = here_is (wire_index fabric x y number) x2 y2 t in
          let same = one_place fabric x y number x2 y2 (wire_index fabric x y number - wire_index fabric x2 y2 0) few place.0 place.1 in
          absurd (other (sym same.0, sym same.1)))
      | inr f ↦ rw f refl
    ]

    here : one_here x y ≡ at x y
    here = let test = is_there x y number few in rw test refl

    -- what is said of the place of a wire is said of its own place
    pub listed_there : at_place fabric (wire_index fabric x y number) at ≡ at x y
    listed_there =
        let within = wired_within fabric x y number few in
        one_flat fabric.columns (λ x2. x2) (λ x2. flat_map (one_here x2) (counted fabric.rows (λ y2. y2))) x within.0
        (λ x2 low other. none_flat fabric.rows (λ y2. y2) (one_here x2) (λ y2 less. elsewhere x2 y2 (λ e. other e.0)))
        ∙ one_flat fabric.rows (λ y2. y2) (one_here x) y within.1 (λ y2 less other. elsewhere x y2 (λ e. other e.1))
        ∙ here

  pub own_number : (x y number : ℕ) → wire_index fabric x y number - wire_index fabric x y 0 ≡ number
  own_number x y number = omega arith

pub ends_are_there : EndsAreThere
ends_are_there fabric x y number few =
    listed_there fabric x y number few (λ x2 y2. ends_at fabric x2 y2 (wire_index fabric x y number - wire_index fabric x2 y2 0))
    ∙ ap (ends_at fabric x y) (own_number fabric x y number)

pub place_is : PlaceIs
place_is fabric x y number few =
    ap (λ (l : List (ℕ × ℕ × ℕ)). get_or l 0 (0, 0, 0)) (listed_there fabric x y number few (λ x2 y2. (x2, y2, wire_index fabric x y number - wire_index fabric x2 y2 0) ∷ []))
    ∙ ap (λ (n : ℕ). (x, y, n)) (own_number fabric x y number)

-- ---- steps

-- what passes a test of wires has a number of a wire
pub passes_within : (test : TileWire → Bool) (tile : PlainTile) (n : ℕ) → wire_passes test tile n ≡ true → n < length (matrix_names tile)
passes_within test tile n passes =
    elim (slice_get_cases (tile_wires tile) n).1 [
      | inl there ↦ omega (arith, there.1, length-map (tile_wires tile) wire_name)
      | inr none ↦ absurd (never (rw none.1 at passes))
    ]
  where
    never : false ≡ true → ⊥
    never e = cc

module _ (fabric : PlainFabric) (x y number : ℕ) (few : number < wires_at fabric x y) (tile : PlainTile) (tile_is : tile_at fabric x y ≡ Some tile) where
  abbrev from : Wire
  from = wire_at fabric x y number

  -- the wire of the number
  own_plain : (plain : PlainWire) × (slice_get (plain_wires tile) number ≡ Some plain)
  own_plain = some_item (plain_wires tile) number (omega (arith, few, wires_of_tile fabric x y tile tile_is, wires_are_named tile))

  pair_step : (to : Wire) → Contains (map (wire_at fabric x y) (outputs_of tile.pairs number)) to → IsPaired fabric from to
  pair_step to here =
      let output = from_mapped (wire_at fabric x y) (outputs_of tile.pairs number) to here in
      let pair = from_mapped (λ (p : Pair). p.output) (filter (λ p. nat_eq p.input number) tile.pairs) output.0
      (from_firsts (map (λ (p : Pair). p.output) (filter (λ p. nat_eq p.input number) tile.pairs)) output.0 output.1) in
      let listed = from_filter (λ p. nat_eq p.input number) tile.pairs pair.0 pair.1 in
      record {
        x = x;
        y = y;
        tile = tile;
        tile_is = tile_is;
        pair = pair.0;
        listed = listed.0;
        from_is = ap (wire_at fabric x y) (sym (eqb-true pair.0.input number listed.1));
        to_is = sym output.2 ∙ ap (wire_at fabric x y) (sym pair.2);
      }

  join_step : (to : Wire) → Contains (option_to_list (join_after fabric x y number tile)) to → IsJoined fabric from to
  join_step to here = record {
    x = x;
    y = y;
    plain = own_plain.0;
    from_is = wire_with_number fabric x y number tile own_plain.0 tile_is own_plain.1;
    joined = in_option (wire_join_to fabric x y own_plain.0) to (subst (λ (o : Option PlainWire). Contains (option_to_list (option_and_then (wire_join_to fabric x y) o)) to) own_plain.1 here);
  }

  pub end_step : (to : Wire) → Contains (ends_in fabric x y number (Some tile)) to → IsStep fabric from to
  end_step to here = elim (in_either (map (wire_at fabric x y) (outputs_of tile.pairs number)) (option_to_list (join_after fabric x y number tile)) to here) [
    | inl pair ↦ inl (pair_step to pair)
    | inr join ↦ inr (join_step to join)
  ]

  pub step_end : AreTiles fabric → (to : Wire) → IsStep fabric from to → Contains (ends_in fabric x y number (Some tile)) to
  step_end tiles to (inr j) =
      let own = wire_with_number fabric x y number tile own_plain.0 tile_is own_plain.1 in
      let same = one_wire fabric (wire_index fabric x y number) x y j.x j.y own_plain.0 j.plain own j.from_is in
      let join : wire_join_to fabric x y own_plain.0 ≡ Some to =
      ap (λ (a : ℕ). wire_join_to fabric a y own_plain.0) same.0 ∙ ap (λ (b : ℕ). wire_join_to fabric j.x b own_plain.0) same.1 ∙ ap (wire_join_to fabric j.x j.y) same.2 ∙ j.joined in
      let whole : join_after fabric x y number tile ≡ Some to = ap (option_and_then (wire_join_to fabric x y)) own_plain.1 ∙ join in
      in_right (map (wire_at fabric x y) (outputs_of tile.pairs number)) (option_to_list (join_after fabric x y number tile)) to
      (subst (λ (o : Option Wire). Contains (option_to_list o) to) (sym whole) (first_in to [] to refl))
  step_end tiles to (inl p) =
      let is_tile : IsTile p.tile = is_tile_at fabric p.x p.y p.tile p.tile_is tiles in
      let is_pair : IsPair p.tile p.pair = subst (λ (q : Pair). IsPair p.tile q) p.listed.2 (is_tile.pairs p.listed.0 p.pair p.listed.1) in
      let in_few : p.pair.input < wires_at fabric p.x p.y = omega (arith, wires_of_tile fabric p.x p.y p.tile p.tile_is, passes_within (λ wire. not (is_matrix_output wire)) p.tile p.pair.input is_pair.input) in
      let same = one_place fabric x y number p.x p.y p.pair.input few in_few (ap (λ (w : Wire). w.0) p.from_is) in
      let tile_same : p.tile ≡ tile = same_Some p.tile tile (sym p.tile_is ∙ ap (λ (a : ℕ). tile_at fabric a p.y) (sym same.0) ∙ ap (λ (b : ℕ). tile_at fabric x b) (sym same.1) ∙ tile_is) in
      let there : Contains tile.pairs p.pair = subst (λ (t : PlainTile). Contains t.pairs p.pair) tile_same p.listed in
      let kept = into_filter (λ (q : Pair). nat_eq q.input number) tile.pairs p.pair there (eq-eqb p.pair.input number (sym same.2)) in
      let output = into_firsts (map (λ (q : Pair). q.output) (filter (λ q. nat_eq q.input number) tile.pairs)) p.pair.output (mapped_in (λ (q : Pair). q.output) (filter (λ q. nat_eq q.input number) tile.pairs) p.pair kept) in
      let wire : wire_at fabric x y p.pair.output ≡ to =
      ap (λ (a : ℕ). wire_at fabric a y p.pair.output) same.0 ∙ ap (λ (b : ℕ). wire_at fabric p.x b p.pair.output) same.1 ∙ sym p.to_is in
      in_left (map (wire_at fabric x y) (outputs_of tile.pairs number)) (option_to_list (join_after fabric x y number tile)) to
      (subst (λ (w : Wire). Contains (map (wire_at fabric x y) (outputs_of tile.pairs number)) w) wire (mapped_in (wire_at fabric x y) (outputs_of tile.pairs number) p.pair.output output))

pub ends_are_steps : EndsAreSteps
ends_are_steps fabric index to tiles inside =
    let place = some_place fabric index inside in
    let tile = wired_tile fabric place.0 place.1 place.2 place.3 in
    let are : ends fabric index ≡ ends_in fabric place.0 place.1 place.2 (Some tile.0) =
    ap (ends fabric) place.4 ∙ ends_are_there fabric place.0 place.1 place.2 place.3 ∙ ap (ends_in fabric place.0 place.1 place.2) tile.1 in (
      (λ here. subst (λ (n : ℕ). IsStep fabric (numbered_wire n) to) (sym place.4)
          (end_step fabric place.0 place.1 place.2 place.3 tile.0 tile.1 to (subst (λ (ws : List Wire). Contains ws to) are here))),
      (λ step. subst (λ (ws : List Wire). Contains ws to) (sym are)
          (step_end fabric place.0 place.1 place.2 place.3 tile.0 tile.1 tiles to (subst (λ (n : ℕ). IsStep fabric (numbered_wire n) to) place.4 step))),
    )
