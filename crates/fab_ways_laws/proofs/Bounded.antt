-- Lower bounds fall by no more than 1 over each edge.
use Rattle.std.proofs.Common.{◌≡◌, ℕ, ◌+◌, ◌-◌, ◌*◌, ◌/◌, ◌<◌, ◌≤◌, not, Some, sym, ap, ◌∙◌, subst, inl, inr, arith, add-mul}
use Rattle.std.proofs.lemmas.Nat.{div_below}
use Rattle.std.proofs.Math.Nat.{lt-div-mul-add}
use Rattle.fab_select.specs.declared.pair.Pair.{Pair}
use Rattle.fab_legal.specs.fab_model.specs.Tiles.{IsPair, is_matrix_output}
use Rattle.fab_legal.specs.fab_model.specs.Wires.{PlainWire, source_of, dest_of, pin_of}
use Rattle.fab_legal.specs.fab_model.specs.Cascade.{join_to}
use Rattle.fab_legal.specs.fab_model.specs.Grid.{PlainFabric}
use Rattle.fab_legal.specs.fab_fabric.specs.Fabric.{AreTiles, wires_at, wire_count}
use Rattle.fab_legal.specs.fab_fabric.specs.Wires.{wire_index, IsIndexOf, row_place, dest_wire, wire_join_to}
use Rattle.fab_legal.specs.fab_fabric.specs.declared.wire.Wire.{Wire}
use Rattle.fab_legal.specs.fab_fabric.specs.declared.fabric.joins.RowAt.{RowAt}
use Rattle.fab_legal.specs.fab_fabric.proofs.Numbered.{index_within, wired_within, wires_of_tile, number_at, number_within, wire_within}
use Rattle.fab_legal.specs.fab_fabric.proofs.Pairs.{passes_named}
use Rattle.fab_legal.specs.fab_fabric.proofs.Joined.{join_lands}
use Rattle.fab_legal.specs.Steps.{IsPaired, IsJoined, IsStep}
use Rattle.fab_legal.proofs.Pins.{is_tile_at}
use Rattle.fab_ways_laws.specs.Placing.{gap}
use Rattle.fab_ways_laws.specs.Edges.{place_of}
use Rattle.fab_ways_laws.specs.Bounds.{wire_distance, IsSpan, least_edges, WalksTo, stays, goes}
use Rattle.fab_ways_laws.specs.Laws.{LeastIsConsistent, LeastBoundsWalks}
use Rattle.fab_ways_laws.proofs.Lists.{none_some, mapped_some}
use Rattle.fab_ways_laws.proofs.Ends.{place_is}

-- ---- the places of a step

-- where a wire stands
pub record StandsAt (fabric : PlainFabric) (wire x y : ℕ) : Type 0 where
  pub x_is : (place_of fabric wire).0 ≡ x
  pub y_is : (place_of fabric wire).1 ≡ y
  pub inside : (x < fabric.columns) × (y < fabric.rows)

module _ (fabric : PlainFabric) where
  pub stands_at : (wire x y number : ℕ) → number < wires_at fabric x y → wire ≡ wire_index fabric x y number → StandsAt fabric wire x y
  stands_at wire x y number few is =
      let spot : place_of fabric wire ≡ (x, y, number) = ap (place_of fabric) is ∙ place_is fabric x y number few in
      record { x_is = ap (λ (s : ℕ × ℕ × ℕ). s.0) spot; y_is = ap (λ (s : ℕ × ℕ × ℕ). s.1) spot; inside = wired_within fabric x y number few }

  pub index_stands : (wire x y : ℕ) (plain : PlainWire) → IsIndexOf fabric wire x y plain → StandsAt fabric wire x y
  index_stands wire x y plain is = stands_at wire x y (number_at fabric x y plain) (number_within fabric x y plain is.is_wire) is.is_index

  -- ---- pairs

  module _ (tiles : AreTiles fabric) (from to : Wire) (p : IsPaired fabric from to) where
    is_pair : IsPair p.tile p.pair
    is_pair = subst (λ (q : Pair). IsPair p.tile q) p.listed.2 ((is_tile_at fabric p.x p.y p.tile p.tile_is tiles).pairs p.listed.0 p.pair p.listed.1)

    pub input_few : p.pair.input < wires_at fabric p.x p.y
    input_few = omega (arith, wires_of_tile fabric p.x p.y p.tile p.tile_is, passes_named (λ wire. not (is_matrix_output wire)) p.tile p.pair.input is_pair.input)

    pub output_few : p.pair.output < wires_at fabric p.x p.y
    output_few = omega (arith, wires_of_tile fabric p.x p.y p.tile p.tile_is, passes_named is_matrix_output p.tile p.pair.output is_pair.output)

    pub pair_from : StandsAt fabric from.0 p.x p.y
    pair_from = stands_at from.0 p.x p.y p.pair.input input_few (ap (λ (w : Wire). w.0) p.from_is)

    pub pair_to : StandsAt fabric to.0 p.x p.y
    pair_to = stands_at to.0 p.x p.y p.pair.output output_few (ap (λ (w : Wire). w.0) p.to_is)

  -- ---- joins

  -- the end of a join
  pub record JoinEnds (from to : Wire) : Type 0 where
    pub x : ℕ
    pub y : ℕ
    pub x2 : ℕ
    pub y2 : ℕ
    pub here : StandsAt fabric from.0 x y
    pub there : StandsAt fabric to.0 x2 y2
    pub to_within : to.0 < wire_count fabric

  pub join_ends : AreTiles fabric → (from to : Wire) → IsJoined fabric from to → JoinEnds from to
  join_ends tiles from to j = by_plain j.plain j.from_is j.joined
    where
      by_plain : (plain : PlainWire) → IsIndexOf fabric from.0 j.x j.y plain → wire_join_to fabric j.x j.y plain ≡ Some to → JoinEnds from to
      by_plain (dest_of row bit) is joined = absurd (none_some to joined)
      by_plain (pin_of bel pin) is joined = absurd (none_some to joined)
      by_plain (source_of row bit) is joined =
          let end = mapped_some (dest_wire fabric) (join_to fabric (row_place j.x j.y row) bit) to joined in
          let there : RowAt = record { x = end.0.0.x; y = end.0.0.y; row = end.0.0.row } in
          let has = join_lands fabric (record { x = j.x; y = j.y; row = row }) there bit end.0.1 tiles is.is_wire end.1 in
          let to_is : IsIndexOf fabric to.0 there.x there.y (dest_of there.row end.0.1) = record { is_wire = has; is_index = sym (ap (λ (w : Wire). w.0) end.2) } in
          record {
            x = j.x;
            y = j.y;
            x2 = there.x;
            y2 = there.y;
            here = index_stands from.0 j.x j.y (source_of row bit) is;
            there = index_stands to.0 there.x there.y (dest_of there.row end.0.1) to_is;
            to_within = wire_within fabric to.0 there.x there.y (dest_of there.row end.0.1) to_is;
          }

-- ---- by wire_distance

rounded : (span d d2 : ℕ) → 1 ≤ span → d ≤ span + d2 → (d + (span - 1)) / span ≤ 1 + (d2 + (span - 1)) / span
rounded span d d2 some near =
    let q = (d2 + (span - 1)) / span in
    let high : d2 + (span - 1) < q * span + span = lt-div-mul-add {a = d2 + (span - 1)} {b = span} some in
    let whole : (q + 2) * span ≡ q * span + 2 * span = add-mul q 2 span in
    let below : (d + (span - 1)) / span < q + 2 = div_below (d + (span - 1)) span (q + 2) some (omega (arith, high, whole, near, some)) in
    omega (arith, below)

-- a step goes no farther than the span
step_near : (fabric : PlainFabric) (span : ℕ) (from to : Wire) → AreTiles fabric → IsSpan fabric span → IsStep fabric from to → wire_distance fabric from.0 to.0 ≤ span
step_near fabric span from to tiles is (inr j) = is.most from to j
step_near fabric span from to tiles is (inl p) =
    let a = pair_from fabric tiles from to p in
    let b = pair_to fabric tiles from to p in
    omega (arith, a.x_is, a.y_is, b.x_is, b.y_is)

triangle : (a b c d e f : ℕ) → gap a e + gap b f ≤ (gap a c + gap b d) + (gap c e + gap d f)
triangle a b c d e f = omega arith

pub least_is_consistent : LeastIsConsistent
least_is_consistent fabric span from to sink tiles is taken =
    let near = step_near fabric span from to tiles is taken in
    let a = place_of fabric from.0 in
    let b = place_of fabric to.0 in
    let c = place_of fabric sink in
    let far : wire_distance fabric from.0 sink ≤ span + wire_distance fabric to.0 sink = omega (arith, near, triangle a.0 a.1 b.0 b.1 c.0 c.1) in
    rounded span (wire_distance fabric from.0 sink) (wire_distance fabric to.0 sink) is.some far

pub least_bounds_walks : LeastBoundsWalks
least_bounds_walks fabric span from to steps tiles is walk =
    let here : wire_distance fabric to.0 to.0 ≡ 0 = omega arith in
    let low : (wire_distance fabric to.0 to.0 + (span - 1)) / span < 1 = div_below (wire_distance fabric to.0 to.0 + (span - 1)) span 1 is.some (omega (arith, here, is.some)) in
    omega (arith, led to.0 walk, low)
  where
    led : (sink : ℕ) {wire : Wire} {n : ℕ} → WalksTo fabric from wire n → least_edges span fabric from.0 sink ≤ n + least_edges span fabric wire.0 sink
    led sink {wire} {n} stays = omega arith
    led sink {wire} {n} (goes {wire = v} {edges = m} earlier taken) = omega (arith, led sink earlier, least_is_consistent fabric span v wire sink tiles is taken)

-- a step leads to a wire of the fabric
pub step_within : (fabric : PlainFabric) → AreTiles fabric → (from to : Wire) → IsStep fabric from to → to.0 < wire_count fabric
step_within fabric tiles from to (inl p) = omega (arith, ap (λ (w : Wire). w.0) p.to_is, index_within fabric p.x p.y p.pair.output (output_few fabric tiles from to p))
step_within fabric tiles from to (inr j) = (join_ends fabric tiles from to j).to_within

-- and comes from one
pub step_from_within : (fabric : PlainFabric) → AreTiles fabric → (from to : Wire) → IsStep fabric from to → from.0 < wire_count fabric
step_from_within fabric tiles from to (inl p) = omega (arith, ap (λ (w : Wire). w.0) p.from_is, index_within fabric p.x p.y p.pair.input (input_few fabric tiles from to p))
step_from_within fabric tiles from to (inr j) = wire_within fabric from.0 j.x j.y j.plain j.from_is
