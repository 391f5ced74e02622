-- The edges to a wire are the steps of the fabric to it.
use Rattle.std.proofs.Common.{◌≡◌, ℕ, ◌-◌, ◌<◌, true, List, [], map, filter, Contains, Option, Some, None, nat_eq, option_map, option_to_list, option_and_then, slice_get, refl, sym, ap, ◌∙◌, subst, inl, inr, arith, eq-eqb, eqb-true}
use Rattle.std.specs.Option.{option_map_or}
use Rattle.std.proofs.lemmas.Option.{same_Some}
use Rattle.fab_select.specs.declared.pair.Pair.{Pair}
use Rattle.fab_legal.specs.fab_model.specs.declared.tiles.WireRow.{WireRow}
use Rattle.fab_legal.specs.fab_model.specs.Rows.{source_bits, dest_bits}
use Rattle.fab_legal.specs.fab_model.specs.Tiles.{PlainTile}
use Rattle.fab_legal.specs.fab_model.specs.Wires.{PlainWire, HasWire, source_of, dest_of, pin_of, plain_wires}
use Rattle.fab_legal.specs.fab_model.specs.Joins.{RowPlace}
use Rattle.fab_legal.specs.fab_model.specs.Cascade.{join_to, join_from, IsSourceBit, IsDestBit}
use Rattle.fab_legal.specs.fab_model.specs.Grid.{PlainFabric, tile_at}
use Rattle.fab_legal.specs.fab_model.proofs.Found.{to_and_from, from_and_to}
use Rattle.fab_legal.specs.fab_fabric.specs.Fabric.{AreTiles, wires_at}
use Rattle.fab_legal.specs.fab_fabric.specs.Wires.{wire_index, numbered_wire, IsIndexOf, row_place, dest_wire, source_wire, wire_join_to, wire_join_from}
use Rattle.fab_legal.specs.fab_fabric.specs.declared.wire.Wire.{Wire}
use Rattle.fab_legal.specs.fab_fabric.specs.declared.fabric.joins.RowAt.{RowAt}
use Rattle.fab_legal.specs.fab_fabric.proofs.Numbered.{one_place, some_place, one_wire, some_item, wired_tile, wires_of_tile, wires_are_named, wire_with_number}
use Rattle.fab_legal.specs.fab_fabric.proofs.Joined.{are_rows, join_lands, join_departs}
use Rattle.fab_legal.specs.fab_netlist.proofs.Members.{first_in, in_left, in_right, mapped_in}
use Rattle.fab_legal.specs.Steps.{IsPaired, IsJoined, IsStep}
use Rattle.fab_legal.proofs.Members.{in_either, from_mapped}
use Rattle.fab_ways_laws.specs.Edges.{outputs_of, swapped, turned_pairs, wire_at, join_before, origins_in, origins_at, origins}
use Rattle.fab_ways_laws.specs.Laws.{OriginsAreSteps}
use Rattle.fab_ways_laws.proofs.Lists.{into_filter, from_filter, from_firsts, into_firsts, none_some, in_option, mapped_some}
use Rattle.fab_ways_laws.proofs.Ends.{listed_there, own_number}
use Rattle.fab_ways_laws.proofs.Bounded.{output_few}

-- the row of a bit
row_of_bit : (bits : WireRow → ℕ) (found : Option WireRow) (bit : ℕ) → bit < option_map_or bits found 0 → (row : WireRow) × (found ≡ Some row) × (bit < bits row)
row_of_bit bits None bit few = absurd (omega (arith, few))
row_of_bit bits (Some row) bit few = (row, refl, few)

module _ (fabric : PlainFabric) (tiles : AreTiles fabric) where
  source_bit : (place : RowPlace) (bit : ℕ) → HasWire fabric place.x place.y (source_of place.row bit) → IsSourceBit fabric place bit
  source_bit place bit has =
      let r = row_of_bit source_bits (slice_get has.tile.rows place.row) bit has.is_wire in
      record { tile = has.tile; row = r.0; stands = record { tile_is = has.tile_is; row_is = r.1 }; is_bit = r.2 }

  dest_bit : (place : RowPlace) (bit : ℕ) → HasWire fabric place.x place.y (dest_of place.row bit) → IsDestBit fabric place bit
  dest_bit place bit has =
      let r = row_of_bit dest_bits (slice_get has.tile.rows place.row) bit has.is_wire in
      record { tile = has.tile; row = r.0; stands = record { tile_is = has.tile_is; row_is = r.1 }; is_bit = r.2 }

  -- the wire that is joined to a wire is joined to it
  from_join : (to from : Wire) (x y : ℕ) (plain : PlainWire) → IsIndexOf fabric to.0 x y plain → wire_join_from fabric x y plain ≡ Some from → IsJoined fabric from to
  from_join to from x y (source_of row bit) is e = absurd (none_some from e)
  from_join to from x y (pin_of bel pin) is e = absurd (none_some from e)
  from_join to from x y (dest_of row bit) is e =
      let start = mapped_some (source_wire fabric) (join_from fabric (row_place x y row) bit) from e in
      let here : RowAt = record { x = start.0.0.x; y = start.0.0.y; row = start.0.0.row } in
      let has = join_departs fabric here (record { x = x; y = y; row = row }) start.0.1 bit tiles is.is_wire start.1 in
      let forth = from_and_to fabric start.0.0 (row_place x y row) start.0.1 bit (are_rows fabric tiles) (dest_bit (row_place x y row) bit is.is_wire) start.1 in
      record {
        x = here.x;
        y = here.y;
        plain = source_of here.row start.0.1;
        from_is = record { is_wire = has; is_index = sym (ap (λ (w : Wire). w.0) start.2) };
        joined = ap (option_map (dest_wire fabric)) forth ∙ ap (λ (n : ℕ). Some (numbered_wire n)) (sym is.is_index);
      }

  pub to_join : (to from : Wire) (x y : ℕ) (plain : PlainWire) → IsIndexOf fabric to.0 x y plain → IsJoined fabric from to → wire_join_from fabric x y plain ≡ Some from
  to_join to from x y plain is j = by_plain j.plain j.from_is j.joined
    where
      by_plain : (own : PlainWire) → IsIndexOf fabric from.0 j.x j.y own → wire_join_to fabric j.x j.y own ≡ Some to → wire_join_from fabric x y plain ≡ Some from
      by_plain (dest_of row bit) at e = absurd (none_some to e)
      by_plain (pin_of bel pin) at e = absurd (none_some to e)
      by_plain (source_of row bit) at e =
          let end = mapped_some (dest_wire fabric) (join_to fabric (row_place j.x j.y row) bit) to e in
          let there : RowAt = record { x = end.0.0.x; y = end.0.0.y; row = end.0.0.row } in
          let has = join_lands fabric (record { x = j.x; y = j.y; row = row }) there bit end.0.1 tiles at.is_wire end.1 in
          let to_is : IsIndexOf fabric to.0 there.x there.y (dest_of there.row end.0.1) = record { is_wire = has; is_index = sym (ap (λ (w : Wire). w.0) end.2) } in
          let same = one_wire fabric to.0 x y there.x there.y plain (dest_of there.row end.0.1) is to_is in
          let back = to_and_from fabric (row_place j.x j.y row) end.0.0 bit end.0.1 (are_rows fabric tiles) (source_bit (row_place j.x j.y row) bit at.is_wire) end.1 in
          ap (λ (a : ℕ). wire_join_from fabric a y plain) same.0 ∙ ap (λ (b : ℕ). wire_join_from fabric there.x b plain) same.1 ∙ ap (wire_join_from fabric there.x there.y) same.2
          ∙ ap (option_map (source_wire fabric)) back ∙ ap (λ (n : ℕ). Some (numbered_wire n)) (sym at.is_index)

  module _ (x y number : ℕ) (few : number < wires_at fabric x y) (tile : PlainTile) (tile_is : tile_at fabric x y ≡ Some tile) where
    abbrev to : Wire
    to = wire_at fabric x y number

    abbrev pairs : List Pair
    pairs = turned_pairs true tile.pairs

    own_plain : (plain : PlainWire) × (slice_get (plain_wires tile) number ≡ Some plain)
    own_plain = some_item (plain_wires tile) number (omega (arith, few, wires_of_tile fabric x y tile tile_is, wires_are_named tile))

    own_index : IsIndexOf fabric to.0 x y own_plain.0
    own_index = wire_with_number fabric x y number tile own_plain.0 tile_is own_plain.1

    pair_step : (from : Wire) → Contains (map (wire_at fabric x y) (outputs_of pairs number)) from → IsPaired fabric from to
    pair_step from here =
        let input = from_mapped (wire_at fabric x y) (outputs_of pairs number) from here in
        let turned = from_mapped (λ (p : Pair). p.output) (filter (λ p. nat_eq p.input number) pairs) input.0
        (from_firsts (map (λ (p : Pair). p.output) (filter (λ p. nat_eq p.input number) pairs)) input.0 input.1) in
        let listed = from_filter (λ p. nat_eq p.input number) pairs turned.0 turned.1 in
        let pair = from_mapped swapped tile.pairs turned.0 listed.0 in
        record {
          x = x;
          y = y;
          tile = tile;
          tile_is = tile_is;
          pair = pair.0;
          listed = pair.1;
          from_is = sym input.2 ∙ ap (wire_at fabric x y) (sym turned.2 ∙ ap (λ (p : Pair). p.output) (sym pair.2));
          to_is = ap (wire_at fabric x y) (sym (eqb-true turned.0.input number listed.1) ∙ ap (λ (p : Pair). p.input) (sym pair.2));
        }

    pub origin_step : (from : Wire) → Contains (origins_in fabric x y number (Some tile)) from → IsStep fabric from to
    origin_step from here = elim (in_either (map (wire_at fabric x y) (outputs_of pairs number)) (option_to_list (join_before fabric x y number tile)) from here) [
      | inl pair ↦ inl (pair_step from pair)
      | inr join ↦ inr (from_join to from x y own_plain.0 own_index (sym (ap (option_and_then (wire_join_from fabric x y)) own_plain.1) ∙ in_option (join_before fabric x y number tile) from join))
    ]

    pub step_origin : (from : Wire) → IsStep fabric from to → Contains (origins_in fabric x y number (Some tile)) from
    step_origin from (inr j) =
        let whole : join_before fabric x y number tile ≡ Some from = ap (option_and_then (wire_join_from fabric x y)) own_plain.1 ∙ to_join to from x y own_plain.0 own_index j in
        in_right (map (wire_at fabric x y) (outputs_of pairs number)) (option_to_list (join_before fabric x y number tile)) from
        (subst (λ (o : Option Wire). Contains (option_to_list o) from) (sym whole) (first_in from [] from refl))
    step_origin from (inl p) =
        let same = one_place fabric x y number p.x p.y p.pair.output few (output_few fabric tiles from to p) (ap (λ (w : Wire). w.0) p.to_is) in
        let tile_same : p.tile ≡ tile = same_Some p.tile tile (sym p.tile_is ∙ ap (λ (a : ℕ). tile_at fabric a p.y) (sym same.0) ∙ ap (λ (b : ℕ). tile_at fabric x b) (sym same.1) ∙ tile_is) in
        let there : Contains pairs (swapped p.pair) = mapped_in swapped tile.pairs p.pair (subst (λ (t : PlainTile). Contains t.pairs p.pair) tile_same p.listed) in
        let kept = into_filter (λ (q : Pair). nat_eq q.input number) pairs (swapped p.pair) there (eq-eqb p.pair.output number (sym same.2)) in
        let input = into_firsts (map (λ (q : Pair). q.output) (filter (λ q. nat_eq q.input number) pairs)) p.pair.input
        (mapped_in (λ (q : Pair). q.output) (filter (λ q. nat_eq q.input number) pairs) (swapped p.pair) kept) in
        let wire : wire_at fabric x y p.pair.input ≡ from =
        ap (λ (a : ℕ). wire_at fabric a y p.pair.input) same.0 ∙ ap (λ (b : ℕ). wire_at fabric p.x b p.pair.input) same.1 ∙ sym p.from_is in
        in_left (map (wire_at fabric x y) (outputs_of pairs number)) (option_to_list (join_before fabric x y number tile)) from
        (subst (λ (w : Wire). Contains (map (wire_at fabric x y) (outputs_of pairs number)) w) wire (mapped_in (wire_at fabric x y) (outputs_of pairs number) p.pair.input input))

pub origins_are_there : (fabric : PlainFabric) (x y number : ℕ) → number < wires_at fabric x y → origins fabric (wire_index fabric x y number) ≡ origins_at fabric x y number
origins_are_there fabric x y number few =
    listed_there fabric x y number few (λ x2 y2. origins_at fabric x2 y2 (wire_index fabric x y number - wire_index fabric x2 y2 0))
    ∙ ap (origins_at fabric x y) (own_number fabric x y number)

pub origins_are_steps : OriginsAreSteps
origins_are_steps fabric index from tiles inside =
    let place = some_place fabric index inside in
    let tile = wired_tile fabric place.0 place.1 place.2 place.3 in
    let are : origins fabric index ≡ origins_in fabric place.0 place.1 place.2 (Some tile.0) =
    ap (origins fabric) place.4 ∙ origins_are_there fabric place.0 place.1 place.2 place.3 ∙ ap (origins_in fabric place.0 place.1 place.2) tile.1 in (
      (λ here. subst (λ (n : ℕ). IsStep fabric from (numbered_wire n)) (sym place.4)
          (origin_step fabric tiles place.0 place.1 place.2 place.3 tile.0 tile.1 from (subst (λ (ws : List Wire). Contains ws from) are here))),
      (λ step. subst (λ (ws : List Wire). Contains ws from) (sym are)
          (step_origin fabric tiles place.0 place.1 place.2 place.3 tile.0 tile.1 from (subst (λ (n : ℕ). IsStep fabric from (numbered_wire n)) place.4 step))),
    )
