-- The output that is joined to a wire.
use Rattle.std.proofs.Common.{◌≡◌, ◌⊎◌, ℕ, ◌<◌, ◌≤◌, Option, Some, None, option_map, slice_get, refl, sym, ap, ◌∙◌, subst, inl, inr, arith}
use Rattle.std.specs.Option.{option_map_or}
use Rattle.fab_model.specs.declared.tiles.WireRow.{WireRow}
use Rattle.fab_model.specs.Rows.{dest_bits}
use Rattle.fab_model.specs.Wires.{PlainWire, HasWire, source_of, dest_of, pin_of}
use Rattle.fab_model.specs.Joins.{RowPlace}
use Rattle.fab_model.specs.Cascade.{join_from, IsDestBit}
use Rattle.fab_model.specs.Grid.{PlainFabric}
use Rattle.fab_model.proofs.Found.{from_and_to}
use Rattle.fab_fabric.specs.Fabric.{AreTiles, wire_count}
use Rattle.fab_fabric.specs.Wires.{numbered_wire, IsIndexOf, row_place, dest_wire, source_wire, wire_join_from}
use Rattle.fab_fabric.specs.declared.wire.Wire.{Wire}
use Rattle.fab_fabric.specs.declared.fabric.joins.RowAt.{RowAt}
use Rattle.fab_fabric.proofs.Numbered.{some_wire, wire_within}
use Rattle.fab_fabric.proofs.Joined.{are_rows, join_departs}
use Rattle.fab_legal.specs.Steps.{IsJoined}
use Rattle.fab_ways_laws.proofs.Lists.{none_some, mapped_some}
use Rattle.fab_route.specs.inner.Owners.{IsWireOf}
use Rattle.fab_route.specs.Over.{IsOver}
use Rattle.fab_route.specs.Plain.{PlainNodes, graph_of, numbering_of}
use Rattle.fab_route.proofs.Tabled.{joined_output}

row_of_bit : (bits : WireRow → ℕ) (found : Option WireRow) (bit : ℕ) → bit < option_map_or bits found 0 → (row : WireRow) × (found ≡ Some row) × (bit < bits row)
row_of_bit bits None bit few = absurd (omega (arith, few))
row_of_bit bits (Some row) bit few = (row, refl, few)

module _ (fabric : PlainFabric) (tiles : AreTiles fabric) where
  dest_bit : (place : RowPlace) (bit : ℕ) → HasWire fabric place.x place.y (dest_of place.row bit) → IsDestBit fabric place bit
  dest_bit place bit has =
      let r = row_of_bit dest_bits (slice_get has.tile.rows place.row) bit has.is_wire in
      record { tile = has.tile; row = r.0; stands = record { tile_is = has.tile_is; row_is = r.1 }; is_bit = r.2 }

  -- what is found joined to a wire is joined to it
  from_join : (to from : Wire) (x y : ℕ) (plain : PlainWire) → IsIndexOf fabric to.0 x y plain → wire_join_from fabric x y plain ≡ Some from → IsJoined fabric from to
  from_join to from x y (source_of row bit) is e = absurd (none_some from e)
  from_join to from x y (pin_of bel pin) is e = absurd (none_some from e)
  from_join to from x y (dest_of row bit) is e =
      let start = mapped_some (source_wire fabric) (join_from fabric (row_place x y row) bit) from e in
      let here : RowAt = record { x = start.0.0.x; y = start.0.0.y; row = start.0.0.row } in
      let has = join_departs fabric here (record { x = x; y = y; row = row }) start.0.1 bit tiles is.is_wire start.1 in
      let forth = from_and_to fabric start.0.0 (row_place x y row) start.0.1 bit (are_rows fabric tiles) (dest_bit (row_place x y row) bit is.is_wire) start.1 in
      record {
        x = here.x;
        y = here.y;
        plain = source_of here.row start.0.1;
        from_is = record { is_wire = has; is_index = sym (ap (λ (w : Wire). w.0) start.2) };
        joined = ap (option_map (dest_wire fabric)) forth ∙ ap (λ (n : ℕ). Some (numbered_wire n)) (sym is.is_index);
      }

  module _ (nodes : PlainNodes) (node : ℕ) (wire : Wire) (low : wire.0 < wire_count fabric) (wire_is : wire.0 ≡ (numbering_of nodes).wire node) (found : Option Wire)
      (join : (x y : ℕ) (plain : PlainWire) → IsIndexOf fabric wire.0 x y plain → found ≡ wire_join_from fabric x y plain) where
    own : wire ≡ numbered_wire ((numbering_of nodes).wire node)
    own = ap numbered_wire wire_is

    pub joined_here : (output : Wire) → found ≡ Some output → IsWireOf fabric nodes node output.0
    joined_here output is =
        let w = some_wire fabric wire.0 low in
        inr (subst (λ (to : Wire). IsJoined fabric output to) own (from_join wire output w.0 w.1 w.2 w.3 (sym (join w.0 w.1 w.2 w.3) ∙ is)))

    one_output : (output : ℕ) → IsJoined fabric (numbered_wire output) (numbered_wire ((numbering_of nodes).wire node)) → found ≡ Some (numbered_wire output)
    one_output output joined = joined_output fabric wire found tiles low join (numbered_wire output) (subst (λ (to : Wire). IsJoined fabric (numbered_wire output) to) (sym own) joined)

    same_number : (a b : Wire) → Some a ≡ Some b → a.0 ≡ b.0
    same_number a b e = cc

    -- no wire of a node is below both
    pub least_of_both : (output result : Wire) → found ≡ Some output → result.0 ≤ wire.0 → result.0 ≤ output.0 → (other : ℕ) → IsWireOf fabric nodes node other → result.0 ≤ other
    least_of_both output result is below low_output other (inl same) = omega (arith, same, wire_is, below)
    least_of_both output result is below low_output other (inr joined) = omega (arith, low_output, same_number output (numbered_wire other) (sym is ∙ one_output other joined))

    pub least_alone : found ≡ None → (other : ℕ) → IsWireOf fabric nodes node other → wire.0 ≤ other
    least_alone none other (inl same) = omega (arith, same, wire_is)
    least_alone none other (inr joined) = absurd (none_some (numbered_wire other) (sym none ∙ one_output other joined))

    pub is_either : (output result : Wire) → found ≡ Some output → (result ≡ wire) ⊎ (result ≡ output) → IsWireOf fabric nodes node result.0
    is_either output result is (inl same) = inl (ap (λ (w : Wire). w.0) same ∙ wire_is)
    is_either output result is (inr same) = subst (λ (w : Wire). IsWireOf fabric nodes node w.0) (sym same) (joined_here output is)

-- the wire of a node is one of the fabric
pub node_low : (fabric : PlainFabric) (nodes : PlainNodes) → IsOver fabric nodes → (node : ℕ) → node < (graph_of nodes).nodes → (wire : Wire) → wire.0 ≡ (numbering_of nodes).wire node → wire.0 < wire_count fabric
node_low fabric nodes over node low wire wire_is =
    let input = over.are_nodes.inputs node low in omega (arith, wire_is, wire_within fabric ((numbering_of nodes).wire node) input.x input.y input.plain input.is_wire)
