-- What is kept on the way of a border bit: each row that it comes through is placed, is no jump, and has the bit within its border.
use Rattle.std.proofs.Common.{◌≡◌, ℕ, zero, suc, ◌+◌, ◌<◌, true, false, List, sym, ap, ◌∙◌, subst, arith, lt-ltb, Option, Some, None}
use Rattle.fab_model.specs.declared.tiles.WireRow.{WireRow}
use Rattle.fab_model.specs.Rows.{is_jump, is_named, border_bits, IsWireRow}
use Rattle.fab_model.specs.Wires.{dest_of}
use Rattle.fab_model.specs.Grid.{PlainFabric, AreRows}
use Rattle.fab_model.specs.Cascade.{PlacedRow, previous_row, passing_bits, walk_from, opposite}
use Rattle.fab_model.specs.Joins.{RowPlace, comes, goes}
use Rattle.fab_model.proofs.Crossings.{IsPlaced, placed, standing_is_wire_row, partner_is, goes_from}
use Rattle.fab_fabric.specs.Wires.{row_place}
use Rattle.fab_use_defs.specs.fab_implementation_Plain.{PlainImplementation}
use Rattle.fab_use_defs.specs.fab_gen_tile_Borders.{side_border}
use Rattle.fab_use_defs.proofs.fab_tile_drives_laws_BorderBits.{dest_within, source_within, passing_within}
use Rattle.fab_use_defs.specs.Ways.{Passes, ends, came, IsTreeWay}
use Rattle.fab_points_laws.proofs.Places.{dest_few, placed_there, tree_wire}

-- a bit of a side is one of the border
pub side_in_border : (row : WireRow) (side : Option (List ℕ)) (bit : ℕ) → bit < side_border row side → bit < border_bits row
side_in_border row None bit few = absurd (omega (arith, few))
side_in_border row (Some name) bit few = few

-- a walk that goes on behind a row
pub walk_on : (fabric : PlainFabric) (fuel : ℕ) (previous : PlacedRow) (n : ℕ) (found : RowPlace × ℕ) → walk_from fabric fuel (Some previous) n ≡ Some found →
    n < passing_bits previous.row → (less : ℕ) × (walk_from fabric less (previous_row fabric previous) (n + previous.row.count) ≡ Some found)
walk_on fabric zero previous n found walk few = cc
walk_on fabric (suc fuel) previous n found walk few = (let passes = lt-ltb n (passing_bits previous.row) few in (fuel, rw passes at walk))

pub before_placed : (fabric : PlainFabric) (at previous : PlacedRow) → previous_row fabric at ≡ Some previous → IsPlaced fabric previous
before_placed fabric at previous is = (partner_is comes goes fabric at previous (opposite at.row.dir) is).stands

module _ (fabric : PlainFabric) (are : AreRows fabric) where
  -- what a row has into which a bit comes
  pub record Comes (at : PlacedRow) (n : ℕ) : Type 0 where
    pub placed : IsPlaced fabric at
    pub no_jump : is_jump at.row.dir ≡ false
    pub few : n < side_border at.row at.row.dest

  -- what the row before has, where a bit comes from it
  pub record Before (previous : PlacedRow) (bit : ℕ) : Type 0 where
    pub placed : IsPlaced fabric previous
    pub row_is : IsWireRow previous.row
    pub no_jump : is_jump previous.row.dir ≡ false
    pub named : is_named previous.row.source ≡ true
    pub few : bit < border_bits previous.row
    pub few_source : bit < side_border previous.row previous.row.source

  pub row_before : (here previous : PlacedRow) (bit : ℕ) → Comes here bit → previous_row fabric here ≡ Some previous → Before previous bit
  row_before here previous bit c is =
      let partner = partner_is comes goes fabric here previous (opposite here.row.dir) is in
      let out = goes_from here.row.dir previous.row partner.nth.1 in
      let previous_no_jump : is_jump previous.row.dir ≡ false = ap is_jump out.0 ∙ c.no_jump in
      let row_is : IsWireRow previous.row = standing_is_wire_row fabric previous are partner.stands in
      let few_there : bit < border_bits previous.row = omega (arith, side_in_border here.row here.row.dest bit c.few, partner.equal) in
      record {
        placed = partner.stands;
        row_is = row_is;
        no_jump = previous_no_jump;
        named = out.1;
        few = few_there;
        few_source = source_within previous.row row_is previous_no_jump bit out.1 few_there;
      }

  passes_comes : (here : PlacedRow) (bit : ℕ) (at : PlacedRow) (n : ℕ) → Comes here bit → Passes fabric here bit at n → Comes at n
  passes_comes here bit last k c ends = c
  passes_comes here bit last k c (came {at} {previous} {at_bit} passes previous_is few) =
      let b = row_before at previous at_bit (passes_comes here bit at at_bit c passes) previous_is in
      record { placed = b.placed; no_jump = b.no_jump; few = passing_within previous.row b.row_is b.no_jump at_bit few }

  pub way_comes : (implementation : PlainImplementation) (at : PlacedRow) (n : ℕ) → IsTreeWay fabric implementation at n → Comes at n
  way_comes implementation at n way =
      let found = placed_there fabric way.x way.y way.row way.tile way.here way.wire.tile_is way.placed in
      let here = placed (row_place way.x way.y way.row) way.tile found.0 in
      let stands : IsPlaced fabric here = record { tile_is = way.wire.tile_is; row_is = found.1 } in
      let other : is_jump found.0.dir ≡ false = ap (λ (h : PlacedRow). is_jump h.row.dir) (sym found.2) ∙ way.no_jump in
      let few = dest_few way.tile way.row way.bit found.0 (tree_wire fabric implementation way.x way.y way.tile (dest_of way.row way.bit) way.wire) found.1 in
      passes_comes way.here way.bit at n
      (subst (λ h. Comes h way.bit) (sym found.2)
      (record { placed = stands; no_jump = other; few = dest_within found.0 (standing_is_wire_row fabric here are stands) other way.bit few }))
      way.passes
