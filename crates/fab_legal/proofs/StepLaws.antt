-- Pairs and joins of wires that are given by their places and numbers.
use Rattle.std.proofs.Common.{◌≡◌, ◌↔◌, ℕ, ◌+◌, ◌*◌, ◌<◌, Bool, true, false, not, List, [], map, length, get_or, Contains, Decides, Option, Some, None, nat_eq, slice_get, sym, ap, ◌∙◌, subst, inl, inr, arith, eq-eqb, eqb-true}
use Rattle.std.specs.List.{list_any}
use Rattle.std.proofs.lemmas.Option.{get_or_from_slice_get, slice_get_within, slice_get_cases}
use Rattle.std.proofs.lemmas.Bool.{false≢true}
use Rattle.indexmap.specs.IndexSet.{IndexSet}
use Rattle.fab_select.specs.declared.pair.Pair.{Pair}
use Rattle.fab_implementation.specs.fab_model.specs.Tiles.{PlainTile, IsTile, IsPair, TileWire, tile_wires, matrix_names, wire_name, wire_passes, is_matrix_output, pair_numbers}
use Rattle.fab_implementation.specs.fab_model.specs.Grid.{PlainFabric, numbered_type, tile_at}
use Rattle.fab_implementation.specs.fab_model.specs.Wires.{PlainWire}
use Rattle.fab_implementation.specs.fab_fabric.specs.Fabric.{IsFabric, IsPlace, AreTiles, wires_at, wire_count}
use Rattle.fab_implementation.specs.fab_fabric.specs.Wires.{wire_index, numbered_wire, IsIndexOf, wire_join_to}
use Rattle.fab_implementation.specs.fab_fabric.specs.declared.wire.Wire.{Wire}
use Rattle.fab_implementation.specs.fab_fabric.proofs.Numbered.{one_place, some_item, some_wire, wires_of_tile}
use Rattle.fab_implementation.specs.fab_fabric.proofs.Placed.{tile_inside}
use Rattle.fab_implementation.specs.fab_netlist.specs.Plain.{IsAt}
use Rattle.fab_implementation.specs.fab_netlist.proofs.Counts.{at_mapped}
use Rattle.std.proofs.lemmas.List.{length-map, get_or_default}
use Rattle.fab_implementation.specs.fab_netlist.proofs.Members.{mapped_in, parts_true, both_true}
use Rattle.fab_legal.specs.Steps.{IsPaired, IsJoined}
use Rattle.fab_legal.specs.inner.Tables.{same_pair, pairs_of, type_pairs, HavePairs, HasPair}
use Rattle.fab_legal.proofs.Members.{from_mapped}
use Rattle.fab_legal.proofs.Pins.{is_tile_at}
use Rattle.fab_legal.proofs.Sets.{any_in, in_any, all_in, new_in}

same_some : {X : Type 0} (x y : X) → Some x ≡ Some y → x ≡ y
same_some x y e = cc

pub pair_tells : (a b : ℕ × ℕ) → Decides (same_pair a b) (a ≡ b)
pair_tells a b = (
  (λ e.
      let both = parts_true (nat_eq a.0 b.0) (nat_eq a.1 b.1) e in
      ap (λ (n : ℕ). (n, a.1)) (eqb-true a.0 b.0 both.0) ∙ ap (λ (n : ℕ). (b.0, n)) (eqb-true a.1 b.1 both.1)),
  λ e. both_true (nat_eq a.0 b.0) (nat_eq a.1 b.1) (eq-eqb a.0 b.0 (ap (λ (p : ℕ × ℕ). p.0) e)) (eq-eqb a.1 b.1 (ap (λ (p : ℕ × ℕ). p.1) e)),
)

-- what passes a test of wires has a number of a wire
passes_within : (test : TileWire → Bool) (tile : PlainTile) (n : ℕ) → wire_passes test tile n ≡ true → n < length (matrix_names tile)
passes_within test tile n passes =
    elim (slice_get_cases (tile_wires tile) n).1 [
      | inl there ↦ omega (arith, there.1, length-map (tile_wires tile) wire_name)
      | inr none ↦ absurd (never (rw none.1 at passes))
    ]
  where
    never : false ≡ true → ⊥
    never e = cc

-- the pair of a step by its numbers
pub pair_listed : (pairs : List Pair) (output input : ℕ) → Contains (pairs_of pairs) (output, input) → (pair : Pair) × Contains pairs pair × (pair_numbers pair ≡ (output, input))
pair_listed pairs output input here =
    elim (all_in same_pair pair_tells [] (map pair_numbers pairs) (output, input) here) [
      | inl none ↦ absurd (omega (arith, none.1))
      | inr there ↦ from_mapped pair_numbers pairs (output, input) there
    ]

pub listed_pair : (pairs : List Pair) (pair : Pair) → Contains pairs pair → Contains (pairs_of pairs) (pair_numbers pair)
listed_pair pairs pair here = new_in same_pair pair_tells [] (map pair_numbers pairs) (pair_numbers pair) (mapped_in pair_numbers pairs pair here)

-- ---- pairs

pub record PairedAt (fabric : PlainFabric) (x y input x2 y2 output : ℕ) : Type 0 where
  pub x_same : x ≡ x2
  pub y_same : y ≡ y2
  pub tile : PlainTile
  pub tile_is : tile_at fabric x y ≡ Some tile
  pub listed : Contains (pairs_of tile.pairs) (output, input)

module _ (fabric : PlainFabric) (from to : Wire) (x y input x2 y2 output : ℕ) (few_in : input < wires_at fabric x y) (from_is : from.0 ≡ wire_index fabric x y input)
    (few_out : output < wires_at fabric x2 y2) (to_is : to.0 ≡ wire_index fabric x2 y2 output) where
  pub paired_at : AreTiles fabric → IsPaired fabric from to → PairedAt fabric x y input x2 y2 output
  paired_at tiles p =
      let is_tile : IsTile p.tile = is_tile_at fabric p.x p.y p.tile p.tile_is tiles in
      let is_pair : IsPair p.tile p.pair = subst (λ (q : Pair). IsPair p.tile q) p.listed.2 (is_tile.pairs p.listed.0 p.pair p.listed.1) in
      let names = wires_of_tile fabric p.x p.y p.tile p.tile_is in
      let in_few : p.pair.input < wires_at fabric p.x p.y = omega (arith, names, passes_within (λ wire. not (is_matrix_output wire)) p.tile p.pair.input is_pair.input) in
      let out_few : p.pair.output < wires_at fabric p.x p.y = omega (arith, names, passes_within is_matrix_output p.tile p.pair.output is_pair.output) in
      let first = one_place fabric x y input p.x p.y p.pair.input few_in in_few (sym from_is ∙ ap (λ (w : Wire). w.0) p.from_is) in
      let second = one_place fabric x2 y2 output p.x p.y p.pair.output few_out out_few (sym to_is ∙ ap (λ (w : Wire). w.0) p.to_is) in
      let numbers : pair_numbers p.pair ≡ (output, input) = ap (λ (n : ℕ). (n, p.pair.input)) (sym second.2) ∙ ap (λ (n : ℕ). (output, n)) (sym first.2) in
      record {
        x_same = first.0 ∙ sym second.0;
        y_same = first.1 ∙ sym second.1;
        tile = p.tile;
        tile_is = ap (λ (a : ℕ). tile_at fabric a y) first.0 ∙ ap (λ (b : ℕ). tile_at fabric p.x b) first.1 ∙ p.tile_is;
        listed = subst (λ (k : ℕ × ℕ). Contains (pairs_of p.tile.pairs) k) numbers (listed_pair p.tile.pairs p.pair p.listed);
      }

  pub paired_by : x ≡ x2 → y ≡ y2 → (tile : PlainTile) → tile_at fabric x y ≡ Some tile → Contains (pairs_of tile.pairs) (output, input) → IsPaired fabric from to
  paired_by x_same y_same tile tile_is here =
      let found = pair_listed tile.pairs output input here in
      record {
        x = x;
        y = y;
        tile = tile;
        tile_is = tile_is;
        pair = found.0;
        listed = found.1;
        from_is = ap numbered_wire (from_is ∙ ap (λ (k : ℕ × ℕ). wire_index fabric x y k.1) (sym found.2));
        to_is = ap numbered_wire (to_is ∙ ap (λ (a : ℕ). wire_index fabric a y2 output) (sym x_same) ∙ ap (λ (b : ℕ). wire_index fabric x b output) (sym y_same)
            ∙ ap (λ (k : ℕ × ℕ). wire_index fabric x y k.0) (sym found.2));
      }

pub not_paired : (fabric : PlainFabric) (from to : Wire) → (IsPaired fabric from to → ⊥) → (false ≡ true) ↔ IsPaired fabric from to
not_paired fabric from to never = ((λ e. absurd (false≢true e)), λ p. absurd (never p))

pub pair_answers : (fabric : PlainFabric) (from to : Wire) (x y input x2 y2 output : ℕ) → input < wires_at fabric x y → from.0 ≡ wire_index fabric x y input → output < wires_at fabric x2 y2 →
    to.0 ≡ wire_index fabric x2 y2 output → AreTiles fabric → x ≡ x2 → y ≡ y2 → (r : Bool) → (r ≡ true) ↔ HasPair fabric x y output input → (r ≡ true) ↔ IsPaired fabric from to
pair_answers fabric from to x y input x2 y2 output few_in from_is few_out to_is tiles x_same y_same r answer = (
  (λ yes. let has = answer.0 yes in paired_by fabric from to x y input x2 y2 output few_in from_is few_out to_is x_same y_same has.tile has.tile_is has.listed),
  λ p. let at = paired_at fabric from to x y input x2 y2 output few_in from_is few_out to_is tiles p in
      answer.1 (record { tile = at.tile; tile_is = at.tile_is; listed = at.listed }),
)

-- the pairs of the tile at a place
pub type_there : (fabric : PlainFabric) (x y number : ℕ) (place : Option ℕ) → IsFabric fabric → x < fabric.columns → y < fabric.rows → slice_get fabric.grid (y * fabric.columns + x) ≡ Some place → place ≡ Some number →
    (tile : PlainTile) × IsAt fabric.types number tile × (tile_at fabric x y ≡ Some tile)
type_there fabric x y number place is few low read place_is =
    let k = y * fabric.columns + x in
    let inside = slice_get_within fabric.grid k place read in
    let typed = is.numbers k place inside in
    let here : get_or fabric.grid k place ≡ Some number = get_or_from_slice_get fabric.grid k place place read ∙ place_is in
    let small : number < length fabric.types = subst (λ (o : Option ℕ). IsPlace fabric.types o) here typed in
    let tile = some_item fabric.types number small in (
      tile.0,
      (small, get_or_from_slice_get fabric.types number tile.0 tile.0 tile.1),
      tile_inside fabric x y few low ∙ ap (numbered_type fabric.types) (read ∙ ap (λ (o : Option ℕ). Some o) place_is) ∙ tile.1,
    )

pub sets_inside : {S : Type 0} (types : List PlainTile) (sets : List (IndexSet (ℕ × ℕ) S)) (number : ℕ) → HavePairs types sets → number < length types → number < length sets
sets_inside {S} types sets number have few =
    omega (arith, few, ap (λ (l : List (List (ℕ × ℕ))). length l) have, length-map sets (λ (s : IndexSet (ℕ × ℕ) S). s.keys), length-map types type_pairs)

pub keys_there : {S : Type 0} (types : List PlainTile) (sets : List (IndexSet (ℕ × ℕ) S)) (number : ℕ) (set : IndexSet (ℕ × ℕ) S) (tile : PlainTile) → HavePairs types sets → IsAt types number tile →
    set ≡ get_or sets number set → (number < length sets) × (set.keys ≡ pairs_of tile.pairs)
keys_there {S} types sets number set tile have at read =
    let inside : number < length sets = sets_inside types sets number have at.0 in
    let first = at_mapped (λ (s : IndexSet (ℕ × ℕ) S). s.keys) sets number set (inside, sym read) in
    let second = at_mapped type_pairs types number tile at in (
      inside,
      sym first.1 ∙ ap (λ (l : List (List (ℕ × ℕ))). get_or l number set.keys) have ∙ get_or_default (map type_pairs types) number set.keys (pairs_of tile.pairs) second.0 ∙ second.1,
    )

pub looked_up : (fabric : PlainFabric) (x y output input : ℕ) (tile : PlainTile) (keys : List (ℕ × ℕ)) → tile_at fabric x y ≡ Some tile → keys ≡ pairs_of tile.pairs →
    (r : Bool) → r ≡ list_any (same_pair (output, input)) keys → (r ≡ true) ↔ HasPair fabric x y output input
looked_up fabric x y output input tile keys tile_is keys_are r answer = (
  (λ yes. record {
    tile = tile;
    tile_is = tile_is;
    listed = subst (λ (k : List (ℕ × ℕ)). Contains k (output, input)) keys_are (any_in same_pair pair_tells keys (output, input) (sym answer ∙ yes));
  }),
  λ has.
      let same : has.tile ≡ tile = same_some has.tile tile (sym has.tile_is ∙ tile_is) in
      answer ∙ in_any same_pair pair_tells keys (output, input)
      (subst (λ (k : List (ℕ × ℕ)). Contains k (output, input)) (sym keys_are) (subst (λ (t : PlainTile). Contains (pairs_of t.pairs) (output, input)) same has.listed)),
)

-- ---- joins

pub wire_same : (a b : Wire) → a.0 ≡ b.0 → a ≡ b
wire_same a b same = ap numbered_wire same

pub joined_by : (fabric : PlainFabric) (from to : Wire) (o : Option Wire) → from.0 < wire_count fabric → ((x y : ℕ) (plain : PlainWire) → IsIndexOf fabric from.0 x y plain → o ≡ wire_join_to fabric x y plain) →
    (o ≡ Some to) ↔ IsJoined fabric from to
joined_by fabric from to o few join = (
  (λ e. let found = some_wire fabric from.0 few in record { x = found.0; y = found.1; plain = found.2; from_is = found.3; joined = sym (join found.0 found.1 found.2 found.3) ∙ e }),
  λ j. join j.x j.y j.plain j.from_is ∙ j.joined,
)

pub join_some : (fabric : PlainFabric) (from to wire : Wire) (o : Option Wire) → from.0 < wire_count fabric → ((x y : ℕ) (plain : PlainWire) → IsIndexOf fabric from.0 x y plain → o ≡ wire_join_to fabric x y plain) → o ≡ Some wire →
    (nat_eq wire.0 to.0 ≡ true) ↔ IsJoined fabric from to
join_some fabric from to wire o few join is =
    let both = joined_by fabric from to o few join in (
      (λ e. both.0 (is ∙ ap (λ (w : Wire). Some w) (wire_same wire to (eqb-true wire.0 to.0 e)))),
      λ j. eq-eqb wire.0 to.0 (ap (λ (w : Wire). w.0) (same_some wire to (sym is ∙ both.1 j))),
    )

pub join_none : (fabric : PlainFabric) (from to : Wire) (o : Option Wire) → from.0 < wire_count fabric → ((x y : ℕ) (plain : PlainWire) → IsIndexOf fabric from.0 x y plain → o ≡ wire_join_to fabric x y plain) → o ≡ None →
    (false ≡ true) ↔ IsJoined fabric from to
join_none fabric from to o few join is =
    ((λ e. absurd (false≢true e)), λ j. absurd (never to (sym is ∙ (joined_by fabric from to o few join).1 j)))
  where
    never : (w : Wire) → None ≡ Some w → ⊥
    never w e = cc
