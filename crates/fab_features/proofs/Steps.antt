-- The edges of a legal implementation: their wires, the pairs of those into a switch matrix, and that one enters a wire.
use Rattle.std.proofs.Common.{◌≡◌, ℕ, zero, suc, ◌<◌, true, false, List, [], ◌∷◌, length, map, take, get_or, Option, Some, None, nat_eq, slice_get, sym, refl, ap, ◌∙◌, subst, inl, inr, arith, Contains}
use Rattle.std.specs.List.{list_any}
use Rattle.std.specs.Option.{option_map, option_map_or}
use Rattle.std.proofs.lemmas.Bool.{false≢true, cases_Bool, cases_lt}
use Rattle.std.proofs.lemmas.List.Elements.{Contains-append_right}
use Rattle.std.proofs.lemmas.Bool.Decides.{Decides-eqb}
use Rattle.fab_select.specs.declared.pair.Pair.{Pair}
use Rattle.fab_select.specs.Selection.{inputs_of}
use Rattle.fab_model.specs.declared.tiles.WireRow.{WireRow}
use Rattle.fab_model.specs.Tiles.{PlainTile, IsTile, matrix_names, pair_numbers, is_matrix_output, dest_bit}
use Rattle.fab_model.specs.Grid.{PlainFabric, tile_at}
use Rattle.fab_model.specs.Wires.{PlainWire, HasWire, IsMatrixOutput, source_of, dest_of, pin_of, wire_number}
use Rattle.fab_model.specs.Joins.{RowPlace}
use Rattle.fab_model.specs.Cascade.{join_to}
use Rattle.fab_model.specs.Drive.{matrix_inputs}
use Rattle.fab_model.proofs.Steps.{map_gives}
use Rattle.fab_fabric.specs.Fabric.{AreTiles, wires_at, wire_count}
use Rattle.fab_fabric.specs.Wires.{IsIndexOf, row_place, wire_join_to, dest_wire}
use Rattle.fab_fabric.specs.declared.wire.Wire.{Wire}
use Rattle.fab_fabric.specs.declared.fabric.joins.RowAt.{RowAt}
use Rattle.fab_fabric.proofs.Numbered.{index_within, wire_within, one_wire, number_at, number_of_tile, number_within, wires_of_tile}
use Rattle.fab_fabric.proofs.Joined.{join_lands}
use Rattle.fab_fabric.proofs.Pairs.{outputs_named, inputs_named}
use Rattle.fab_netlist.specs.Plain.{IsAt}
use Rattle.fab_netlist.proofs.Members.{mapped_in}
use Rattle.fab_implementation.specs.Plain.{Edge, PlainTree, PlainImplementation}
use Rattle.fab_legal.specs.Turns.{AreRight}
use Rattle.fab_legal.specs.Steps.{IsJoined, IsStep}
use Rattle.fab_legal.specs.Nets.{net_of, left_wires, entered_wires, IsRightEntry, StandsIn}
use Rattle.fab_legal.specs.Legal.{WiresAreReached, NetsBeginRight, NetsAreApart}
use Rattle.fab_legal.specs.inner.Tables.{pairs_of}
use Rattle.fab_legal.specs.Lines.{IsNew}
use Rattle.fab_legal.proofs.Lists.{same_at}
use Rattle.fab_legal.proofs.Once.{before_in}
use Rattle.fab_legal.proofs.Pins.{is_tile_at}
use Rattle.fab_legal.proofs.StepLaws.{paired_at, pair_listed}
use Rattle.fab_netlist.specs.Packed.{PlainPacked}

-- ---- where joins lead

pub record Landed (fabric : PlainFabric) (to : Wire) : Type 0 where
  pub x : ℕ
  pub y : ℕ
  pub row : ℕ
  pub bit : ℕ
  pub is : IsIndexOf fabric to.0 x y (dest_of row bit)

found_lands : (fabric : PlainFabric) (x y row bit : ℕ) (to : Wire) (found : RowPlace × ℕ) → AreTiles fabric → HasWire fabric x y (source_of row bit) → join_to fabric (row_place x y row) bit ≡ Some found →
    dest_wire fabric found ≡ to → Landed fabric to
found_lands fabric x y row bit to found tiles has joined is =
    let here : RowAt = record { x = x; y = y; row = row } in
    let there : RowAt = record { x = found.0.x; y = found.0.y; row = found.0.row } in
    let lands : HasWire fabric found.0.x found.0.y (dest_of found.0.row found.1) = join_lands fabric here there bit found.1 tiles has joined in
    record {
      x = found.0.x;
      y = found.0.y;
      row = found.0.row;
      bit = found.1;
      is = record { is_wire = lands; is_index = sym (ap (λ (w : Wire). w.0) is) };
    }

no_wire : {X : Type 0} (to : Wire) → None ≡ Some to → X
no_wire to e = absurd cc

joined_lands : (fabric : PlainFabric) (x y index : ℕ) (plain : PlainWire) (to : Wire) → AreTiles fabric → IsIndexOf fabric index x y plain → wire_join_to fabric x y plain ≡ Some to → Landed fabric to
joined_lands fabric x y index (source_of row bit) to tiles from joined =
    let found = map_gives (dest_wire fabric) (join_to fabric (row_place x y row) bit) to joined in
    found_lands fabric x y row bit to found.0 tiles from.is_wire found.1 found.2
joined_lands fabric x y index (dest_of row bit) to tiles from joined = no_wire to joined
joined_lands fabric x y index (pin_of bel pin) to tiles from joined = no_wire to joined

pub lands : (fabric : PlainFabric) (from to : Wire) → AreTiles fabric → IsJoined fabric from to → Landed fabric to
lands fabric from to tiles j = joined_lands fabric j.x j.y from.0 j.plain to tiles j.from_is j.joined

-- both wires of a step are there
pub step_within : (fabric : PlainFabric) (from to : Wire) → AreTiles fabric → IsStep fabric from to → (from.0 < wire_count fabric) × (to.0 < wire_count fabric)
step_within fabric from to tiles step =
    elim step [
      | inl p ↦ (
          let is_tile : IsTile p.tile = is_tile_at fabric p.x p.y p.tile p.tile_is tiles in
          let k = p.listed.0 in
          let names = wires_of_tile fabric p.x p.y p.tile p.tile_is in
          let here : get_or p.tile.pairs k p.pair ≡ p.pair = p.listed.2 in
          let out_few : p.pair.output < wires_at fabric p.x p.y =
          omega (arith, outputs_named p.tile is_tile p.tile.pairs (length (matrix_names p.tile)) refl refl k p.pair p.listed.1, ap (λ (q : Pair). q.output) here, names) in
          let in_few : p.pair.input < wires_at fabric p.x p.y = omega (arith, inputs_named p.tile is_tile k p.pair p.listed.1, ap (λ (q : Pair). q.input) here, names) in (
            omega (arith, index_within fabric p.x p.y p.pair.input in_few, ap (λ (w : Wire). w.0) p.from_is),
            omega (arith, index_within fabric p.x p.y p.pair.output out_few, ap (λ (w : Wire). w.0) p.to_is),
          ))
      | inr j ↦ (
          let there = lands fabric from to tiles j in
          (wire_within fabric from.0 j.x j.y j.plain j.from_is, wire_within fabric to.0 there.x there.y (dest_of there.row there.bit) there.is))
    ]

-- ---- pairs

-- a destination bit is no output of a switch matrix
pub dest_no_output : (tile : PlainTile) (row bit : ℕ) → IsMatrixOutput tile (dest_of row bit) → ⊥
dest_no_output tile row bit is = none (slice_get tile.rows row) is
  where
    none : (found : Option WireRow) → option_map_or is_matrix_output (option_map (λ r. dest_bit r bit) found) false ≡ true → ⊥
    none None e = false≢true e
    none (Some r) e = false≢true e

-- the input of a pair is one of its output
pub input_listed : (pairs : List Pair) (output input : ℕ) → (pair : Pair) → Contains pairs pair → pair_numbers pair ≡ (output, input) →
    list_any (λ other. nat_eq other input) (inputs_of nat_eq (map pair_numbers pairs) output) ≡ true
input_listed [] output input pair here is = absurd (omega (arith, here.1))
input_listed (first ∷ pairs) output input pair here is =
    let later : (first ≡ pair → ⊥) → list_any (λ other. nat_eq other input) (inputs_of nat_eq (map pair_numbers pairs) output) ≡ true =
    λ other. input_listed pairs output input pair (rest here.0 here.1 here.2 other) is in
    elim (cases_Bool (nat_eq first.output output)) [
      | inl t ↦ (elim (cases_Bool (nat_eq first.input input)) [
        | inl u ↦ rw (t, u) refl
        | inr g ↦ rw (t, g) (later (λ e. apart first.input g (ap (λ (q : Pair). q.input) e ∙ ap (λ (n : ℕ × ℕ). n.1) is)))
      ])
      | inr f ↦ rw f (later (λ e. apart_output first.output f (ap (λ (q : Pair). q.output) e ∙ ap (λ (n : ℕ × ℕ). n.0) is)))
    ]
  where
    apart : (n : ℕ) → nat_eq n input ≡ false → n ≡ input → ⊥
    apart n f e = false≢true (sym f ∙ (Decides-eqb n input).1 e)

    apart_output : (n : ℕ) → nat_eq n output ≡ false → n ≡ output → ⊥
    apart_output n f e = false≢true (sym f ∙ (Decides-eqb n output).1 e)

    rest : (k : ℕ) → k < length (first ∷ pairs) → get_or (first ∷ pairs) k pair ≡ pair → (first ≡ pair → ⊥) → Contains pairs pair
    rest zero few at other = absurd (other at)
    rest (suc k) few at other = (k, omega (arith, few), at)

-- an edge into an output of a switch matrix is of a pair
pub edge_paired : (fabric : PlainFabric) (from to : Wire) (x y : ℕ) (tile : PlainTile) (output input : PlainWire) → AreTiles fabric → IsStep fabric from to → tile_at fabric x y ≡ Some tile →
    IsIndexOf fabric to.0 x y output → IsMatrixOutput tile output → IsIndexOf fabric from.0 x y input →
    list_any (λ other. nat_eq other (wire_number tile input)) (matrix_inputs tile (wire_number tile output)) ≡ true
edge_paired fabric from to x y tile output input tiles step tile_is to_is is_output from_is =
    elim step [
      | inl p ↦ (
          let out_number = number_of_tile fabric x y output tile tile_is in
          let in_number = number_of_tile fabric x y input tile tile_is in
          let few_out = number_within fabric x y output to_is.is_wire in
          let few_in = number_within fabric x y input from_is.is_wire in
          let at = paired_at fabric from to x y (number_at fabric x y input) x y (number_at fabric x y output) few_in from_is.is_index few_out to_is.is_index tiles p in
          let same : at.tile ≡ tile = one at.tile (at.tile_is) in
          let listed : Contains (pairs_of tile.pairs) (number_at fabric x y output, number_at fabric x y input) =
          subst (λ (t : PlainTile). Contains (pairs_of t.pairs) (number_at fabric x y output, number_at fabric x y input)) same at.listed in
          let pair = pair_listed tile.pairs (number_at fabric x y output) (number_at fabric x y input) listed in
          let numbers : pair_numbers pair.0 ≡ (wire_number tile output, wire_number tile input) =
          pair.2 ∙ ap (λ n. (n, number_at fabric x y input)) out_number ∙ ap (λ n. (wire_number tile output, n)) in_number in
          input_listed tile.pairs (wire_number tile output) (wire_number tile input) pair.0 pair.1 numbers)
      | inr j ↦ (
          let there = lands fabric from to tiles j in
          let same = one_wire fabric to.0 x y there.x there.y output (dest_of there.row there.bit) to_is there.is in
          absurd (dest_no_output tile there.row there.bit (subst (λ (w : PlainWire). IsMatrixOutput tile w) same.2 is_output)))
    ]
  where
    some_same : (a : PlainTile) → Some a ≡ Some tile → a ≡ tile
    some_same a e = cc

    one : (a : PlainTile) → tile_at fabric x y ≡ Some a → a ≡ tile
    one a is = some_same a (sym is ∙ tile_is)

-- ---- once

-- where no earlier item has the same value, items of one value are the same
once : {X Y : Type 0} (f : X → Y) (xs : List X) (a b : X) → ((k : ℕ) (x : X) → IsAt xs k x → Contains (map f (take k xs)) (f x) → ⊥) → Contains xs a → Contains xs b → f a ≡ f b → a ≡ b
once {X} {Y} f xs a b new first second same =
    elim (cases_lt first.0 second.0) [
      | inl less ↦ absurd (new second.0 b (second.1, second.2) (subst (λ (v : Y). Contains (map f (take second.0 xs)) v) same
          (mapped_in f (take second.0 xs) a (before_in xs first.0 second.0 a less (omega (arith, second.1)) (first.1, first.2)))))
      | inr other ↦ elim (cases_lt second.0 first.0) [
        | inl more ↦ absurd (new first.0 a (first.1, first.2) (subst (λ (v : Y). Contains (map f (take first.0 xs)) v) (sym same)
            (mapped_in f (take first.0 xs) b (before_in xs second.0 first.0 b more (omega (arith, first.1)) (second.1, second.2)))))
        | inr least ↦ (
            let places : second.0 ≡ first.0 = omega (arith, other, least) in
            same_at xs first.0 a b (first.1, first.2) (subst (λ n. IsAt xs n b) places (second.1, second.2)))
      ]
    ]

module _ (fabric : PlainFabric) (packed : PlainPacked) (i : PlainImplementation) (reached : WiresAreReached i) (nets : NetsBeginRight fabric packed i) (apart : NetsAreApart i) where
  stands : (tree : PlainTree) (edge : Edge) → Contains i.trees tree → Contains tree.edges edge → StandsIn i (net_of i tree.net) edge.1
  stands tree edge here there = record {
    tree = tree;
    listed = here;
    net_is = refl;
    has_wire = Contains-append_right (left_wires tree.edges) (entered_wires tree.edges) edge.1 (mapped_in (λ (e : Edge). e.1) tree.edges edge there);
  }

  -- one edge enters a wire
  pub one_edge : (tree other : PlainTree) (edge another : Edge) → Contains i.trees tree → Contains tree.edges edge → Contains i.trees other → Contains other.edges another → edge.1 ≡ another.1 → edge ≡ another
  one_edge tree other edge another tree_in edge_in other_in another_in same =
      let here : StandsIn i (net_of i other.net) edge.1 = subst (λ (w : Wire). StandsIn i (net_of i other.net) w) (sym same) (stands other another other_in another_in) in
      let one_net : net_of i tree.net ≡ net_of i other.net = apart edge.1 (net_of i tree.net) (net_of i other.net) (stands tree edge tree_in edge_in) here in
      let one_tree : tree ≡ other = once (λ (t : PlainTree). net_of i t.net) i.trees tree other (λ k t at. (nets k t at.0 at).name.first) tree_in other_in one_net in
      let in_tree : Contains tree.edges another = subst (λ (t : PlainTree). Contains t.edges another) (sym one_tree) another_in in
      let right : AreRight (IsRightEntry tree.edges) tree.edges = reached tree_in.0 tree tree_in.1 (tree_in.1, tree_in.2) in
      once (λ (e : Edge). e.1) tree.edges edge another (λ k e at. (right k e at.0 at).once) edge_in in_tree same

-- no value comes twice
pub once_listed : {X : Type 0} (xs : List X) (j k : ℕ) (x : X) → AreRight IsNew xs → IsAt xs j x → IsAt xs k x → j ≡ k
once_listed xs j k x new first second =
    elim (cases_lt j k) [
      | inl less ↦ absurd (new k x second.0 second (before_in xs j k x less (omega (arith, second.0)) first))
      | inr other ↦ elim (cases_lt k j) [
        | inl more ↦ absurd (new j x first.0 first (before_in xs k j x more (omega (arith, first.0)) second))
        | inr least ↦ omega (arith, other, least)
      ]
    ]
