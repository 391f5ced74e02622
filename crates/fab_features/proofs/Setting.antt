-- What the bits of a cell and the select bits of an output are as ones of values.
use Rattle.std.proofs.Common.{◌≡◌, ◌⊎◌, ℕ, ◌+◌, ◌-◌, ◌<◌, ◌≤◌, Bool, true, false, cond, ◌&&◌, suc, List, [], ◌∷◌, length, Option, Some, None, is_some, nat_eq, slice_get, sym, refl, ap, ◌∙◌, subst, inl, inr, arith, eqb-true, lt-ltb, le-ltb}
use Rattle.std.specs.List.{list_any, position, position_or_len}
use Rattle.std.specs.Option.{option_map_or}
use Rattle.std.proofs.lemmas.Bool.{false≢true, cases_Bool, cases_lt}
use Rattle.fab_kinds.specs.declared.kind.Kind.TheVariants as kinds
use Rattle.fab_kinds.specs.Pins.{bit_count}
use Rattle.fab_model.specs.declared.tiles.Bel.{Bel}
use Rattle.fab_model.specs.Tiles.{PlainTile, output_field, tile_bits, bits_before}
use Rattle.fab_model.specs.Grid.{PlainFabric, tile_at}
use Rattle.fab_model.specs.Drive.{PlainBits, matrix_inputs}
use Rattle.fab_fabric.specs.Bits.{bits_at}
use Rattle.fab_fabric.specs.Fabric.{wires_at}
use Rattle.fab_fabric.specs.Wires.{wire_index}
use Rattle.fab_fabric.specs.declared.wire.Site.{Site}
use Rattle.fab_fabric.proofs.Numbered.{one_place}
use Rattle.std.proofs.lemmas.Option.{slice_get_within}
use Rattle.fab_netlist.proofs.Members.{parts_true}
use Rattle.fab_netlist.specs.Meaning.{begins_high}
use Rattle.fab_netlist.specs.WellMade.{table_bit}
use Rattle.fab_netlist.specs.Packed.{PlainCell}
use Rattle.fab_implementation.specs.Plain.{Edge}
use Rattle.fab_implementation.specs.OnFabric.{kind_at}
use Rattle.fab_legal.proofs.Pins.{tile_of_kind}
use Rattle.fab_legal.proofs.PortNumbers.{place_in}
use Rattle.fab_use_defs.specs.Configuring.{cell_bit}
use Rattle.fab_features.specs.Features.{place_among}
use Rattle.fab_features.specs.inner.Adding.{Adds, BitSet, IsOneOf, IsSiteOne, IsSelectOne, IsChoiceOne, IsEdgeOne}
use Rattle.fab_features.specs.declared.ones.Ones.{Ones}
use Rattle.fab_features.specs.declared.said.Choice.{Choice}
use Rattle.fab_features.proofs.Added.{none_added, both_added, same_added}
use Rattle.fab_features.proofs.Fields.{bel_inside, field_fits}

same_tile : (a b : PlainTile) → Some a ≡ Some b → a ≡ b
same_tile a b e = cc

-- one tile stands at a place
pub one_tile : (fabric : PlainFabric) (x y : ℕ) (a b : PlainTile) → tile_at fabric x y ≡ Some a → tile_at fabric x y ≡ Some b → a ≡ b
one_tile fabric x y a b first second = same_tile a b (sym first ∙ second)

pub tile_there : (fabric : PlainFabric) (x y x2 y2 : ℕ) (tile : PlainTile) → x2 ≡ x → y2 ≡ y → tile_at fabric x y ≡ Some tile → tile_at fabric x2 y2 ≡ Some tile
tile_there fabric x y x2 y2 tile x_is y_is is = ap (λ n. tile_at fabric n y2) x_is ∙ ap (λ n. tile_at fabric x n) y_is ∙ is

pub bits_of_tile : (fabric : PlainFabric) (x y : ℕ) (tile : PlainTile) → tile_at fabric x y ≡ Some tile → bits_at fabric x y ≡ tile_bits tile
bits_of_tile fabric x y tile is = ap (λ (found : Option PlainTile). option_map_or tile_bits found 0) is

-- ---- cells

abbrev pub ones_of : (x y low width value : ℕ) → Ones
ones_of x y low width value = record { x = x; y = y; low = low; width = width; value = value }

-- the BEL at a LUT4c site
pub lut_bel : (fabric : PlainFabric) (site : Site) (tile : PlainTile) → kind_at fabric site ≡ Some kinds.Lut4c → tile_at fabric site.x site.y ≡ Some tile →
    (bel : Bel) × (slice_get tile.bels site.bel ≡ Some bel) × (bit_count bel.kind ≡ 19)
lut_bel fabric site tile kind is =
    let found = tile_of_kind site (tile_at fabric site.x site.y) kinds.Lut4c kind in
    let same : found.0 ≡ tile = one_tile fabric site.x site.y found.0 tile found.1 is in
    (found.2.0, ap (λ (t : PlainTile). slice_get t.bels site.bel) (sym same) ∙ found.2.1, ap bit_count found.2.2)

pub lut_fits : (fabric : PlainFabric) (site : Site) (tile : PlainTile) → kind_at fabric site ≡ Some kinds.Lut4c → tile_at fabric site.x site.y ≡ Some tile →
    (bits_before tile.bels site.bel + 19 ≤ bits_at fabric site.x site.y) × (site.bel < length tile.bels)
lut_fits fabric site tile kind is =
    let bel = lut_bel fabric site tile kind is in (
      omega (arith, bel_inside tile.bels site.bel bel.0 bel.1, bel.2, bits_of_tile fabric site.x site.y tile is),
      slice_get_within tile.bels site.bel bel.0 bel.1,
    )

-- a bit as a value of one bit
bit_one : (bit : Bool) (value : ℕ) → value ≡ cond bit 1 0 → table_bit value 0 ≡ true → bit ≡ true
bit_one false value is one = absurd (false≢true (sym (ap (λ n. table_bit n 0) is) ∙ one))
bit_one true value is one = refl

one_bit : (bit : Bool) (value : ℕ) → value ≡ cond bit 1 0 → bit ≡ true → table_bit value 0 ≡ true
one_bit false value is one = absurd (false≢true one)
one_bit true value is one = ap (λ n. table_bit n 0) is

either_bit : (at_16 at_18 latch high : Bool) → cond at_16 latch (at_18 && high) ≡ true → ((at_16 ≡ true) × (latch ≡ true)) ⊎ ((at_18 ≡ true) × (high ≡ true))
either_bit true at_18 latch high one = inl (refl, one)
either_bit false at_18 latch high one = inr (parts_true at_18 high one)

-- a bit behind the table that is 1 selects the flip-flop of a latch, or is what a reset loads
pub behind_table : (resets : Bool) (cell : PlainCell) (place : ℕ) → 16 ≤ place → cell_bit resets cell place ≡ true →
    ((place ≡ 16) × (is_some cell.latch ≡ true)) ⊎ ((place ≡ 18) × (cell_bit resets cell 18 ≡ true))
behind_table resets cell place past one =
    let high : Bool = resets && option_map_or begins_high cell.latch false in
    let behind : cell_bit resets cell place ≡ cond (nat_eq place 16) (is_some cell.latch) (nat_eq place 18 && high) = rw (le-ltb place 16 past) refl in
    elim (either_bit (nat_eq place 16) (nat_eq place 18) (is_some cell.latch) high (sym behind ∙ one)) [
      | inl p ↦ inl (eqb-true place 16 p.0, p.1)
      | inr p ↦ inr (eqb-true place 18 p.0, p.1)
    ]

module _ (fabric : PlainFabric) (resets : Bool) (tile : PlainTile) (site : Site) (cell : PlainCell) (low table latch high : ℕ) (is : tile_at fabric site.x site.y ≡ Some tile)
    (low_is : low ≡ bits_before tile.bels site.bel) (table_is : table ≡ cell.table) (latch_is : latch ≡ cond (is_some cell.latch) 1 0) (high_is : high ≡ cond (cell_bit resets cell 18) 1 0) where
  abbrev IsTable : BitSet
  IsTable = IsOneOf (ones_of site.x site.y low 16 table)

  abbrev IsLatch : BitSet
  IsLatch = IsOneOf (ones_of site.x site.y (low + 16) 1 latch)

  abbrev IsReset : BitSet
  IsReset = IsOneOf (ones_of site.x site.y (low + 18) 1 high)

  -- a bit of the cell at its place
  placed_one : (x y bit place : ℕ) → x ≡ site.x → y ≡ site.y → bit ≡ low + place → place < 19 → cell_bit resets cell place ≡ true → IsSiteOne fabric resets site cell x y bit
  placed_one x y bit place x_is y_is bit_is inside one = record {
    tile = tile;
    place = place;
    x_is = x_is;
    y_is = y_is;
    tile_is = tile_there fabric site.x site.y x y tile x_is y_is is;
    bit_is = omega (arith, bit_is, low_is);
    inside = inside;
    one = one;
  }

  from_table : (x y bit : ℕ) → IsTable x y bit → IsSiteOne fabric resets site cell x y bit
  from_table x y bit o =
      let place = bit - low in
      let few : place < 16 = omega (arith, o.above, o.below) in
      let in_table : cell_bit resets cell place ≡ table_bit cell.table place = rw (lt-ltb place 16 few) refl in
      placed_one x y bit place o.x_is o.y_is (omega (arith, o.above)) (omega (arith, few)) (in_table ∙ ap (λ n. table_bit n place) (sym table_is) ∙ o.one)

  from_latch : (x y bit : ℕ) → IsLatch x y bit → IsSiteOne fabric resets site cell x y bit
  from_latch x y bit o =
      let none : bit - (low + 16) ≡ 0 = omega (arith, o.above, o.below) in
      placed_one x y bit 16 o.x_is o.y_is (omega (arith, o.above, o.below)) (omega arith) (bit_one (is_some cell.latch) latch latch_is (ap (table_bit latch) (sym none) ∙ o.one))

  from_reset : (x y bit : ℕ) → IsReset x y bit → IsSiteOne fabric resets site cell x y bit
  from_reset x y bit o =
      let none : bit - (low + 18) ≡ 0 = omega (arith, o.above, o.below) in
      placed_one x y bit 18 o.x_is o.y_is (omega (arith, o.above, o.below)) (omega arith) (bit_one (cell_bit resets cell 18) high high_is (ap (table_bit high) (sym none) ∙ o.one))

  into_parts : (x y bit : ℕ) → IsSiteOne fabric resets site cell x y bit → (IsTable x y bit ⊎ IsLatch x y bit) ⊎ IsReset x y bit
  into_parts x y bit s =
      let same : s.tile ≡ tile = one_tile fabric x y s.tile tile s.tile_is (tile_there fabric site.x site.y x y tile s.x_is s.y_is is) in
      let before : bits_before s.tile.bels site.bel ≡ low = ap (λ (t : PlainTile). bits_before t.bels site.bel) same ∙ sym low_is in
      let at : bit ≡ low + s.place = omega (arith, before, s.bit_is) in
      elim (cases_lt s.place 16) [
        | inl few ↦ (
            let in_table : cell_bit resets cell s.place ≡ table_bit cell.table s.place = rw (lt-ltb s.place 16 few) refl in
            let place_is : bit - low ≡ s.place = omega (arith, at) in
            inl (inl (record {
              x_is = s.x_is;
              y_is = s.y_is;
              above = omega (arith, at);
              below = omega (arith, at, few);
              one = ap (table_bit table) place_is ∙ ap (λ n. table_bit n s.place) table_is ∙ sym in_table ∙ s.one;
            })))
        | inr past ↦ elim (behind_table resets cell s.place past s.one) [
          | inl p ↦ (
              let none : bit - (low + 16) ≡ 0 = omega (arith, at, p.0) in
              inl (inr (record {
                x_is = s.x_is;
                y_is = s.y_is;
                above = omega (arith, at, p.0);
                below = omega (arith, at, p.0);
                one = ap (table_bit latch) none ∙ one_bit (is_some cell.latch) latch latch_is p.1;
              })))
          | inr p ↦ (
              let none : bit - (low + 18) ≡ 0 = omega (arith, at, p.0) in
              inr (record {
                x_is = s.x_is;
                y_is = s.y_is;
                above = omega (arith, at, p.0);
                below = omega (arith, at, p.0);
                one = ap (table_bit high) none ∙ one_bit (cell_bit resets cell 18) high high_is p.1;
              }))
        ]
      ]

  -- the table, the bit that selects the flip-flop and the bit that a reset loads are the bits of a cell
  pub site_adds : (a b c d : PlainBits) → Adds a b (IsOneOf (ones_of site.x site.y low 16 table)) → Adds b c (IsOneOf (ones_of site.x site.y (low + 16) 1 latch)) →
      Adds c d (IsOneOf (ones_of site.x site.y (low + 18) 1 high)) → Adds a d (IsSiteOne fabric resets site cell)
  site_adds a b c d first second third =
      same_added a d (λ x y bit. (IsTable x y bit ⊎ IsLatch x y bit) ⊎ IsReset x y bit) (IsSiteOne fabric resets site cell)
      (λ x y bit either. elim either [ inl front ↦ elim front [ inl o ↦ from_table x y bit o | inr o ↦ from_latch x y bit o ] | inr o ↦ from_reset x y bit o ])
      into_parts
      (both_added a c d (λ x y bit. IsTable x y bit ⊎ IsLatch x y bit) IsReset (both_added a b c IsTable IsLatch first second) third)

-- ---- choices

pub none_found : (inputs : List ℕ) (input : ℕ) → None ≡ position (λ other. nat_eq other input) inputs → list_any (λ other. nat_eq other input) inputs ≡ true → ⊥
none_found inputs input none there =
    let inside = place_in (λ other. nat_eq other input) inputs there in
    never (position_or_len (λ other. nat_eq other input) inputs) (none ∙ rw (lt-ltb (position_or_len (λ other. nat_eq other input) inputs) (length inputs) inside) refl)
  where
    never : (n : ℕ) → None ≡ Some n → ⊥
    never n e = cc

same_number : (a b : ℕ) → Some a ≡ Some b → a ≡ b
same_number a b e = cc

pub found_place : (inputs : List ℕ) (input place : ℕ) → Some place ≡ position (λ other. nat_eq other input) inputs →
    (list_any (λ other. nat_eq other input) inputs ≡ true) × (place ≡ place_among inputs input)
found_place inputs input place found =
    let p : ℕ → Bool = λ other. nat_eq other input in
    let first = position_or_len p inputs in
    elim (cases_lt first (length inputs)) [
      | inl few ↦ (any_there inputs few, same_number place first (found ∙ rw (lt-ltb first (length inputs) few) refl))
      | inr past ↦ absurd (never place (found ∙ rw (le-ltb first (length inputs) past) refl))
    ]
  where
    never : (n : ℕ) → Some n ≡ None → ⊥
    never n e = cc

    any_there : (xs : List ℕ) → position_or_len (λ other. nat_eq other input) xs < length xs → list_any (λ other. nat_eq other input) xs ≡ true
    any_there [] few = absurd (omega (arith, few))
    any_there (x ∷ xs) few =
        elim (cases_Bool (nat_eq x input)) [
          | inl t ↦ rw t refl
          | inr f ↦ (
              let rest : 1 + position_or_len (λ other. nat_eq other input) xs < suc (length xs) = rw f at few in
              rw f (any_there xs (omega (arith, rest))))
        ]

pub choice_fits : (fabric : PlainFabric) (x y output low width : ℕ) (tile : PlainTile) → tile_at fabric x y ≡ Some tile → (low, width) ≡ output_field tile output → low + width ≤ bits_at fabric x y
choice_fits fabric x y output low width tile is field =
    omega (arith, field_fits tile output, bits_of_tile fabric x y tile is, ap (λ (f : ℕ × ℕ). f.0) field, ap (λ (f : ℕ × ℕ). f.1) field)

pub no_choice : (bits : PlainBits) (tile : PlainTile) (choice : Choice) (inputs : List ℕ) → inputs ≡ matrix_inputs tile choice.output → None ≡ position (λ other. nat_eq other choice.input) inputs →
    Adds bits bits (IsChoiceOne tile choice)
no_choice bits tile choice inputs are none =
    none_added bits (IsChoiceOne tile choice) (λ x y bit o.
    none_found inputs choice.input none (ap (λ (is : List ℕ). list_any (λ other. nat_eq other choice.input) is) are ∙ o.selected.paired))

pub choice_adds : (a b : PlainBits) (tile : PlainTile) (choice : Choice) (inputs : List ℕ) (low width place : ℕ) → inputs ≡ matrix_inputs tile choice.output →
    Some place ≡ position (λ other. nat_eq other choice.input) inputs → (low, width) ≡ output_field tile choice.output →
    Adds a b (IsOneOf (ones_of choice.x choice.y low width place)) → Adds a b (IsChoiceOne tile choice)
choice_adds a b tile choice inputs low width place are found field adds =
    let found_at = found_place inputs choice.input place found in
    let paired : list_any (λ other. nat_eq other choice.input) (matrix_inputs tile choice.output) ≡ true = ap (λ (is : List ℕ). list_any (λ other. nat_eq other choice.input) is) (sym are) ∙ found_at.0 in
    let place_is : place ≡ place_among (matrix_inputs tile choice.output) choice.input = found_at.1 ∙ ap (λ (is : List ℕ). place_among is choice.input) are in
    let low_is : low ≡ (output_field tile choice.output).0 = ap (λ (f : ℕ × ℕ). f.0) field in
    let width_is : width ≡ (output_field tile choice.output).1 = ap (λ (f : ℕ × ℕ). f.1) field in
    same_added a b (IsOneOf (ones_of choice.x choice.y low width place)) (IsChoiceOne tile choice)
    (λ x y bit o. record {
      x_is = o.x_is;
      y_is = o.y_is;
      selected = record {
        paired = paired;
        above = omega (arith, o.above, low_is);
        below = omega (arith, o.below, low_is, width_is);
        one = ap (λ n. table_bit n (bit - (output_field tile choice.output).0)) (sym place_is) ∙ ap (λ n. table_bit place (bit - n)) (sym low_is) ∙ o.one;
      };
    })
    (λ x y bit o. record {
      x_is = o.x_is;
      y_is = o.y_is;
      above = omega (arith, o.selected.above, low_is);
      below = omega (arith, o.selected.below, low_is, width_is);
      one = ap (λ n. table_bit place (bit - n)) low_is ∙ ap (λ n. table_bit n (bit - (output_field tile choice.output).0)) place_is ∙ o.selected.one;
    })
    adds

-- ---- edges

module _ (fabric : PlainFabric) (edge : Edge) (from_x from_y input x y output : ℕ) (few_in : input < wires_at fabric from_x from_y) (from_is : edge.0.0 ≡ wire_index fabric from_x from_y input)
    (few_out : output < wires_at fabric x y) (to_is : edge.1.0 ≡ wire_index fabric x y output) where
  entered : (x2 y2 bit : ℕ) → (e : IsEdgeOne fabric edge x2 y2 bit) → (x2 ≡ x) × (y2 ≡ y) × (e.output ≡ output)
  entered x2 y2 bit e = one_place fabric x2 y2 e.output x y output e.output_in few_out (sym e.output_is ∙ to_is)

  left : (x2 y2 bit : ℕ) → (e : IsEdgeOne fabric edge x2 y2 bit) → (x2 ≡ from_x) × (y2 ≡ from_y) × (e.input ≡ input)
  left x2 y2 bit e = one_place fabric x2 y2 e.input from_x from_y input e.input_in few_in (sym e.input_is ∙ from_is)

  pub no_edge_x : (bits : PlainBits) → (from_x ≡ x → ⊥) → Adds bits bits (IsEdgeOne fabric edge)
  no_edge_x bits apart = none_added bits (IsEdgeOne fabric edge) (λ x2 y2 bit e. apart (sym (left x2 y2 bit e).0 ∙ (entered x2 y2 bit e).0))

  pub no_edge_y : (bits : PlainBits) → (from_y ≡ y → ⊥) → Adds bits bits (IsEdgeOne fabric edge)
  no_edge_y bits apart = none_added bits (IsEdgeOne fabric edge) (λ x2 y2 bit e. apart (sym (left x2 y2 bit e).1 ∙ (entered x2 y2 bit e).1))

  pub edge_adds : (a b : PlainBits) (tile : PlainTile) → from_x ≡ x → from_y ≡ y → tile_at fabric x y ≡ Some tile →
      Adds a b (IsChoiceOne tile (record { x = x; y = y; output = output; input = input })) → Adds a b (IsEdgeOne fabric edge)
  edge_adds a b tile same_x same_y is adds =
      same_added a b (IsChoiceOne tile (record { x = x; y = y; output = output; input = input })) (IsEdgeOne fabric edge)
      (λ x2 y2 bit o. record {
        tile = tile;
        output = output;
        input = input;
        tile_is = tile_there fabric x y x2 y2 tile o.x_is o.y_is is;
        output_in = subst (λ n. output < wires_at fabric n y2) (sym o.x_is) (subst (λ n. output < wires_at fabric x n) (sym o.y_is) few_out);
        input_in = subst (λ n. input < wires_at fabric n y2) (same_x ∙ sym o.x_is) (subst (λ n. input < wires_at fabric from_x n) (same_y ∙ sym o.y_is) few_in);
        output_is = to_is ∙ ap (λ n. wire_index fabric n y output) (sym o.x_is) ∙ ap (λ n. wire_index fabric x2 n output) (sym o.y_is);
        input_is = from_is ∙ ap (λ n. wire_index fabric n from_y input) (same_x ∙ sym o.x_is) ∙ ap (λ n. wire_index fabric x2 n input) (same_y ∙ sym o.y_is);
        selected = o.selected;
      })
      (λ x2 y2 bit e.
      let at = entered x2 y2 bit e in
      let tile_same : e.tile ≡ tile = one_tile fabric x2 y2 e.tile tile e.tile_is (tile_there fabric x y x2 y2 tile at.0 at.1 is) in
      let first : IsSelectOne tile e.output e.input bit = subst (λ (t : PlainTile). IsSelectOne t e.output e.input bit) tile_same e.selected in
      let second : IsSelectOne tile output e.input bit = subst (λ n. IsSelectOne tile n e.input bit) at.2 first in
      record { x_is = at.0; y_is = at.1; selected = subst (λ n. IsSelectOne tile output n bit) (left x2 y2 bit e).2 second })
      adds
