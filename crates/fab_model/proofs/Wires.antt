-- Wires by numbers and their matrix names are one to one.
use Rattle.std.proofs.Common.{◌≡◌, ℕ, zero, suc, ◌+◌, ◌-◌, ◌<◌, List, [], ◌∷◌, ◌++◌, map, length, take, slice_get, refl, sym, ap, ap₂, ◌∙◌, arith, subst, Some, option_map, inl, inr, append_assoc, length-append}
use Rattle.std.specs.List.{flat_map}
use Rattle.std.proofs.lemmas.Bool.{cases_lt}
use Rattle.std.proofs.lemmas.Option.{same_Some, slice_get_within}
use Rattle.std.proofs.lemmas.List.{map-append}
use Rattle.std.proofs.lemmas.List.Concat.{flat_map-cons}
use Rattle.std.proofs.lemmas.List.Sums.{sum_by-cons}
use Rattle.fab_model.specs.declared.tiles.WireRow.{WireRow}
use Rattle.fab_model.specs.declared.tiles.Bel.{Bel}
use Rattle.fab_model.specs.Rows.{source_bits, dest_bits}
use Rattle.fab_model.specs.Tiles.{PlainTile, source_bit, dest_bit, bel_pin, counted, row_wires, bel_wires, tile_wires}
use Rattle.fab_model.specs.Wires.{PlainWire, source_of, dest_of, pin_of, wire_of, pin_count, sources_at, dests_at, pins_at, IsWire, plain_row_wires, plain_bel_wires, plain_wires, wires_before_row, wires_before_bel, wire_number}

-- ---- numbers and lists

-- sums as they arise below
plus_zero : (n : ℕ) → n ≡ n + 0
plus_zero n = omega arith

zero_plus : (n : ℕ) → 0 + n ≡ n
zero_plus n = omega arith

plus_suc : (n k : ℕ) → n + 1 + k ≡ n + suc k
plus_suc n k = omega arith

-- an item of the first of two lists
get_left : {X : Type 0} (xs ys : List X) (i : ℕ) → i < length xs → slice_get (xs ++ ys) i ≡ slice_get xs i
get_left [] ys i few = absurd (omega (arith, few))
get_left (x ∷ xs) ys zero few = refl
get_left (x ∷ xs) ys (suc i) few = get_left xs ys i (omega (arith, few))

-- an item of the second of two lists
get_right : {X : Type 0} (xs ys : List X) (i j : ℕ) → i ≡ length xs + j → slice_get (xs ++ ys) i ≡ slice_get ys j
get_right [] ys i j is = ap (slice_get ys) (omega (arith, is))
get_right (x ∷ xs) ys zero j is = absurd (omega (arith, is))
get_right (x ∷ xs) ys (suc i) j is = get_right xs ys i j (omega (arith, is))

-- how long a counted list is
length_counted : {X : Type 0} (n : ℕ) (f : ℕ → X) → length (counted n f) ≡ n
unfolding counted
length_counted zero f = refl
length_counted (suc n) f = omega (arith, length_counted n (λ i. f (suc i)))

-- an item of a counted list
get_counted : {X : Type 0} (n : ℕ) (f : ℕ → X) (i : ℕ) → i < n → slice_get (counted n f) i ≡ Some (f i)
unfolding counted
get_counted zero f i few = absurd (omega (arith, few))
get_counted (suc n) f zero few = refl
get_counted (suc n) f (suc i) few = get_counted n (λ i. f (suc i)) i (omega (arith, few))

-- a map of a counted list
map_counted : {X Y : Type 0} (g : X → Y) (n : ℕ) (f : ℕ → X) → map g (counted n f) ≡ counted n (λ i. g (f i))
unfolding counted
map_counted g zero f = refl
map_counted g (suc n) f = ap (λ rest. g (f 0) ∷ rest) (map_counted g n (λ i. f (suc i)))

-- an item of a counted list before other items
get_counted_left : {X : Type 0} (n : ℕ) (f : ℕ → X) (ys : List X) (i : ℕ) → i < n → slice_get (counted n f ++ ys) i ≡ Some (f i)
get_counted_left n f ys i few = get_left (counted n f) ys i (omega (arith, few, length_counted n f)) ∙ get_counted n f i few

-- an item behind a counted list
get_counted_right : {X : Type 0} (n : ℕ) (f : ℕ → X) (ys : List X) (i j : ℕ) → i ≡ n + j → slice_get (counted n f ++ ys) i ≡ slice_get ys j
get_counted_right n f ys i j is = get_right (counted n f) ys i j (omega (arith, is, length_counted n f))

-- how many wires stand before a row, by the first row
before_more : (row : WireRow) (rows : List WireRow) (n : ℕ) → wires_before_row (row ∷ rows) (suc n) ≡ source_bits row + dest_bits row + wires_before_row rows n
before_more row rows n = sum_by-cons (λ found. source_bits found + dest_bits found) row (take n rows)

-- how many pins stand before a BEL, by the first BEL
before_more_bels : (bel : Bel) (bels : List Bel) (n : ℕ) → wires_before_bel (bel ∷ bels) (suc n) ≡ pin_count bel + wires_before_bel bels n
before_more_bels bel bels n = sum_by-cons pin_count bel (take n bels)

-- ---- from a wire to its number

-- a source bit stands at its number
source_at_number : (first : ℕ) (rows : List WireRow) (row bit at : ℕ) → bit < sources_at rows row → at ≡ wires_before_row rows row + bit → slice_get (plain_row_wires first rows) at ≡ Some (source_of (first + row) bit)
source_at_number first [] row bit at few is = absurd (omega (arith, few))
source_at_number first (found ∷ rows) zero bit at few is =
    let here : at ≡ bit = omega (arith, is) in
    let number = plus_zero first in
    ap (slice_get (plain_row_wires first (found ∷ rows))) here
    ∙ get_counted_left (source_bits found) (source_of first) (counted (dest_bits found) (dest_of first) ++ plain_row_wires (first + 1) rows) bit few
    ∙ ap (λ number. Some (source_of number bit)) number
source_at_number first (found ∷ rows) (suc row) bit at few is =
    let later = dest_bits found + (wires_before_row rows row + bit) in
    let number = plus_suc first row in
    get_counted_right (source_bits found) (source_of first) (counted (dest_bits found) (dest_of first) ++ plain_row_wires (first + 1) rows) at later (omega (arith, is, before_more found rows row))
    ∙ get_counted_right (dest_bits found) (dest_of first) (plain_row_wires (first + 1) rows) later (wires_before_row rows row + bit) refl
    ∙ source_at_number (first + 1) rows row bit (wires_before_row rows row + bit) few refl
    ∙ ap (λ number. Some (source_of number bit)) number

-- a destination bit stands at its number
dest_at_number : (first : ℕ) (rows : List WireRow) (row bit at : ℕ) → bit < dests_at rows row → at ≡ wires_before_row rows row + sources_at rows row + bit → slice_get (plain_row_wires first rows) at ≡ Some (dest_of (first + row) bit)
dest_at_number first [] row bit at few is = absurd (omega (arith, few))
dest_at_number first (found ∷ rows) zero bit at few is =
    let number = plus_zero first in
    get_counted_right (source_bits found) (source_of first) (counted (dest_bits found) (dest_of first) ++ plain_row_wires (first + 1) rows) at bit (omega (arith, is))
    ∙ get_counted_left (dest_bits found) (dest_of first) (plain_row_wires (first + 1) rows) bit few
    ∙ ap (λ number. Some (dest_of number bit)) number
dest_at_number first (found ∷ rows) (suc row) bit at few is =
    let rest = wires_before_row rows row + sources_at rows row + bit in
    let later = dest_bits found + rest in
    let number = plus_suc first row in
    get_counted_right (source_bits found) (source_of first) (counted (dest_bits found) (dest_of first) ++ plain_row_wires (first + 1) rows) at later (omega (arith, is, before_more found rows row))
    ∙ get_counted_right (dest_bits found) (dest_of first) (plain_row_wires (first + 1) rows) later rest refl
    ∙ dest_at_number (first + 1) rows row bit rest few refl
    ∙ ap (λ number. Some (dest_of number bit)) number

-- a pin stands at its number
pin_at_number : (first : ℕ) (bels : List Bel) (bel pin at : ℕ) → pin < pins_at bels bel → at ≡ wires_before_bel bels bel + pin → slice_get (plain_bel_wires first bels) at ≡ Some (pin_of (first + bel) pin)
pin_at_number first [] bel pin at few is = absurd (omega (arith, few))
pin_at_number first (found ∷ bels) zero pin at few is =
    let here : at ≡ pin = omega (arith, is) in
    let number = plus_zero first in
    ap (slice_get (plain_bel_wires first (found ∷ bels))) here
    ∙ get_counted_left (pin_count found) (pin_of first) (plain_bel_wires (first + 1) bels) pin few
    ∙ ap (λ number. Some (pin_of number pin)) number
pin_at_number first (found ∷ bels) (suc bel) pin at few is =
    let number = plus_suc first bel in
    get_counted_right (pin_count found) (pin_of first) (plain_bel_wires (first + 1) bels) at (wires_before_bel bels bel + pin) (omega (arith, is, before_more_bels found bels bel))
    ∙ pin_at_number (first + 1) bels bel pin (wires_before_bel bels bel + pin) few refl
    ∙ ap (λ number. Some (pin_of number pin)) number

-- how many wires all rows have
length_rows : (first : ℕ) (rows : List WireRow) → length (plain_row_wires first rows) ≡ wires_before_row rows (length rows)
length_rows first [] = refl
length_rows first (row ∷ rows) =
    let sources = counted (source_bits row) (source_of first) in
    let dests = counted (dest_bits row) (dest_of first) in
    let later = plain_row_wires (first + 1) rows in
    omega (arith, length-append sources (dests ++ later), length-append dests later, length_counted (source_bits row) (source_of first), length_counted (dest_bits row) (dest_of first), length_rows (first + 1) rows, before_more row rows (length rows))

-- each wire stands at its number
pub wire_at_number : (tile : PlainTile) (wire : PlainWire) → IsWire tile wire → slice_get (plain_wires tile) (wire_number tile wire) ≡ Some wire
wire_at_number tile (source_of row bit) few =
    let found = source_at_number 0 tile.rows row bit (wires_before_row tile.rows row + bit) few refl in
    let inside = slice_get_within (plain_row_wires 0 tile.rows) (wires_before_row tile.rows row + bit) (source_of (0 + row) bit) found in
    let number = zero_plus row in
    get_left (plain_row_wires 0 tile.rows) (plain_bel_wires 0 tile.bels) (wires_before_row tile.rows row + bit) inside ∙ found ∙ ap (λ number. Some (source_of number bit)) number
wire_at_number tile (dest_of row bit) few =
    let at = wires_before_row tile.rows row + sources_at tile.rows row + bit in
    let found = dest_at_number 0 tile.rows row bit at few refl in
    let inside = slice_get_within (plain_row_wires 0 tile.rows) at (dest_of (0 + row) bit) found in
    let number = zero_plus row in
    get_left (plain_row_wires 0 tile.rows) (plain_bel_wires 0 tile.bels) at inside ∙ found ∙ ap (λ number. Some (dest_of number bit)) number
wire_at_number tile (pin_of bel pin) few =
    let rest = wires_before_bel tile.bels bel + pin in
    let number = zero_plus bel in
    get_right (plain_row_wires 0 tile.rows) (plain_bel_wires 0 tile.bels) (wires_before_row tile.rows (length tile.rows) + wires_before_bel tile.bels bel + pin) rest (omega (arith, length_rows 0 tile.rows))
    ∙ pin_at_number 0 tile.bels bel pin rest few refl
    ∙ ap (λ number. Some (pin_of number pin)) number

-- ---- from a number to its wire

-- which wire of these rows has this number
data RowWire (first : ℕ) (rows : List WireRow) (wire : PlainWire) (at : ℕ) : Type 0 where
  is_source : (row bit : ℕ) → wire ≡ source_of (first + row) bit → bit < sources_at rows row → at ≡ wires_before_row rows row + bit → RowWire first rows wire at
  is_dest : (row bit : ℕ) → wire ≡ dest_of (first + row) bit → bit < dests_at rows row → at ≡ wires_before_row rows row + sources_at rows row + bit → RowWire first rows wire at

-- a wire of the later rows is one of all rows
later_row : (first : ℕ) (found : WireRow) (rows : List WireRow) (wire : PlainWire) (at rest : ℕ) → at ≡ source_bits found + dest_bits found + rest → RowWire (first + 1) rows wire rest → RowWire first (found ∷ rows) wire at
later_row first found rows wire at rest is (is_source row bit wire_is few rest_is) =
    let number = plus_suc first row in
    is_source (suc row) bit (wire_is ∙ ap (λ number. source_of number bit) number) few (omega (arith, is, rest_is, before_more found rows row))
later_row first found rows wire at rest is (is_dest row bit wire_is few rest_is) =
    let number = plus_suc first row in
    is_dest (suc row) bit (wire_is ∙ ap (λ number. dest_of number bit) number) few (omega (arith, is, rest_is, before_more found rows row))

-- what stands at a number is a wire of the rows with this number
row_wire_at : (first : ℕ) (rows : List WireRow) (at : ℕ) (wire : PlainWire) → slice_get (plain_row_wires first rows) at ≡ Some wire → RowWire first rows wire at
row_wire_at first [] at wire h = cc
row_wire_at first (found ∷ rows) at wire h =
    let sources = source_bits found in
    let dests = dest_bits found in
    let later = plain_row_wires (first + 1) rows in
    let number = plus_zero first in
    elim (cases_lt at sources) [
      | inl few ↦ (
          let here = same_Some (source_of first at) wire (sym (get_counted_left sources (source_of first) (counted dests (dest_of first) ++ later) at few) ∙ h) in
          is_source 0 at (sym here ∙ ap (λ number. source_of number at) number) few (omega arith))
      | inr past ↦ (
          let in_dests : slice_get (counted dests (dest_of first) ++ later) (at - sources) ≡ Some wire =
          sym (get_counted_right sources (source_of first) (counted dests (dest_of first) ++ later) at (at - sources) (omega (arith, past))) ∙ h in
          elim (cases_lt (at - sources) dests) [
            | inl few ↦ (
                let here = same_Some (dest_of first (at - sources)) wire (sym (get_counted_left dests (dest_of first) later (at - sources) few) ∙ in_dests) in
                is_dest 0 (at - sources) (sym here ∙ ap (λ number. dest_of number (at - sources)) number) few (omega (arith, past)))
            | inr far ↦ (
                let in_later : slice_get later (at - sources - dests) ≡ Some wire =
                sym (get_counted_right dests (dest_of first) later (at - sources) (at - sources - dests) (omega (arith, far))) ∙ in_dests in
                later_row first found rows wire at (at - sources - dests) (omega (arith, past, far)) (row_wire_at (first + 1) rows (at - sources - dests) wire in_later))
          ])
    ]

-- what stands at a number is a pin with this number
pin_wire_at : (first : ℕ) (bels : List Bel) (at : ℕ) (wire : PlainWire) → slice_get (plain_bel_wires first bels) at ≡ Some wire → (bel pin : ℕ) × (wire ≡ pin_of (first + bel) pin) × (pin < pins_at bels bel) × (at ≡ wires_before_bel bels bel + pin)
pin_wire_at first [] at wire h = cc
pin_wire_at first (found ∷ bels) at wire h =
    let pins = pin_count found in
    let later = plain_bel_wires (first + 1) bels in
    elim (cases_lt at pins) [
      | inl few ↦ (
          let number = plus_zero first in
          let here = same_Some (pin_of first at) wire (sym (get_counted_left pins (pin_of first) later at few) ∙ h) in
          (0, at, sym here ∙ ap (λ number. pin_of number at) number, few, omega arith))
      | inr past ↦ (
          let in_later : slice_get later (at - pins) ≡ Some wire = sym (get_counted_right pins (pin_of first) later at (at - pins) (omega (arith, past))) ∙ h in
          let g = pin_wire_at (first + 1) bels (at - pins) wire in_later in
          let number = plus_suc first g.0 in
          (suc g.0, g.1, g.2 ∙ ap (λ number. pin_of number g.1) number, g.3, omega (arith, past, g.4, before_more_bels found bels g.0)))
    ]

-- the tile has the wire, and this is its number
abbrev HasNumber : PlainTile → PlainWire → ℕ → Type 0
HasNumber tile wire at = IsWire tile wire × (wire_number tile wire ≡ at)

-- a wire of the rows of a tile is one of the tile
row_wire_has_number : (tile : PlainTile) (wire : PlainWire) (at : ℕ) → RowWire 0 tile.rows wire at → HasNumber tile wire at
row_wire_has_number tile wire at (is_source row bit wire_is few at_is) =
    let number = zero_plus row in
    subst (λ wire. HasNumber tile wire at) (sym (wire_is ∙ ap (λ number. source_of number bit) number)) (few, sym at_is)
row_wire_has_number tile wire at (is_dest row bit wire_is few at_is) =
    let number = zero_plus row in
    subst (λ wire. HasNumber tile wire at) (sym (wire_is ∙ ap (λ number. dest_of number bit) number)) (few, sym at_is)

-- what stands at a number is a wire with this number
pub number_has_wire : (tile : PlainTile) (at : ℕ) (wire : PlainWire) → slice_get (plain_wires tile) at ≡ Some wire → HasNumber tile wire at
number_has_wire tile at wire h =
    let rows = plain_row_wires 0 tile.rows in
    let bels = plain_bel_wires 0 tile.bels in
    elim (cases_lt at (length rows)) [
      | inl inside ↦ row_wire_has_number tile wire at (row_wire_at 0 tile.rows at wire (sym (get_left rows bels at inside) ∙ h))
      | inr past ↦ (
          let in_bels : slice_get bels (at - length rows) ≡ Some wire = sym (get_right rows bels at (at - length rows) (omega (arith, past))) ∙ h in
          let g = pin_wire_at 0 tile.bels (at - length rows) wire in_bels in
          let number = zero_plus g.0 in
          subst (λ wire. HasNumber tile wire at) (sym (g.2 ∙ ap (λ number. pin_of number g.1) number)) (g.3, omega (arith, past, g.4, length_rows 0 tile.rows)))
    ]

-- ---- the same wires

module _ (tile : PlainTile) where
  -- the wires of the rows
  names_rows : (first : ℕ) (rows : List WireRow) → ((k : ℕ) → slice_get tile.rows (first + k) ≡ slice_get rows k) → map (wire_of tile) (plain_row_wires first rows) ≡ map Some (flat_map row_wires rows)
  names_rows first [] same = refl
  names_rows first (found ∷ rows) same =
      let sources = counted (source_bits found) (source_of first) in
      let dests = counted (dest_bits found) (dest_of first) in
      let found_sources = counted (source_bits found) (source_bit found) in
      let found_dests = counted (dest_bits found) (dest_bit found) in
      let later = plain_row_wires (first + 1) rows in
      let here : slice_get tile.rows first ≡ Some found = ap (slice_get tile.rows) (plus_zero first) ∙ same 0 in
      let rest : (k : ℕ) → slice_get tile.rows (first + 1 + k) ≡ slice_get rows k = λ k. ap (slice_get tile.rows) (plus_suc first k) ∙ same (suc k) in
      let each_source : map (wire_of tile) sources ≡ map Some found_sources =
      map_counted (wire_of tile) (source_bits found) (source_of first)
      ∙ ap (λ row. counted (source_bits found) (λ bit. option_map (λ found. source_bit found bit) row)) here
      ∙ sym (map_counted Some (source_bits found) (source_bit found)) in
      let each_dest : map (wire_of tile) dests ≡ map Some found_dests =
      map_counted (wire_of tile) (dest_bits found) (dest_of first)
      ∙ ap (λ row. counted (dest_bits found) (λ bit. option_map (λ found. dest_bit found bit) row)) here
      ∙ sym (map_counted Some (dest_bits found) (dest_bit found)) in
      let behind : map (wire_of tile) (dests ++ later) ≡ map Some (found_dests ++ flat_map row_wires rows) =
      map-append (wire_of tile) dests later ∙ ap₂ (λ xs ys. xs ++ ys) each_dest (names_rows (first + 1) rows rest) ∙ sym (map-append Some found_dests (flat_map row_wires rows)) in
      map-append (wire_of tile) sources (dests ++ later)
      ∙ ap₂ (λ xs ys. xs ++ ys) each_source behind
      ∙ sym (map-append Some found_sources (found_dests ++ flat_map row_wires rows))
      ∙ ap (map Some) (sym (append_assoc found_sources found_dests (flat_map row_wires rows)))
      ∙ ap (map Some) (sym (flat_map-cons row_wires found rows))

  -- the pins of the BELs
  names_bels : (first : ℕ) (bels : List Bel) → ((k : ℕ) → slice_get tile.bels (first + k) ≡ slice_get bels k) → map (wire_of tile) (plain_bel_wires first bels) ≡ map Some (flat_map bel_wires bels)
  names_bels first [] same = refl
  names_bels first (found ∷ bels) same =
      let pins = counted (pin_count found) (pin_of first) in
      let found_pins = counted (pin_count found) (bel_pin found) in
      let here : slice_get tile.bels first ≡ Some found = ap (slice_get tile.bels) (plus_zero first) ∙ same 0 in
      let rest : (k : ℕ) → slice_get tile.bels (first + 1 + k) ≡ slice_get bels k = λ k. ap (slice_get tile.bels) (plus_suc first k) ∙ same (suc k) in
      let each_pin : map (wire_of tile) pins ≡ map Some found_pins =
      map_counted (wire_of tile) (pin_count found) (pin_of first)
      ∙ ap (λ bel. counted (pin_count found) (λ pin. option_map (λ found. bel_pin found pin) bel)) here
      ∙ sym (map_counted Some (pin_count found) (bel_pin found)) in
      map-append (wire_of tile) pins (plain_bel_wires (first + 1) bels)
      ∙ ap₂ (λ xs ys. xs ++ ys) each_pin (names_bels (first + 1) bels rest)
      ∙ sym (map-append Some found_pins (flat_map bel_wires bels))
      ∙ ap (map Some) (sym (flat_map-cons bel_wires found bels))

  -- all wires of the tile
  pub plain_wires_are_wires : map (wire_of tile) (plain_wires tile) ≡ map Some (tile_wires tile)
  plain_wires_are_wires =
      map-append (wire_of tile) (plain_row_wires 0 tile.rows) (plain_bel_wires 0 tile.bels)
      ∙ ap₂ (λ xs ys. xs ++ ys) (names_rows 0 tile.rows (λ k. ap (slice_get tile.rows) (zero_plus k))) (names_bels 0 tile.bels (λ k. ap (slice_get tile.bels) (zero_plus k)))
      ∙ sym (map-append Some (flat_map row_wires tile.rows) (flat_map bel_wires tile.bels))
