-- The named sides of a tile's rows are apart, and the bits at its borders are few.
use Rattle.std.proofs.Common.{◌≡◌, ◌≢◌, ℕ, ◌+◌, ◌*◌, ◌<◌, ◌≤◌, false, List, [], ◌∷◌, ◌++◌, length, Option, Some, None, refl, sym, ap, ◌∙◌, subst, inl, inr, arith, All, AllPairs, Contains, decimal}
use Rattle.std.specs.List.{flat_map}
use Rattle.std.proofs.Math.Nat.{one-le-mul}
use Rattle.std.proofs.lemmas.Nat.{mul-le}
use Rattle.std.proofs.lemmas.Bool.{cases_Bool}
use Rattle.std.proofs.lemmas.List.{length-append, length-map}
use Rattle.std.proofs.lemmas.List.Elements.{All-contains, All-weaker, All-contains_itself, Contains-append_left, Contains-append_right}
use Rattle.fab_model.specs.declared.tiles.WireRow.{WireRow}
use Rattle.fab_model.specs.Rows.{is_jump, is_named, side_bits, source_bits, dest_bits, bit_name, IsWireRow}
use Rattle.fab_model.specs.Tiles.{PlainTile, TileWire, source_bit, dest_bit, counted, row_wires, bel_wires, tile_wires, wire_name, matrix_names, IsTile}
use Rattle.fab_drives_laws.specs.fab_gen_tile_Names.{border_name}
use Rattle.fab_drives_laws.specs.fab_gen_tile_Borders.{side_border}
use Rattle.fab_drives_laws.proofs.Lists.{none_there, first_or_later}
use Rattle.fab_tiles_sound_laws.proofs.fab_parts_sound_laws_Lists.{all_counted, contains_counted, length-counted, pairs_left, pairs_counted}
use Rattle.fab_text_sound_laws.proofs.Pairs.{Between, pairs_weaker, pairs_of_flat, pairs_of_map}
use Rattle.fab_text_sound_laws.proofs.Ends.{side_text, same_border}

-- ---- sides

-- two sides, where they are named
abbrev pub SidesDiffer : (first second : Option (List ℕ)) → Type 0
SidesDiffer first second = (n m : List ℕ) → first ≡ Some n → second ≡ Some m → n ≢ m

pub record RowsApart (a b : WireRow) : Type 0 where
  pub sources : is_jump a.dir ≡ false → is_jump b.dir ≡ false → SidesDiffer a.source b.source
  pub dests : is_jump a.dir ≡ false → is_jump b.dir ≡ false → SidesDiffer a.dest b.dest

some_bits : (row : WireRow) → IsWireRow row → is_jump row.dir ≡ false → (name : List ℕ) (other : Option (List ℕ)) → 0 < side_bits row (Some name) other
some_bits row is no_jump name other =
    let spans : (1 ≤ row.span) × (row.span ≤ 31) = rw no_jump at is.span_is in
    let crossing : 1 ≤ row.span * row.count = one-le-mul spans.0 is.has_wires in
    elim (cases_Bool (is_named other)) [
      | inl named ↦ rw (no_jump, named) is.has_wires
      | inr bare ↦ rw (no_jump, bare) crossing
    ]

source_there : (row : WireRow) (name : List ℕ) → IsWireRow row → is_jump row.dir ≡ false → row.source ≡ Some name → Contains (row_wires row) (source_bit row 0)
source_there row name is no_jump named =
    let some : 0 < source_bits row = subst (λ side. 0 < side_bits row side row.dest) (sym named) (some_bits row is no_jump name row.dest) in
    Contains-append_left (counted (source_bits row) (source_bit row)) (counted (dest_bits row) (dest_bit row)) (source_bit row 0)
    (contains_counted (source_bits row) (source_bit row) 0 some)

dest_there : (row : WireRow) (name : List ℕ) → IsWireRow row → is_jump row.dir ≡ false → row.dest ≡ Some name → Contains (row_wires row) (dest_bit row 0)
dest_there row name is no_jump named =
    let some : 0 < dest_bits row = subst (λ side. 0 < side_bits row side row.source) (sym named) (some_bits row is no_jump name row.source) in
    Contains-append_right (counted (source_bits row) (source_bit row)) (counted (dest_bits row) (dest_bit row)) (dest_bit row 0)
    (contains_counted (dest_bits row) (dest_bit row) 0 some)

abbrev WiresDiffer : TileWire → TileWire → Type 0
WiresDiffer v w = wire_name v ≢ wire_name w

differ_at : (a b : WireRow) (v w : TileWire) → Between WiresDiffer (row_wires a) (row_wires b) → Contains (row_wires a) v → Contains (row_wires b) w → WiresDiffer v w
differ_at a b v w apart there other =
    All-contains (WiresDiffer v) (row_wires b) w (All-contains (λ z. All (WiresDiffer z) (row_wires b)) (row_wires a) v apart there) other

sides_differ : (a b : WireRow) → IsWireRow a → IsWireRow b → Between WiresDiffer (row_wires a) (row_wires b) → RowsApart a b
sides_differ a b is_a is_b apart = record {
  sources = λ no_a no_b n m named_n named_m same.
      differ_at a b (source_bit a 0) (source_bit b 0) apart (source_there a n is_a no_a named_n) (source_there b m is_b no_b named_m)
      (ap (λ side. bit_name side 0) named_n ∙ ap (λ name. name ++ decimal 0) same ∙ ap (λ side. bit_name side 0) (sym named_m));
  dests = λ no_a no_b n m named_n named_m same.
      differ_at a b (dest_bit a 0) (dest_bit b 0) apart (dest_there a n is_a no_a named_n) (dest_there b m is_b no_b named_m)
      (ap (λ side. bit_name side 0) named_n ∙ ap (λ name. name ++ decimal 0) same ∙ ap (λ side. bit_name side 0) (sym named_m));
}

pub rows_apart : (tile : PlainTile) → IsTile tile → AllPairs RowsApart tile.rows
rows_apart tile is =
    pairs_weaker IsWireRow (λ a b. Between WiresDiffer (row_wires a) (row_wires b)) RowsApart tile.rows
    (λ a b is_a is_b apart. sides_differ a b is_a is_b apart) is.rows
    (pairs_of_flat WiresDiffer row_wires tile.rows
    (pairs_left WiresDiffer (flat_map row_wires tile.rows) (flat_map bel_wires tile.bels)
    (pairs_of_map (λ (first second : List ℕ). first ≢ second) wire_name (tile_wires tile) is.apart)))

-- ---- how many bits

part_short : {X Y : Type 0} (f : X → List Y) (xs : List X) (x : X) → Contains xs x → length (f x) ≤ length (flat_map f xs)
part_short f [] x there = absurd (none_there x there)
part_short f (first ∷ xs) x there =
    let whole : length (flat_map f (first ∷ xs)) ≡ length (f first) + length (flat_map f xs) = length-append (f first) (flat_map f xs) in
    elim (first_or_later first xs x there) [
      | inl is ↦ (let same : length (f first) ≡ length (f x) = ap (λ z. length (f z)) is in omega (arith, whole, same))
      | inr other ↦ (let less = part_short f xs x other in omega (arith, whole, less))
    ]

few_at_side : (row : WireRow) (side other : Option (List ℕ)) → IsWireRow row → is_jump row.dir ≡ false → side_bits row side other ≤ 4096 → side_border row side ≤ 126976
few_at_side row None other is no_jump few = omega arith
few_at_side row (Some name) other is no_jump few =
    let spans : (1 ≤ row.span) × (row.span ≤ 31) = rw no_jump at is.span_is in
    let same : row.count ≤ row.count = omega arith in
    let crossing : 1 * row.count ≤ row.span * row.count = mul-le 1 row.count row.span row.count spans.0 same in
    let counts : row.count ≤ 4096 = (
    elim (cases_Bool (is_named other)) [
      | inl named ↦ (let less : row.count ≤ 4096 = rw (no_jump, named) at few in less)
      | inr bare ↦ (let less : row.span * row.count ≤ 4096 = rw (no_jump, bare) at few in omega (arith, less, crossing))
    ]) in
    let product : row.span * row.count ≤ 31 * 4096 = mul-le row.span row.count 31 4096 spans.1 counts in
    omega (arith, product)

-- of a row of a direction each side has few bits at the border
pub record HasFewBits (row : WireRow) : Type 0 where
  pub sources : is_jump row.dir ≡ false → side_border row row.source ≤ 126976
  pub dests : is_jump row.dir ≡ false → side_border row row.dest ≤ 126976

pub few_bits : (tile : PlainTile) → IsTile tile → All HasFewBits tile.rows
few_bits tile is =
    All-weaker (Contains tile.rows) HasFewBits
    (λ row there.
    let is_row = All-contains IsWireRow tile.rows row is.rows there in
    let in_rows = part_short row_wires tile.rows row there in
    let in_tile = length-append (flat_map row_wires tile.rows) (flat_map bel_wires tile.bels) in
    let names : length (matrix_names tile) ≡ length (tile_wires tile) = rw length-map refl in
    let parts = length-append (counted (source_bits row) (source_bit row)) (counted (dest_bits row) (dest_bit row)) in
    let begins = length-counted (source_bits row) (source_bit row) in
    let ends = length-counted (dest_bits row) (dest_bit row) in
    record {
      sources = λ no_jump. few_at_side row row.source row.dest is_row no_jump (omega (arith, in_rows, in_tile, names, parts, begins, ends, is.few));
      dests = λ no_jump. few_at_side row row.dest row.source is_row no_jump (omega (arith, in_rows, in_tile, names, parts, begins, ends, is.few));
    })
    tile.rows (All-contains_itself tile.rows)

-- ---- what is made of the names of border bits

side_named : (row : WireRow) (side : Option (List ℕ)) (bit : ℕ) → bit < side_border row side → (name : List ℕ) × (side ≡ Some name)
side_named row None bit few = absurd (omega arith)
side_named row (Some name) bit few = (name, refl)

module _ {Y : Type 0} (R : Y → Y → Type 0) (first second : List ℕ → Y) (differ : (a b : List ℕ) → a ≢ b → R (first a) (second b)) where
  pub sides_between : (row other : WireRow) (side other_side : Option (List ℕ)) → side_border row side ≤ 126976 → side_border other other_side ≤ 126976 → SidesDiffer side other_side →
      Between R (counted (side_border row side) (λ bit. first (border_name side bit))) (counted (side_border other other_side) (λ bit. second (border_name other_side bit)))
  sides_between row other side other_side few few_others apart =
      all_counted (λ y. All (R y) (counted (side_border other other_side) (λ bit. second (border_name other_side bit)))) (side_border row side) (λ bit. first (border_name side bit)) (λ i within.
      all_counted (R (first (border_name side i))) (side_border other other_side) (λ bit. second (border_name other_side bit)) (λ j among.
      differ (border_name side i) (border_name other_side j) (λ same.
      let here = side_named row side i within in
      let there = side_named other other_side j among in
      let texts = (same_border side other_side i j (omega (arith, within, few)) (omega (arith, among, few_others)) same).0 in
      apart here.0 there.0 here.1 there.1 (ap side_text (sym here.1) ∙ texts ∙ ap side_text there.1))))

module _ {Y : Type 0} (R : Y → Y → Type 0) (made : List ℕ → Y) (differ : (a b : List ℕ) → a ≢ b → R (made a) (made b)) where
  pub bits_apart : (row : WireRow) (side : Option (List ℕ)) → side_border row side ≤ 126976 → AllPairs R (counted (side_border row side) (λ bit. made (border_name side bit)))
  bits_apart row side few =
      pairs_counted R (side_border row side) (λ bit. made (border_name side bit)) (λ i j before within.
      differ (border_name side i) (border_name side j) (λ same.
      let bits = (same_border side side i j (omega (arith, before, within, few)) (omega (arith, within, few)) same).1 in
      omega (arith, before, bits)))
