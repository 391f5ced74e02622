-- The matrix names of a tile whose sides and prefixes are names are names.
use Rattle.std.proofs.Common.{◌≡◌, ◌⊎◌, ℕ, zero, suc, ◌/◌, ◌%◌, ◌<◌, true, false, All, List, [], ◌∷◌, ◌++◌, length, get_or, Option, Some, None, nat_eq, nat_lt, refl, ap, ◌∙◌, inl, inr, arith}
use Rattle.std.specs.Fmt.{decimal, digit_glyph, digits, digits_onto}
use Rattle.std.specs.List.{flat_map, list_all}
use Rattle.std.specs.Option.{ForSome}
use Rattle.std.proofs.lemmas.Bool.{and_from, and_parts, cases_Bool, false≢true}
use Rattle.std.proofs.lemmas.Bool.Decides.{nat_tests}
use Rattle.std.proofs.lemmas.List.Elements.{All-append, All-cons, All-head, All-map, All-nil, All-tail}
use Rattle.std.proofs.lemmas.List.Folds.{list_all-append}
use Rattle.fab_kinds.specs.declared.kind.Kind.{Kind}
use Rattle.fab_kinds.specs.declared.kind.Kind.TheVariants as kinds
use Rattle.fab_kinds.specs.Pins.{pin_names}
use Rattle.fab_lines.specs.Names.{begins_name, is_identifier, is_of_name}
use Rattle.fab_model.specs.declared.tiles.Bel.{Bel}
use Rattle.fab_model.specs.declared.tiles.WireRow.{WireRow}
use Rattle.fab_model.specs.Rows.{bit_name, dest_bits, side_bits, source_bits}
use Rattle.fab_model.specs.Tiles.{PlainTile, TileWire, bel_pin, bel_wires, counted, dest_bit, matrix_names, row_wires, source_bit, tile_wires, wire_name}
use Rattle.fab_gen_tile.specs.Words.{IsFreeName, IsNamed}

-- ---- numbers

glyph_named : (n : ℕ) → is_of_name (digit_glyph false (n % 10)) ≡ true
glyph_named n = elim (cases_Bool (nat_lt (n % 10) 10)) [
  | inl t ↦ rw t (grind (arith, nat_tests))
  | inr f ↦ absurd (grind (arith, nat_tests))
]

onto_named : (k n : ℕ) (rest : List ℕ) → list_all is_of_name rest ≡ true → list_all is_of_name (digits_onto k 10 false n rest) ≡ true
onto_named zero n rest all = all
onto_named (suc k) n rest all =
    let glyph = digit_glyph false (n % 10) in
    let more : list_all is_of_name (glyph ∷ rest) ≡ true = and_from (is_of_name glyph) (list_all is_of_name rest) (glyph_named n) all in
    elim (cases_Bool (nat_eq (n / 10) 0)) [ inl t ↦ rw t more | inr f ↦ rw f (onto_named k (n / 10) (glyph ∷ rest) more) ]

pub decimal_named : (n : ℕ) → list_all is_of_name (decimal n) ≡ true
unfolding digits
decimal_named n = onto_named 64 n [] refl

-- ---- names

-- a name and more bytes of names
joined_name : (front back : List ℕ) → is_identifier front ≡ true → list_all is_of_name back ≡ true → is_identifier (front ++ back) ≡ true
joined_name [] back is all = absurd (false≢true is)
joined_name (byte ∷ front) back is all =
    let parts = and_parts (begins_name byte) (list_all is_of_name (byte ∷ front)) is in
    and_from (begins_name byte) (list_all is_of_name (byte ∷ (front ++ back))) parts.0
    (list_all-append is_of_name (byte ∷ front) back ∙ and_from (list_all is_of_name (byte ∷ front)) (list_all is_of_name back) parts.1 all)

bytes_of : (name : List ℕ) → is_identifier name ≡ true → list_all is_of_name name ≡ true
bytes_of [] is = refl
bytes_of (byte ∷ name) is = (and_parts (begins_name byte) (list_all is_of_name (byte ∷ name)) is).1

bit_named : (row : WireRow) (side other : Option (List ℕ)) (bit : ℕ) → ForSome side IsFreeName → bit < side_bits row side other → is_identifier (bit_name side bit) ≡ true
bit_named row None other bit free few = absurd (omega (arith, few))
bit_named row (Some name) other bit free few = joined_name name (decimal bit) (free name refl).identifier (decimal_named bit)

all_pins : (kind : Kind) → list_all is_identifier (pin_names kind) ≡ true
all_pins kinds.Lut4c = refl
all_pins kinds.Io = refl
all_pins kinds.Mux8 = refl

tested_at : (names : List (List ℕ)) (n : ℕ) (d : List ℕ) → list_all is_identifier names ≡ true → n < length names → is_identifier (get_or names n d) ≡ true
tested_at [] n d all few = absurd (omega (arith, few))
tested_at (name ∷ names) zero d all few = (and_parts (is_identifier name) (list_all is_identifier names) all).0
tested_at (name ∷ names) (suc n) d all few = tested_at names n d (and_parts (is_identifier name) (list_all is_identifier names) all).1 (omega (arith, few))

pin_named : (bel : Bel) (pin : ℕ) → (bel.prefix ≡ []) ⊎ IsFreeName bel.prefix → pin < length (pin_names bel.kind) → is_identifier (bel.prefix ++ get_or (pin_names bel.kind) pin []) ≡ true
pin_named bel pin (inl none) few = ap (λ (prefix : List ℕ). is_identifier (prefix ++ get_or (pin_names bel.kind) pin [])) none ∙ tested_at (pin_names bel.kind) pin [] (all_pins bel.kind) few
pin_named bel pin (inr free) few =
    joined_name bel.prefix (get_or (pin_names bel.kind) pin []) free.identifier (bytes_of (get_or (pin_names bel.kind) pin []) (tested_at (pin_names bel.kind) pin [] (all_pins bel.kind) few))

-- ---- lists of wires

all_counted : {X : Type 0} (P : X → Type 0) (n : ℕ) (f : ℕ → X) → ((i : ℕ) → i < n → P (f i)) → All P (counted n f)
unfolding counted
all_counted P zero f each = All-nil P
all_counted P (suc n) f each = All-cons P (f 0) (counted n (λ i. f (suc i))) (each 0 (omega arith)) (all_counted P n (λ i. f (suc i)) (λ i below. each (suc i) (omega (arith, below))))

all_flat : {X Y : Type 0} (P : X → Type 0) (Q : Y → Type 0) (f : X → List Y) → ((x : X) → P x → All Q (f x)) → (xs : List X) → All P xs → All Q (flat_map f xs)
all_flat P Q f step [] all = All-nil Q
all_flat P Q f step (x ∷ xs) all = All-append Q (f x) (flat_map f xs) (step x (All-head P x xs all)) (all_flat P Q f step xs (All-tail P x xs all))

abbrev HasName : TileWire → Type 0
HasName wire = is_identifier (wire_name wire) ≡ true

both_sides : (rows : List WireRow) → All (λ row. ForSome row.source IsFreeName) rows → All (λ row. ForSome row.dest IsFreeName) rows → All (λ row. ForSome row.source IsFreeName × ForSome row.dest IsFreeName) rows
both_sides rows sources dests = λ k d few. (sources k d few, dests k d few)

row_named : (row : WireRow) → ForSome row.source IsFreeName × ForSome row.dest IsFreeName → All HasName (row_wires row)
row_named row (source, dest) =
    All-append HasName (counted (source_bits row) (source_bit row)) (counted (dest_bits row) (dest_bit row))
    (all_counted HasName (source_bits row) (source_bit row) (λ bit few. bit_named row row.source row.dest bit source few))
    (all_counted HasName (dest_bits row) (dest_bit row) (λ bit few. bit_named row row.dest row.source bit dest few))

bel_named : (bel : Bel) → (bel.prefix ≡ []) ⊎ IsFreeName bel.prefix → All HasName (bel_wires bel)
bel_named bel prefix = all_counted HasName (length (pin_names bel.kind)) (bel_pin bel) (λ pin few. pin_named bel pin prefix few)

pub tile_named : (tile : PlainTile) → IsNamed tile → All (λ name. is_identifier name ≡ true) (matrix_names tile)
tile_named tile named =
    All-map (λ name. is_identifier name ≡ true) wire_name (tile_wires tile)
    (All-append HasName (flat_map row_wires tile.rows) (flat_map bel_wires tile.bels)
    (all_flat (λ (row : WireRow). ForSome row.source IsFreeName × ForSome row.dest IsFreeName) HasName row_wires row_named tile.rows (both_sides tile.rows named.sources named.dests))
    (all_flat (λ (bel : Bel). (bel.prefix ≡ []) ⊎ IsFreeName bel.prefix) HasName bel_wires bel_named tile.bels named.prefixes))
