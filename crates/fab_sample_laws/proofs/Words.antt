-- How long the names are that the generator makes: a number has at most 64 digits, whatever it is.
use Rattle.std.proofs.Common.{ℕ, zero, suc, ◌+◌, ◌/◌, ◌%◌, ◌≤◌, false, List, [], ◌∷◌, ◌++◌, codes, length, nat_eq, inl, inr, arith, Option, Some, None}
use Rattle.std.specs.Fmt.{decimal, digits, digits_onto, digit_glyph}
use Rattle.std.proofs.lemmas.Bool.{cases_Bool}
use Rattle.std.proofs.lemmas.List.{length-append}
use Rattle.fab_model.specs.declared.tiles.WireRow.{WireRow}
use Rattle.fab_fabric.specs.Names.{place_name}
use Rattle.fab_gen_tile.specs.Names.{border_name, begin_name, end_name, pad_name}
use Rattle.fab_fabric_text_defs.specs.Names.{pad_port_name, column_strobe_name, begin_wire_name}
use Rattle.fab_gen_loader.specs.Loader.{row_port}

-- ---- numbers

onto : (k n : ℕ) (rest : List ℕ) → length (digits_onto k 10 false n rest) ≤ k + length rest
onto zero n rest = omega arith
onto (suc k) n rest =
    let more : List ℕ = digit_glyph false (n % 10) ∷ rest in
    elim (cases_Bool (nat_eq (n / 10) 0)) [
      | inl t ↦ rw t (omega arith)
      | inr f ↦ rw f (let behind = onto k (n / 10) more in omega (arith, behind))
    ]

pub decimal_bytes : (n : ℕ) → length (decimal n) ≤ 64
unfolding digits
decimal_bytes n = onto 64 n []

-- ---- names

pub place_bytes : (x y : ℕ) → length (place_name x y) ≤ 130
place_bytes x y =
    let first = decimal_bytes x in
    let second = decimal_bytes y in
    simp length-append (omega arith)

-- of a side that has no name too
abbrev pub side_bytes : Option (List ℕ) → ℕ
side_bytes None = 0
side_bytes (Some name) = length name

border_bytes : (side : Option (List ℕ)) (bit : ℕ) → length (border_name side bit) ≤ side_bytes side + 65
border_bytes None bit = omega (arith, decimal_bytes bit)
border_bytes (Some name) bit = omega (arith, decimal_bytes bit, length-append name (codes "_" ++ decimal bit))

pub begin_bytes : (row : WireRow) (bit : ℕ) → length (begin_name row bit) ≤ side_bytes row.source + 71
begin_bytes row bit = omega (arith, border_bytes row.source bit)

pub end_bytes : (row : WireRow) (bit : ℕ) → length (end_name row bit) ≤ side_bytes row.dest + 71
end_bytes row bit = omega (arith, border_bytes row.dest bit)

pub wire_bytes : (x y : ℕ) (row : WireRow) (bit : ℕ) → length (begin_wire_name x y row bit) ≤ side_bytes row.source + 196
wire_bytes x y row bit = omega (arith, place_bytes x y, border_bytes row.source bit, length-append (place_name x y) (codes "_" ++ border_name row.source bit))

pub row_bytes : (y : ℕ) → length (row_port y) ≤ 67
row_bytes y = omega (arith, decimal_bytes y)

pub column_bytes : (x : ℕ) → length (column_strobe_name x) ≤ 75
column_bytes x = omega (arith, decimal_bytes x)

pub pad_bytes : (place : ℕ) (port : List ℕ) → length (pad_name place port) ≤ length port + 8
pad_bytes place port = omega arith

pub pad_port_bytes : (x y place : ℕ) (port : List ℕ) → length (pad_port_name x y place port) ≤ length port + 133
pad_port_bytes x y place port = omega (arith, place_bytes x y, length-append (place_name x y) (codes "_" ++ (65 + place) ∷ (codes "_" ++ port)))
