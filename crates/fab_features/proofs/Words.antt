-- Words without dots, and the names of the inputs of switch matrices.
use Rattle.std.proofs.Common.{◌≡◌, ◌⊎◌, ℕ, zero, suc, ◌/◌, ◌%◌, ◌<◌, ◌≤◌, Bool, true, false, not, ◌&&◌, List, [], ◌∷◌, ◌++◌, length, get_or, Contains, Option, Some, None, nat_eq, nat_lt, slice_get, sym, refl, ap, ◌∙◌, subst, inl, inr, arith, All, length-append, leb-true}
use Rattle.std.specs.Prelude.{nat_le}
use Rattle.std.specs.Fmt.{decimal, digits, digits_onto, digit_glyph}
use Rattle.std.specs.List.{list_all, flat_map}
use Rattle.std.specs.Option.{option_map, ForSome}
use Rattle.std.proofs.lemmas.Bool.{false≢true, cases_Bool}
use Rattle.std.proofs.lemmas.Bool.Decides.{nat_tests}
use Rattle.std.proofs.lemmas.Option.{get_or_from_slice_get, slice_get-map}
use Rattle.fab_kinds.specs.declared.kind.Kind.{Kind}
use Rattle.fab_kinds.specs.declared.kind.Kind.TheVariants as kinds
use Rattle.fab_kinds.specs.Pins.{input_names, output_names, pin_names, input_count}
use Rattle.fab_lines.specs.Names.{is_identifier, is_of_name}
use Rattle.fab_model.specs.declared.tiles.Bel.{Bel}
use Rattle.fab_model.specs.declared.tiles.WireRow.{WireRow}
use Rattle.fab_model.specs.Rows.{side_bits, source_bits, dest_bits, bit_name}
use Rattle.fab_model.specs.Tiles.{PlainTile, TileWire, source_bit, dest_bit, bel_pin, counted, row_wires, bel_wires, tile_wires, wire_name, wire_passes, matrix_names, is_matrix_output}
use Rattle.fab_netlist.proofs.Members.{in_none, first_or_later, parts_true, both_true}
use Rattle.fab_legal.proofs.Members.{in_either}
use Rattle.fab_legal.proofs.SinkLaw.{in_flat}
use Rattle.fab_fasm.proofs.Cutting.{differs}
use Rattle.fab_texts.proofs.PrintedRows.{all_append}
use Rattle.fab_use_defs.proofs.fab_tile_drives_laws_Members.{contains_at}
use Rattle.fab_use_defs.specs.fab_gen_tile_Words.{IsFreeName, IsNamed}
use Rattle.fab_features.specs.Naming.{HasPrefixes}

-- no byte of a word is a dot
abbrev pub Undotted : List ℕ → Type 0
Undotted word = list_all (differs 46) word ≡ true

-- ---- numbers

glyph_differs : (n : ℕ) → differs 46 (digit_glyph false (n % 10)) ≡ true
glyph_differs n =
    elim (cases_Bool (nat_lt (n % 10) 10)) [
      | inl t ↦ rw t (grind (arith, nat_tests))
      | inr f ↦ rw f (grind (arith, nat_tests))
    ]

onto_undotted : (k n : ℕ) (rest : List ℕ) → Undotted rest → Undotted (digits_onto k 10 false n rest)
onto_undotted zero n rest all = all
onto_undotted (suc k) n rest all =
    let glyph = digit_glyph false (n % 10) in
    let more : Undotted (glyph ∷ rest) = both_true (differs 46 glyph) (list_all (differs 46) rest) (glyph_differs n) all in
    elim (cases_Bool (nat_eq (n / 10) 0)) [ inl t ↦ rw t more | inr f ↦ rw f (onto_undotted k (n / 10) (glyph ∷ rest) more) ]

pub decimal_undotted : (n : ℕ) → Undotted (decimal n)
unfolding digits
decimal_undotted n = onto_undotted 64 n [] refl

onto_long : (k n : ℕ) (rest : List ℕ) → length rest ≤ length (digits_onto k 10 false n rest)
onto_long zero n rest = omega arith
onto_long (suc k) n rest =
    let glyph = digit_glyph false (n % 10) in
    elim (cases_Bool (nat_eq (n / 10) 0)) [ inl t ↦ rw t (omega arith) | inr f ↦ rw f (omega (arith, onto_long k (n / 10) (glyph ∷ rest))) ]

onto_some : (k n : ℕ) → 0 < k → 1 ≤ length (digits_onto k 10 false n [])
onto_some zero n some = absurd (omega (arith, some))
onto_some (suc k) n some =
    let glyph = digit_glyph false (n % 10) in
    elim (cases_Bool (nat_eq (n / 10) 0)) [ inl t ↦ rw t (omega arith) | inr f ↦ rw f (omega (arith, onto_long k (n / 10) (glyph ∷ []))) ]

decimal_some : (n : ℕ) → 1 ≤ length (decimal n)
unfolding digits
decimal_some n = onto_some 64 n (omega arith)

-- ---- names

name_differs : (byte : ℕ) → is_of_name byte ≡ true → differs 46 byte ≡ true
name_differs byte is = grind (arith, nat_tests)

all_weaker : (test other : ℕ → Bool) → ((byte : ℕ) → test byte ≡ true → other byte ≡ true) → (word : List ℕ) → list_all test word ≡ true → list_all other word ≡ true
all_weaker test other weaker [] all = refl
all_weaker test other weaker (byte ∷ word) all =
    let parts = parts_true (test byte) (list_all test word) all in
    both_true (other byte) (list_all other word) (weaker byte parts.0) (all_weaker test other weaker word parts.1)

identifier_undotted : (word : List ℕ) → is_identifier word ≡ true → Undotted word
identifier_undotted word is = all_weaker is_of_name (differs 46) name_differs word (parts_true _ (list_all is_of_name word) is).1

identifier_some : (word : List ℕ) → is_identifier word ≡ true → 1 ≤ length word
identifier_some [] is = absurd (false≢true is)
identifier_some (byte ∷ word) is = omega arith

-- ---- names of inputs

-- no dot, and two bytes at least
pub record IsInputName (name : List ℕ) : Type 0 where
  pub undotted : Undotted name
  pub long : 2 ≤ length name

joined_name : (front back : List ℕ) → Undotted front → Undotted back → 1 ≤ length front → 1 ≤ length back → IsInputName (front ++ back)
joined_name front back front_plain back_plain front_some back_some = record {
  undotted = all_append (differs 46) front back front_plain back_plain;
  long = omega (arith, front_some, back_some, length-append front back);
}

dest_name : (row : WireRow) (dest other : Option (List ℕ)) (bit : ℕ) → ForSome dest IsFreeName → bit < side_bits row dest other → IsInputName (bit_name dest bit)
dest_name row None other bit free few = absurd (omega (arith, few))
dest_name row (Some name) other bit free few =
    let is = (free name refl).identifier in
    joined_name name (decimal bit) (identifier_undotted name is) (decimal_undotted bit) (identifier_some name is) (decimal_some bit)

-- a name of a pin has no dot, and one byte at least
is_pin_name : List ℕ → Bool
is_pin_name name = list_all (differs 46) name && nat_le 1 (length name)

all_pins : (kind : Kind) → list_all is_pin_name (pin_names kind) ≡ true
unfolding is_pin_name
all_pins kinds.Lut4c = refl
all_pins kinds.Io = refl
all_pins kinds.Mux8 = refl

-- the same with two bytes
is_long_name : List ℕ → Bool
is_long_name name = list_all (differs 46) name && nat_le 2 (length name)

mux_outputs : list_all is_long_name (output_names kinds.Mux8) ≡ true
unfolding is_long_name
mux_outputs = refl

all_at : (test : List ℕ → Bool) (xs : List (List ℕ)) (n : ℕ) (d : List ℕ) → list_all test xs ≡ true → n < length xs → test (get_or xs n d) ≡ true
all_at test [] n d all few = absurd (omega (arith, few))
all_at test (x ∷ xs) zero d all few = (parts_true (test x) (list_all test xs) all).0
all_at test (x ∷ xs) (suc n) d all few = all_at test xs n d (parts_true (test x) (list_all test xs) all).1 (omega (arith, few))

all_behind : (test : List ℕ → Bool) (xs ys : List (List ℕ)) (n : ℕ) (d : List ℕ) → list_all test ys ≡ true → length xs ≤ n → n < length (xs ++ ys) → test (get_or (xs ++ ys) n d) ≡ true
all_behind test [] ys n d all past few = all_at test ys n d all few
all_behind test (x ∷ xs) ys zero d all past few = absurd (omega (arith, past))
all_behind test (x ∷ xs) ys (suc n) d all past few = all_behind test xs ys n d all (omega (arith, past)) (omega (arith, few))

pin_is : (kind : Kind) (pin : ℕ) → pin < length (pin_names kind) → Undotted (get_or (pin_names kind) pin []) × (1 ≤ length (get_or (pin_names kind) pin []))
unfolding is_pin_name
pin_is kind pin few =
    let name = get_or (pin_names kind) pin [] in
    let parts = parts_true (list_all (differs 46) name) (nat_le 1 (length name)) (all_at is_pin_name (pin_names kind) pin [] (all_pins kind) few) in
    (parts.0, leb-true 1 (length name) parts.1)

mux_output : (pin : ℕ) → pin < length (pin_names kinds.Mux8) → input_count kinds.Mux8 ≤ pin → IsInputName (get_or (pin_names kinds.Mux8) pin [])
unfolding is_long_name
mux_output pin few past =
    let name = get_or (pin_names kinds.Mux8) pin [] in
    let parts = parts_true (list_all (differs 46) name) (nat_le 2 (length name)) (all_behind is_long_name (input_names kinds.Mux8) (output_names kinds.Mux8) pin [] mux_outputs past few) in
    record { undotted = parts.0; long = leb-true 2 (length name) parts.1 }

output_name : (kind : Kind) (prefix : List ℕ) (pin : ℕ) → (prefix ≡ []) ⊎ IsFreeName prefix → (prefix ≡ [] → kind ≡ kinds.Mux8) → pin < length (pin_names kind) → input_count kind ≤ pin →
    IsInputName (prefix ++ get_or (pin_names kind) pin [])
output_name kind prefix pin (inr free) only few past =
    let pin_name = pin_is kind pin few in
    joined_name prefix (get_or (pin_names kind) pin []) (identifier_undotted prefix free.identifier) pin_name.0 (identifier_some prefix free.identifier) pin_name.1
output_name kind prefix pin (inl none) only few past =
    let is : kind ≡ kinds.Mux8 = only none in
    let of_mux : (k : Kind) → kinds.Mux8 ≡ k → pin < length (pin_names k) → input_count k ≤ pin → IsInputName (get_or (pin_names k) pin []) =
    λ k same. subst (λ (k : Kind). pin < length (pin_names k) → input_count k ≤ pin → IsInputName (get_or (pin_names k) pin [])) same (mux_output pin) in
    subst (λ (p : List ℕ). IsInputName (p ++ get_or (pin_names kind) pin [])) (sym none) (of_mux kind (sym is) few past)

-- ---- of a tile

pub from_counted : {X : Type 0} (n : ℕ) (f : ℕ → X) (x : X) → Contains (counted n f) x → (k : ℕ) × (k < n) × (f k ≡ x)
unfolding counted
from_counted zero f x here = absurd (in_none x here)
from_counted (suc n) f x here =
    elim (first_or_later (f 0) (counted n (λ i. f (suc i))) x here) [
      | inl same ↦ (0, omega arith, same)
      | inr later ↦ (let found = from_counted n (λ i. f (suc i)) x later in (suc found.0, omega (arith, found.1), found.2))
    ]

pub of_all : {X : Type 0} (P : X → Type 0) (xs : List X) (x : X) → All P xs → Contains xs x → P x
of_all P xs x all here = subst P here.2 (all here.0 x here.1)

some_or_none : {X : Type 0} (o : Option X) → ((x : X) × (o ≡ Some x)) ⊎ (o ≡ None)
some_or_none None = inr refl
some_or_none (Some x) = inl (x, refl)

pub passing_wire : (test : TileWire → Bool) (tile : PlainTile) (k : ℕ) → wire_passes test tile k ≡ true → (found : TileWire) × (slice_get (tile_wires tile) k ≡ Some found) × (test found ≡ true)
passing_wire test tile k passes =
    elim (some_or_none (slice_get (tile_wires tile) k)) [
      | inl some ↦ (let e : slice_get (tile_wires tile) k ≡ Some some.0 = some.1 in (some.0, e, rw e at passes))
      | inr none ↦ (let f : false ≡ true = rw none at passes in absurd (false≢true f))
    ]

module _ (tile : PlainTile) (named : IsNamed tile) (prefixed : HasPrefixes tile) where
  row_name : (row : WireRow) (wire : TileWire) → Contains tile.rows row → Contains (row_wires row) wire → not (is_matrix_output wire) ≡ true → IsInputName (wire_name wire)
  row_name row wire row_in there input =
      elim (in_either (counted (source_bits row) (source_bit row)) (counted (dest_bits row) (dest_bit row)) wire there) [
        | inl source ↦ (
            let found = from_counted (source_bits row) (source_bit row) wire source in
            absurd (false≢true (ap (λ (w : TileWire). not (is_matrix_output w)) found.2 ∙ input)))
        | inr dest ↦ (
            let found = from_counted (dest_bits row) (dest_bit row) wire dest in
            let free = of_all (λ (r : WireRow). ForSome r.dest IsFreeName) tile.rows row named.dests row_in in
            subst (λ (w : TileWire). IsInputName (wire_name w)) found.2 (dest_name row row.dest row.source found.0 free found.1))
      ]

  bel_name : (bel : Bel) (wire : TileWire) → Contains tile.bels bel → Contains (bel_wires bel) wire → not (is_matrix_output wire) ≡ true → IsInputName (wire_name wire)
  bel_name bel wire bel_in there input =
      let found = from_counted (length (pin_names bel.kind)) (bel_pin bel) wire there in
      let past : input_count bel.kind ≤ found.0 = behind found.0 (input_count bel.kind) (ap (λ (w : TileWire). not (is_matrix_output w)) found.2 ∙ input) in
      let free = of_all (λ (b : Bel). (b.prefix ≡ []) ⊎ IsFreeName b.prefix) tile.bels bel named.prefixes bel_in in
      let only = of_all (λ (b : Bel). b.prefix ≡ [] → b.kind ≡ kinds.Mux8) tile.bels bel prefixed bel_in in
      subst (λ (w : TileWire). IsInputName (wire_name w)) found.2 (output_name bel.kind bel.prefix found.0 free only found.1 past)
    where
      behind : (a b : ℕ) → not (nat_lt a b) ≡ true → b ≤ a
      behind a b is = grind (arith, nat_tests)

  pub input_name : (number : ℕ) → wire_passes (λ wire. not (is_matrix_output wire)) tile number ≡ true → IsInputName (get_or (matrix_names tile) number [])
  input_name number passes =
      let w = passing_wire (λ wire. not (is_matrix_output wire)) tile number passes in
      let name_at : slice_get (matrix_names tile) number ≡ Some (wire_name w.0) = slice_get-map wire_name (tile_wires tile) number ∙ ap (option_map wire_name) w.1 in
      let name_is : get_or (matrix_names tile) number [] ≡ wire_name w.0 = get_or_from_slice_get (matrix_names tile) number (wire_name w.0) [] name_at in
      subst IsInputName (sym name_is)
      (elim (in_either (flat_map row_wires tile.rows) (flat_map bel_wires tile.bels) w.0 (contains_at (tile_wires tile) number w.0 w.1)) [
        | inl of_row ↦ (let row = in_flat row_wires tile.rows w.0 of_row in row_name row.0 w.0 row.1 row.2 w.2)
        | inr of_bel ↦ (let bel = in_flat bel_wires tile.bels w.0 of_bel in bel_name bel.0 w.0 bel.1 bel.2 w.2)
      ])
