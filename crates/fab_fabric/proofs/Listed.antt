-- The wires of a tile as they are listed.
use Rattle.std.proofs.Common.{◌≡◌, ℕ, ◌+◌, ◌<◌, List, [], ◌∷◌, ◌++◌, length, get_or, map, drop, sym, ap, ◌∙◌, append_assoc, append-nil}
use Rattle.std.proofs.lemmas.List.{drop_more, map_push}
use Rattle.std.proofs.Math.Seq.{drop-length}
use Rattle.fab_model.specs.declared.tiles.WireRow.{WireRow}
use Rattle.fab_model.specs.declared.tiles.Bel.{Bel}
use Rattle.fab_model.specs.Rows.{source_bits, dest_bits}
use Rattle.fab_model.specs.Tiles.{counted}
use Rattle.fab_model.specs.Wires.{PlainWire, source_of, dest_of, pin_of, pin_count, plain_row_wires, plain_bel_wires}
use Rattle.fab_model.proofs.Inserts.{counted_more}
use Rattle.fab_fabric.specs.declared.index.TileWire.{TileWire}
use Rattle.fab_fabric.specs.inner.Index.{plain_wire}

-- no wire of a counted list
pub none_yet : (wires : List PlainWire) (f : ℕ → PlainWire) → wires ≡ wires ++ counted 0 f
unfolding counted
none_yet wires f = sym (append-nil wires)

-- one wire more of a counted list
pub one_more : (f : ℕ → PlainWire) (before : List PlainWire) (wires new : List TileWire) (n : ℕ) (wire : TileWire) →
    map plain_wire wires ≡ before ++ counted n f → new ≡ wires ++ wire ∷ [] → plain_wire wire ≡ f n → map plain_wire new ≡ before ++ counted (n + 1) f
one_more f before wires new n wire so_far is plain =
    ap (map plain_wire) is
    ∙ map_push plain_wire wires wire
    ∙ (λ j. so_far j ++ plain j ∷ [])
    ∙ append_assoc before (counted n f) (f n ∷ [])
    ∙ sym (ap (λ rest. before ++ rest) (counted_more n f))

-- both sides of a row
pub both_sides : (before between new : List PlainWire) (row : WireRow) (number sources dests : ℕ) → sources ≡ source_bits row → dests ≡ dest_bits row →
    between ≡ before ++ counted sources (source_of number) → new ≡ between ++ counted dests (dest_of number) →
    new ≡ before ++ counted (source_bits row) (source_of number) ++ counted (dest_bits row) (dest_of number)
both_sides before between new row number sources dests sources_are dests_are first second =
    second ∙ (λ j. first j ++ counted (dests_are j) (dest_of number)) ∙ ap (λ n. before ++ counted n (source_of number) ++ counted (dest_bits row) (dest_of number)) sources_are

-- the wires of a row more
pub row_more : (before wires new : List PlainWire) (rows : List WireRow) (number : ℕ) (d : WireRow) → number < length rows →
    wires ++ plain_row_wires number (drop number rows) ≡ before ++ plain_row_wires 0 rows →
    new ≡ wires ++ counted (source_bits (get_or rows number d)) (source_of number) ++ counted (dest_bits (get_or rows number d)) (dest_of number) →
    new ++ plain_row_wires (number + 1) (drop (number + 1) rows) ≡ before ++ plain_row_wires 0 rows
row_more before wires new rows number d within so_far is =
    let row = get_or rows number d in
    let sources = counted (source_bits row) (source_of number) in
    let dests = counted (dest_bits row) (dest_of number) in
    let rest = plain_row_wires (number + 1) (drop (number + 1) rows) in
    ap (λ front. front ++ rest) is
    ∙ append_assoc (wires ++ sources) dests rest
    ∙ append_assoc wires sources (dests ++ rest)
    ∙ sym (ap (λ later. wires ++ plain_row_wires number later) (drop_more rows number d within))
    ∙ so_far

-- the same of a row that is read from the list
pub row_read : (before wires new : List PlainWire) (rows : List WireRow) (number : ℕ) (row : WireRow) → number < length rows → row ≡ get_or rows number row →
    wires ++ plain_row_wires number (drop number rows) ≡ before ++ plain_row_wires 0 rows →
    new ≡ wires ++ counted (source_bits row) (source_of number) ++ counted (dest_bits row) (dest_of number) →
    new ++ plain_row_wires (number + 1) (drop (number + 1) rows) ≡ before ++ plain_row_wires 0 rows
row_read before wires new rows number row within read so_far is =
    row_more before wires new rows number row within so_far
    (is ∙ ap (λ row. wires ++ counted (source_bits row) (source_of number) ++ counted (dest_bits row) (dest_of number)) read)

-- the wires of all rows
pub rows_done : (before wires : List PlainWire) (rows : List WireRow) (number : ℕ) → number ≡ length rows →
    wires ++ plain_row_wires number (drop number rows) ≡ before ++ plain_row_wires 0 rows → wires ≡ before ++ plain_row_wires 0 rows
rows_done before wires rows number is so_far =
    sym (append-nil wires)
    ∙ sym (ap (λ rest. wires ++ plain_row_wires number rest) (ap (λ n. drop n rows) is ∙ drop-length rows))
    ∙ so_far

-- the pins of a BEL more
pub bel_more : (before wires new : List PlainWire) (bels : List Bel) (number pins : ℕ) (d : Bel) → number < length bels →
    wires ++ plain_bel_wires number (drop number bels) ≡ before ++ plain_bel_wires 0 bels → pins ≡ pin_count (get_or bels number d) →
    new ≡ wires ++ counted pins (pin_of number) → new ++ plain_bel_wires (number + 1) (drop (number + 1) bels) ≡ before ++ plain_bel_wires 0 bels
bel_more before wires new bels number pins d within so_far pins_are is =
    let rest = plain_bel_wires (number + 1) (drop (number + 1) bels) in
    ap (λ front. front ++ rest) is
    ∙ ap (λ n. (wires ++ counted n (pin_of number)) ++ rest) pins_are
    ∙ append_assoc wires (counted (pin_count (get_or bels number d)) (pin_of number)) rest
    ∙ sym (ap (λ later. wires ++ plain_bel_wires number later) (drop_more bels number d within))
    ∙ so_far

-- the pins of all BELs
pub bels_done : (before wires : List PlainWire) (bels : List Bel) (number : ℕ) → number ≡ length bels →
    wires ++ plain_bel_wires number (drop number bels) ≡ before ++ plain_bel_wires 0 bels → wires ≡ before ++ plain_bel_wires 0 bels
bels_done before wires bels number is so_far =
    sym (append-nil wires)
    ∙ sym (ap (λ rest. wires ++ plain_bel_wires number rest) (ap (λ n. drop n bels) is ∙ drop-length bels))
    ∙ so_far
