-- Where the words of rows stand in a stream.
use Rattle.std.proofs.Common.{◌≡◌, ℕ, zero, suc, ◌+◌, ◌-◌, ◌*◌, ◌<◌, List, [], ◌∷◌, ◌++◌, Some, None, length, map, slice_get, option_map, refl, sym, ap, ◌∙◌, arith, subst, inl, inr}
use Rattle.std.specs.List.{flat_map}
use Rattle.std.proofs.lemmas.Bool.{cases_lt}
use Rattle.std.proofs.lemmas.Option.{slice_get_within, slice_get-map, same_Some}
use Rattle.fab_model.specs.Tiles.{counted}
use Rattle.fab_model.specs.Grid.{PlainFabric}
use Rattle.fab_frames.specs.Stream.{Part, fixed, of_row, of_chain, header, waiting_word, waiting_words, address_word, frame_parts, column_parts, all_frames}
use Rattle.fab_frames.proofs.Lists.{get_left, get_right, length_counted, get_counted, counted_item, length_pieces, get_piece, piece_found}

-- ---- lengths

abbrev frame_length : PlainFabric → ℕ
frame_length fabric = fabric.rows + 1

abbrev column_length : PlainFabric → ℕ
column_length fabric = 20 * frame_length fabric

length_header : length (map fixed header) ≡ 38
unfolding waiting_words
length_header = refl

length_frame : (fabric : PlainFabric) (x frame : ℕ) → length (frame_parts fabric x frame) ≡ frame_length fabric
length_frame fabric x frame = omega (arith, length_counted fabric.rows (λ y. of_row x y frame))

length_column : (fabric : PlainFabric) (x : ℕ) → length (column_parts fabric x) ≡ column_length fabric
length_column fabric x = length_pieces (frame_parts fabric x) (frame_length fabric) 20 (λ frame. frame) (length_frame fabric x)

abbrev columns_parts : PlainFabric → List Part
columns_parts fabric = flat_map (column_parts fabric) (counted fabric.columns (λ x. x))

-- ---- the place of a row

pub row_place : PlainFabric → (x y frame : ℕ) → ℕ
row_place fabric x y frame = 38 + (x * column_length fabric + (frame * frame_length fabric + suc y))

-- at this place stands the row
pub row_at : (fabric : PlainFabric) (x y frame : ℕ) → x < fabric.columns → y < fabric.rows → frame < 20 → slice_get (all_frames fabric) (row_place fabric x y frame) ≡ Some (of_row x y frame)
unfolding row_place
row_at fabric x y frame few low small =
    let in_frame : suc y < frame_length fabric = omega (arith, low) in
    let in_column : ℕ = frame * frame_length fabric + suc y in
    let row : slice_get (frame_parts fabric x frame) (suc y) ≡ Some (of_row x y frame) = get_counted fabric.rows (λ y. of_row x y frame) y low in
    let column : slice_get (column_parts fabric x) in_column ≡ Some (of_row x y frame) =
    get_piece (frame_parts fabric x) (frame_length fabric) 20 (λ frame. frame) frame (suc y) (length_frame fabric x) small in_frame ∙ row in
    let below : in_column < length (column_parts fabric x) = slice_get_within (column_parts fabric x) in_column (of_row x y frame) column in
    let columns : slice_get (columns_parts fabric) (x * column_length fabric + in_column) ≡ Some (of_row x y frame) =
    get_piece (column_parts fabric) (column_length fabric) fabric.columns (λ x. x) x in_column (length_column fabric) few (subst (λ (n : ℕ). in_column < n) (length_column fabric x) below) ∙ column in
    let inside : x * column_length fabric + in_column < length (columns_parts fabric) = slice_get_within (columns_parts fabric) (x * column_length fabric + in_column) (of_row x y frame) columns in
    get_right (map fixed header) (columns_parts fabric ++ fixed waiting_word ∷ []) (38 + (x * column_length fabric + in_column)) (x * column_length fabric + in_column)
    (ap (λ n. n + (x * column_length fabric + in_column)) (sym length_header))
    ∙ get_left (columns_parts fabric) (fixed waiting_word ∷ []) (x * column_length fabric + in_column) inside
    ∙ columns

-- ---- the row at a place

-- the row is there, and stands at its place
pub record StandsAt (fabric : PlainFabric) (k x y frame : ℕ) : Type 0 where
  pub column : x < fabric.columns
  pub row : y < fabric.rows
  pub small : frame < 20
  pub at : k ≡ row_place fabric x y frame

-- what a part stands for at its place
abbrev pub StandsAs : PlainFabric → (k : ℕ) → Part → Type 0
StandsAs fabric k (fixed word) = Unit {0}
StandsAs fabric k (of_row x y frame) = StandsAt fabric k x y frame
StandsAs fabric k (of_chain word) = ⊥

of_fixed : (fabric : PlainFabric) (words : List ℕ) (i k : ℕ) (part : Part) → slice_get (map fixed words) i ≡ Some part → StandsAs fabric k part
of_fixed fabric words i k part is =
    let found : option_map fixed (slice_get words i) ≡ Some part = sym (slice_get-map fixed words i) ∙ is in
    elim (slice_get words i) as (λ o. option_map fixed o ≡ Some part → StandsAs fabric k part) [
      | None ↦ λ e. cc
      | Some word ↦ λ e. subst (StandsAs fabric k) (same_Some (fixed word) part e) tt
    ] found

of_frame : (fabric : PlainFabric) (x frame j k : ℕ) (part : Part) → x < fabric.columns → frame < 20 → k ≡ 38 + (x * column_length fabric + (frame * frame_length fabric + j)) →
    slice_get (frame_parts fabric x frame) j ≡ Some part → StandsAs fabric k part
unfolding row_place
of_frame fabric x frame zero k part few small at is = subst (StandsAs fabric k) (same_Some (fixed (address_word x frame)) part is) tt
of_frame fabric x frame (suc j) k part few small at is =
    let found = counted_item fabric.rows (λ y. of_row x y frame) j part is in
    let made : StandsAt fabric k x j frame = record {
      column = few;
      row = found.0;
      small = small;
      at = at;
    } in
    subst (StandsAs fabric k) found.1 made

of_columns : (fabric : PlainFabric) (i k : ℕ) (part : Part) → k ≡ 38 + i → slice_get (columns_parts fabric) i ≡ Some part → StandsAs fabric k part
of_columns fabric i k part at is =
    let column = piece_found (column_parts fabric) (column_length fabric) fabric.columns (λ x. x) i part (length_column fabric) is in
    let found = piece_found (frame_parts fabric column.i) (frame_length fabric) 20 (λ frame. frame) column.j part (length_frame fabric column.i) column.item in
    let place : i ≡ column.i * column_length fabric + (found.i * frame_length fabric + found.j) = column.at ∙ ap (λ j. column.i * column_length fabric + j) found.at in
    of_frame fabric column.i found.i found.j k part column.few found.few (at ∙ ap (λ n. 38 + n) place) found.item

pub part_stands : (fabric : PlainFabric) (k : ℕ) (part : Part) → slice_get (all_frames fabric) k ≡ Some part → StandsAs fabric k part
part_stands fabric k part is =
    let columns : List Part = columns_parts fabric in
    let last : List Part = fixed waiting_word ∷ [] in
    let behind : (i : ℕ) → k ≡ 38 + i → slice_get (columns ++ last) i ≡ Some part → StandsAs fabric k part = λ i at there.
    elim (cases_lt i (length columns)) [
      | inl less ↦ of_columns fabric i k part at (sym (get_left columns last i less) ∙ there)
      | inr end ↦ of_fixed fabric (waiting_word ∷ []) (i - length columns) k part (sym (get_right columns last i (i - length columns) (omega (arith, end))) ∙ there)
    ] in
    elim (cases_lt k 38) [
      | inl less ↦ of_fixed fabric header k k part (sym (get_left (map fixed header) (columns ++ last) k (subst (λ (n : ℕ). k < n) (sym length_header) less)) ∙ is)
      | inr past ↦ (
          let at : k ≡ 38 + (k - 38) = omega (arith, past) in
          behind (k - 38) at (sym (get_right (map fixed header) (columns ++ last) k (k - 38) (at ∙ ap (λ n. n + (k - 38)) (sym length_header))) ∙ is))
    ]
