-- What a configuration table spells gives each configuration bit a place of its own.
use Rattle.std.proofs.Common.{◌≡◌, ◌≢◌, ℕ, zero, suc, ◌+◌, ◌<◌, ◌≤◌, Bool, true, false, not, ◌||◌, ◌&&◌, List, [], ◌∷◌, ◌++◌, Option, Some, None, length, map, get_or, cond, eqb, All, AllPairs, refl, sym, ap, subst, ◌∙◌, inl, inr, arith, append_assoc, append-nil}
use Rattle.std.specs.Prelude.{option_map, unwrap_or, is_some, nat_eq, nat_lt, slice_get}
use Rattle.std.specs.List.{list_any}
use Rattle.std.proofs.lemmas.Bool.{cases_Bool, or_parts, and_parts, not-false}
use Rattle.std.proofs.lemmas.Bool.Decides.{nat_tests}
use Rattle.fab_base.specs.declared.words.Reason.{Reason}
use Rattle.fab_base.specs.declared.problem.Problem.{Problem}
use Rattle.fab_base.specs.declared.problem.Problem.TheVariants as problems
use Rattle.fab_lines.specs.Numbers.{number_of}
use Rattle.fab_lines.specs.Order.{IsFine, IsWhole}
use Rattle.fab_lines.proofs.Judging.{fine_at}
use Rattle.fab_rows.specs.Rows.{PlainRow}
use Rattle.fab_model.specs.Tiles.{PlainTile, counted, tile_bits, with_table}
use Rattle.fab_model.specs.Tables.{HasTable}
use Rattle.fab_tables.specs.declared.entry.Entry.{Entry}
use Rattle.fab_tables.specs.Config.{cell_at, frame_of, row_bits, row_ones, row_entries, frames_of, entries_of, entry_bits, is_mask, mask_digits, used_bits, or_else, shape_reason, frame_reason, mask_reason, range_reason, outside_reason, twice_reason, row_reason, config_judge, config_format, end_problem, rows_behind, place_of, all_below, is_complete, SpellsTable}
use Rattle.fab_tables.specs.inner.FollowingConfig.{table_of}
use Rattle.fab_tables.proofs.Runs.{length-counted}
use Rattle.fab_tables.proofs.ConfigRules.{frames_more, entries_more}
use Rattle.fab_tables.proofs.Placing.{Falls, ArePlaces, no_places, more_places, ones_fall, length-ones}

-- ---- what holds of a row that is not refused

second_and_third : (first second third rest : Option Reason) → or_else first (or_else second (or_else third rest)) ≡ None → (second ≡ None) × (third ≡ None)
second_and_third None None None rest so = (refl, refl)
second_and_third None None (Some reason) rest so = absurd cc
second_and_third None (Some reason) third rest so = absurd cc
second_and_third (Some reason) second third rest so = absurd cc

pub none_before : (why : Option Reason) → option_map problems.Malformed why ≡ None → why ≡ None
none_before None so = refl
none_before (Some reason) so = absurd cc

pub unless_some : {X : Type 0} (test : Bool) (why : X) → cond test (Some why) None ≡ None → test ≡ false
unless_some true why so = absurd cc
unless_some false why so = refl

pub if_none : {X : Type 0} (test : Bool) (why : X) → cond test None (Some why) ≡ None → test ≡ true
if_none true why so = refl
if_none false why so = absurd cc

pub fine_frame : (frames : List ℕ) (frame : ℕ) → frame_reason frames frame ≡ None → (frame < 20) × (list_any (nat_eq frame) frames ≡ false)
fine_frame frames frame none =
    let parts = or_parts (not (nat_lt frame 20)) (list_any (nat_eq frame) frames) (unless_some _ _ none) in
    let below : nat_lt frame 20 ≡ true = not-false (nat_lt frame 20) parts.0 in
    (grind (arith, nat_tests), parts.1)

pub fine_mask : (mask : List ℕ) (count : ℕ) → mask_reason mask count ≡ None → Falls 32 (used_bits mask)
fine_mask mask count none =
    let parts = and_parts (is_mask mask) _ (if_none _ _ none) in
    let digits = (and_parts (eqb (length (mask_digits mask)) 32) _ parts.0).0 in
    let many : length (mask_digits mask) ≡ 32 = grind (arith, nat_tests) in
    subst (λ n. Falls n (used_bits mask)) many (ones_fall (mask_digits mask))

places_of_row : (bits : ℕ) (frames : List ℕ) (entries : List Entry) (cells : List (List ℕ)) → ArePlaces frames entries → row_reason bits frames (entry_bits entries) cells ≡ None
    → ArePlaces (frames ++ frame_of cells ∷ []) (entries ++ row_entries cells)
places_of_row bits frames entries cells are none =
    let fine = second_and_third (shape_reason cells) (frame_reason frames (frame_of cells)) (mask_reason (cell_at cells 3) (number_of (cell_at cells 2)))
    (or_else (range_reason (cell_at cells 4) (length (row_ones cells))) (or_else (outside_reason bits (row_bits cells)) (twice_reason (entry_bits entries) (row_bits cells)))) none in
    let frame = fine_frame frames (frame_of cells) fine.0 in
    more_places frames entries (frame_of cells) (row_bits cells) (row_ones cells) are frame.0 frame.1 (fine_mask (cell_at cells 3) (number_of (cell_at cells 2)) fine.1)

-- the used bits are at most those of a frame
pub few_ones : (mask : List ℕ) (count : ℕ) → mask_reason mask count ≡ None → length (used_bits mask) ≤ 32
few_ones mask count none =
    let parts = and_parts (is_mask mask) _ (if_none _ _ none) in
    let digits = (and_parts (eqb (length (mask_digits mask)) 32) _ parts.0).0 in
    let many : length (mask_digits mask) ≡ 32 = grind (arith, nat_tests) in
    omega (arith, many, length-ones (mask_digits mask))

-- ---- what holds of rows that are not refused

places_grow : (bits : ℕ) (first : PlainRow) (front rest : List PlainRow) → ArePlaces (frames_of front) (entries_of front) → IsFine (config_judge bits) (first ∷ front ++ rest)
    → ArePlaces (frames_of (front ++ rest)) (entries_of (front ++ rest))
places_grow bits first front [] are fine = subst (λ (rows : List PlainRow). ArePlaces (frames_of rows) (entries_of rows)) (sym (append-nil front)) are
places_grow bits first front (row ∷ rest) are fine =
    let none = none_before _ (fine_at (config_judge bits) (first ∷ front) row rest fine) in
    let more = places_of_row bits (frames_of front) (entries_of front) row.cells are none in
    let now : ArePlaces (frames_of (front ++ row ∷ [])) (entries_of (front ++ row ∷ [])) =
    subst (λ (entries : List Entry). ArePlaces (frames_of (front ++ row ∷ [])) entries) (sym (entries_more front row))
    (subst (λ (frames : List ℕ). ArePlaces frames (entries_of front ++ row_entries row.cells)) (sym (frames_more front row)) more) in
    let same : (front ++ row ∷ []) ++ rest ≡ front ++ row ∷ rest = append_assoc front (row ∷ []) rest in
    subst (λ (rows : List PlainRow). ArePlaces (frames_of rows) (entries_of rows)) same
    (places_grow bits first (front ++ row ∷ []) rest now (subst (λ (rows : List PlainRow). IsFine (config_judge bits) (first ∷ rows)) (sym same) fine))

-- ---- the table

pub counted_at : {X : Type 0} (n : ℕ) (f : ℕ → X) (k : ℕ) → k < n → slice_get (counted n f) k ≡ Some (f k)
unfolding counted
counted_at zero f k below = absurd (omega arith)
counted_at (suc n) f zero below = refl
counted_at (suc n) f (suc k) below = counted_at n (λ i. f (suc i)) k (omega arith)

pub get_or-counted : {X : Type 0} (n : ℕ) (f : ℕ → X) (k : ℕ) (d : X) → k < n → get_or (counted n f) k d ≡ f k
unfolding counted
get_or-counted zero f k d below = absurd (omega arith)
get_or-counted (suc n) f zero d below = refl
get_or-counted (suc n) f (suc k) d below = get_or-counted n (λ i. f (suc i)) k d (omega arith)

pub all_below_at : (n : ℕ) (test : ℕ → Bool) (k : ℕ) → all_below n test ≡ true → k < n → test k ≡ true
all_below_at zero test k all below = absurd (omega arith)
all_below_at (suc n) test k all below =
    let parts = and_parts (all_below n test) (test n) all in
    elim (cases_Bool (eqb k n)) [
      | inl last ↦ (let same : n ≡ k = grind (arith, nat_tests) in subst (λ m. test m ≡ true) same parts.1)
      | inr before ↦ all_below_at n test k parts.0 (grind (arith, nat_tests))
    ]

the_place : (found : Option (ℕ × ℕ)) → is_some found ≡ true → Some (unwrap_or found (0, 0)) ≡ found
the_place None there = absurd cc
the_place (Some place) there = refl

module _ (tile : PlainTile) (entries : List Entry) (complete : is_complete (tile_bits tile) entries ≡ true) where
  place_at : (bit : ℕ) → bit < tile_bits tile → Some (unwrap_or (place_of entries bit) (0, 0)) ≡ place_of entries bit
  place_at bit below = the_place (place_of entries bit) (all_below_at (tile_bits tile) (λ b. is_some (place_of entries b)) bit complete below)

  each_place : (bit : ℕ) → bit < tile_bits tile → slice_get (table_of (tile_bits tile) entries) bit ≡ place_of entries bit
  each_place bit below = counted_at (tile_bits tile) (λ b. unwrap_or (place_of entries b) (0, 0)) bit below ∙ place_at bit below

  as_many : length (table_of (tile_bits tile) entries) ≡ tile_bits tile
  as_many = length-counted (tile_bits tile) (λ b. unwrap_or (place_of entries b) (0, 0))

  item_at : (bit : ℕ) (d : ℕ × ℕ) → bit < tile_bits tile → Some (get_or (table_of (tile_bits tile) entries) bit d) ≡ place_of entries bit
  item_at bit d below = ap (λ (p : ℕ × ℕ). Some p) (get_or-counted (tile_bits tile) (λ b. unwrap_or (place_of entries b) (0, 0)) bit d below) ∙ place_at bit below

  has_table : (frames : List ℕ) → ArePlaces frames entries → HasTable (with_table tile (table_of (tile_bits tile) entries))
  has_table frames are = record {
    as_many = as_many;
    in_frames = λ bit d below. (let is = are.in_frames bit _ (sym (item_at bit d (omega (arith, as_many)))) in (is.0, is.1));
    apart = λ bit other d before below same.
        let here = item_at bit d (omega (arith, as_many)) in
        let there = item_at other d (omega (arith, as_many)) in
        absurd (omega (arith, are.single bit other _ (sym here) (sym there ∙ ap (λ (p : ℕ × ℕ). Some p) (sym same))));
  }

spelled_rows : (tile : PlainTile) (rows : List PlainRow) → IsWhole (config_format tile) rows → (is_complete (tile_bits tile) (entries_of (rows_behind rows)) ≡ true) × ArePlaces (frames_of (rows_behind rows)) (entries_of (rows_behind rows))
spelled_rows tile [] whole = (let none = whole.ends in absurd cc)
spelled_rows tile (first ∷ rows) whole = (if_none _ _ whole.ends, places_grow (tile_bits tile) first [] rows no_places whole.fine)

pub spelled_table : (tile : PlainTile) (rows : List PlainRow) (table : List (ℕ × ℕ)) → IsWhole (config_format tile) rows × (table ≡ table_of (tile_bits tile) (entries_of (rows_behind rows))) → SpellsTable tile rows table
spelled_table tile rows table (whole, is) =
    let entries = entries_of (rows_behind rows) in
    let complete = (spelled_rows tile rows whole).0 in
    record {
      whole = whole;
      as_many = ap length is ∙ as_many tile entries complete;
      each = λ bit below. ap (λ (t : List (ℕ × ℕ)). slice_get t bit) is ∙ each_place tile entries complete bit below;
    }

pub table_of_rows : (tile : PlainTile) (rows : List PlainRow) (table : List (ℕ × ℕ)) → IsWhole (config_format tile) rows × (table ≡ table_of (tile_bits tile) (entries_of (rows_behind rows))) → HasTable (with_table tile table)
table_of_rows tile rows table (whole, is) =
    let entries = entries_of (rows_behind rows) in
    let known = spelled_rows tile rows whole in
    subst (λ (t : List (ℕ × ℕ)). HasTable (with_table tile t)) (sym is) (has_table tile entries known.0 (frames_of (rows_behind rows)) known.1)
