-- Where a table places configuration bits.
use Rattle.std.proofs.Common.{◌≡◌, ◌≢◌, ℕ, ◌+◌, ◌*◌, ◌<◌, ◌≤◌, true, false, nat_lt, cond, List, Option, Some, None, length, get_or, set, slice_get, refl, sym, ap, ◌∙◌, arith, subst, inl, inr}
use Rattle.std.specs.List.{position_or_len}
use Rattle.std.proofs.lemmas.Bool.{cases_lt}
use Rattle.std.proofs.lemmas.Bool.Decides.{eqb_tells, nat_tests}
use Rattle.std.proofs.lemmas.List.{length-set, get_or-set_same, get_or-set_other}
use Rattle.std.proofs.lemmas.List.Quantifiers.{position-Some}
use Rattle.std.proofs.lemmas.List.Sums.{position_or_len_is}
use Rattle.std.proofs.lemmas.Option.{slice_get_within, slice_get-get_or, get_or_from_slice_get, some_pair_parts}
use Rattle.fab_model.specs.Tiles.{PlainTile, tile_bits}
use Rattle.fab_model.specs.Tables.{HasTable}
use Rattle.fab_frames.specs.Stream.{same_place, placed_bit}
use Rattle.fab_frames.specs.inner.Placing.{IsMap}

-- ---- places

same_self : (place : ℕ × ℕ) → same_place place place ≡ true
same_self place = grind (arith, nat_tests)

same_is : (first second : ℕ × ℕ) → same_place first second ≡ true → first ≡ second
same_is first second is =
    let columns : first.0 ≡ second.0 = grind (arith, nat_tests) in
    let rows : first.1 ≡ second.1 = grind (arith, nat_tests) in
    λ i. (columns i, rows i)

differ : (first second : ℕ × ℕ) → (first ≡ second → ⊥) → same_place first second ≡ false
differ first second apart =
    elim (same_place first second) as (λ b. same_place first second ≡ b → b ≡ false) [
      | true ↦ λ is. absurd (apart (same_is first second is))
      | false ↦ λ is. refl
    ] refl

-- a configuration bit that is placed has its place in the table
pub placed_is : (tile : PlainTile) (frame bit number : ℕ) → placed_bit frame bit tile ≡ Some number → slice_get tile.table number ≡ Some (frame, bit)
placed_is tile frame bit number is =
    let found = position-Some (same_place (frame, bit)) tile.table number (frame, bit) is in
    slice_get-get_or tile.table number (frame, bit) found.0 ∙ ap Some (sym (same_is (frame, bit) (get_or tile.table number (frame, bit)) found.1))

-- and the other way round, since the places of configuration bits differ
pub placed_at : (tile : PlainTile) (frame bit number : ℕ) → HasTable tile → slice_get tile.table number ≡ Some (frame, bit) → placed_bit frame bit tile ≡ Some number
placed_at tile frame bit number has is =
    let few : number < length tile.table = slice_get_within tile.table number (frame, bit) is in
    let there : get_or tile.table number (frame, bit) ≡ (frame, bit) = get_or_from_slice_get tile.table number (frame, bit) (frame, bit) is in
    let before : (k : ℕ) → k < number → same_place (frame, bit) (get_or tile.table k (frame, bit)) ≡ false = λ k less.
    differ (frame, bit) (get_or tile.table k (frame, bit)) (λ same. has.apart k number (frame, bit) less few (sym same ∙ sym there)) in
    let at : number < length tile.table → same_place (frame, bit) (get_or tile.table number (frame, bit)) ≡ true = λ _. ap (same_place (frame, bit)) there ∙ same_self (frame, bit) in
    let first : position_or_len (same_place (frame, bit)) tile.table ≡ number = position_or_len_is (same_place (frame, bit)) tile.table number (frame, bit) (omega (arith, few)) before at in
    let within : nat_lt number (length tile.table) ≡ true = grind (arith, nat_tests) in
    ap (λ k. cond (nat_lt k (length tile.table)) (Some k) None) first ∙ ap (λ b. cond b (Some number) None) within

-- the place of a configuration bit
pub has_place : (tile : PlainTile) (number : ℕ) → HasTable tile → number < tile_bits tile →
    (frame : ℕ) × (bit : ℕ) × (frame < 20) × (bit < 32) × (placed_bit frame bit tile ≡ Some number)
has_place tile number has few =
    let within : number < length tile.table = omega (arith, few, has.as_many) in
    let place : ℕ × ℕ = get_or tile.table number (0, 0) in
    let inside = has.in_frames number (0, 0) within in
    (place.0, place.1, inside.0, inside.1, placed_at tile place.0 place.1 number has (slice_get-get_or tile.table number (0, 0) within))

-- a configuration bit that is placed is one of the tile
pub placed_below : (tile : PlainTile) (frame bit number : ℕ) → HasTable tile → placed_bit frame bit tile ≡ Some number → number < tile_bits tile
placed_below tile frame bit number has is = omega (arith, has.as_many, slice_get_within tile.table number (frame, bit) (placed_is tile frame bit number is))

-- a configuration bit is placed once
pub placed_once : (tile : PlainTile) (frame bit frame2 bit2 number : ℕ) → placed_bit frame bit tile ≡ Some number → placed_bit frame2 bit2 tile ≡ Some number → (frame ≡ frame2) × (bit ≡ bit2)
placed_once tile frame bit frame2 bit2 number is is2 =
    some_pair_parts frame frame2 bit bit2 (sym (placed_is tile frame bit number is) ∙ placed_is tile frame2 bit2 number is2)

-- the place of a configuration bit is a bit of a frame
in_frame : (tile : PlainTile) (number frame bit : ℕ) → HasTable tile → slice_get tile.table number ≡ Some (frame, bit) → (frame < 20) × (bit < 32)
in_frame tile number frame bit has is =
    let few : number < length tile.table = slice_get_within tile.table number (frame, bit) is in
    let there : get_or tile.table number (frame, bit) ≡ (frame, bit) = get_or_from_slice_get tile.table number (frame, bit) (frame, bit) is in
    subst (λ (place : ℕ × ℕ). (place.0 < 20) × (place.1 < 32)) there (has.in_frames number (frame, bit) few)

-- no place is that of two configuration bits
one_place : (tile : PlainTile) (first second : ℕ) (place : ℕ × ℕ) → HasTable tile → slice_get tile.table first ≡ Some place → slice_get tile.table second ≡ Some place → first ≡ second
one_place tile first second place has is is2 =
    let found : Some first ≡ Some second = sym (placed_at tile place.0 place.1 first has is) ∙ placed_at tile place.0 place.1 second has is2 in
    cc

-- ---- maps

-- the map has the first n configuration bits
pub record IsMapTo (table : List (ℕ × ℕ)) (placed : List (Option ℕ)) (n : ℕ) : Type 0 where
  pub long : length placed ≡ 640
  pub sound : (frame bit number : ℕ) → frame < 20 → bit < 32 → get_or placed (frame * 32 + bit) None ≡ Some number → (number < n) × (slice_get table number ≡ Some (frame, bit))
  pub complete : (frame bit number : ℕ) → number < n → slice_get table number ≡ Some (frame, bit) → get_or placed (frame * 32 + bit) None ≡ Some number

-- what the map has where one more configuration bit is written
sound_more : (table : List (ℕ × ℕ)) (placed : List (Option ℕ)) (n frame bit : ℕ) → frame < 20 → bit < 32 → slice_get table n ≡ Some (frame, bit) → IsMapTo table placed n →
    (frame2 bit2 number : ℕ) → frame2 < 20 → bit2 < 32 → get_or (set placed (frame * 32 + bit) (Some n)) (frame2 * 32 + bit2) None ≡ Some number →
    (number < n + 1) × (slice_get table number ≡ Some (frame2, bit2))
sound_more table placed n frame bit low small at so_far frame2 bit2 number low2 small2 is =
    elim (eqb_tells (frame2 * 32 + bit2) (frame * 32 + bit)) [
      | inl t ↦ (
          let written : get_or (set placed (frame * 32 + bit) (Some n)) (frame * 32 + bit) None ≡ Some n = get_or-set_same placed (frame * 32 + bit) (Some n) None (omega (arith, low, small, so_far.long)) in
          let last : Some n ≡ Some number = sym written ∙ ap (λ k. get_or (set placed (frame * 32 + bit) (Some n)) k None) (sym t.1) ∙ is in
          let same : n ≡ number = cc in
          let frames : frame ≡ frame2 = omega (arith, small, small2, t.1) in
          let bits : bit ≡ bit2 = omega (arith, small, small2, t.1) in
          let place : ◌≡◌ {A = ℕ × ℕ} (frame, bit) (frame2, bit2) = λ i. (frames i, bits i) in
          (omega (arith, same), ap (slice_get table) (sym same) ∙ at ∙ ap Some place))
      | inr f ↦ (
          let old = so_far.sound frame2 bit2 number low2 small2 (sym (get_or-set_other placed (frame * 32 + bit) (frame2 * 32 + bit2) (Some n) None f.1) ∙ is) in
          (omega (arith, old.0), old.1))
    ]

complete_more : (tile : PlainTile) (placed : List (Option ℕ)) (n frame bit : ℕ) → HasTable tile → frame < 20 → bit < 32 → slice_get tile.table n ≡ Some (frame, bit) → IsMapTo tile.table placed n →
    (frame2 bit2 number : ℕ) → number < n + 1 → slice_get tile.table number ≡ Some (frame2, bit2) → get_or (set placed (frame * 32 + bit) (Some n)) (frame2 * 32 + bit2) None ≡ Some number
complete_more tile placed n frame bit has low small at so_far frame2 bit2 number few is =
    elim (cases_lt number n) [
      | inl less ↦ (
          let small2 : bit2 < 32 = (in_frame tile number frame2 bit2 has is).1 in
          let apart : frame2 * 32 + bit2 ≢ frame * 32 + bit = λ same. (
          let frames : frame2 ≡ frame = omega (arith, small, small2, same) in
          let bits : bit2 ≡ bit = omega (arith, small, small2, same) in
          let place : ◌≡◌ {A = ℕ × ℕ} (frame2, bit2) (frame, bit) = λ i. (frames i, bits i) in
          let one : number ≡ n = one_place tile number n (frame, bit) has (is ∙ ap Some place) at in
          omega (arith, one, less)) in
          get_or-set_other placed (frame * 32 + bit) (frame2 * 32 + bit2) (Some n) None apart ∙ so_far.complete frame2 bit2 number less is)
      | inr past ↦ (
          let last : number ≡ n = omega (arith, few, past) in
          let place = some_pair_parts frame2 frame bit2 bit (sym is ∙ ap (slice_get tile.table) last ∙ at) in
          let same : frame2 * 32 + bit2 ≡ frame * 32 + bit = omega (arith, place.0, place.1) in
          ap (λ k. get_or (set placed (frame * 32 + bit) (Some n)) k None) same
          ∙ get_or-set_same placed (frame * 32 + bit) (Some n) None (omega (arith, low, small, so_far.long))
          ∙ ap Some (sym last))
    ]

pub one_mapped : (tile : PlainTile) (placed new : List (Option ℕ)) (places : List (ℕ × ℕ)) (n frame bit : ℕ) → HasTable tile → n < tile_bits tile → places ≡ tile.table → frame ≡ (get_or places n (0, 0)).0 →
    bit ≡ (get_or places n (0, 0)).1 → new ≡ set placed (frame * 32 + bit) (Some n) → IsMapTo tile.table placed n → IsMapTo tile.table new (n + 1)
one_mapped tile placed new places n frame bit has few places_are frame_is bit_is new_is so_far =
    let within : n < length tile.table = omega (arith, few, has.as_many) in
    let read : ℕ × ℕ = get_or tile.table n (0, 0) in
    let frames : frame ≡ read.0 = frame_is ∙ ap (λ (table : List (ℕ × ℕ)). (get_or table n (0, 0)).0) places_are in
    let bits : bit ≡ read.1 = bit_is ∙ ap (λ (table : List (ℕ × ℕ)). (get_or table n (0, 0)).1) places_are in
    let at : slice_get tile.table n ≡ Some (frame, bit) = slice_get-get_or tile.table n (0, 0) within ∙ sym (λ i. Some (frames i, bits i)) in
    let inside = in_frame tile n frame bit has at in
    let made : IsMapTo tile.table (set placed (frame * 32 + bit) (Some n)) (n + 1) = record {
      long = length-set placed (frame * 32 + bit) (Some n) ∙ so_far.long;
      sound = sound_more tile.table placed n frame bit inside.0 inside.1 at so_far;
      complete = complete_more tile placed n frame bit has inside.0 inside.1 at so_far;
    } in
    subst (λ (map : List (Option ℕ)). IsMapTo tile.table map (n + 1)) (sym new_is) made

each_mapped : (tile : PlainTile) (placed : List (Option ℕ)) (n frame bit : ℕ) → HasTable tile → tile_bits tile ≤ n → IsMapTo tile.table placed n → frame < 20 → bit < 32 →
    get_or placed (frame * 32 + bit) None ≡ placed_bit frame bit tile
each_mapped tile placed n frame bit has all is low small =
    let at : ℕ = frame * 32 + bit in
    let read : (found : Option ℕ) → placed_bit frame bit tile ≡ found → get_or placed at None ≡ found = λ found.
    elim found as (λ o. placed_bit frame bit tile ≡ o → get_or placed at None ≡ o) [
      | Some number ↦ λ e. is.complete frame bit number (omega (arith, all, placed_below tile frame bit number has e)) (placed_is tile frame bit number e)
      | None ↦ λ e.
          elim (get_or placed at None) as (λ o. get_or placed at None ≡ o → o ≡ None) [
            | Some number ↦ λ there. (
                let other : Some number ≡ None = sym (placed_at tile frame bit number has (is.sound frame bit number low small there).1) ∙ e in
                cc)
            | None ↦ λ there. refl
          ] refl
    ] in
    read (placed_bit frame bit tile) refl

-- all are in the map
pub all_mapped : (tile : PlainTile) (placed : List (Option ℕ)) (n : ℕ) → HasTable tile → tile_bits tile ≤ n → IsMapTo tile.table placed n → IsMap tile placed
all_mapped tile placed n has all is = record {
  long = is.long;
  each = λ frame bit low small. each_mapped tile placed n frame bit has all is low small;
}
