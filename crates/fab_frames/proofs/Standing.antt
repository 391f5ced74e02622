-- Each configuration bit of a fabric stands at one bit of one word of a stream.
use Rattle.std.proofs.Common.{◌≡◌, ℕ, suc, ◌+◌, ◌-◌, ◌*◌, ◌/◌, ◌%◌, ◌<◌, Bool, List, Option, Some, None, length, slice_get, option_map, refl, sym, ap, ◌∙◌, arith, subst}
use Rattle.fab_model.specs.declared.mode.Mode.TheVariants as modes
use Rattle.fab_model.specs.Grid.{PlainFabric}
use Rattle.fab_fabric.specs.Bits.{AreBitsOf, HasBit}
use Rattle.fab_fabric.specs.Fabric.{IsFabric}
use Rattle.std.proofs.lemmas.Option.{slice_get_within, same_Some}
use Rattle.fab_frames.specs.Positions.{bit_place, chain, chain_words}
use Rattle.fab_frames.specs.Stream.{stream_mode, Part, fixed, of_row, of_chain, bit_placed_at, whole_chain, parts}
use Rattle.fab_frames.specs.inner.Taking.{IsWithin, placed_by}
use Rattle.fab_frames.specs.declared.positions.BitPlace.{BitPlace}
use Rattle.fab_frames.proofs.Lists.{get_reversed, reversed_item}
use Rattle.fab_frames.proofs.Mapped.{placed_within, placed_nowhere_else, placed_somewhere}
use Rattle.fab_frames.proofs.Modes.{frames_parts, chain_parts}
use Rattle.fab_frames.proofs.Chains.{position_of, IsBitOf, stands_at_position, position_found}
use Rattle.fab_frames.proofs.Rows.{row_place, row_at, StandsAs, part_stands}

-- ---- parts are there

in_frames : (fabric : PlainFabric) (k : ℕ) (part : Part) → stream_mode fabric ≡ modes.Frames → StandsAs fabric k part → IsWithin fabric part
in_frames fabric k (fixed word) mode stands = tt
in_frames fabric k (of_row x y frame) mode stands = (mode, stands.column, stands.row, stands.small)
in_frames fabric k (of_chain word) mode stands = absurd stands

in_chain : (fabric : PlainFabric) (k : ℕ) (part : Part) → stream_mode fabric ≡ modes.Chain → slice_get (whole_chain fabric) k ≡ Some part → IsWithin fabric part
in_chain fabric k part mode is =
    let found = reversed_item (chain_words fabric) of_chain k part is in
    subst (IsWithin fabric) found.2 (mode, omega (arith, found.1))

pub part_within : (fabric : PlainFabric) (k : ℕ) (part : Part) → slice_get (parts fabric) k ≡ Some part → IsWithin fabric part
part_within fabric k part is =
    elim (stream_mode fabric) as (λ mode. stream_mode fabric ≡ mode → IsWithin fabric part) [
      | modes.Frames ↦ λ mode. in_frames fabric k part mode (part_stands fabric k part (ap (λ ps. slice_get ps k) (sym (frames_parts fabric mode)) ∙ is))
      | modes.Chain ↦ λ mode. in_chain fabric k part mode (ap (λ ps. slice_get ps k) (sym (chain_parts fabric mode)) ∙ is)
    ] refl

-- ---- what is placed

-- the number of a bit that a row places
numbered : (x y : ℕ) (placed : Option ℕ) (at : BitPlace) → option_map (bit_place x y) placed ≡ Some at → (number : ℕ) × (placed ≡ Some number) × (bit_place x y number ≡ at)
numbered x y None at is = cc
numbered x y (Some number) at is = (number, refl, same_Some (bit_place x y number) at is)

-- is a configuration bit of the fabric
pub placed_is_bit : (fabric : PlainFabric) (part : Part) (bit : ℕ) (at : BitPlace) → IsFabric fabric → IsWithin fabric part → placed_by fabric part bit ≡ Some at → IsBitOf fabric at
placed_is_bit fabric (fixed word) bit at is within there = cc
placed_is_bit fabric (of_row x y frame) bit at is within there =
    let found = numbered x y (bit_placed_at fabric x y frame bit) at there in
    let made : IsBitOf fabric (bit_place x y found.0) = record {
      column = within.1;
      row = within.2;
      number = placed_within fabric x y frame bit found.0 is found.1;
    } in
    subst (IsBitOf fabric) found.2 made
placed_is_bit fabric (of_chain number) bit at is within there = (position_found fabric (32 * number + bit) at there).is

-- and of the bits that are kept
pub placed_has_bit : (fabric : PlainFabric) (at : BitPlace) (bits : List (List (List Bool))) → IsBitOf fabric at → AreBitsOf fabric bits → HasBit bits at.x at.y at.bit
placed_has_bit fabric at bits is are = record {
  column = omega (arith, is.column, are.columns);
  row = omega (arith, is.row, are.rows at.x is.column);
  number = omega (arith, is.number, are.tiles at.x at.y is.column is.row);
}

-- ---- it is placed once

once_in_rows : (fabric : PlainFabric) (x y frame bit x2 y2 frame2 bit2 : ℕ) (at : BitPlace) → placed_by fabric (of_row x y frame) bit ≡ Some at → placed_by fabric (of_row x2 y2 frame2) bit2 ≡ Some at →
    (of_row x y frame ≡ of_row x2 y2 frame2) × (bit ≡ bit2)
once_in_rows fabric x y frame bit x2 y2 frame2 bit2 at there there2 =
    let found = numbered x y (bit_placed_at fabric x y frame bit) at there in
    let found2 = numbered x2 y2 (bit_placed_at fabric x2 y2 frame2 bit2) at there2 in
    let columns : x ≡ x2 = ap (λ (p : BitPlace). p.x) (found.2 ∙ sym found2.2) in
    let rows : y ≡ y2 = ap (λ (p : BitPlace). p.y) (found.2 ∙ sym found2.2) in
    let numbers : found.0 ≡ found2.0 = ap (λ (p : BitPlace). p.bit) (found.2 ∙ sym found2.2) in
    let moved : bit_placed_at fabric x y frame2 bit2 ≡ Some found.0 = (λ i. bit_placed_at fabric (columns i) (rows i) frame2 bit2) ∙ found2.1 ∙ ap Some (sym numbers) in
    let same = placed_nowhere_else fabric x y frame bit frame2 bit2 found.0 found.1 moved in
    ((λ i. of_row (columns i) (rows i) (same.0 i)), same.1)

once_in_chain : (fabric : PlainFabric) (number bit number2 bit2 : ℕ) (at : BitPlace) → bit < 32 → bit2 < 32 → placed_by fabric (of_chain number) bit ≡ Some at →
    placed_by fabric (of_chain number2) bit2 ≡ Some at → (of_chain number ≡ of_chain number2) × (bit ≡ bit2)
once_in_chain fabric number bit number2 bit2 at small small2 there there2 =
    let found = position_found fabric (32 * number + bit) at there in
    let found2 = position_found fabric (32 * number2 + bit2) at there2 in
    let same : 32 * number + bit ≡ 32 * number2 + bit2 = found.position ∙ sym found2.position in
    let numbers : number ≡ number2 = omega (arith, same, small, small2) in
    (ap of_chain numbers, omega (arith, same, small, small2))

pub placed_once : (fabric : PlainFabric) (part part2 : Part) (bit bit2 : ℕ) (at : BitPlace) → IsWithin fabric part → IsWithin fabric part2 → bit < 32 → bit2 < 32 → placed_by fabric part bit ≡ Some at →
    placed_by fabric part2 bit2 ≡ Some at → (part ≡ part2) × (bit ≡ bit2)
placed_once fabric (fixed word) part2 bit bit2 at within within2 small small2 there there2 = cc
placed_once fabric (of_row x y frame) (fixed word2) bit bit2 at within within2 small small2 there there2 = cc
placed_once fabric (of_row x y frame) (of_row x2 y2 frame2) bit bit2 at within within2 small small2 there there2 = once_in_rows fabric x y frame bit x2 y2 frame2 bit2 at there there2
placed_once fabric (of_row x y frame) (of_chain number2) bit bit2 at within within2 small small2 there there2 =
    let both : modes.Frames ≡ modes.Chain = sym within.0 ∙ within2.0 in
    cc
placed_once fabric (of_chain number) (fixed word2) bit bit2 at within within2 small small2 there there2 = cc
placed_once fabric (of_chain number) (of_row x2 y2 frame2) bit bit2 at within within2 small small2 there there2 =
    let both : modes.Chain ≡ modes.Frames = sym within.0 ∙ within2.0 in
    cc
placed_once fabric (of_chain number) (of_chain number2) bit bit2 at within within2 small small2 there there2 = once_in_chain fabric number bit number2 bit2 at small small2 there there2

-- a part that places bits stands at one place
pub part_once : (fabric : PlainFabric) (k k2 : ℕ) (part : Part) (bit : ℕ) (at : BitPlace) → slice_get (parts fabric) k ≡ Some part → slice_get (parts fabric) k2 ≡ Some part →
    placed_by fabric part bit ≡ Some at → k ≡ k2
part_once fabric k k2 (fixed word) bit at stands stands2 there = cc
part_once fabric k k2 (of_row x y frame) bit at stands stands2 there =
    let mode : stream_mode fabric ≡ modes.Frames = (part_within fabric k (of_row x y frame) stands).0 in
    let found = part_stands fabric k (of_row x y frame) (ap (λ ps. slice_get ps k) (sym (frames_parts fabric mode)) ∙ stands) in
    let found2 = part_stands fabric k2 (of_row x y frame) (ap (λ ps. slice_get ps k2) (sym (frames_parts fabric mode)) ∙ stands2) in
    found.at ∙ sym found2.at
part_once fabric k k2 (of_chain number) bit at stands stands2 there =
    let mode : stream_mode fabric ≡ modes.Chain = (part_within fabric k (of_chain number) stands).0 in
    let found = reversed_item (chain_words fabric) of_chain k (of_chain number) (ap (λ ps. slice_get ps k) (sym (chain_parts fabric mode)) ∙ stands) in
    let found2 = reversed_item (chain_words fabric) of_chain k2 (of_chain number) (ap (λ ps. slice_get ps k2) (sym (chain_parts fabric mode)) ∙ stands2) in
    let numbers : of_chain found.0 ≡ of_chain found2.0 = found.2 ∙ sym found2.2 in
    let same : found.0 ≡ found2.0 = cc in
    omega (arith, same, found.1, found2.1)

-- ---- each has a place

pub record Stands (fabric : PlainFabric) (at : BitPlace) : Type 0 where
  pub place : ℕ
  pub part : Part
  pub bit : ℕ
  pub small : bit < 32
  pub stands : slice_get (parts fabric) place ≡ Some part
  pub there : placed_by fabric part bit ≡ Some at

stands_in_frames : (fabric : PlainFabric) (at : BitPlace) → IsFabric fabric → stream_mode fabric ≡ modes.Frames → IsBitOf fabric at → Stands fabric at
stands_in_frames fabric at is mode of =
    let placed = placed_somewhere fabric at.x at.y at.bit is of.number in
    record {
      place = row_place fabric at.x at.y placed.0;
      part = of_row at.x at.y placed.0;
      bit = placed.1;
      small = placed.3;
      stands = ap (λ ps. slice_get ps (row_place fabric at.x at.y placed.0)) (frames_parts fabric mode) ∙ row_at fabric at.x at.y placed.0 of.column of.row placed.2;
      there = ap (option_map (bit_place at.x at.y)) placed.4;
    }

stands_in_chain : (fabric : PlainFabric) (at : BitPlace) → stream_mode fabric ≡ modes.Chain → IsBitOf fabric at → Stands fabric at
stands_in_chain fabric at mode of =
    let k : ℕ = position_of fabric at in
    let there : slice_get (chain fabric) k ≡ Some at = stands_at_position fabric at of in
    let within : k < length (chain fabric) = slice_get_within (chain fabric) k at there in
    let place : ℕ = chain_words fabric - suc (k / 32) in
    let counted_back : place + suc (k / 32) ≡ chain_words fabric = omega (arith, within) in
    let position : 32 * (k / 32) + k % 32 ≡ k = omega arith in
    record {
      place = place;
      part = of_chain (k / 32);
      bit = k % 32;
      small = omega arith;
      stands = ap (λ ps. slice_get ps place) (chain_parts fabric mode) ∙ get_reversed (chain_words fabric) of_chain (k / 32) place counted_back;
      there = ap (slice_get (chain fabric)) position ∙ there;
    }

pub each_stands : (fabric : PlainFabric) (at : BitPlace) → IsFabric fabric → IsBitOf fabric at → Stands fabric at
each_stands fabric at is of =
    elim (stream_mode fabric) as (λ mode. stream_mode fabric ≡ mode → Stands fabric at) [
      | modes.Frames ↦ λ mode. stands_in_frames fabric at is mode of
      | modes.Chain ↦ λ mode. stands_in_chain fabric at mode of
    ] refl
