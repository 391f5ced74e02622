-- The frames of some columns strobe no other column, and set the latches of these.
use Rattle.std.proofs.Common.{◌≡◌, ℕ, zero, suc, ◌<◌, ◌∙◌, true, List, [], ◌∷◌, ◌++◌, map, sym, ap, subst, arith, inl, inr}
use Rattle.std.specs.List.{flat_map}
use Rattle.std.proofs.lemmas.Bool.{cases_Bool}
use Rattle.std.proofs.lemmas.List.{map-append}
use Rattle.fab_bits.specs.Bits.{digits}
use Rattle.fab_gen_loader.specs.fab_model.specs.Tiles.{counted}
use Rattle.fab_gen_loader.specs.fab_model.specs.Grid.{PlainFabric}
use Rattle.fab_gen_loader.specs.fab_model.specs.Drive.{PlainBits}
use Rattle.fab_frames.specs.fab_fabric.specs.Fabric.{IsFabric}
use Rattle.fab_gen_loader.specs.Machine.{Machine, Word}
use Rattle.fab_frames.specs.Stream.{Part, of_row, address_word, row_word, frame_parts, column_parts}
use Rattle.fab_loading_laws.specs.Latches.{LatchPlace}
use Rattle.fab_loading_laws.specs.Streams.{IsLatchPlace}
use Rattle.fab_loading_laws.proofs.Addresses.{address_column, address_goes_on}
use Rattle.fab_loading_laws.proofs.Runs.{after_words, after_both}
use Rattle.fab_loading_laws.proofs.Frames.{has_frame}
use Rattle.fab_loading_laws.proofs.Columns.{part_word, own_bit, Sets, map_counted, none_keep, pieces_set, column_keeps, column_sets}
use Rattle.fab_partial.specs.Columns.{lies_within, chosen_parts}
use Rattle.fab_exchange_laws.specs.Exchanges.{StrobesWithin}
use Rattle.fab_exchange_laws.proofs.Within.{StaysWithin, both_stay, at_last, frame_within}

abbrev pub all_chosen : PlainFabric → (first last : ℕ) → List Part
all_chosen fabric first last = flat_map (chosen_parts fabric first last) (counted fabric.columns (λ x. x))

module _ (fabric : PlainFabric) (bits : PlainBits) (first last : ℕ) where
  abbrev part_words : List Part → List Word
  part_words parts = map (part_word fabric bits) parts

  -- Parts that leave a loader which takes an address as one that takes an address, and strobe no other column.
  pub record KeepsWithin (parts : List Part) : Type 0 where
    pub returns : (machine : Machine) → machine.state ≡ 1 → (after_words fabric.rows machine (part_words parts)).state ≡ 1
    pub within : (machine : Machine) → machine.state ≡ 1 → StrobesWithin first last machine → StaysWithin fabric.rows first last machine (part_words parts)

  none_within : KeepsWithin []
  none_within = record { returns = λ machine one. one; within = λ machine one is. is }

  both_within : (front back : List Part) → KeepsWithin front → KeepsWithin back → KeepsWithin (front ++ back)
  both_within front back one other =
      let words : part_words (front ++ back) ≡ part_words front ++ part_words back = map-append (part_word fabric bits) front back in
      record {
        returns = λ machine state.
            ap (λ ws. (after_words fabric.rows machine ws).state) words
            ∙ ap (λ (m : Machine). m.state) (after_both fabric.rows machine (part_words front) (part_words back))
            ∙ other.returns (after_words fabric.rows machine (part_words front)) (one.returns machine state);
        within = λ machine state is.
            let along = one.within machine state is in
            subst (StaysWithin fabric.rows first last machine) (sym words)
            (both_stay fabric.rows first last machine (part_words front) (part_words back) along
            (other.within (after_words fabric.rows machine (part_words front)) (one.returns machine state) (at_last fabric.rows first last machine (part_words front) along)));
      }

  pieces_within : (g : ℕ → List Part) (n : ℕ) (f : ℕ → ℕ) → ((i : ℕ) → i < n → KeepsWithin (g (f i))) → KeepsWithin (flat_map g (counted n f))
  unfolding counted
  pieces_within g zero f each = none_within
  pieces_within g (suc n) f each =
      both_within (g (f 0)) (flat_map g (counted n (λ i. f (suc i)))) (each 0 (omega arith)) (pieces_within g n (λ i. f (suc i)) (λ i low. each (suc i) (omega arith)))

  module _ (is_fabric : IsFabric fabric) where
    abbrev rows_of : (x frame : ℕ) → ℕ → Word
    rows_of x frame y = digits 32 (row_word fabric bits x y frame)

    frame_keeps_within : (x frame : ℕ) → x < 32 → frame < 20 → lies_within first last x ≡ true → KeepsWithin (frame_parts fabric x frame)
    frame_keeps_within x frame in_columns in_frames inside =
        let few : fabric.rows < 32 = omega (arith, is_fabric.few_rows) in
        let some = is_fabric.some_rows in
        let address = digits 32 (address_word x frame) in
        let words : part_words (frame_parts fabric x frame) ≡ address ∷ counted fabric.rows (rows_of x frame) =
        ap (λ words. address ∷ words) (map_counted (part_word fabric bits) fabric.rows (λ y. of_row x y frame)) in
        let goes_on = address_goes_on x frame in_columns in_frames in
        record {
          returns = λ machine state.
              ap (λ ws. (after_words fabric.rows machine ws).state) words ∙ (has_frame fabric.rows few some machine state address goes_on (rows_of x frame)).state;
          within = λ machine state is.
              subst (StaysWithin fabric.rows first last machine) (sym words)
              (frame_within fabric.rows first last few some machine state is address goes_on (ap (lies_within first last) (address_column x frame in_columns in_frames) ∙ inside)
              (rows_of x frame));
        }

    column_keeps_within : (x : ℕ) → x < 32 → lies_within first last x ≡ true → KeepsWithin (column_parts fabric x)
    column_keeps_within x low inside = pieces_within (frame_parts fabric x) 20 (λ frame. frame) (λ frame few. frame_keeps_within x frame low few inside)

    chosen_column : (x : ℕ) → x < 32 → KeepsWithin (chosen_parts fabric first last x)
    chosen_column x low =
        elim (cases_Bool (lies_within first last x)) [
          | inl inside ↦ rw inside (column_keeps_within x low inside)
          | inr outside ↦ rw outside none_within
        ]

    -- the frames of these columns strobe no other one,
    pub chosen_within : KeepsWithin (all_chosen fabric first last)
    chosen_within =
        let few = is_fabric.few_columns in
        pieces_within (chosen_parts fabric first last) fabric.columns (λ x. x) (λ x low. chosen_column x (omega (arith, low, few)))

    -- and set each latch of theirs
    pub chosen_set : (place : LatchPlace) → lies_within first last place.x ≡ true → IsLatchPlace fabric place →
        Sets fabric bits place (own_bit fabric bits place) (all_chosen fabric first last)
    chosen_set place inside within =
        let few = is_fabric.few_columns in
        let column = within.column in
        pieces_set fabric bits place (own_bit fabric bits place) (chosen_parts fabric first last) fabric.columns (λ x. x) place.x within.column
        (rw inside (column_sets fabric bits place is_fabric within (omega (arith, few, column))))
        (λ x low other.
        elim (cases_Bool (lies_within first last x)) [
          | inl here ↦ rw here (column_keeps fabric bits place is_fabric within x (omega (arith, low, few)) other)
          | inr past ↦ rw past (none_keep fabric bits place)
        ])
