-- The slices by the numbers that the code has.
use Rattle.std.proofs.Common.{◌≡◌, ℕ, suc, ◌+◌, ◌*◌, ◌<◌, ◌≤◌, ◌++◌, [], ◌∷◌, ◌∙◌, List, length, slice_range, sym, subst, arith}
use Rattle.fab_implementation.specs.fab_model.specs.declared.mode.Mode.TheVariants as modes
use Rattle.fab_implementation.specs.fab_model.specs.Grid.{PlainFabric}
use Rattle.fab_implementation.specs.fab_model.specs.Drive.{PlainBits}
use Rattle.fab_frames.specs.Stream.{stream_mode, waiting_word, stream}
use Rattle.fab_partial.specs.Columns.{partial_stream}
use Rattle.fab_partial.proofs.Slices.{by_slices, long_enough}

module _ (fabric : PlainFabric) (bits : PlainBits) (first last rows : ℕ) (words : List ℕ) (mode : stream_mode fabric ≡ modes.Frames) (order : first ≤ last) (within : last < fabric.columns) (rows_is : rows ≡ fabric.rows)
    (words_is : words ≡ stream fabric bits) where
  next : last + 1 ≡ suc last
  next = omega arith

  pub fits : 38 + (last + 1) * (20 * (rows + 1)) ≤ length words
  fits = subst (λ T. T) (λ j. 38 + sym next j * (20 * (sym rows_is j + 1)) ≤ length (sym words_is j)) (long_enough fabric bits first last mode order within)

  pub made : slice_range words 0 38 ++ (slice_range words (38 + first * (20 * (rows + 1))) (38 + (last + 1) * (20 * (rows + 1))) ++ waiting_word ∷ []) ≡ partial_stream fabric bits first last
  made =
      (λ j. slice_range (words_is j) 0 38 ++ (slice_range (words_is j) (38 + first * (20 * (rows_is j + 1))) (38 + next j * (20 * (rows_is j + 1))) ++ waiting_word ∷ []))
      ∙ by_slices fabric bits first last mode order within
