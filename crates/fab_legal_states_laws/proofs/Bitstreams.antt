-- The bitstream of a fabric is short.
use Rattle.std.proofs.Common.{◌≡◌, ℕ, ◌≤◌, [], ◌∷◌, ◌++◌, length, map, refl, arith, length-append}
use Rattle.std.specs.List.{flat_map}
use Rattle.std.proofs.lemmas.List.{length-map, length-reverse}
use Rattle.fab_base.specs.declared.TheConstants.{MAX_FILE_BYTES}
use Rattle.fab_model.specs.declared.mode.Mode.{Mode}
use Rattle.fab_model.specs.declared.mode.Mode.TheVariants as modes
use Rattle.fab_model.specs.Drive.{PlainBits}
use Rattle.fab_model.specs.Grid.{PlainFabric}
use Rattle.fab_model.specs.Tiles.{counted}
use Rattle.fab_fabric.specs.Fabric.{IsFabric}
use Rattle.fab_frames.specs.Bytes.{word_bytes}
use Rattle.fab_frames.proofs.Lists.{length_counted}
use Rattle.fab_frames.specs.Positions.{chain_words}
use Rattle.fab_frames.specs.Stream.{of_chain, of_row, fixed, column_parts, frame_parts, header, parts, parts_in, stream, stream_mode, waiting_word, waiting_words, word_of}
use Rattle.fab_legal_states_laws.proofs.Chains.{chain_within, flat_within}

header_length : length header ≡ 38
unfolding waiting_words
header_length = refl

module _ (fabric : PlainFabric) (is : IsFabric fabric) where
  frame_within : (x frame : ℕ) → length (frame_parts fabric x frame) ≤ 32
  frame_within x frame = omega (arith, length_counted fabric.rows (λ y. of_row x y frame), is.few_rows)

  column_within : (x : ℕ) → length (column_parts fabric x) ≤ 640
  column_within x =
      omega (arith, flat_within (frame_parts fabric x) 32 (counted 20 (λ frame. frame)) (λ k d few. frame_within x _), length_counted 20 (λ frame. frame))

  parts_within : (mode : Mode) → length (parts_in mode fabric) ≤ 20519
  parts_within modes.Frames =
      let columns = flat_map (column_parts fabric) (counted fabric.columns (λ x. x)) in
      omega (
        arith,
        length-append (map fixed header) (columns ++ fixed waiting_word ∷ []),
        length-append columns (fixed waiting_word ∷ []),
        length-map header fixed,
        header_length,
        flat_within (column_parts fabric) 640 (counted fabric.columns (λ x. x)) (λ k d few. column_within _),
        length_counted fabric.columns (λ x. x),
        is.few_columns,
      )
  parts_within modes.Chain =
      omega (arith, length-reverse (counted (chain_words fabric) of_chain), length_counted (chain_words fabric) of_chain, chain_within fabric is)

  stream_within : length (parts fabric) ≤ 20519
  unfolding parts
  stream_within = parts_within (stream_mode fabric)

  stream_length : (bits : PlainBits) → length (stream fabric bits) ≡ length (parts fabric)
  unfolding stream
  stream_length bits = length-map (parts fabric) (word_of fabric bits)

  pub bitstream_short : (bits : PlainBits) → length (flat_map word_bytes (stream fabric bits)) ≤ MAX_FILE_BYTES
  bitstream_short bits =
      omega (arith, flat_within word_bytes 4 (stream fabric bits) (λ k d few. omega arith), stream_length bits, stream_within)
