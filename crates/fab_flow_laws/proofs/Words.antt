-- The words of a bitstream have 32 bits.
use Rattle.std.proofs.Common.{◌≡◌, ℕ, zero, suc, ◌+◌, ◌*◌, ◌^◌, ◌<◌, ◌≤◌, Bool, true, false, Option, List, [], ◌∷◌, ◌++◌, map, reverse, All, arith, subst, sym}
use Rattle.std.specs.List.{flat_map}
use Rattle.std.specs.Option.{option_map_or}
use Rattle.std.proofs.Math.Pow.{pow-lt}
use Rattle.std.proofs.lemmas.List.Elements.{All-append, All-cons, All-from_recursion, All-head, All-map, All-nil, All-replicate, All-tail}
use Rattle.std.proofs.lemmas.List.{reverse-append}
use Rattle.fab_bits.specs.Bits.{bit_number, first_bits, number}
use Rattle.fab_model.specs.declared.mode.Mode.{Mode}
use Rattle.fab_model.specs.declared.mode.Mode.TheVariants as modes
use Rattle.fab_model.specs.Drive.{PlainBits}
use Rattle.fab_model.specs.Grid.{PlainFabric}
use Rattle.fab_model.specs.Tiles.{counted}
use Rattle.fab_fabric.specs.Fabric.{IsFabric}
use Rattle.fab_tile_drives_laws.proofs.Endings.{all_counted, all_flat_map}
use Rattle.fab_frames.specs.Positions.{chain_words}
use Rattle.fab_frames.specs.Stream.{Part, address_word, all_frames, column_parts, fixed, frame_parts, header, of_chain, of_row, parts, parts_in, placed_word, stream_mode, whole_chain, stream, synchronizing_words, waiting_word, waiting_words, word_of}

abbrev pub Fits : ℕ → Type 0
Fits word = word < 2 ^ 32

-- ---- rows

few : (bit : Bool) → bit_number bit ≤ 1
few true = omega arith
few false = omega arith

abbrev powers : ℕ → ℕ
powers zero = 1
powers (suc n) = 2 * powers n

bits_within : (n : ℕ) (f : ℕ → Bool) → number (first_bits n f) < powers n
bits_within zero f = omega arith
bits_within (suc n) f = omega (arith, few (f 0), bits_within n (λ place. f (suc place)))

pub placed_fits : {X : Type 0} (placed : ℕ → Option X) (bits : X → Bool) → Fits (placed_word placed bits)
unfolding placed_word
placed_fits placed bits = bits_within 32 (λ bit. option_map_or bits (placed bit) false)

-- ---- the stream

all_reversed : {X : Type 0} (P : X → Type 0) (xs : List X) → All P xs → All P (reverse xs)
all_reversed P [] each = each
all_reversed P (x ∷ xs) each =
    subst (All P) (sym (reverse-append (x ∷ []) xs))
    (All-append P (reverse xs) (x ∷ []) (all_reversed P xs (All-tail P x xs each)) (All-cons P x [] (All-head P x xs each) (All-nil P)))

module _ (fabric : PlainFabric) (is : IsFabric fabric) (bits : PlainBits) where
  abbrev PartFits : Part → Type 0
  PartFits part = Fits (word_of fabric bits part)

  header_fits : All PartFits (map fixed header)
  unfolding waiting_words
  header_fits =
      All-map PartFits fixed header
      (All-append Fits waiting_words synchronizing_words (All-replicate Fits 33 waiting_word (omega arith))
      (All-from_recursion Fits synchronizing_words (omega arith, (omega arith, (omega arith, (omega arith, (omega arith, tt)))))))

  frame_fits : (x frame : ℕ) → x < 32 → frame < 20 → All PartFits (frame_parts fabric x frame)
  frame_fits x frame few_x few_frames =
      All-cons PartFits (fixed (address_word x frame)) (counted fabric.rows (λ y. of_row x y frame)) (omega (arith, few_x, pow-lt few_frames))
      (all_counted PartFits fabric.rows (λ y. of_row x y frame) (λ y below. placed_fits _ _))

  column_fits : (x : ℕ) → x < 32 → All PartFits (column_parts fabric x)
  column_fits x few_x =
      all_flat_map PartFits (frame_parts fabric x) (counted 20 (λ frame. frame))
      (all_counted (λ frame. All PartFits (frame_parts fabric x frame)) 20 (λ frame. frame) (λ frame few_frames. frame_fits x frame few_x few_frames))

  frames_fit : All PartFits (all_frames fabric)
  frames_fit =
      let columns = flat_map (column_parts fabric) (counted fabric.columns (λ x. x)) in
      All-append PartFits (map fixed header) (columns ++ fixed waiting_word ∷ []) header_fits
      (All-append PartFits columns (fixed waiting_word ∷ [])
      (all_flat_map PartFits (column_parts fabric) (counted fabric.columns (λ x. x))
      (all_counted (λ x. All PartFits (column_parts fabric x)) fabric.columns (λ x. x) (λ x below. column_fits x (omega (arith, below, is.few_columns)))))
      (All-cons PartFits (fixed waiting_word) [] (omega arith) (All-nil PartFits)))

  chain_fits : All PartFits (whole_chain fabric)
  chain_fits = all_reversed PartFits (counted (chain_words fabric) of_chain) (all_counted PartFits (chain_words fabric) of_chain (λ word below. placed_fits _ _))

  mode_fits : (mode : Mode) → All PartFits (parts_in mode fabric)
  mode_fits modes.Frames = frames_fit
  mode_fits modes.Chain = chain_fits

  parts_fit : All PartFits (parts fabric)
  unfolding parts
  parts_fit = mode_fits (stream_mode fabric)

  pub words_fit : All Fits (stream fabric bits)
  unfolding stream
  words_fit = All-map Fits (word_of fabric bits) (parts fabric) parts_fit
