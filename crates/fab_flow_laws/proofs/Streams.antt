-- Bits that are the same at each place of a fabric have one bitstream.
use Rattle.std.proofs.Common.{◌≡◌, ◌<◌, ◌+◌, ◌*◌, ◌^◌, ℕ, false, List, [], ◌∷◌, Option, Some, None, arith, drop, get_or, map, take, refl, ap, subst}
use Rattle.std.specs.List.{flat_map}
use Rattle.std.specs.Option.{option_and_then, option_map_or}
use Rattle.std.proofs.lemmas.List.Elements.{All-cons, All-nil}
use Rattle.fab_bits.specs.Bits.{number}
use Rattle.fab_bits.proofs.Numbers.{first_bits_same}
use Rattle.fab_model.specs.Tiles.{PlainTile, tile_bits}
use Rattle.fab_model.specs.Grid.{PlainFabric, tile_at}
use Rattle.fab_model.specs.Drive.{PlainBits}
use Rattle.fab_fabric.specs.Fabric.{IsFabric}
use Rattle.fab_frames.specs.declared.positions.BitPlace.{BitPlace}
use Rattle.fab_frames.specs.Positions.{bit_in, placed_in_chain}
use Rattle.fab_frames.specs.Stream.{Part, bit_placed_at, fixed, of_chain, of_row, parts, placed_bit, placed_word, row_word, stream, word_of}
use Rattle.fab_frames.specs.Bytes.{word_bytes}
use Rattle.fab_frames.proofs.ByteWords.{all_fit, bytes_tell_words}
use Rattle.fab_frames.proofs.Chains.{IsBitOf, position_found}
use Rattle.fab_frames.proofs.Mapped.{tile_has_table}
use Rattle.fab_frames.proofs.Placed.{placed_below}
use Rattle.fab_flow_laws.specs.BitsLaws.{HaveSameBits}
use Rattle.fab_flow_laws.proofs.Words.{placed_fits}

module _ (fabric : PlainFabric) (is : IsFabric fabric) (first second : PlainBits) (same : HaveSameBits fabric first second) where
  placed_same : (x y frame bit : ℕ) (found : Option PlainTile) → tile_at fabric x y ≡ found →
      option_map_or (first x y) (option_and_then (placed_bit frame bit) found) false ≡ option_map_or (second x y) (option_and_then (placed_bit frame bit) found) false
  placed_same x y frame bit None tile_is = refl
  placed_same x y frame bit (Some tile) tile_is = numbered (placed_bit frame bit tile) refl
    where
      numbered : (number : Option ℕ) → placed_bit frame bit tile ≡ number → option_map_or (first x y) number false ≡ option_map_or (second x y) number false
      numbered None number_is = refl
      numbered (Some number) number_is = same x y number tile tile_is (placed_below tile frame bit number (tile_has_table fabric x y tile is tile_is) number_is)

  row_same : (x y frame : ℕ) → row_word fabric first x y frame ≡ row_word fabric second x y frame
  unfolding placed_word
  row_same x y frame =
      ap number (first_bits_same 32 (λ bit. option_map_or (first x y) (bit_placed_at fabric x y frame bit) false) (λ bit. option_map_or (second x y) (bit_placed_at fabric x y frame bit) false)
      (λ bit few. placed_same x y frame bit (tile_at fabric x y) refl))

  -- a bit of the chain is one of a tile
  bit_same : (at : BitPlace) → IsBitOf fabric at → bit_in first at ≡ bit_in second at
  bit_same at of = stands (tile_at fabric at.x at.y) refl
    where
      stands : (found : Option PlainTile) → tile_at fabric at.x at.y ≡ found → bit_in first at ≡ bit_in second at
      stands None tile_is = absurd (let few = subst (λ (tile : Option PlainTile). at.bit < option_map_or tile_bits tile 0) tile_is of.number in omega (arith, few))
      stands (Some tile) tile_is = same at.x at.y at.bit tile tile_is (subst (λ (tile : Option PlainTile). at.bit < option_map_or tile_bits tile 0) tile_is of.number)

  in_chain_same : (word bit : ℕ) (found : Option BitPlace) → placed_in_chain fabric word bit ≡ found → option_map_or (bit_in first) found false ≡ option_map_or (bit_in second) found false
  in_chain_same word bit None found_is = refl
  in_chain_same word bit (Some at) found_is = bit_same at (position_found fabric (32 * word + bit) at found_is).is

  chain_same : (word : ℕ) → placed_word (placed_in_chain fabric word) (bit_in first) ≡ placed_word (placed_in_chain fabric word) (bit_in second)
  unfolding placed_word
  chain_same word =
      ap number (first_bits_same 32 (λ bit. option_map_or (bit_in first) (placed_in_chain fabric word bit) false) (λ bit. option_map_or (bit_in second) (placed_in_chain fabric word bit) false)
      (λ bit few. in_chain_same word bit (placed_in_chain fabric word bit) refl))

  word_same : (part : Part) → word_of fabric first part ≡ word_of fabric second part
  word_same (fixed word) = refl
  word_same (of_row x y frame) = row_same x y frame
  word_same (of_chain word) = chain_same word

  words_same : (list : List Part) → map (word_of fabric first) list ≡ map (word_of fabric second) list
  words_same [] = refl
  words_same (part ∷ list) = λ j. word_same part j ∷ words_same list j

  pub stream_same : stream fabric first ≡ stream fabric second
  unfolding stream
  stream_same = words_same (parts fabric)

-- ---- from the bytes

-- the bytes of a word of 32 bits say it
one_word : (first second : ℕ) → first < 2 ^ 32 → second < 2 ^ 32 → word_bytes first ≡ word_bytes second → first ≡ second
one_word first second few low same =
    let fits : (word : ℕ) → word < 2 ^ 32 → (k : ℕ) → get_or (word ∷ []) k 0 < 2 ^ 32 =
    λ word is. all_fit (word ∷ []) (All-cons (λ (w : ℕ). w < 2 ^ 32) word [] is (All-nil (λ (w : ℕ). w < 2 ^ 32))) in
    ap (λ (words : List ℕ). get_or words 0 0) (bytes_tell_words (first ∷ []) (second ∷ []) (fits first few) (fits second low) same)

module _ (fabric : PlainFabric) (first second : PlainBits) where
  part_told : (part : Part) → word_bytes (word_of fabric first part) ≡ word_bytes (word_of fabric second part) → word_of fabric first part ≡ word_of fabric second part
  part_told (fixed word) same = refl
  part_told (of_row x y frame) same =
      one_word (row_word fabric first x y frame) (row_word fabric second x y frame) (placed_fits (bit_placed_at fabric x y frame) (first x y)) (placed_fits (bit_placed_at fabric x y frame) (second x y)) same
  part_told (of_chain word) same =
      let placed = placed_in_chain fabric word in
      one_word (placed_word placed (bit_in first)) (placed_word placed (bit_in second)) (placed_fits placed (bit_in first)) (placed_fits placed (bit_in second)) same

  words_told : (list : List Part) → flat_map word_bytes (map (word_of fabric first) list) ≡ flat_map word_bytes (map (word_of fabric second) list) →
      map (word_of fabric first) list ≡ map (word_of fabric second) list
  words_told [] same = refl
  words_told (part ∷ list) same = λ j. part_told part (ap (take 4) same) j ∷ words_told list (ap (drop 4) same) j

  -- bitstreams of the same bytes are the same
  pub stream_told : flat_map word_bytes (stream fabric first) ≡ flat_map word_bytes (stream fabric second) → stream fabric first ≡ stream fabric second
  unfolding stream
  stream_told same = words_told (parts fabric) same
