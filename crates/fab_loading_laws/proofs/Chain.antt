-- Tiles one behind the other are one chain, and the words of a bitstream load it.
use Rattle.std.proofs.Common.{◌≡◌, ℕ, zero, suc, ◌+◌, ◌*◌, ◌≤◌, Bool, false, List, [], ◌∷◌, ◌++◌, length, map, reverse, take, slice_get, refl, ap, ap₂, sym, ◌∙◌, arith, append_assoc}
use Rattle.std.specs.List.{flat_map}
use Rattle.std.specs.Option.{option_map_or}
use Rattle.std.proofs.lemmas.List.{length-map, length-take-le, take-take, take_all, take-append-le, reverse-append, reverse-reverse, map-append}
use Rattle.fab_bits.specs.Bits.{number, digits, first_bits}
use Rattle.fab_bits.proofs.Numbers.{length_first_bits, first_bits_same, take_first_bits}
use Rattle.fab_gen_loader.specs.fab_model.specs.Tiles.{tile_bits, counted}
use Rattle.fab_gen_loader.specs.fab_model.specs.Grid.{PlainFabric}
use Rattle.fab_gen_loader.specs.fab_model.specs.Drive.{PlainBits}
use Rattle.fab_frames.specs.fab_fabric.specs.Places.{PlacedTile, placed_tiles}
use Rattle.fab_frames.specs.Positions.{bit_place, bit_in, tile_chain, chain, chain_words}
use Rattle.fab_frames.specs.Stream.{Part, of_chain, placed_word, word_of, stream}
use Rattle.fab_frames.proofs.Lists.{no_counted, reversed_last}
use Rattle.fab_frames.proofs.Modes.{chain_parts}
use Rattle.fab_frames.proofs.Numbers.{digits_number}
use Rattle.fab_loading_laws.specs.Chain.{shifted, after_bits, chain_out, TilesAreOneChain, chain_bits, stream_bits, ChainLoads}
use Rattle.fab_loading_laws.proofs.Columns.{map_counted}

-- ---- tiles one behind the other

-- the bit behind which another chain stands comes out
both_shifted : (bit : Bool) (front back : List Bool) → shifted (front ++ back) bit ≡ shifted front bit ++ shifted back (chain_out bit front)
both_shifted bit [] back = refl
both_shifted bit (first ∷ front) back = ap (λ rest. bit ∷ rest) (both_shifted first front back)

pub one_chain : TilesAreOneChain
one_chain comes held offered [] handed = refl
one_chain comes held offered (placed ∷ tiles) handed =
    ap₂ (λ front back. front ++ back) (ap (shifted (held placed)) handed.0) (one_chain comes held (chain_out offered (held placed)) tiles handed.1)
    ∙ sym (both_shifted offered (held placed) (flat_map held tiles))

-- ---- bits that come in

-- only the first bits count of what stands behind others
take_behind : (n m : ℕ) (front back : List Bool) → n ≤ m → take n (front ++ take m back) ≡ take n (front ++ back)
take_behind n m [] back few = take-take n m back few
take_behind zero m (bit ∷ front) back few = refl
take_behind (suc n) m (bit ∷ front) back few = ap (λ bits. bit ∷ bits) (take_behind n m front back (omega arith))

length_shifted : (held : List Bool) (bit : Bool) → length (shifted held bit) ≡ length held
length_shifted held bit = length-take-le (length held) (bit ∷ held) (omega arith)

-- the last bits that came in stand in front, the last of them first
after_is : (offered held : List Bool) → after_bits held offered ≡ take (length held) (reverse offered ++ held)
after_is [] held = sym (take_all (length held) held (omega arith))
after_is (bit ∷ offered) held =
    let n = length held in
    after_is offered (shifted held bit)
    ∙ ap (λ m. take m (reverse offered ++ shifted held bit)) (length_shifted held bit)
    ∙ take_behind n n (reverse offered) (bit ∷ held) (omega arith)
    ∙ ap (take n) (sym (append_assoc (reverse offered) (bit ∷ []) held) ∙ ap (λ front. front ++ held) (sym (reverse-append (bit ∷ []) offered)))

-- ---- lists of bits

digits_first : (n : ℕ) (f : ℕ → Bool) → digits n (number (first_bits n f)) ≡ first_bits n f
digits_first n f = ap (λ m. digits m (number (first_bits n f))) (sym (length_first_bits n f)) ∙ digits_number (first_bits n f)

first_bits_both : (n m : ℕ) (f : ℕ → Bool) → first_bits n f ++ first_bits m (λ i. f (n + i)) ≡ first_bits (n + m) f
first_bits_both zero m f = first_bits_same m (λ i. f (0 + i)) f (λ i few. ap f (omega arith)) ∙ ap (λ k. first_bits k f) (omega arith)
first_bits_both (suc n) m f =
    ap (λ rest. f 0 ∷ (first_bits n (λ i. f (suc i)) ++ rest)) (first_bits_same m (λ i. f (suc n + i)) (λ i. f (suc (n + i))) (λ i few. ap f (omega arith)))
    ∙ ap (λ rest. f 0 ∷ rest) (first_bits_both n m (λ i. f (suc i)))
    ∙ ap (λ k. first_bits k f) (let more : suc (n + m) ≡ suc n + m = omega arith in more)

-- what a list has at its places
all_there : {X : Type 0} (f : X → Bool) (xs : List X) → first_bits (length xs) (λ i. option_map_or f (slice_get xs i) false) ≡ map f xs
all_there f [] = refl
all_there f (x ∷ xs) = ap (λ rest. f x ∷ rest) (all_there f xs)

-- ---- the words of a bitstream

module _ (fabric : PlainFabric) (bits : PlainBits) where
  -- the bit at a position, and 0 behind the last
  abbrev bit_at_position : ℕ → Bool
  bit_at_position i = option_map_or (bit_in bits) (slice_get (chain fabric) i) false

  abbrev word_there : Part → List Bool
  word_there part = digits 32 (word_of fabric bits part)

  abbrev bits_down : List Part → List Bool
  bits_down parts = flat_map reverse (map (digits 32) (map (word_of fabric bits) parts))

  word_bits : (n : ℕ) → word_there (of_chain n) ≡ first_bits 32 (λ bit. bit_at_position (32 * n + bit))
  unfolding placed_word
  word_bits n = digits_first 32 (λ bit. bit_at_position (32 * n + bit))

  -- what words down from one give, turned round: the bits from position 0 on
  turned : (count : ℕ) → reverse (bits_down (reverse (counted count of_chain))) ≡ first_bits (32 * count) bit_at_position
  turned zero = ap (λ parts. reverse (bits_down (reverse parts))) (no_counted of_chain)
  turned (suc count) =
      let next : suc count ≡ count + 1 = omega arith in
      let both : 32 * count + 32 ≡ 32 * suc count = omega arith in
      ap (λ n. reverse (bits_down (reverse (counted n of_chain)))) next
      ∙ ap (λ parts. reverse (bits_down parts)) (reversed_last count of_chain)
      ∙ reverse-append (reverse (word_there (of_chain count))) (bits_down (reverse (counted count of_chain)))
      ∙ ap₂ (λ front back. front ++ back) (turned count) (reverse-reverse (word_there (of_chain count)) ∙ word_bits count)
      ∙ first_bits_both (32 * count) 32 bit_at_position
      ∙ ap (λ k. first_bits k bit_at_position) both

pub chain_loads : ChainLoads
unfolding stream
chain_loads fabric bits before mode =
    let held = chain_bits fabric before in
    let count = chain_words fabric in
    let at = bit_at_position fabric bits in
    let positions = length (chain fabric) in
    let long : length held ≡ positions = length-map (chain fabric) (bit_in before) in
    let enough : positions ≤ 32 * count = omega arith in
    let fits : positions ≤ length (first_bits (32 * count) at) = omega (arith, enough, length_first_bits (32 * count) at) in
    let offered : reverse (stream_bits fabric bits) ≡ first_bits (32 * count) at =
    ap (λ parts. reverse (bits_down fabric bits parts)) (chain_parts fabric mode) ∙ turned fabric bits count in
    after_is (stream_bits fabric bits) held
    ∙ (λ i. take (long i) (offered i ++ held))
    ∙ take-append-le positions (first_bits (32 * count) at) held fits
    ∙ take_first_bits positions (32 * count) at enough
    ∙ all_there (bit_in bits) (chain fabric)

-- ---- tile by tile

map_flat : {X Y Z : Type 0} (h : Y → Z) (g : X → List Y) (xs : List X) → map h (flat_map g xs) ≡ flat_map (λ x. map h (g x)) xs
map_flat h g [] = refl
map_flat h g (x ∷ xs) = map-append h (g x) (flat_map g xs) ∙ ap (λ rest. map h (g x) ++ rest) (map_flat h g xs)

same_flat : {X Y : Type 0} (f g : X → List Y) (xs : List X) → ((x : X) → f x ≡ g x) → flat_map f xs ≡ flat_map g xs
same_flat f g [] same = refl
same_flat f g (x ∷ xs) same = ap₂ (λ front back. front ++ back) (same x) (same_flat f g xs same)

-- the bits of a fabric are those of its tiles, one tile behind the other
pub bits_of_tiles : (fabric : PlainFabric) (bits : PlainBits) → chain_bits fabric bits ≡ flat_map (λ (placed : PlacedTile). counted (tile_bits placed.tile) (bits placed.x placed.y)) (placed_tiles fabric)
bits_of_tiles fabric bits =
    map_flat (bit_in bits) tile_chain (placed_tiles fabric)
    ∙ same_flat (λ placed. map (bit_in bits) (tile_chain placed)) (λ placed. counted (tile_bits placed.tile) (bits placed.x placed.y)) (placed_tiles fabric)
    (λ placed. map_counted (bit_in bits) (tile_bits placed.tile) (bit_place placed.x placed.y))
