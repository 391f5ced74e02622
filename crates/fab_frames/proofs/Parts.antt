-- The parts of a stream as the code makes them.
use Rattle.std.proofs.Common.{◌≡◌, ℕ, ◌+◌, ◌/◌, ◌<◌, ◌≤◌, List, [], ◌∷◌, ◌++◌, Some, length, map, reverse, replicate, slice_get, get_or, take, option_map, refl, sym, ap, ◌∙◌, arith, append_assoc}
use Rattle.std.specs.Int.{div_ceil}
use Rattle.std.specs.List.{flat_map}
use Rattle.std.proofs.lemmas.List.{append-nil, map-append, map_more, map_push, replicate_more, take_all, length-map}
use Rattle.std.proofs.lemmas.Option.{slice_get-map, slice_get-get_or}
use Rattle.fab_model.specs.declared.mode.Mode.{Mode}
use Rattle.fab_model.specs.declared.mode.Mode.TheVariants as modes
use Rattle.fab_model.specs.Drive.{PlainBits}
use Rattle.fab_model.specs.Tiles.{counted}
use Rattle.fab_model.specs.Grid.{PlainFabric}
use Rattle.fab_frames.specs.Positions.{chain}
use Rattle.fab_frames.specs.Stream.{stream_mode, Part, fixed, waiting_word, waiting_words, synchronizing_words, header, of_chain, column_parts, all_frames, parts, word_of, stream}
use Rattle.fab_frames.specs.inner.Taking.{plain_part, IsWithin}
use Rattle.fab_frames.specs.declared.plan.Part.{Part as CodePart}
use Rattle.fab_frames.proofs.Lists.{counted_more, no_counted, pieces_more, no_pieces, reversed_more}
use Rattle.fab_frames.proofs.Modes.{frames_parts, chain_parts}
use Rattle.fab_frames.proofs.Standing.{part_within}

-- one part more
pub part_put : (parts new : List CodePart) (part : CodePart) (before tail : List Part) → map plain_part parts ≡ before ++ tail → new ≡ parts ++ part ∷ [] →
    map plain_part new ≡ before ++ (tail ++ plain_part part ∷ [])
part_put parts new part before tail so_far new_is =
    ap (map plain_part) new_is ∙ map_push plain_part parts part ∙ ap (λ ps. ps ++ plain_part part ∷ []) so_far ∙ append_assoc before tail (plain_part part ∷ [])

-- parts more
pub parts_put : (parts new : List CodePart) (before tail more : List Part) → map plain_part parts ≡ before ++ tail → map plain_part new ≡ map plain_part parts ++ more →
    map plain_part new ≡ before ++ (tail ++ more)
parts_put parts new before tail more so_far new_is = new_is ∙ ap (λ ps. ps ++ more) so_far ∙ append_assoc before tail more

-- none yet
pub none_put : (parts : List CodePart) (tail : List Part) → tail ≡ [] → map plain_part parts ≡ map plain_part parts ++ tail
none_put parts tail is = sym (ap (λ ps. map plain_part parts ++ ps) is ∙ append-nil (map plain_part parts))

waiting_more : (n : ℕ) → map fixed (replicate n waiting_word) ++ fixed waiting_word ∷ [] ≡ map fixed (replicate (n + 1) waiting_word)
waiting_more n = sym (map_push fixed (replicate n waiting_word) waiting_word) ∙ ap (map fixed) (replicate_more n waiting_word)

-- one waiting word more
pub waiting_put : (parts new : List CodePart) (part : CodePart) (before : List Part) (n : ℕ) → map plain_part parts ≡ before ++ map fixed (replicate n waiting_word) → new ≡ parts ++ part ∷ [] →
    plain_part part ≡ fixed waiting_word → map plain_part new ≡ before ++ map fixed (replicate (n + 1) waiting_word)
waiting_put parts new part before n so_far new_is part_is =
    part_put parts new part before (map fixed (replicate n waiting_word)) so_far new_is
    ∙ ap (λ p. before ++ (map fixed (replicate n waiting_word) ++ p ∷ [])) part_is
    ∙ ap (λ ps. before ++ ps) (waiting_more n)

pub all_waiting : (before : List Part) (n : ℕ) → n ≡ 33 → before ++ map fixed (replicate n waiting_word) ≡ before ++ map fixed waiting_words
unfolding waiting_words
all_waiting before n is = ap (λ k. before ++ map fixed (replicate k waiting_word)) is

-- one row more
pub row_put : (parts new : List CodePart) (part : CodePart) (before : List Part) (first : Part) (n : ℕ) (f : ℕ → Part) → map plain_part parts ≡ before ++ first ∷ counted n f → new ≡ parts ++ part ∷ [] →
    plain_part part ≡ f n → map plain_part new ≡ before ++ first ∷ counted (n + 1) f
row_put parts new part before first n f so_far new_is part_is =
    part_put parts new part before (first ∷ counted n f) so_far new_is
    ∙ ap (λ p. before ++ first ∷ (counted n f ++ p ∷ [])) part_is
    ∙ ap (λ ps. before ++ first ∷ ps) (sym (counted_more n f))

-- a part in front of rows, of which there are none yet
pub address_put : (parts new : List CodePart) (part : CodePart) (first : Part) (f : ℕ → Part) → new ≡ parts ++ part ∷ [] → plain_part part ≡ first →
    map plain_part new ≡ map plain_part parts ++ first ∷ counted 0 f
address_put parts new part first f new_is part_is =
    ap (map plain_part) new_is ∙ map_push plain_part parts part ∙ ap (λ p. map plain_part parts ++ p ∷ []) part_is ∙ ap (λ ps. map plain_part parts ++ first ∷ ps) (sym (no_counted f))

-- one piece more
pub piece_put : (parts new : List CodePart) (before : List Part) (g : ℕ → List Part) (n : ℕ) → map plain_part parts ≡ before ++ flat_map g (counted n (λ i. i)) →
    map plain_part new ≡ map plain_part parts ++ g n → map plain_part new ≡ before ++ flat_map g (counted (n + 1) (λ i. i))
piece_put parts new before g n so_far new_is =
    parts_put parts new before (flat_map g (counted n (λ i. i))) (g n) so_far new_is ∙ ap (λ ps. before ++ ps) (sym (pieces_more g n (λ i. i)))

pub no_piece_behind : (parts : List CodePart) (before : List Part) (g : ℕ → List Part) → map plain_part parts ≡ before → map plain_part parts ≡ before ++ flat_map g (counted 0 (λ i. i))
no_piece_behind parts before g is = is ∙ sym (ap (λ ps. before ++ ps) (no_pieces g (λ i. i)) ∙ append-nil before)

pub no_piece_put : (parts : List CodePart) (g : ℕ → List Part) → map plain_part parts ≡ map plain_part parts ++ flat_map g (counted 0 (λ i. i))
no_piece_put parts g = none_put parts (flat_map g (counted 0 (λ i. i))) (no_pieces g (λ i. i))

-- what stands before the first address
pub header_put : (empty first second : List CodePart) → empty ≡ [] → map plain_part first ≡ map plain_part empty ++ map fixed waiting_words →
    map plain_part second ≡ map plain_part first ++ map fixed synchronizing_words → map plain_part second ≡ map fixed header
header_put empty first second is first_is second_is =
    second_is
    ∙ ap (λ ps. ps ++ map fixed synchronizing_words) (first_is ∙ ap (λ ps. map plain_part ps ++ map fixed waiting_words) is)
    ∙ sym (map-append fixed waiting_words synchronizing_words)

-- the last word behind all columns
pub all_put : (fabric : PlainFabric) (found new : List CodePart) (part : CodePart) (n : ℕ) → map plain_part found ≡ map fixed header ++ flat_map (column_parts fabric) (counted n (λ x. x)) →
    n ≡ fabric.columns → new ≡ found ++ part ∷ [] → plain_part part ≡ fixed waiting_word → map plain_part new ≡ all_frames fabric
all_put fabric found new part n so_far all new_is part_is =
    part_put found new part (map fixed header) (flat_map (column_parts fabric) (counted n (λ x. x))) so_far new_is
    ∙ ap (λ p. map fixed header ++ (flat_map (column_parts fabric) (counted n (λ x. x)) ++ p ∷ [])) part_is
    ∙ ap (λ k. map fixed header ++ (flat_map (column_parts fabric) (counted k (λ x. x)) ++ fixed waiting_word ∷ [])) all

-- ---- parts of the code's plan

-- the part at a place
pub part_at : (fabric : PlainFabric) (found : List CodePart) (i : ℕ) (d : CodePart) → map plain_part found ≡ parts fabric → i < length found → slice_get (parts fabric) i ≡ Some (plain_part (get_or found i d))
part_at fabric found i d is few =
    ap (λ ps. slice_get ps i) (sym is) ∙ slice_get-map plain_part found i ∙ ap (option_map plain_part) (slice_get-get_or found i d few)

pub word_part_within : (fabric : PlainFabric) (read found : List CodePart) (i : ℕ) (d : CodePart) → read ≡ found → map plain_part found ≡ parts fabric → i < length read → IsWithin fabric (plain_part (get_or read i d))
word_part_within fabric read found i d read_is is few = part_within fabric i (plain_part (get_or read i d)) (part_at fabric read i d (ap (map plain_part) read_is ∙ is) few)

map_both : (fabric : PlainFabric) (bits : PlainBits) (found : List CodePart) → map (λ part. word_of fabric bits (plain_part part)) found ≡ map (word_of fabric bits) (map plain_part found)
map_both fabric bits [] = refl
map_both fabric bits (part ∷ found) = ap (λ ws. word_of fabric bits (plain_part part) ∷ ws) (map_both fabric bits found)

-- the words of all parts
pub all_words : (fabric : PlainFabric) (bits : PlainBits) (read found : List CodePart) (words : List ℕ) (n : ℕ) → read ≡ found → map plain_part found ≡ parts fabric → length read ≤ n →
    words ≡ map (λ part. word_of fabric bits (plain_part part)) (take n read) → words ≡ stream fabric bits
unfolding stream
all_words fabric bits read found words n read_is is all words_are =
    words_are
    ∙ ap (map (λ part. word_of fabric bits (plain_part part))) (take_all n read all ∙ read_is)
    ∙ map_both fabric bits found
    ∙ ap (map (word_of fabric bits)) is

pub parts_length : (fabric : PlainFabric) (read found : List CodePart) → read ≡ found → map plain_part found ≡ parts fabric → length read ≡ length (parts fabric)
parts_length fabric read found read_is is = ap length read_is ∙ sym (length-map found plain_part) ∙ ap length is

-- the part at a place, as it is read
pub part_read : (fabric : PlainFabric) (read found : List CodePart) (i : ℕ) (d : CodePart) → read ≡ found → map plain_part found ≡ parts fabric → i < length read →
    slice_get (parts fabric) i ≡ Some (plain_part (get_or read i d))
part_read fabric read found i d read_is is few = part_at fabric read i d (ap (map plain_part) read_is ∙ is) few

-- ---- both modes

pub all_of_frames : (fabric : PlainFabric) (mode : Mode) (found : List CodePart) → mode ≡ stream_mode fabric → mode ≡ modes.Frames → map plain_part found ≡ all_frames fabric → map plain_part found ≡ parts fabric
all_of_frames fabric mode found told is found_is = found_is ∙ sym (frames_parts fabric (sym told ∙ is))

pub all_of_chain : (fabric : PlainFabric) (mode : Mode) (found : List CodePart) (positions words : ℕ) → mode ≡ stream_mode fabric → mode ≡ modes.Chain →
    (stream_mode fabric ≡ modes.Chain → positions ≡ length (chain fabric)) → words ≡ div_ceil positions 32 → map plain_part found ≡ reverse (counted words of_chain) → map plain_part found ≡ parts fabric
all_of_chain fabric mode found positions words told is many words_is found_is =
    let chained : stream_mode fabric ≡ modes.Chain = sym told ∙ is in
    let rounded : words ≡ (positions + 31) / 32 = omega (arith, words_is) in
    found_is ∙ ap (λ n. reverse (counted n of_chain)) (rounded ∙ ap (λ n. (n + 31) / 32) (many chained)) ∙ sym (chain_parts fabric chained)

-- one word of a chain more, the next one down
pub chain_word_put : (found new : List CodePart) (part : CodePart) (whole : List Part) (n : ℕ) → map plain_part found ++ reverse (counted (n + 1) of_chain) ≡ whole → new ≡ found ++ part ∷ [] →
    plain_part part ≡ of_chain n → map plain_part new ++ reverse (counted n of_chain) ≡ whole
chain_word_put found new part whole n so_far new_is part_is =
    ap (λ ps. ps ++ reverse (counted n of_chain)) (ap (map plain_part) new_is ∙ map_push plain_part found part) ∙ reversed_more n of_chain (map plain_part found) whole (plain_part part) so_far part_is

pub whole_chain_put : (found : List CodePart) (whole : List Part) (n : ℕ) → n ≡ 0 → map plain_part found ++ reverse (counted n of_chain) ≡ whole → map plain_part found ≡ whole
whole_chain_put found whole n none so_far =
    sym (append-nil (map plain_part found)) ∙ ap (λ rest. map plain_part found ++ rest) (sym (ap (λ k. reverse (counted k of_chain)) none ∙ ap reverse (no_counted of_chain))) ∙ so_far

-- ---- words that wake the loader

pub synchronizing_put : (found new : List CodePart) (part : CodePart) (before : List Part) (n d : ℕ) → map plain_part found ≡ before ++ map fixed (take n synchronizing_words) → new ≡ found ++ part ∷ [] →
    n < 5 → plain_part part ≡ fixed (get_or synchronizing_words n d) → map plain_part new ≡ before ++ map fixed (take (n + 1) synchronizing_words)
synchronizing_put found new part before n d so_far new_is few part_is =
    part_put found new part before (map fixed (take n synchronizing_words)) so_far new_is
    ∙ ap (λ p. before ++ (map fixed (take n synchronizing_words) ++ p ∷ [])) part_is
    ∙ ap (λ ps. before ++ ps) (sym (map_more fixed synchronizing_words n d few))
