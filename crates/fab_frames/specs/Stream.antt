-- The bitstream of a fabric: the words, as numbers of 32 bits, that load its configuration bits.
use Rattle.std.specs.Prelude.{◌≡◌, ℕ, ◌+◌, ◌*◌, ◌^◌, ◌<◌, Bool, false, ◌&&◌, not, List, [], ◌∷◌, ◌++◌, map, replicate, reverse, position, nat_eq, slice_get, slice_index_or, is_some, Option, Some, None, if◌then◌else◌}
use Rattle.std.specs.List.{flat_map, list_any}
use Rattle.std.specs.Option.{option_map_or, option_and_then}
use Rattle.fab_base.specs.declared.words.Reason.{Reason}
use Rattle.fab_base.specs.declared.words.Reason.TheVariants as reasons
use Rattle.fab_bits.specs.Bits.{number, digits, first_bits}
use Rattle.fab_model.specs.declared.mode.Mode.{Mode}
use Rattle.fab_model.specs.declared.mode.Mode.TheVariants as modes
use Rattle.fab_model.specs.Tiles.{PlainTile, counted}
use Rattle.fab_model.specs.Grid.{PlainFabric, tile_at}
use Rattle.fab_model.specs.Drive.{PlainBits}
use Rattle.fab_frames.specs.Positions.{bit_in, placed_in_chain, chain_words}

-- The mode in which the words come. No law rests on more than that it is one of both.
unfoldable pub stream_mode : PlainFabric → Mode
stream_mode fabric = fabric.mode

-- ---- frames: words that are the same for all configurations

-- Bit 20 of a word in an address' place sets the loader waiting. In every state it takes at most 32 words as rows, so the next one does.
abbrev pub waiting_word : ℕ
waiting_word = 1048576

-- FAB0FAB1 wakes the loader. The loader has the word by itself (`wake_word` of fab_gen_loader), so that the two cannot be wrong together.
abbrev pub synchronizing_word : ℕ
synchronizing_word = 4205902513

-- so the last of these sets it waiting, whatever its state was
unfoldable pub waiting_words : List ℕ
waiting_words = replicate 33 waiting_word

-- what stands between these and the first address
abbrev pub synchronizing_words : List ℕ
synchronizing_words = 11206401 ∷ 1 ∷ 0 ∷ 0 ∷ synchronizing_word ∷ []

abbrev pub header : List ℕ
header = waiting_words ++ synchronizing_words

-- the column in the five high bits, and the bit of the frame
abbrev pub address_word : (x frame : ℕ) → ℕ
address_word x frame = x * 2 ^ 27 + 2 ^ frame

-- ---- frames: words of rows

abbrev pub same_place : (first second : ℕ × ℕ) → Bool
same_place first second = nat_eq first.0 second.0 && nat_eq first.1 second.1

-- the configuration bit that the table of a tile places at a bit of a frame, if it places one there
abbrev pub placed_bit : (frame bit : ℕ) → PlainTile → Option ℕ
placed_bit frame bit tile = position (same_place (frame, bit)) tile.table

abbrev pub bit_placed_at : PlainFabric → (x y frame bit : ℕ) → Option ℕ
bit_placed_at fabric x y frame bit = option_and_then (placed_bit frame bit) (tile_at fabric x y)

-- The word that has at each bit the configuration bit that is placed there, else 0. In frames a configuration bit is told by its number
-- in the tile, in a chain by its place in the fabric.
unfoldable pub placed_word : {X : Type 0} → (placed : ℕ → Option X) → (bits : X → Bool) → ℕ
placed_word placed bits = number (first_bits 32 (λ bit. option_map_or bits (placed bit) false))

-- the word of a row of a frame
abbrev pub row_word : PlainFabric → PlainBits → (x y frame : ℕ) → ℕ
row_word fabric bits x y frame = placed_word (bit_placed_at fabric x y frame) (bits x y)

-- ---- the stream

-- a word of a stream: the same for all configurations, that of a row of a frame, or that of a chain with a number, which counts from the last
pub data Part : Type 0 where
  fixed : (word : ℕ) → Part
  of_row : (x y frame : ℕ) → Part
  of_chain : (word : ℕ) → Part

-- a frame has its address and then a word for each row of the grid, from the top
abbrev pub frame_parts : PlainFabric → (x frame : ℕ) → List Part
frame_parts fabric x frame = fixed (address_word x frame) ∷ counted fabric.rows (λ y. of_row x y frame)

-- a column has 20 frames
abbrev pub column_parts : PlainFabric → (x : ℕ) → List Part
column_parts fabric x = flat_map (frame_parts fabric x) (counted 20 (λ frame. frame))

-- in frames the header comes first, then column by column, and behind all columns a word that sets the loader waiting
abbrev pub all_frames : PlainFabric → List Part
all_frames fabric = map fixed header ++ (flat_map (column_parts fabric) (counted fabric.columns (λ x. x)) ++ fixed waiting_word ∷ [])

-- in a chain the word of the last positions comes first, and has furthest to go
abbrev pub whole_chain : PlainFabric → List Part
whole_chain fabric = reverse (counted (chain_words fabric) of_chain)

abbrev pub parts_in : Mode → PlainFabric → List Part
parts_in modes.Frames fabric = all_frames fabric
parts_in modes.Chain fabric = whole_chain fabric

unfoldable pub parts : PlainFabric → List Part
parts fabric = parts_in (stream_mode fabric) fabric

abbrev pub word_of : PlainFabric → PlainBits → Part → ℕ
word_of fabric bits (fixed word) = word
word_of fabric bits (of_row x y frame) = row_word fabric bits x y frame
word_of fabric bits (of_chain word) = placed_word (placed_in_chain fabric word) (bit_in bits)

unfoldable pub stream : PlainFabric → PlainBits → List ℕ
stream fabric bits = map (word_of fabric bits) (parts fabric)

-- ---- words that are no stream

-- the bits of a word, from the least significant
unfoldable pub word_bit : (word bit : ℕ) → Bool
word_bit word bit = slice_index_or (digits 32 word) bit false

-- whether a bit of a word is 1 where no configuration bit is placed
unfoldable pub has_spare : {X : Type 0} → (placed : ℕ → Option X) → (word : ℕ) → Bool
has_spare placed word = list_any (λ bit. word_bit word bit && not (is_some (placed bit))) (counted 32 (λ bit. bit))

abbrev pub has_spare_bit : PlainFabric → (x y frame word : ℕ) → Bool
has_spare_bit fabric x y frame word = has_spare (bit_placed_at fabric x y frame) word

abbrev pub part_problem : PlainFabric → Part → (word : ℕ) → Option Reason
part_problem fabric (fixed expected) word = if nat_eq word expected then None else Some reasons.Stream
part_problem fabric (of_row x y frame) word = if has_spare_bit fabric x y frame word then Some reasons.SpareBit else None
part_problem fabric (of_chain number) word = if has_spare (placed_in_chain fabric number) word then Some reasons.SpareBit else None

-- why the word in a place is refused: it is wrong, or missing, or stands behind the last
abbrev pub problem_of : PlainFabric → Option Part → (word : Option ℕ) → Option Reason
problem_of fabric None None = None
problem_of fabric None (Some word) = Some reasons.Stream
problem_of fabric (Some part) None = Some reasons.Stream
problem_of fabric (Some part) (Some word) = part_problem fabric part word

abbrev pub problem_at : PlainFabric → (words : List ℕ) → (place : ℕ) → Option Reason
problem_at fabric words place = problem_of fabric (slice_get (parts fabric) place) (slice_get words place)

-- the first word that is refused, its place counted from 0
pub record IsFirstWrong (fabric : PlainFabric) (words : List ℕ) (place : ℕ) (reason : Reason) : Type 0 where
  pub wrong : problem_at fabric words place ≡ Some reason
  pub before : (earlier : ℕ) → earlier < place → problem_at fabric words earlier ≡ None
