-- What the words of a stream leave in the configuration bits as they are taken.
use Rattle.std.specs.Prelude.{◌≡◌, ◌<◌, ℕ, Bool, List, Option, Some, None, length}
use Rattle.std.specs.Option.{option_map}
use Rattle.fab_model.specs.declared.mode.Mode.TheVariants as modes
use Rattle.fab_model.specs.Grid.{PlainFabric}
use Rattle.fab_fabric.specs.Bits.{plain_bits, column_bits, place_bits}
use Rattle.fab_frames.specs.Positions.{bit_place, bit_in, placed_in_chain, chain_words}
use Rattle.fab_frames.specs.Stream.{stream_mode, Part, fixed, of_row, of_chain, bit_placed_at, word_bit}
use Rattle.fab_frames.specs.declared.positions.BitPlace.{BitPlace}
use Rattle.fab_frames.specs.declared.plan.Part.{Part as CodePart}
use Rattle.fab_frames.specs.declared.plan.Part.TheVariants as code_parts

-- a part of the code's plan as a part of the stream
abbrev pub plain_part : CodePart → Part
plain_part (code_parts.Fixed word) = fixed word
plain_part (code_parts.Row x y frame) = of_row x y frame
plain_part (code_parts.Chain word) = of_chain word

-- the part is one of the fabric's mode, and is there
abbrev pub IsWithin : PlainFabric → Part → Type 0
IsWithin fabric (fixed word) = Unit {0}
IsWithin fabric (of_row x y frame) = (stream_mode fabric ≡ modes.Frames) × (x < fabric.columns) × (y < fabric.rows) × (frame < 20)
IsWithin fabric (of_chain word) = (stream_mode fabric ≡ modes.Chain) × (word < chain_words fabric)

-- the configuration bit that is placed at a bit of the word of a part, in either mode by its place in the fabric
abbrev pub placed_by : PlainFabric → Part → (bit : ℕ) → Option BitPlace
placed_by fabric (fixed word) bit = None
placed_by fabric (of_row x y frame) bit = option_map (bit_place x y) (bit_placed_at fabric x y frame bit)
placed_by fabric (of_chain word) bit = placed_in_chain fabric word bit

-- no bit that is placed is this bit
abbrev pub IsOther : (placed : ℕ → Option BitPlace) → BitPlace → Type 0
IsOther placed at = (bit : ℕ) → bit < 32 → placed bit ≡ Some at → ⊥

-- the configuration bits that are placed are the bits of a word, and all others are as before
pub record TakesBits (placed : ℕ → Option BitPlace) (word : ℕ) (old new : List (List (List Bool))) : Type 0 where
  pub same_columns : length new ≡ length old
  pub same_rows : (x : ℕ) → length (column_bits new x) ≡ length (column_bits old x)
  pub same_tiles : (x y : ℕ) → length (place_bits new x y) ≡ length (place_bits old x y)
  pub taken : (bit : ℕ) (at : BitPlace) → bit < 32 → placed bit ≡ Some at → bit_in (plain_bits new) at ≡ word_bit word bit
  pub kept : (at : BitPlace) → IsOther placed at → bit_in (plain_bits new) at ≡ bit_in (plain_bits old) at

-- a word is taken in the place of a part
abbrev pub TakesWord : PlainFabric → Part → (word : Option ℕ) → (old new : List (List (List Bool))) → Type 0
TakesWord fabric part None old new = ⊥
TakesWord fabric (fixed expected) (Some word) old new = new ≡ old
TakesWord fabric (of_row x y frame) (Some word) old new = TakesBits (placed_by fabric (of_row x y frame)) word old new
TakesWord fabric (of_chain number) (Some word) old new = TakesBits (placed_by fabric (of_chain number)) word old new
