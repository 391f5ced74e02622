-- The bytes of a bitstream's words, as its file has them.
use Rattle.std.specs.Prelude.{◌≡◌, ◌<◌, ◌^◌, ℕ, List, All}
use Rattle.std.specs.List.{flat_map}
use Rattle.fab_frames.specs.Bytes.{word_bytes}

-- the words have 32 bits, and the bytes are theirs, the most significant byte of each first
pub record AreBytesOf (words bytes : List ℕ) : Type 0 where
  pub fit : All (λ word. word < 2 ^ 32) words
  pub bytes_are : bytes ≡ flat_map word_bytes words
