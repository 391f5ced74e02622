-- Words of 32 bits as bytes.
use Rattle.std.specs.Prelude.{ℕ, ◌/◌, ◌%◌, ◌^◌, List, [], ◌∷◌}

-- the most significant byte first
abbrev pub word_bytes : (word : ℕ) → List ℕ
word_bytes word = word / 2 ^ 24 % 256 ∷ word / 2 ^ 16 % 256 ∷ word / 2 ^ 8 % 256 ∷ word % 256 ∷ []
