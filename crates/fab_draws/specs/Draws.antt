-- The words that a generator gives, one after the other.
use Rattle.std.specs.Prelude.{ℕ, ◌+◌, ◌%◌, ◌==◌, Bool}
use Rattle.rand_core.specs.Pcg32Seed.{pcg32_seed}
use Rattle.rand_pcg.specs.Lcg.{Lcg, advance}
use Rattle.rand_pcg.specs.Pcg.{multiplier_64, pcg32, pcg32_of_seed}

-- the generator behind its first `count` words
unfoldable pub after : (count : ℕ) → Lcg → Lcg
after count generator = advance 64 multiplier_64 count generator

-- its word at a place, counted from 0
unfoldable pub word_at : Lcg → (place : ℕ) → ℕ
word_at generator place = (pcg32 (after place generator)).0

-- the generator that a seed starts
unfoldable pub generator_of : (seed : ℕ) → Lcg
generator_of seed = pcg32_of_seed (pcg32_seed 16 seed)

-- the words that are drawn from a seed, by their places
abbrev pub draws_of : (seed : ℕ) → (place : ℕ) → ℕ
draws_of seed = word_at (generator_of seed)

-- the words behind the first `count`, by their places from there on
abbrev pub behind : (count : ℕ) → (draws : ℕ → ℕ) → (place : ℕ) → ℕ
behind count draws place = draws (count + place)

-- whether a word that is drawn means 1
abbrev pub is_one : (word : ℕ) → Bool
is_one word = word % 2 == 1
