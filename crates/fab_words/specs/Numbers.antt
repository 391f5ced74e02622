-- Numbers as values of options.
use Rattle.std.specs.Prelude.{ℕ, Bool, List, length, nat_le, ◌&&◌, Option, Some, None, option_map, if◌then◌else◌}
use Rattle.std.specs.List.{list_all}
use Rattle.fab_lines.specs.Numbers.{is_digit, number_of}

-- one to twenty decimal digits; zeros may lead
abbrev pub is_decimal : List ℕ → Bool
is_decimal word = nat_le 1 (length word) && nat_le (length word) 20 && list_all is_digit word

-- the number that the word writes, where it is one from `least` to `most`
abbrev pub number_within : (least most : ℕ) → (word : List ℕ) → Option ℕ
number_within least most word = if is_decimal word && nat_le least (number_of word) && nat_le (number_of word) most then Some (number_of word) else None

-- any number of 64 bits
abbrev pub any_number : (word : List ℕ) → Option ℕ
any_number word = number_within 0 18446744073709551615 word

-- the size of a sample, from 2 to 16
abbrev pub size_of : (word : List ℕ) → Option ℕ
size_of word = number_within 2 16 word

-- a column of a fabric, from 0 to 31
abbrev pub column_of : (word : List ℕ) → Option ℕ
column_of word = number_within 0 31 word

-- the number that an option gives; without it the usual one
abbrev pub number_or : (usual least most : ℕ) → (value : Option (List ℕ)) → Option ℕ
number_or usual least most None = Some usual
number_or usual least most (Some word) = number_within least most word

-- the seed that the value of `--seed N` writes, any number of 64 bits; without the option 1
abbrev pub seed_of : (value : Option (List ℕ)) → Option ℕ
seed_of value = number_or 1 0 18446744073709551615 value

-- the number of rounds that the value of `--rounds N` writes, from 1 to 64; without the option 32
abbrev pub rounds_of : (value : Option (List ℕ)) → Option ℕ
rounds_of value = number_or 32 1 64 value

-- the seed that the value of `--order SEED` writes, any number of 64 bits; without the option there is none
abbrev pub order_of : (value : Option (List ℕ)) → Option (Option ℕ)
order_of None = Some None
order_of (Some word) = option_map (λ seed. Some seed) (any_number word)
