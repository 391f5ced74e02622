-- The design and the stimulus of a sample, told from the words that are drawn for them.
use Rattle.std.specs.Prelude.{ℕ, ◌+◌, ◌-◌, ◌*◌, ◌%◌, Bool, List, map, nat_lt, if◌then◌else◌}
use Rattle.std.specs.List.{range_with_len}
use Rattle.fab_sample.specs.declared.net.Net.{Net}
use Rattle.fab_sample.specs.declared.net.Net.TheVariants as nets
use Rattle.fab_sample.specs.declared.design.Cover.{Cover}
use Rattle.fab_sample.specs.declared.design.Latch.{Latch}
use Rattle.fab_draws.specs.Draws.{behind, is_one}

-- the nets in their order: inputs, then latches, then covers
abbrev pub net_at : (size place : ℕ) → Net
net_at size place =
    if nat_lt place size then nets.Input place
    else if nat_lt place (2 * size) then nets.Latch (place - size)
    else nets.Cover (place - 2 * size)

-- A cover before which so many nets stand, by the four words that are drawn for it.
abbrev pub cover_of : (size known first second third table : ℕ) → Cover
cover_of size known first second third table = record {
  first = net_at size (first % known);
  second = net_at size (second % known);
  third = net_at size (third % known);
  table = table % 256;
}

abbrev pub drawn_cover : (size : ℕ) → (draws : ℕ → ℕ) → (number : ℕ) → Cover
drawn_cover size draws number =
    cover_of size (2 * size + number) (draws (4 * number)) (draws (4 * number + 1)) (draws (4 * number + 2)) (draws (4 * number + 3))

abbrev pub covers : (size : ℕ) → (draws : ℕ → ℕ) → List Cover
covers size draws = map (drawn_cover size draws) (range_with_len 0 (size * size))

-- a latch, by the two words that are drawn for it: the cover that it reads, and with what it begins
abbrev pub latch_of : (size cover initial : ℕ) → Latch
latch_of size cover initial = record { cover = cover % (size * size); initial = is_one initial }

abbrev pub drawn_latch : (size : ℕ) → (draws : ℕ → ℕ) → (number : ℕ) → Latch
drawn_latch size draws number = latch_of size (draws (2 * number)) (draws (2 * number + 1))

abbrev pub latches : (size : ℕ) → (draws : ℕ → ℕ) → List Latch
latches size draws = map (drawn_latch size draws) (range_with_len 0 size)

-- a line of a stimulus: a bit for each input
abbrev pub stimulus_line : (size : ℕ) → (draws : ℕ → ℕ) → List Bool
stimulus_line size draws = map (λ place. is_one (draws place)) (range_with_len 0 size)

abbrev pub drawn_line : (size : ℕ) → (draws : ℕ → ℕ) → (number : ℕ) → List Bool
drawn_line size draws number = stimulus_line size (behind (number * size) draws)

abbrev pub stimulus_lines : (size : ℕ) → (draws : ℕ → ℕ) → List (List Bool)
stimulus_lines size draws = map (drawn_line size draws) (range_with_len 0 16)

-- ---- what is drawn in turn: all covers, all latches, the stimulus

abbrev pub sample_latches : (size : ℕ) → (draws : ℕ → ℕ) → List Latch
sample_latches size draws = latches size (behind (4 * (size * size)) draws)

abbrev pub sample_stimulus : (size : ℕ) → (draws : ℕ → ℕ) → List (List Bool)
sample_stimulus size draws = stimulus_lines size (behind (2 * size) (behind (4 * (size * size)) draws))
