-- Where configuration bits stand.
use Rattle.std.specs.Prelude.{ℕ, ◌-◌, ◌/◌, ◌%◌}

-- The place of a bit among so many where none is given: frames are filled from 0, each from bit 31 down, with the bits from
-- the highest down.
abbrev pub default_place : (bits bit : ℕ) → ℕ × ℕ
default_place bits bit = ((bits - 1 - bit) / 32, 31 - (bits - 1 - bit) % 32)
