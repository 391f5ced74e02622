-- How many bits tell n things apart.
use Rattle.std.specs.Prelude.{ℕ, zero, suc, ◌+◌, ◌^◌, ◌≤◌, if◌then◌else◌, nat_le}

-- the first width from this one on that is enough
abbrev pub width_from : (tries width n : ℕ) → ℕ
width_from zero width n = width
width_from (suc tries) width n = if nat_le n (2 ^ width) then width else width_from tries (width + 1) n

-- n tries are enough, since n is at most 2 ^ n
unfoldable pub select_width : ℕ → ℕ
select_width n = width_from n 0 n

-- What the width is, in a word: it is enough, and none that is enough is less.
pub record IsLeastWidth (n width : ℕ) : Type 0 where
  pub enough : n ≤ 2 ^ width
  pub least : (other : ℕ) → n ≤ 2 ^ other → width ≤ other
