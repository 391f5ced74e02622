-- The tables of a search as nets come and go.
use Rattle.std.specs.Prelude.{◌≡◌, ℕ, ◌+◌, ◌*◌, ◌<◌, ◌≤◌, Bool, if◌then◌else◌, List, length, slice_index}
use Rattle.fab_astar.specs.declared.tables.Tables.{Tables}
use Rattle.fab_astar.specs.Tables.{count_of, price_of, users_of}

-- a test as a number
abbrev pub bit : Bool → ℕ
bit b = if b then 1 else 0

-- each node has the price of a round for one more net
abbrev pub ArePriced : (past : List ℕ) → (round : ℕ) → Tables → Type 0
ArePriced past round t = (w : ℕ) → w < count_of t → price_of t w ≡ (1 + slice_index past w) * (1 + round * users_of t w)

-- What rounds before this one added is little enough that no price is too large.
pub record IsPast (past : List ℕ) (round : ℕ) (t : Tables) : Type 0 where
  pub long : length past ≡ count_of t
  pub low : (w : ℕ) → slice_index past w ≤ 2064447
  pub early : round < 64
