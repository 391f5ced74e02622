-- Boards, placements of items on them, what a placement costs, and when no exchange lowers that.
use Rattle.std.specs.Prelude.{◌≡◌, ◌⊎◌, ℕ, ◌+◌, ◌-◌, ◌<◌, ◌≤◌, ◌^◌, Bool, true, false, List, All, map, length, nat_eq, nat_le, slice_index, slice_index_or, if◌then◌else◌}
use Rattle.fab_annealing.specs.declared.board.Board.{Board}
use Rattle.fab_annealing.specs.Measured.{IsNets, item_count, widths}

-- ---- boards

abbrev pub site_count : Board → ℕ
site_count board = length board.columns.items

abbrev pub column : Board → (site : ℕ) → ℕ
column board site = slice_index board.columns.items site

abbrev pub row : Board → (site : ℕ) → ℕ
row board site = slice_index board.rows.items site

-- whether a site is of the second kind
abbrev pub is_second : Board → (site : ℕ) → Bool
is_second board site = nat_le board.second site

-- whether an item stays where it is
abbrev pub is_locked : Board → (item : ℕ) → Bool
is_locked board item = slice_index_or board.locked.items item true

pub record IsBoard (board : Board) : Type 0 where
  pub good_nets : IsNets board.nets
  pub locks : length board.locked.items ≡ item_count board.nets
  pub rows_count : length board.rows.items ≡ site_count board
  pub near_columns : All (λ place. place ≤ 31) board.columns.items
  pub near_rows : All (λ place. place ≤ 31) board.rows.items
  pub few_sites : site_count board ≤ 2 ^ 16

-- ---- placements

-- each item stands on a site, and no two on the same
pub record IsPlaced (board : Board) (sites : List ℕ) : Type 0 where
  pub items : length sites ≡ item_count board.nets
  pub inside : All (λ site. site < site_count board) sites
  pub apart : (first second : ℕ) → first < length sites → second < length sites → slice_index sites first ≡ slice_index sites second → first ≡ second

-- the spreads of all nets, in columns and in rows
abbrev pub cost : Board → (sites : List ℕ) → ℕ
cost board sites = widths board.nets (λ item. column board (slice_index sites item)) + widths board.nets (λ item. row board (slice_index sites item))

-- ---- exchanges

-- where what stands on a site is after the exchange of two sites
abbrev pub site_after : (a b site : ℕ) → ℕ
site_after a b site = if nat_eq site a then b else (if nat_eq site b then a else site)

-- what stands on one site comes to the other; where the other is empty, this is a move
abbrev pub exchanged : (a b : ℕ) → (sites : List ℕ) → List ℕ
exchanged a b sites = map (site_after a b) sites

abbrev pub gap : ℕ → ℕ → ℕ
gap m n = (m - n) + (n - m)

abbrev pub AreNear : Board → (a b : ℕ) → Type 0
AreNear board a b = gap (column board a) (column board b) + gap (row board a) (row board b) ≤ 4

-- on neither of two sites stands an item that stays
abbrev pub AreLoose : Board → (sites : List ℕ) → (a b : ℕ) → Type 0
AreLoose board sites a b = (item : ℕ) → item < length sites → (slice_index sites item ≡ a) ⊎ (slice_index sites item ≡ b) → is_locked board item ≡ false

pub record MayExchange (board : Board) (sites : List ℕ) (a b : ℕ) : Type 0 where
  pub first_in : a < site_count board
  pub second_in : b < site_count board
  pub same_kind : is_second board b ≡ is_second board a
  pub near : AreNear board a b
  pub loose : AreLoose board sites a b

-- no exchange of two sites within distance 4 lowers the cost
abbrev pub IsOptimal : Board → (sites : List ℕ) → Type 0
IsOptimal board sites = (a b : ℕ) → MayExchange board sites a b → cost board sites ≤ cost board (exchanged a b sites)

-- another placement of the same items, in which those that stay are where they were and all are on sites of their kind
pub record Keeps (board : Board) (old new : List ℕ) : Type 0 where
  pub count : length new ≡ length old
  pub kinds : (item : ℕ) → item < length old → is_second board (slice_index new item) ≡ is_second board (slice_index old item)
  pub locked : (item : ℕ) → item < length old → is_locked board item ≡ true → slice_index new item ≡ slice_index old item
