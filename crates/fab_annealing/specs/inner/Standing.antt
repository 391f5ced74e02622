-- What a placement keeps beside the sites of its items.
use Rattle.std.specs.Prelude.{◌≡◌, ℕ, ◌+◌, ◌*◌, ◌<◌, ◌≤◌, Bool, true, false, List, [], All, Contains, Option, Some, None, Vec, map, length, slice_get, slice_index, slice_index_or, slice_set}
use Rattle.std.specs.Global.{Global}
use Rattle.fab_annealing.specs.declared.board.Board.{Board}
use Rattle.fab_annealing.specs.declared.placement.Placement.{Placement}
use Rattle.fab_annealing.specs.declared.lots.Lots.{Lots}
use Rattle.fab_annealing.specs.Measured.{item_count, IsMeasured, AreNoted, numbers_of}
use Rattle.fab_annealing.specs.Boards.{site_count, column, row, is_second, cost, exchanged, MayExchange, Keeps}

-- the spans are those of the items on their sites, whether or not two items share one
pub record IsLaid (board : Board) (placement : Placement) : Type 0 where
  pub items : length placement.sites.items ≡ item_count board.nets
  pub inside : All (λ site. site < site_count board) placement.sites.items
  pub columns : placement.across.places.items ≡ map (slice_index board.columns.items) placement.sites.items
  pub rows : placement.down.places.items ≡ map (slice_index board.rows.items) placement.sites.items
  pub across : IsMeasured board.nets placement.across.places.items placement.across.spans.items placement.across.total
  pub down : IsMeasured board.nets placement.down.places.items placement.down.spans.items placement.down.total
  pub across_noted : AreNoted board.nets placement.across.changed.items
  pub down_noted : AreNoted board.nets placement.down.changed.items

-- the list with a value at a place, if there is one
abbrev pub set_at : Option ℕ → (value : ℕ) → List ℕ → List ℕ
set_at None value numbers = numbers
set_at (Some place) value numbers = slice_set numbers place value

-- each item stands on its site, and each site knows its item
pub record AreStanding (board : Board) (sites : List ℕ) (items : List (Option ℕ)) : Type 0 where
  pub count : length items ≡ site_count board
  pub here : (item : ℕ) → item < length sites → slice_index_or items (slice_index sites item) None ≡ Some item
  pub there : (site item : ℕ) → slice_index_or items site None ≡ Some item → (item < length sites) × (slice_index sites item ≡ site)

pub record IsKept (board : Board) (placement : Placement) : Type 0 where
  pub laid : IsLaid board placement
  pub standing : AreStanding board placement.sites.items placement.items.items
  pub across_settled : placement.across.changed.items ≡ []
  pub down_settled : placement.down.changed.items ≡ []

-- the cost fell, or all stayed where it was
pub record Falls (board : Board) (old new : List ℕ) : Type 0 where
  pub keeps : Keeps board old new
  pub low : cost board new ≤ cost board old
  pub still : cost board new ≡ cost board old → new ≡ old

-- an exchange of an item with what stands on a site, if it may be made, does not lower the cost
abbrev pub IsTried : Board → (sites : List ℕ) → (item site : ℕ) → Type 0
IsTried board sites item site =
    MayExchange board sites (slice_index sites item) site → cost board sites ≤ cost board (exchanged (slice_index sites item) site sites)

-- the items of a range are tried with all sites
abbrev pub AreTried : Board → (sites : List ℕ) → (low high : ℕ) → Type 0
AreTried board sites low high = (item : ℕ) → low ≤ item → item < high → (site : ℕ) → site < site_count board → IsTried board sites item site

-- from which number on items are tried stays as long as the cost stays, and is above 0 once it fell
pub record IsNext (board : Board) (old new : List ℕ) (before next : ℕ) : Type 0 where
  pub same : cost board new ≡ cost board old → next ≡ before
  pub lower : cost board new < cost board old → 0 < next

-- ---- the sites of each tile

abbrev pub lot_number : (column row : ℕ) → ℕ
lot_number column row = column * 32 + row

-- lists of the sites of one kind by the numbers of their tiles
pub record AreLots (board : Board) (second : Bool) (lots : List (Vec ℕ Global)) : Type 0 where
  pub count : length lots ≡ 1024
  pub sound : (number : ℕ) → All (λ site. (site < site_count board) × (is_second board site ≡ second)) (numbers_of (slice_get lots number))
  pub whole : (site : ℕ) → site < site_count board → is_second board site ≡ second → Contains (numbers_of (slice_get lots (lot_number (column board site) (row board site)))) site

abbrev pub lots_of_kind : Lots → (second : Bool) → List (Vec ℕ Global)
lots_of_kind lots false = lots.first.items
lots_of_kind lots true = lots.second.items

abbrev pub HasLots : Board → Lots → Type 0
HasLots board lots = (second : Bool) → AreLots board second (lots_of_kind lots second)
