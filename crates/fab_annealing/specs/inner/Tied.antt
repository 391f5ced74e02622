-- What the spans of nets tell of an exchange before it is made.
use Rattle.std.specs.Prelude.{◌≡◌, ◌≢◌, ◌⊎◌, ℕ, ◌+◌, ◌<◌, ◌≤◌, List, [], All, Contains, Option, Some, None, length, max, min, sum_by, slice_get, slice_index, slice_index_or}
use Rattle.fab_annealing.specs.declared.axis.Span.{Span}
use Rattle.fab_annealing.specs.declared.board.Board.{Board}
use Rattle.fab_annealing.specs.declared.nets.Nets.{Nets}
use Rattle.fab_annealing.specs.declared.placement.Placement.{Placement}
use Rattle.fab_annealing.specs.declared.ties.Change.{Change}
use Rattle.fab_annealing.specs.declared.ties.Ties.{Ties}
use Rattle.fab_annealing.specs.Measured.{items_of, nets_of, item_count, numbers_of, no_span, width}
use Rattle.fab_annealing.specs.Boards.{column, row}

-- no number stands twice in a list
abbrev pub AreDistinct : (numbers : List ℕ) → Type 0
AreDistinct numbers = (first second : ℕ) → first < length numbers → second < length numbers → slice_index numbers first ≡ slice_index numbers second
    → first ≡ second

-- ---- the nets that tie an item

abbrev pub HasOther : Nets → (item net : ℕ) → Type 0
HasOther nets item net = (other : ℕ) × (other ≢ item) × Contains (items_of nets net) other

-- a net has no item but this one
abbrev pub IsAlone : Nets → (item net : ℕ) → Type 0
IsAlone nets item net = All (λ other. other ≡ item) (items_of nets net)

-- the nets of an item that have other items too, each once
pub record AreTies (nets : Nets) (item : ℕ) (ties : List ℕ) : Type 0 where
  pub touching : All (λ net. Contains (nets_of nets item) net) ties
  pub others : All (λ net. HasOther nets item net) ties
  pub distinct : AreDistinct ties
  pub whole : All (λ net. Contains ties net ⊎ IsAlone nets item net) (nets_of nets item)

abbrev pub ties_of : Ties → (item : ℕ) → List ℕ
ties_of ties item = numbers_of (slice_get ties.nets.items item)

pub record HasTies (nets : Nets) (ties : Ties) : Type 0 where
  pub count : length ties.nets.items ≡ item_count nets
  pub each : (item : ℕ) → item < item_count nets → AreTies nets item (ties_of ties item)

abbrev pub ties_at : Ties → Option ℕ → List ℕ
ties_at ties None = []
ties_at ties (Some item) = ties_of ties item

-- ---- what a move leaves at the least

-- the narrowest span that is left where one of the places changes and another one does not
pub record IsLeast (old : Span) (from to : ℕ) (new : Span) : Type 0 where
  pub low : (new.low ≡ min old.high to) ⊎ ((from ≢ old.low) × (new.low ≡ min old.low to))
  pub high : (new.high ≡ max old.low to) ⊎ ((from ≢ old.high) × (new.high ≡ max old.high to))

abbrev pub IsLeastWidth : Span → (from to wide : ℕ) → Type 0
IsLeastWidth old from to wide = (new : Span) × IsLeast old from to new × (wide ≤ width new)

-- the spans with those of some nets as narrow as a move may leave them: with them the sum of all widths changes as is forecast
pub record IsForecast (spans : List Span) (nets : List ℕ) (from to : ℕ) (change : Change) : Type 0 where
  pub least : List Span
  pub count : length least ≡ length spans
  pub moved : from ≢ to → (net : ℕ) → Contains nets net → IsLeast (slice_index_or spans net no_span) from to (slice_index_or least net no_span)
  pub others : (net : ℕ) → (Contains nets net → ⊥) → slice_index_or least net no_span ≡ slice_index_or spans net no_span
  pub still : from ≡ to → least ≡ spans
  pub before : change.before ≤ sum_by width spans
  pub sums : change.after + sum_by width spans ≤ change.before + sum_by width least

-- the same of both directions, for an item that goes from a site to another
pub record AreForecast (board : Board) (placement : Placement) (nets : List ℕ) (from to : ℕ) (change : Change) : Type 0 where
  pub across : Change
  pub down : Change
  pub columns : IsForecast placement.across.spans.items nets (column board from) (column board to) across
  pub rows : IsForecast placement.down.spans.items nets (row board from) (row board to) down
  pub before : change.before ≡ across.before + down.before
  pub after : change.after ≤ across.after + down.after
