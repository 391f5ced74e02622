-- Nets of items, and the spans that are kept of them.
use Rattle.std.specs.Prelude.{◌≡◌, ◌⊎◌, ◌↔◌, ℕ, ◌-◌, ◌<◌, ◌≤◌, ◌^◌, List, [], ◌∷◌, All, Contains, Option, Some, None, Vec, length, max, min, sum_by, slice_get, slice_index, slice_index_or, slice_set}
use Rattle.std.specs.Global.{Global}
use Rattle.fab_annealing.specs.declared.axis.Span.{Span}
use Rattle.fab_annealing.specs.declared.nets.Nets.{Nets}
use Rattle.fab_annealing.specs.Spans.{spread, span_of}

-- ---- nets

abbrev pub numbers_of : Option (Vec ℕ Global) → List ℕ
numbers_of None = []
numbers_of (Some numbers) = numbers.items

-- the items of a net, and the nets of an item
abbrev pub items_of : Nets → (net : ℕ) → List ℕ
items_of nets net = numbers_of (slice_get nets.items.items net)

abbrev pub nets_of : Nets → (item : ℕ) → List ℕ
nets_of nets item = numbers_of (slice_get nets.touching.items item)

abbrev pub net_count : Nets → ℕ
net_count nets = length nets.items.items

abbrev pub item_count : Nets → ℕ
item_count nets = length nets.touching.items

-- Nets have items that there are, and each item knows all its nets.
pub record IsNets (nets : Nets) : Type 0 where
  pub inside : (net : ℕ) → net < net_count nets → All (λ item. item < item_count nets) (items_of nets net)
  pub touched : (item : ℕ) → item < item_count nets → All (λ net. net < net_count nets) (nets_of nets item)
  pub complete : (item net : ℕ) → item < item_count nets → net < net_count nets → Contains (items_of nets net) item ↔ Contains (nets_of nets item) net
  pub few : net_count nets ≤ 2 ^ 16
  pub few_items : item_count nets ≤ 2 ^ 16

-- the sum of the spreads of all nets
abbrev pub widths : Nets → (place : ℕ → ℕ) → ℕ
widths nets place = sum_by (λ (net : Vec ℕ Global). spread place net.items) nets.items.items

-- ---- spans that are kept

abbrev pub no_span : Span
no_span = record { low = 0; high = 0 }

abbrev pub width : Span → ℕ
width span = span.high - span.low

-- what a span becomes where a place changes on which it does not depend alone
pub record IsStretched (old : Span) (from to : ℕ) (new : Span) : Type 0 where
  pub low : new.low ≡ min old.low to
  pub high : new.high ≡ max old.high to
  pub low_stays : from ≡ old.low → to ≤ old.low
  pub high_stays : from ≡ old.high → old.high ≤ to

-- the span of a net is that of its items
abbrev pub IsRight : Nets → (places : List ℕ) → List Span → (net : ℕ) → Type 0
IsRight nets places spans net = slice_index_or spans net no_span ≡ span_of (slice_index places) (items_of nets net)

-- lengths and numbers that are as they should be, whatever the spans are
pub record IsShaped (nets : Nets) (places : List ℕ) (spans : List Span) (total : ℕ) : Type 0 where
  pub places_count : length places ≡ item_count nets
  pub spans_count : length spans ≡ net_count nets
  pub summed : total ≡ sum_by width spans
  pub near : All (λ place. place ≤ 31) places
  pub low : All (λ (span : Span). span.high ≤ 31) spans

-- the span of each net is kept, and the sum of the widths
pub record IsMeasured (nets : Nets) (places : List ℕ) (spans : List Span) (total : ℕ) : Type 0 where
  pub shaped : IsShaped nets places spans total
  pub right : (net : ℕ) → net < net_count nets → IsRight nets places spans net

-- spans that were changed, each with the net whose it was
abbrev pub AreNoted : Nets → List (ℕ × Span) → Type 0
AreNoted nets changed = All (λ (entry : ℕ × Span). entry.0 < net_count nets) changed

-- the spans as they were before the changes that a list has, the last one last
abbrev pub undone : List (ℕ × Span) → List Span → List Span
undone [] spans = spans
undone (entry ∷ changed) spans = slice_set (undone changed spans) entry.0 entry.1

-- ---- an item that moved

-- the places before and now, between which an item came from a place to another
pub record HasMoved (nets : Nets) (before places : List ℕ) (item from to : ℕ) : Type 0 where
  pub inside : item < length before
  pub start : slice_index before item ≡ from
  pub now : places ≡ slice_set before item to

-- each span is that of the places before or of those now, and the first so many of some nets have those of now
pub record AreRenewed (nets : Nets) (before places : List ℕ) (spans : List Span) (touching : List ℕ) (count : ℕ) : Type 0 where
  pub either : (net : ℕ) → net < net_count nets → IsRight nets before spans net ⊎ IsRight nets places spans net
  pub visited : (place : ℕ) → place < count → IsRight nets places spans (slice_index touching place)
