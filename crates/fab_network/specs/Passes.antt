-- What is kept for points, and what holds of the points of a list while more of them come to be known.
use Rattle.std.specs.Prelude.{◌≡◌, ℕ, ◌<◌, List, length, slice_index, slice_get}
use Rattle.fab_systems_laws.specs.Ternary.{IsBelow}
use Rattle.fab_systems_laws.specs.Ternary.{Tern as PlainTern}
use Rattle.fab_ternary.specs.declared.Tern.{Tern}
use Rattle.fab_compiled.specs.declared.tree.Tree.{Tree}
use Rattle.fab_compiled.specs.Terns.{tern_or_unknown}
use Rattle.fab_compiled.specs.Leading.{PointTerns, AreAbove}
use Rattle.fab_network.specs.declared.network.Drive.{Drive}
use Rattle.fab_network.specs.Network.{shown_tern}

-- what is kept for a point
abbrev pub kept_tern : List Tern → (point : ℕ) → PlainTern
kept_tern terns point = tern_or_unknown (slice_get terns point)

-- what is known stays
abbrev pub AreRising : (old new : List Tern) → Type 0
AreRising old new = (point : ℕ) → IsBelow (kept_tern old point) (kept_tern new point)

-- what a point shows, where latches hold these values
abbrev pub shows : List Tree → List Drive → (held : List Tern) → PointTerns → (point : ℕ) → PlainTern
shows trees drives held t point = shown_tern trees drives (kept_tern held point) t point

-- what holds of the first points of a list
abbrev pub EachListed : (count : ℕ) (order : List ℕ) → (ℕ → Type 0) → Type 0
EachListed count order P = (place : ℕ) → place < count → P (slice_index order place)

abbrev pub IsListed : (order : List ℕ) (point : ℕ) → Type 0
IsListed order point = (place : ℕ) × (place < length order) × (slice_index order place ≡ point)

-- each of these points has what it shows
abbrev pub AreSolved : List Tree → List Drive → (held : List Tern) → (order : List ℕ) → PointTerns → Type 0
AreSolved trees drives held order t = EachListed (length order) order (λ point. t point ≡ shows trees drives held t point)

-- each of these points shows no less than it has
abbrev pub AreBacked : List Tree → List Drive → (held : List Tern) → (order : List ℕ) → PointTerns → Type 0
AreBacked trees drives held order t = EachListed (length order) order (λ point. IsBelow (t point) (shows trees drives held t point))

-- all points have what those have to which they are led
abbrev pub AreLed : List ℕ → PointTerns → Type 0
AreLed leads t = (point : ℕ) → point < length leads → t point ≡ t (slice_index leads point)

-- What is known stays below all assignments that give these points what they show.
abbrev pub StaysBelow : List Tree → List Drive → (held : List Tern) → (order leads : List ℕ) → (old new : List Tern) → Type 0
StaysBelow trees drives held order leads old new =
    (t : PointTerns) → AreSolved trees drives held order t → AreLed leads t → AreAbove old leads t → AreAbove new leads t

-- points that stand for themselves
abbrev pub AreOwn : (order leads : List ℕ) → Type 0
AreOwn order leads = EachListed (length order) order (λ point. (point < length leads) × (slice_index leads point ≡ point))
