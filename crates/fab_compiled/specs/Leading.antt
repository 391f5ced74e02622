-- Where a bit of an expression leads: what it has under every assignment that knows no less.
use Rattle.std.specs.Prelude.{◌≡◌, ℕ, ◌+◌, ◌<◌, Bool, true, false, List, length, slice_get, slice_index, Some}
use Rattle.fab_systems_laws.specs.Ternary.{known, IsBelow}
use Rattle.fab_systems_laws.specs.Ternary.{Tern as PlainTern}
use Rattle.fab_solutions_laws.specs.fab_ternary_laws_Operators.{tern_at}
use Rattle.fab_compiled.specs.declared.leads.Lead.{Lead}
use Rattle.fab_compiled.specs.declared.leads.Lead.TheVariants.{Known, Point, Own, Unmarked}
use Rattle.fab_ternary.specs.declared.Tern.{Tern}
use Rattle.fab_compiled.specs.declared.tree.Tree.{Tree}
use Rattle.fab_compiled.specs.Terns.{seen}
use Rattle.fab_compiled.specs.Trees.{tree_value, EachPlace}

abbrev pub IsMarked : List Bool → (point : ℕ) → Type 0
IsMarked marks point = slice_get marks point ≡ Some true

-- all points of an expression are marked
abbrev pub AreMarked : List Bool → (first : ℕ) → Tree → Type 0
AreMarked marks first tree = EachPlace (λ place. IsMarked marks (first + place)) tree

abbrev pub RangeIsMarked : List Bool → (first place count : ℕ) → Type 0
RangeIsMarked marks first place count = (k : ℕ) → k < count → IsMarked marks (first + (place + k))

-- a value for each point
abbrev pub PointTerns : Type 0
PointTerns = ℕ → PlainTern

-- values that know no less than what is kept
abbrev pub AreAbove : List Tern → List ℕ → PointTerns → Type 0
AreAbove terns leads t = (point : ℕ) → point < length leads → IsBelow (seen terns leads point) (t point)

-- marked points have what those have to which they are led
abbrev pub FollowLeads : List ℕ → (marks : List Bool) → PointTerns → Type 0
FollowLeads leads marks t = (point : ℕ) → IsMarked marks point → t point ≡ t (slice_index leads point)

abbrev pub AgreeOnMarked : (marks : List Bool) → (t u : PointTerns) → Type 0
AgreeOnMarked marks t u = (point : ℕ) → IsMarked marks point → t point ≡ u point

-- a marked point is led to this one
abbrev pub IsLedTo : List ℕ → (marks : List Bool) → (lead : ℕ) → Type 0
IsLedTo leads marks lead = (point : ℕ) × IsMarked marks point × (slice_index leads point ≡ lead)

-- a bit of an expression over the points of an instance
abbrev pub bit_under : PointTerns → (first : ℕ) → Tree → (bit : ℕ) → PlainTern
bit_under t first tree bit = tern_at (tree_value (λ place. t (first + place)) tree) bit

-- What is told of a bit of an expression.
abbrev pub TellsBit : List Tern → List ℕ → (marks : List Bool) → (first : ℕ) → Tree → (bit : ℕ) → Lead → Type 0
TellsBit terns leads marks first tree bit (Known b) = (t : PointTerns) → AreAbove terns leads t → bit_under t first tree bit ≡ known b
TellsBit terns leads marks first tree bit (Point lead) =
    ((t : PointTerns) → AreAbove terns leads t → FollowLeads leads marks t → bit_under t first tree bit ≡ t lead) × IsLedTo leads marks lead
TellsBit terns leads marks first tree bit Own =
    (t u : PointTerns) → AreAbove terns leads t → AreAbove terns leads u → AgreeOnMarked marks t u → bit_under t first tree bit ≡ bit_under u first tree bit
TellsBit terns leads marks first tree bit (Unmarked point) = slice_get marks point ≡ Some false

-- what is told of a point
abbrev pub PointLeads : List ℕ → (marks : List Bool) → (point : ℕ) → Lead → Type 0
PointLeads leads marks point (Known b) = ⊥
PointLeads leads marks point (Point lead) = IsMarked marks point × (slice_get leads point ≡ Some lead)
PointLeads leads marks point Own = ⊥
PointLeads leads marks point (Unmarked other) = slice_get marks other ≡ Some false

-- what is told of an expression that stands for itself
abbrev pub OwnLeads : (marks : List Bool) → (first : ℕ) → Tree → Lead → Type 0
OwnLeads marks first tree (Known b) = ⊥
OwnLeads marks first tree (Point lead) = ⊥
OwnLeads marks first tree Own = AreMarked marks first tree
OwnLeads marks first tree (Unmarked point) = slice_get marks point ≡ Some false
