-- Tables of points of which an index picks an entry, as far as the values that are known decide it.
use Rattle.std.specs.Prelude.{◌≡◌, ℕ, ◌+◌, ◌-◌, ◌*◌, ◌^◌, ◌<◌, Bool, false, List, Some, drop, length, slice_get}
use Rattle.fab_systems_laws.specs.Ternary.{Tern as PlainTern}
use Rattle.fab_solutions_laws.specs.fab_ternary_laws_Operators.{entry}
use Rattle.fab_solutions_laws.specs.fab_ternary_laws_Shown.{first_terns}
use Rattle.fab_ternary.specs.declared.Tern.{Tern}
use Rattle.fab_compiled.specs.declared.leads.Lead.{Lead}
use Rattle.fab_compiled.specs.declared.leads.Lead.TheVariants.{Known, Point, Own, Unmarked}
use Rattle.fab_compiled.specs.declared.picks.Table.{Table}
use Rattle.fab_compiled.specs.declared.tree.Tree.{Tree}
use Rattle.fab_compiled.specs.Trees.{tree_value}
use Rattle.fab_compiled.specs.Leading.{PointTerns, AreAbove, AgreeOnMarked, FollowLeads, IsLedTo, bit_under}

-- ---- tables

abbrev pub entries : PointTerns → Table → List PlainTern
entries t table = first_terns (2 ^ table.size) (λ k. t (table.first + table.stride * k))

-- all entries are points below a number
abbrev pub IsTableBelow : (count : ℕ) → Table → Type 0
IsTableBelow count table = table.first + table.stride * 2 ^ table.size < count + table.stride

-- every other entry
abbrev pub evens_of : Table → Table
evens_of table = record { first = table.first; stride = 2 * table.stride; size = table.size - 1 }

abbrev pub odds_of : Table → Table
odds_of table = record { first = table.first + table.stride; stride = 2 * table.stride; size = table.size - 1 }

-- The same entry stands at each index, under all assignments that know no less than what is kept.
abbrev pub AreSame : List Tern → List ℕ → (left right : Table) → Type 0
AreSame terns leads left right =
    (t : PointTerns) → AreAbove terns leads t → (index : List PlainTern) → length index ≡ left.size → entry (entries t left) index ≡ entry (entries t right) index

-- ---- what does not depend on points that are not marked

-- the bits of an index
abbrev pub index_under : PointTerns → (first : ℕ) → Tree → List PlainTern
index_under t first index = tree_value (λ place. t (first + place)) index

-- a bit of an expression
abbrev pub IsAlike : (marks : List Bool) → (first : ℕ) → Tree → (bit : ℕ) → Type 0
IsAlike marks first tree bit = (t u : PointTerns) → AgreeOnMarked marks t u → bit_under t first tree bit ≡ bit_under u first tree bit

-- an entry of a table with the same entries, by the bits of its index from one on
abbrev pub IsPickedAlike : List Tern → List ℕ → (marks : List Bool) → Table → (first : ℕ) → (index : Tree) → (bit : ℕ) → Type 0
IsPickedAlike terns leads marks table first index bit =
    (t u : PointTerns) → AreAbove terns leads t → AreAbove terns leads u → AgreeOnMarked marks t u → entries t table ≡ entries u table →
    entry (entries t table) (drop bit (index_under t first index)) ≡ entry (entries u table) (drop bit (index_under u first index))

-- ---- picks

-- the entry that an index picks of points that follow one another
abbrev pub picked : PointTerns → (first place width : ℕ) → (index : Tree) → PlainTern
picked t first place width index = entry (first_terns (2 ^ width) (λ k. t (first + (place + k)))) (index_under t first index)

-- what is told of it
abbrev pub PickLeads : List Tern → List ℕ → (marks : List Bool) → (first place width : ℕ) → (index : Tree) → Lead → Type 0
PickLeads terns leads marks first place width index (Known b) = ⊥
PickLeads terns leads marks first place width index (Point lead) =
    ((t : PointTerns) → AreAbove terns leads t → FollowLeads leads marks t → picked t first place width index ≡ t lead) × IsLedTo leads marks lead
PickLeads terns leads marks first place width index Own =
    (t u : PointTerns) → AreAbove terns leads t → AreAbove terns leads u → AgreeOnMarked marks t u → picked t first place width index ≡ picked u first place width index
PickLeads terns leads marks first place width index (Unmarked point) = slice_get marks point ≡ Some false
