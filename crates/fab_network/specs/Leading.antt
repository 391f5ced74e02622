-- Where a value leads that depends on the values of points.
use Rattle.std.specs.Prelude.{◌≡◌, ℕ, Bool, false, List, slice_get, Some}
use Rattle.fab_systems_laws.specs.Ternary.{known}
use Rattle.fab_systems_laws.specs.Ternary.{Tern as PlainTern}
use Rattle.fab_ternary.specs.declared.Tern.{Tern}
use Rattle.fab_compiled.specs.declared.leads.Lead.{Lead}
use Rattle.fab_compiled.specs.declared.leads.Lead.TheVariants.{Known, Point, Own, Unmarked}
use Rattle.fab_compiled.specs.Leading.{PointTerns, AreAbove, FollowLeads, AgreeOnMarked, IsLedTo}
use Rattle.fab_compiled.specs.declared.tree.Tree.{Tree}
use Rattle.fab_network.specs.declared.network.Source.{Source}
use Rattle.fab_network.specs.Network.{source_tern}

-- What is told of a value, under all assignments that know no less than what is kept. It is `Leads` of `fab_compiled` for any value.
abbrev pub LeadsTo : List Tern → List ℕ → (marks : List Bool) → (value : PointTerns → PlainTern) → Lead → Type 0
LeadsTo terns leads marks value (Known b) = (t : PointTerns) → AreAbove terns leads t → value t ≡ known b
LeadsTo terns leads marks value (Point lead) =
    ((t : PointTerns) → AreAbove terns leads t → FollowLeads leads marks t → value t ≡ t lead) × IsLedTo leads marks lead
LeadsTo terns leads marks value Own = (t u : PointTerns) → AreAbove terns leads t → AreAbove terns leads u → AgreeOnMarked marks t u → value t ≡ value u
LeadsTo terns leads marks value (Unmarked point) = slice_get marks point ≡ Some false

-- the bits of the expression of a source
abbrev pub bits_of_source : List Tree → Source → PointTerns → (bit : ℕ) → PlainTern
bits_of_source trees source t bit = source_tern trees t (record { tree = source.tree; first = source.first; bit = bit })
