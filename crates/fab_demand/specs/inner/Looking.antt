-- What a look at a point's drive finds.
use Rattle.std.specs.Prelude.{◌≡◌, ℕ, Bool, true, false, List, Option, Some, slice_get}
use Rattle.fab_systems_laws.specs.Ternary.{no, yes, unknown, known}
use Rattle.fab_systems_laws.specs.Ternary.{Tern as PlainTern}
use Rattle.fab_ternary.specs.declared.Tern.{Tern}
use Rattle.fab_compiled.specs.declared.leads.Lead.{Lead}
use Rattle.fab_compiled.specs.declared.leads.Lead.TheVariants.{Known, Point, Own, Unmarked}
use Rattle.fab_compiled.specs.declared.tree.Tree.{Tree}
use Rattle.fab_compiled.specs.Leading.{PointTerns, AreAbove, AgreeOnMarked, FollowLeads, IsLedTo}
use Rattle.fab_network.specs.declared.network.Clock.{Clock}
use Rattle.fab_network.specs.declared.network.Drive.{Drive}
use Rattle.fab_network.specs.Solved.{asked_by}
use Rattle.fab_demand.specs.Demand.{IsKeptBy}

-- What is told of what a drive asks of its point, whatever is given to it later, under all assignments that know no less than what is kept.
abbrev pub Finds : List Tree → Clock → (given : PlainTern) → List Tern → List ℕ → (marks : List Bool) → Option Drive → Lead → Type 0
Finds trees clock given terns leads marks drive (Known b) =
    (later : PlainTern) (t : PointTerns) → IsKeptBy trees clock terns leads given later drive → AreAbove terns leads t → asked_by trees later t drive ≡ known b
Finds trees clock given terns leads marks drive (Point lead) =
    ((later : PlainTern) (t : PointTerns) → IsKeptBy trees clock terns leads given later drive → AreAbove terns leads t → FollowLeads leads marks t →
    asked_by trees later t drive ≡ t lead) × IsLedTo leads marks lead
Finds trees clock given terns leads marks drive Own =
    (later : PlainTern) (t u : PointTerns) → IsKeptBy trees clock terns leads given later drive → AreAbove terns leads t → FollowLeads leads marks t →
    AreAbove terns leads u → FollowLeads leads marks u → AgreeOnMarked marks t u → asked_by trees later t drive ≡ asked_by trees later u drive
Finds trees clock given terns leads marks drive (Unmarked point) = slice_get marks point ≡ Some false

-- where a value leads that is given for good
abbrev pub lead_given : PlainTern → Lead
lead_given no = Known false
lead_given yes = Known true
lead_given unknown = Own

abbrev pub own_or_unmarked : Lead → Lead
own_or_unmarked (Known b) = Own
own_or_unmarked (Point lead) = Own
own_or_unmarked Own = Own
own_or_unmarked (Unmarked point) = Unmarked point
