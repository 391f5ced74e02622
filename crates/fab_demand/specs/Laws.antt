-- Laws of what has been asked for.
use Rattle.std.specs.Prelude.{◌≡◌, ◌≢◌, ℕ, List, Some, slice_get}
use Rattle.fab_systems_laws.specs.Ternary.{IsBelow}
use Rattle.fab_ternary.specs.declared.Tern.{Tern}
use Rattle.fab_compiled.specs.Leading.{PointTerns}
use Rattle.fab_compiled.specs.Terns.{seen}
use Rattle.fab_compiled.specs.declared.tree.Tree.{Tree}
use Rattle.fab_network.specs.declared.network.Clock.{Clock}
use Rattle.fab_network.specs.declared.network.Drive.TheVariants.{Given, Flop, Hold}
use Rattle.fab_network.specs.declared.network.Network.{Network}
use Rattle.fab_network.specs.declared.network.Source.{Source}
use Rattle.fab_network.specs.Solved.{Solves}
use Rattle.fab_demand.specs.Asked.{Asked, AsksMore, DiffersInOwn, IsPossible, IsSourceAsked}
use Rattle.fab_demand.specs.Demand.{IsAsked, IsKept}

-- A source that has been asked for stays so when more is asked for.
abbrev pub SourcesStayAsked : Type 0
SourcesStayAsked = (trees : List Tree) (old new : Asked) → AsksMore old new → (source : Source) → IsSourceAsked trees old source →
    IsSourceAsked trees new source

-- What is given in the next cycle is kept again, where inputs are as they were when points were asked for, as far as they were known then, flip-flops
-- of other clocks hold what they held, and each latch holds what its point had.
abbrev pub KeptAgain : Type 0
KeptAgain =
    (network : Network) (clock : Clock) (given : PointTerns) (asked : Asked) → IsAsked network clock given asked →
    (later t next : PointTerns) → IsKept network clock given asked.terns asked.leads later → Solves network.trees.items network.drives.items later t →
    ((point : ℕ) → slice_get network.drives.items point ≡ Some Given → IsBelow (given point) (next point)) →
    ((point : ℕ) (own : Clock) (source : Source) → slice_get network.drives.items point ≡ Some (Flop own source) → own ≢ clock → next point ≡ later point) →
    ((point : ℕ) (gate latched : Source) → slice_get network.drives.items point ≡ Some (Hold gate latched) → next point ≡ t point) →
    IsKept network clock given asked.terns asked.leads next

-- What was given when points were asked for may be given later.
abbrev pub GivenIsKept : Type 0
GivenIsKept = (network : Network) (clock : Clock) (given : PointTerns) (terns : List Tern) (leads : List ℕ) → IsKept network clock given terns leads given

-- What is kept for points that stand for themselves denies nothing that is known.
abbrev pub ViewIsPossible : Type 0
ViewIsPossible =
    (network : Network) (clock : Clock) (given : PointTerns) (asked now : Asked) → IsAsked network clock given asked → DiffersInOwn asked now →
    IsPossible asked (seen now.terns now.leads)
