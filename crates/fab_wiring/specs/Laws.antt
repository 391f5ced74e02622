-- Solutions of a text by the numbers of its points.
use Rattle.std.specs.Prelude.{◌≡◌, ◌↔◌, ℕ, true, List, length}
use Rattle.fab_syntax.specs.Plain.{PlainModule}
use Rattle.fab_syntax.specs.Sound.{IsSound}
use Rattle.fab_meaning.specs.Points.{Point, Driver, Drives, IsStored}
use Rattle.fab_meaning.specs.Reads.{is_declared}
use Rattle.fab_ternary_laws.specs.Shown.{Terns}
use Rattle.fab_network.specs.fab_solutions_laws_Solutions.{Solves as SolvesText, IsLeastSolution, tern_kept}
use Rattle.fab_equations.specs.Instances.{points}
use Rattle.fab_equations.specs.Equations.{IsPoint}
use Rattle.fab_compiled.specs.declared.tree.Tree.{Tree}
use Rattle.fab_compiled.specs.Leading.{PointTerns}
use Rattle.fab_compiled.specs.Values.{AreByNumber}
use Rattle.fab_network.specs.declared.network.Clock.{Clock}
use Rattle.fab_network.specs.declared.network.Drive.{Drive}
use Rattle.fab_network.specs.Solved.{Solves, IsLeast}
use Rattle.fab_wiring.specs.Wiring.{AreDrives}
use Rattle.fab_wiring.specs.Given.{AreGivenByNumber, IsClockNamed, given_tern, left_tern}

-- Each assignment to the points of a text is one to their numbers, and the other way round.
abbrev pub NumbersHaveTerns : Type 0
NumbersHaveTerns = (text : List PlainModule) (t : Terns) → (s : PointTerns) × AreByNumber text t s

abbrev pub PointsHaveTerns : Type 0
PointsHaveTerns = (text : List PlainModule) → IsSound text → (s : PointTerns) → (t : Terns) × AreByNumber text t s

-- What solves a text solves its drives by number, and the other way round.
abbrev pub SolutionsByNumber : Type 0
SolutionsByNumber =
    (text : List PlainModule) → IsSound text → (trees : List Tree) (drives : List Drive) → length drives ≡ length (points text) → AreDrives text trees drives →
    (inputs held t : Terns) (given s : PointTerns) → AreGivenByNumber text inputs held given → AreByNumber text t s →
    SolvesText text inputs held t ↔ Solves trees drives given s

-- The least solution of a text is the least one of its drives, by number.
abbrev pub LeastByNumber : Type 0
LeastByNumber =
    (text : List PlainModule) → IsSound text → (trees : List Tree) (drives : List Drive) → length drives ≡ length (points text) → AreDrives text trees drives →
    (inputs held t : Terns) (given s : PointTerns) → AreGivenByNumber text inputs held given → AreByNumber text t s →
    IsLeastSolution text inputs held t → IsLeast trees drives given s

-- What a tick of one of the two clocks leaves with flip-flops and latches, by number.
abbrev pub LeftByNumber : Type 0
LeftByNumber =
    (text : List PlainModule) (trees : List Tree) (drives : List Drive) → AreDrives text trees drives →
    (inputs held t : Terns) (given s : PointTerns) → AreGivenByNumber text inputs held given → AreByNumber text t s →
    (tick : Clock) (name : List ℕ) → IsClockNamed tick name →
    (number : ℕ) (p : Point) (d : Driver) → IsPoint text number p → Drives text p d → IsStored d →
    tern_kept text name held t p d ≡ left_tern trees drives tick given s number

-- Inputs and held values by number are what is given by number, as drives tell them apart.
abbrev pub GivenByNumber : Type 0
GivenByNumber =
    (text : List PlainModule) (trees : List Tree) (drives : List Drive) → AreDrives text trees drives →
    (inputs held : Terns) (fed kept : PointTerns) → AreByNumber text inputs fed → AreByNumber text held kept →
    AreGivenByNumber text inputs held (given_tern drives fed kept)

-- So is what is given behind a tick of one of the two clocks, with other inputs.
abbrev pub NextByNumber : Type 0
NextByNumber =
    (text : List PlainModule) → IsSound text → (trees : List Tree) (drives : List Drive) → AreDrives text trees drives →
    (inputs held t later next : Terns) (given s fed : PointTerns) → AreGivenByNumber text inputs held given → AreByNumber text t s →
    (tick : Clock) (name : List ℕ) → IsClockNamed tick name →
    ((p : Point) (d : Driver) → is_declared text p ≡ true → Drives text p d → next p ≡ tern_kept text name held t p d) → AreByNumber text later fed →
    AreGivenByNumber text later next (given_tern drives fed (left_tern trees drives tick given s))
