-- The drives of a text's points, by numbers and over compiled expressions.
use Rattle.std.specs.Prelude.{◌≡◌, ℕ, List, Option, None, Some, slice_get, if◌then◌else◌}
use Rattle.std.specs.Str.{bytes_eq}
use Rattle.fab_syntax.specs.Plain.{PlainExpr, PlainModule}
use Rattle.fab_meaning.specs.Points.{Path, Point, Driver, outside, copy, bit_of, flop, hold, Drives}
use Rattle.fab_meaning.specs.Runs.{clock_name, user_clock_name, clock_of}
use Rattle.fab_ternary_laws.specs.Operators.{tern_at}
use Rattle.fab_ternary_laws.specs.Values.{tern_value}
use Rattle.fab_ternary_laws.specs.Shown.{Terns, tern_names}
use Rattle.fab_equations.specs.Equations.{IsPoint}
use Rattle.fab_compiled.specs.declared.tree.Tree.{Tree}
use Rattle.fab_compiled.specs.Leading.{PointTerns}
use Rattle.fab_compiled.specs.Values.{AreByNumber}
use Rattle.fab_network.specs.declared.network.Clock.{Clock}
use Rattle.fab_network.specs.declared.network.Clock.TheVariants.{Loader, User, Other}
use Rattle.fab_network.specs.declared.network.Source.{Source}
use Rattle.fab_network.specs.declared.network.Drive.{Drive}
use Rattle.fab_network.specs.declared.network.Drive.TheVariants.{Given, Flop, Same, Value, Hold}
use Rattle.fab_network.specs.Network.{source_tern}

-- A source has what the bit of the expression has over the names of the instance at the path, whatever values the points have.
pub record IsSourceOf (text : List PlainModule) (trees : List Tree) (path : Path) (e : PlainExpr) (bit : ℕ) (source : Source) : Type 0 where
  pub value : (t : Terns) (s : PointTerns) → AreByNumber text t s → source_tern trees s source ≡ tern_at (tern_value (tern_names text t path) e) bit

-- which of the two clocks an input of the top is, by its name
abbrev pub clock_called : Option (List ℕ) → Clock
clock_called None = Other
clock_called (Some name) = if bytes_eq name clock_name then Loader else if bytes_eq name user_clock_name then User else Other

-- what a drive by numbers stands for
abbrev pub IsDriveOf : List PlainModule → List Tree → Driver → Drive → Type 0
IsDriveOf text trees outside Given = Unit {0}
IsDriveOf text trees (copy other) (Same number) = IsPoint text number other
IsDriveOf text trees (bit_of path e bit) (Value source) = IsSourceOf text trees path e bit source
IsDriveOf text trees (flop path clock next bit) (Flop kind source) =
    (kind ≡ clock_called (clock_of text path clock)) × IsSourceOf text trees path next bit source
IsDriveOf text trees (hold path gate e bit) (Hold opens latched) = IsSourceOf text trees path gate 0 opens × IsSourceOf text trees path e bit latched
IsDriveOf text trees _ _ = ⊥

-- at the number of a point there is a drive for what drives it
pub record IsWired (text : List PlainModule) (trees : List Tree) (drives : List Drive) (number : ℕ) (d : Driver) : Type 0 where
  pub drive : Drive
  pub is : slice_get drives number ≡ Some drive
  pub of : IsDriveOf text trees d drive

-- the same of each point of the text
abbrev pub AreDrives : List PlainModule → List Tree → List Drive → Type 0
AreDrives text trees drives = (number : ℕ) (p : Point) (d : Driver) → IsPoint text number p → Drives text p d → IsWired text trees drives number d
