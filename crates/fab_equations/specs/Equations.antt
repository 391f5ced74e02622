-- What the equations of a text say, by the numbers of points, instances and expressions.
use Rattle.std.specs.Prelude.{◌≡◌, ◌≢◌, ◌⊎◌, ℕ, ◌+◌, ◌<◌, List, [], ◌∷◌, ◌++◌, All, Contains, Option, Some, None, slice_get, option_map}
use Rattle.fab_base.specs.Reading.{fault_at}
use Rattle.fab_base.specs.declared.fault.Fault.{Fault}
use Rattle.fab_base.specs.declared.fault.Fault.TheVariants as faults
use Rattle.fab_base.specs.declared.problem.Problem.TheVariants as problems
use Rattle.fab_base.specs.declared.words.Reason.{Reason}
use Rattle.fab_base.specs.declared.words.Quantity.TheVariants as quantities
use Rattle.fab_syntax.specs.Sound.{IsSound, IsFirstBroken}
use Rattle.fab_syntax.specs.Plain.{PlainExpr, PlainModule}
use Rattle.fab_values.specs.fab_meaning.specs.Points.{Path, Point, point, outside, copy, bit_of, flop, hold, Drives}
use Rattle.fab_values.specs.fab_meaning.specs.Points.{Driver as MeantDriver}
use Rattle.fab_values.specs.fab_meaning.specs.Runs.{clock_of}
use Rattle.fab_values.specs.Declarations.{declarations, found_in}
use Rattle.fab_values.specs.Evaluation.{expr_width, IsFit}
use Rattle.fab_values.specs.declared.names.Local.{Local}
use Rattle.fab_equations.specs.Instances.{Instance, instances, points, expressions, whole_count, most_points, in_64_bits}
use Rattle.fab_equations.specs.Numbering.{IsInstanceOfNumber, points_before}
use Rattle.fab_equations.specs.Tables.{IsExpression}
use Rattle.fab_equations.specs.declared.driver.Source.{Source}
use Rattle.fab_equations.specs.declared.driver.Driver.{Driver}
use Rattle.fab_equations.specs.declared.driver.Driver.TheVariants.{Outside, Same, Value, Flop, Hold}
use Rattle.fab_equations.specs.declared.driver.Declared.{Declared}

-- ---- drivers

-- the point of a number
abbrev pub IsPoint : List PlainModule → (number : ℕ) → Point → Type 0
IsPoint text number p = slice_get (points text) number ≡ Some p

-- a source is an expression over the names of the instance at a path
pub record IsSource (text : List PlainModule) (source : Source) (path : Path) (e : PlainExpr) : Type 0 where
  pub i : Instance
  pub instance_is : IsInstanceOfNumber text source.instance i
  pub at : i.path ≡ path
  pub expression : IsExpression text source.expr e

-- the point of the input of the top that a clock of an instance is
abbrev pub IsClockPoint : List PlainModule → Path → (clock : List ℕ) → (number : ℕ) → Type 0
IsClockPoint text path clock number = (name : List ℕ) × (clock_of text path clock ≡ Some name) × IsPoint text number (point [] name 0)

-- what a driver by numbers stands for
abbrev pub Means : List PlainModule → Driver → MeantDriver → Type 0
Means text Outside d = d ≡ outside
Means text (Same number) d = (p : Point) × IsPoint text number p × (d ≡ copy p)
Means text (Value source) d = (path : Path) × (e : PlainExpr) × IsSource text source path e × (d ≡ bit_of path e source.bit)
Means text (Flop clock_point next) d =
    (path : Path) × (clock : List ℕ) × (e : PlainExpr) × IsSource text next path e × IsClockPoint text path clock clock_point × (d ≡ flop path clock e next.bit)
Means text (Hold gate latched) d =
    (path : Path) × (g : PlainExpr) × (e : PlainExpr) × IsSource text gate path g × (gate.bit ≡ 0) × IsSource text latched path e × (d ≡ hold path g e latched.bit)

-- the point of a number, and what drives it
pub record IsDriven (text : List PlainModule) (number : ℕ) (driver : Driver) : Type 0 where
  pub of : Point
  pub is : IsPoint text number of
  pub by : MeantDriver
  pub means : Means text driver by
  pub drives : Drives text of by

-- ---- sources have values

-- the expression of a source has a value over the names of its instance, and the bit is one of it
abbrev pub SourceFits : List PlainModule → Source → Type 0
SourceFits text source =
    (i : Instance) (e : PlainExpr) → IsInstanceOfNumber text source.instance i → IsExpression text source.expr e →
    IsFit (declarations i.here) e × (source.bit < expr_width (declarations i.here) e)

-- the same of each source of a driver
abbrev pub DriverFits : List PlainModule → Driver → Type 0
DriverFits text Outside = Unit {0}
DriverFits text (Same number) = Unit {0}
DriverFits text (Value source) = SourceFits text source
DriverFits text (Flop clock_point next) = SourceFits text next
DriverFits text (Hold gate latched) = SourceFits text gate × SourceFits text latched

-- ---- look-ups

-- a name of an instance as it is declared there, with the point of its bit 0
abbrev pub declared_as : List PlainModule → (number : ℕ) → Local → Declared
declared_as text number local = record { instance = number; first = points_before text number + local.first; shape = local.shape; role = local.role }

-- the declaration of a name in the instance of a number
abbrev pub declared_in : List PlainModule → (number : ℕ) → Instance → (name : List ℕ) → Option Declared
declared_in text number i name = option_map (declared_as text number) (found_in (declarations i.here) name)

-- a hierarchical name: the names of the instances from the top, and the local name, joined by dots
abbrev pub hierarchical_name : Path → (name : List ℕ) → List ℕ
hierarchical_name [] name = name
hierarchical_name (i ∷ path) name = hierarchical_name path (i ++ 46 ∷ name)

-- a name without a dot; where no name has one, a hierarchical name is joined in one way
abbrev pub HasNoDot : List ℕ → Type 0
HasNoDot name = All (λ byte. byte ≢ 46) name

-- the declaration of a hierarchical name
pub record IsFound (text : List PlainModule) (bytes : List ℕ) (declared : Declared) : Type 0 where
  pub i : Instance
  pub name : List ℕ
  pub spelled : bytes ≡ hierarchical_name i.path name
  pub is : IsInstanceOfNumber text declared.instance i
  pub declares : declared_in text declared.instance i name ≡ Some declared

-- no instance declares the name
abbrev pub IsNotFound : List PlainModule → (bytes : List ℕ) → Type 0
IsNotFound text bytes =
    (number : ℕ) (i : Instance) (name : List ℕ) → IsInstanceOfNumber text number i → All HasNoDot i.path → HasNoDot name →
    bytes ≡ hierarchical_name i.path name → found_in (declarations i.here) name ≡ None

-- the point of a bit of a hierarchical name
pub record IsPlace (text : List PlainModule) (bytes : List ℕ) (bit number : ℕ) : Type 0 where
  pub path : Path
  pub name : List ℕ
  pub spelled : bytes ≡ hierarchical_name path name
  pub is : IsPoint text number (point path name bit)

-- the text has no such point
abbrev pub IsNoPlace : List PlainModule → (bytes : List ℕ) → (bit : ℕ) → Type 0
IsNoPlace text bytes bit =
    (path : Path) (name : List ℕ) → All HasNoDot path → HasNoDot name → bytes ≡ hierarchical_name path name → ¬ Contains (points text) (point path name bit)

-- ---- faults of a whole text

-- A text that is not sound is refused for its first broken rule, and a sound one only where it has too many points and instances.
abbrev pub IsRefused : (file : List ℕ) → List PlainModule → Fault → Type 0
IsRefused file text fault =
    (fault ≡ faults.Memory)
    ⊎ (((reason : Reason) × IsFirstBroken text reason × (fault ≡ fault_at file 0 (problems.Malformed reason)))
    ⊎ (IsSound text × (most_points < whole_count text) × (fault ≡ fault_at file 0 (problems.Limit quantities.Points (in_64_bits (whole_count text)) most_points))))
