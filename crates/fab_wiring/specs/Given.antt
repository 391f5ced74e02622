-- What is given to the points of a text, by their numbers, and what a tick leaves there.
use Rattle.std.specs.Prelude.{◌≡◌, ℕ, Bool, true, false, List, Option, None, Some, slice_get, if◌then◌else◌}
use Rattle.fab_syntax.specs.Plain.{PlainModule}
use Rattle.fab_meaning.specs.Points.{Point, Driver, outside, copy, bit_of, flop, hold, Drives}
use Rattle.fab_meaning.specs.Runs.{clock_name, user_clock_name}
use Rattle.fab_systems_laws.specs.Ternary.{Tern}
use Rattle.fab_ternary_laws.specs.Shown.{Terns}
use Rattle.fab_equations.specs.Equations.{IsPoint}
use Rattle.fab_compiled.specs.declared.tree.Tree.{Tree}
use Rattle.fab_compiled.specs.Leading.{PointTerns}
use Rattle.fab_network.specs.declared.network.Clock.{Clock}
use Rattle.fab_network.specs.declared.network.Clock.TheVariants.{Loader, User, Other}
use Rattle.fab_network.specs.declared.network.Drive.{Drive}
use Rattle.fab_network.specs.declared.network.Drive.TheVariants.{Given, Flop, Same, Value, Hold}
use Rattle.fab_network.specs.Network.{source_tern}

-- An input of the top is given its input; a flip-flop and a latch are given what they hold. Nothing is given to other points.
abbrev pub IsGivenTo : (inputs held : Terns) → Point → Driver → (given : Tern) → Type 0
IsGivenTo inputs held p outside given = given ≡ inputs p
IsGivenTo inputs held p (copy other) given = Unit {0}
IsGivenTo inputs held p (bit_of path e bit) given = Unit {0}
IsGivenTo inputs held p (flop path clock next bit) given = given ≡ held p
IsGivenTo inputs held p (hold path gate e bit) given = given ≡ held p

-- what is given, by the numbers of points
abbrev pub AreGivenByNumber : List PlainModule → (inputs held : Terns) → (given : PointTerns) → Type 0
AreGivenByNumber text inputs held given =
    (number : ℕ) (p : Point) (d : Driver) → IsPoint text number p → Drives text p d → IsGivenTo inputs held p d (given number)

-- what is given, from inputs and held values by number
abbrev pub given_at : Option Drive → (input held : Tern) → Tern
given_at (Some Given) input held = input
given_at _ input held = held

abbrev pub given_tern : List Drive → (inputs held : PointTerns) → PointTerns
given_tern drives inputs held point = given_at (slice_get drives point) (inputs point) (held point)

-- ---- ticks

-- the two clocks by their names
abbrev pub IsClockNamed : Clock → (name : List ℕ) → Type 0
IsClockNamed Loader name = name ≡ clock_name
IsClockNamed User name = name ≡ user_clock_name
IsClockNamed Other name = ⊥

-- whether a flip-flop of this clock takes its next value at a tick of one of the two
abbrev pub ticks_at : (tick own : Clock) → Bool
ticks_at Loader Loader = true
ticks_at User User = true
ticks_at _ _ = false

-- What a tick leaves with a point: with a flip-flop of its clock the next value, with a latch what its point has; all else keeps what is given to it.
abbrev pub left_by : List Tree → (tick : Clock) → (given : Tern) → PointTerns → (point : ℕ) → Option Drive → Tern
left_by trees tick given t point (Some (Flop own next)) = if ticks_at tick own then source_tern trees t next else given
left_by trees tick given t point (Some (Hold gate latched)) = t point
left_by trees tick given t point (Some Given) = given
left_by trees tick given t point (Some (Same other)) = given
left_by trees tick given t point (Some (Value source)) = given
left_by trees tick given t point None = given

abbrev pub left_tern : List Tree → List Drive → (tick : Clock) → (given t : PointTerns) → (point : ℕ) → Tern
left_tern trees drives tick given t point = left_by trees tick (given point) t point (slice_get drives point)
