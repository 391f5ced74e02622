-- Each name is driven once: counts that a reader of a text can make, and what follows of its points.
use Rattle.std.specs.Prelude.{◌≡◌, ℕ, ◌≤◌, true, List}
use Rattle.std.specs.List.{All}
use Rattle.fab_syntax.specs.Plain.{PlainItem, instance, PlainModule}
use Rattle.fab_syntax.specs.Declarations.{is_input, times_driven, times_instance, times_joined}
use Rattle.fab_syntax.specs.Sound.{IsSound}
use Rattle.fab_meaning.specs.Points.{Point, Driver, Drives}
use Rattle.fab_meaning.specs.Reads.{is_declared}

abbrev pub JoinsOnce : PlainItem → Type 0
JoinsOnce (instance module_name i joins) = (port : List ℕ) → times_joined joins port ≤ 1
JoinsOnce _ = Unit {0}

-- in a module of a text, no name is driven twice and no input at all, no two instances have one name, and no port is joined twice
pub record DrivesOnce (text : List PlainModule) (m : PlainModule) : Type 0 where
  pub inputs : (name : List ℕ) → is_input m.ports name ≡ true → times_driven text m.items name ≡ 0
  pub names : (name : List ℕ) → times_driven text m.items name ≤ 1
  pub instances : (name : List ℕ) → times_instance m.items name ≤ 1
  pub joins : All JoinsOnce m.items

-- In a text of such modules each point has at most one driver.
abbrev pub EachPointHasOneDriver : Type 0
EachPointHasOneDriver =
    (text : List PlainModule) → All (DrivesOnce text) text →
    (p : Point) (d e : Driver) → Drives text p d → Drives text p e → d ≡ e

-- The modules of a sound text are such, and each of its declared points has one driver, not less.
abbrev pub SoundTextsDriveOnce : Type 0
SoundTextsDriveOnce = (text : List PlainModule) → IsSound text → All (DrivesOnce text) text

abbrev pub HasOneDriver : List PlainModule → Point → Type 0
HasOneDriver text p = (d : Driver) × Drives text p d × ((e : Driver) → Drives text p e → e ≡ d)

abbrev pub PointsOfSoundTextsHaveOneDriver : Type 0
PointsOfSoundTextsHaveOneDriver =
    (text : List PlainModule) → IsSound text → (p : Point) → is_declared text p ≡ true → HasOneDriver text p
