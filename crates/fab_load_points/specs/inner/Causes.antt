-- What decides the bits of a name. Each name of an instance goes by the number of its first point, since all its bits have one kind of driver.
use Rattle.std.specs.Prelude.{◌≡◌, ◌<◌, ℕ, ◌⊎◌, Bool, true, false, List, [], Contains, Option, Some, None}
use Rattle.fab_syntax.specs.Plain.{PlainModule}
use Rattle.fab_meaning.specs.Points.{Path, Point, point, Driver, outside, copy, bit_of, flop, hold}
use Rattle.fab_meaning.specs.Reads.{is_declared, reads}
use Rattle.fab_meaning.specs.Runs.{clock_name}
use Rattle.fab_meaning.specs.Loading.{IsDerived, write_strobe_name, write_data_name}
use Rattle.fab_equations.specs.Equations.{IsPoint}
use Rattle.fab_load_points.specs.declared.stream.Stream.{Stream}
use Rattle.fab_load_points.specs.declared.causes.Cause.{Cause}
use Rattle.fab_load_points.specs.declared.causes.Cause.TheVariants.{Input, Register, Reads}

-- the point of a number is the first of a name
pub record StandsFor (text : List PlainModule) (number : ℕ) (p : Point) : Type 0 where
  pub is : IsPoint text number p
  pub first : p.bit ≡ 0

-- the first point of a name of an instance, if it has bits
abbrev pub IsFirstOf : List PlainModule → Path → (name : List ℕ) → Option ℕ → Type 0
IsFirstOf text path name None = is_declared text (point path name 0) ≡ false
IsFirstOf text path name (Some number) = IsPoint text number (point path name 0)

-- the inputs of the top that carry words, as far as it declares such names
pub record IsStreamOf (text : List PlainModule) (stream : Stream) : Type 0 where
  pub clock : IsFirstOf text [] clock_name stream.clock
  pub strobe : IsFirstOf text [] write_strobe_name stream.strobe
  pub bits : IsFirstOf text [] write_data_name stream.«data»

-- the point of a number is a bit of a name of the top
abbrev pub IsTopBit : List PlainModule → (name : List ℕ) → (number : ℕ) → Type 0
IsTopBit text name number = (bit : ℕ) × IsPoint text number (point [] name bit)

-- ---- what is read

-- Some names stand on a list: these, and none but them beside those that stood there before. Names without bits are left out.
pub record AddsNames (text : List PlainModule) (path : Path) (has : List ℕ → Bool) (old new : List ℕ) : Type 0 where
  pub kept : (number : ℕ) → Contains old number → Contains new number
  pub added : (number : ℕ) → Contains new number → Contains old number ⊎ ((name : List ℕ) × (has name ≡ true) × IsPoint text number (point path name 0))
  pub all : (name : List ℕ) → has name ≡ true → is_declared text (point path name 0) ≡ true →
      (number : ℕ) × Contains new number × IsPoint text number (point path name 0)

-- the names of the points that are read
pub record AreReads (text : List PlainModule) (read : Point → Bool) (numbers : List ℕ) : Type 0 where
  pub sound : (number : ℕ) → Contains numbers number → (r : Point) × StandsFor text number r × (read r ≡ true)
  pub all : (r : Point) → read r ≡ true → is_declared text r ≡ true → (number : ℕ) × Contains numbers number × IsPoint text number (point r.path r.name 0)

-- a flip-flop
abbrev pub IsFlop : Driver → Type 0
IsFlop outside = ⊥
IsFlop (copy other) = ⊥
IsFlop (bit_of path e bit) = ⊥
IsFlop (flop path clock next bit) = Unit {0}
IsFlop (hold path gate e bit) = ⊥

-- what is read are points
abbrev pub IsWithin : (count : ℕ) → Cause → Type 0
IsWithin count Input = Unit {0}
IsWithin count Register = Unit {0}
IsWithin count (Reads numbers) = (number : ℕ) → Contains numbers.items number → number < count

-- what a driver is
abbrev pub IsCause : List PlainModule → Driver → Cause → Type 0
IsCause text d Input = d ≡ outside
IsCause text d Register = IsFlop d
IsCause text d (Reads numbers) = IsDerived d × AreReads text (reads text d) numbers.items
