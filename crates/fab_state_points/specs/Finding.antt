-- How a name is declared in an instance of a text, and what is found of it.
use Rattle.std.specs.Prelude.{◌≡◌, ℕ, ◌+◌, ◌<◌, List, Option, None, Some}
use Rattle.fab_syntax.specs.Plain.{PlainExpr, PlainModule}
use Rattle.fab_syntax.specs.declared.tree.Shape.{Shape}
use Rattle.fab_meaning.specs.Points.{Path, Point, point, flop, Drives, module_at}
use Rattle.fab_values.specs.Declarations.{declared_at, found_in, width}
use Rattle.fab_values.specs.declared.names.Local.{Local}
use Rattle.fab_values.specs.declared.names.Role.{Role}
use Rattle.fab_equations.specs.Instances.{Instance}
use Rattle.fab_equations.specs.Numbering.{IsInstanceOfNumber}
use Rattle.fab_equations.specs.Equations.{IsPoint}

-- the instance at a path declares the name with this shape and in this role
pub record IsDeclared (text : List PlainModule) (path : Path) (name : List ℕ) (shape : Shape) (role : Role) : Type 0 where
  pub local : Local
  pub is : found_in (declared_at (module_at text path)) name ≡ Some local
  pub shape_is : local.shape ≡ shape
  pub role_is : local.role ≡ role

-- a flip-flop drives the point
pub record IsClocked (text : List PlainModule) (p : Point) : Type 0 where
  pub path : Path
  pub clock : List ℕ
  pub next : PlainExpr
  pub bit : ℕ
  pub drives : Drives text p (flop path clock next bit)

-- ---- what is found

-- the bits of a name have numbers that follow one another
abbrev pub AreBits : List PlainModule → Path → (name : List ℕ) → Shape → (first : ℕ) → Type 0
AreBits text path name shape first = (bit : ℕ) → bit < width shape → IsPoint text (first + bit) (point path name bit)

-- the instance at a path by its number, or that there is none
abbrev pub IsInstanceAt : List PlainModule → Path → Option ℕ → Type 0
IsInstanceAt text path None = module_at text path ≡ None
IsInstanceAt text path (Some number) = (i : Instance) × IsInstanceOfNumber text number i × (i.path ≡ path)

-- the first point of a name that is declared so, or that there is none
abbrev pub IsFoundName : List PlainModule → Path → (name : List ℕ) → Shape → Role → Option ℕ → Type 0
IsFoundName text path name shape role None = ¬ IsDeclared text path name shape role
IsFoundName text path name shape role (Some first) = IsDeclared text path name shape role × AreBits text path name shape first

-- the same of a point that is to be a flip-flop
abbrev pub IsFoundFlop : List PlainModule → (number : Option ℕ) → (found : Option ℕ) → Type 0
IsFoundFlop text None None = Unit {0}
IsFoundFlop text None (Some found) = ⊥
IsFoundFlop text (Some number) None = (p : Point) → IsPoint text number p → ¬ IsClocked text p
IsFoundFlop text (Some number) (Some found) = (found ≡ number) × ((p : Point) → IsPoint text number p → IsClocked text p)
