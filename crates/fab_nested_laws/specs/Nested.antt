-- A text that stands in a greater one, as an instance of its top.
use Rattle.std.specs.Prelude.{◌≡◌, ℕ, true, List, [], ◌∷◌, ◌++◌, Some, All}
use Rattle.fab_syntax.specs.Plain.{PlainExpr, PlainItem, wire, reg, assign, latch, clocked, instance, PlainModule}
use Rattle.fab_syntax.specs.Declarations.{module_named, is_input_of}
use Rattle.fab_meaning.specs.Points.{Path, Point, point, Driver, bit_of, Drives, module_at}
use Rattle.fab_meaning.specs.Settled.{Assignment, shown}
use Rattle.fab_meaning.specs.Runs.{clock_of, is_clock, kept}

-- ---- points of the inner text as points of the outer one

abbrev pub path_in : (i : List ℕ) → Path → Path
path_in i path = path ++ i ∷ []

abbrev pub inside : (i : List ℕ) → Point → Point
inside i p = point (path_in i p.path) p.name p.bit

-- what the inner text sees of an assignment
abbrev pub within : (i : List ℕ) → Assignment → Assignment
within i a p = a (inside i p)

-- ---- one text in another

-- an instance names the same module in both texts
abbrev pub NamesAlike : (inner outer : List PlainModule) → PlainItem → Type 0
NamesAlike inner outer (instance module_name i joins) = module_named outer module_name ≡ module_named inner module_name
NamesAlike inner outer (wire shape name) = Unit {0}
NamesAlike inner outer (reg shape name) = Unit {0}
NamesAlike inner outer (assign target e) = Unit {0}
NamesAlike inner outer (latch target gate e) = Unit {0}
NamesAlike inner outer (clocked clock target e) = Unit {0}

-- The inner text stands in the outer one as this instance in its top.
pub record StandsIn (inner outer : List PlainModule) (i : List ℕ) : Type 0 where
  pub top : (m : PlainModule) → module_at inner [] ≡ Some m → module_at outer (i ∷ []) ≡ Some m
  pub modules : All (λ m. All (NamesAlike inner outer) m.items) inner
  -- each input of its top is joined
  pub joined : (name : List ℕ) (bit : ℕ) → is_input_of (module_at inner []) name ≡ true → (e : PlainExpr) × Drives outer (point (i ∷ []) name bit) (bit_of [] e bit)

-- a clock of the outer top ticks the inner text as the clock of this name
abbrev pub IsSameClock : (inner outer : List PlainModule) (i : List ℕ) (clock : List ℕ) → Type 0
IsSameClock inner outer i clock =
    (name : List ℕ) → is_input_of (module_at inner []) name ≡ true → is_clock clock (clock_of outer (i ∷ []) name) ≡ is_clock clock (Some name)

-- ---- the law

-- a point has what its driver gives it
abbrev pub IsShown : List PlainModule → (inputs held now : Assignment) → Point → Type 0
IsShown text inputs held now p = (d : Driver) → Drives text p d → now p ≡ shown text inputs held now p d

-- it is left with what its driver keeps at a tick
abbrev pub IsKept : List PlainModule → (clock : List ℕ) → (held now next : Assignment) → Point → Type 0
IsKept text clock held now next p = (d : Driver) → Drives text p d → next p ≡ kept text clock held now p d

-- Point by point, what is settled of the outer text is so of the inner one, under the inputs that the outer one gives it, and its ticks are ticks.
pub record IsNested (inner outer : List PlainModule) (i : List ℕ) : Type 0 where
  pub settles : (inputs held now : Assignment) (p : Point) → IsShown outer inputs held now (inside i p) → IsShown inner (within i now) (within i held) (within i now) p
  pub ticks : (clock : List ℕ) (held now next : Assignment) → IsSameClock inner outer i clock → (p : Point) → IsKept outer clock held now next (inside i p) →
      IsKept inner clock (within i held) (within i now) (within i next) p

abbrev pub NestedTexts : Type 0
NestedTexts = (inner outer : List PlainModule) (i : List ℕ) → StandsIn inner outer i → IsNested inner outer i
