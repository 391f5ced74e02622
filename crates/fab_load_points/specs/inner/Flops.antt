-- Flip-flops of the clock CLK, those that are still in, and the greatest closed set of them.
use Rattle.std.specs.Prelude.{◌≡◌, ◌⊎◌, ℕ, Bool, true, false, ◌&&◌, List, [], Contains, Option, Some, None, slice_get}
use Rattle.std.specs.List.{list_any}
use Rattle.std.specs.Str.{bytes_eq}
use Rattle.fab_syntax.specs.Plain.{PlainExpr, PlainModule}
use Rattle.fab_meaning.specs.Points.{Path, Point, flop, Drives}
use Rattle.fab_meaning.specs.Reads.{is_declared, same_path, expression_reads}
use Rattle.fab_meaning.specs.Runs.{clock_of, clock_name}
use Rattle.fab_meaning.specs.Loading.{Within, IsClosed}
use Rattle.fab_equations.specs.Instances.{points}
use Rattle.fab_equations.specs.Equations.{IsSource}
use Rattle.fab_load_points.specs.inner.Causes.{StandsFor}
use Rattle.fab_load_points.specs.inner.Search.{Scene, IsSearch}
use Rattle.fab_load_points.specs.declared.flops.Flop.{Flop}
use Rattle.fab_load_points.specs.declared.search.Status.{Status}
use Rattle.fab_load_points.specs.declared.search.Status.TheVariants.{New, Inside}

-- whether a point is a bit of the name of which another point is a bit
abbrev pub is_bit_beside : Option Point → Point → Bool
is_bit_beside None p = false
is_bit_beside (Some other) p = same_path other.path p.path && bytes_eq other.name p.name

-- whether a point is a bit of the name of a number
abbrev pub is_bit_of : List PlainModule → (name : ℕ) → Point → Bool
is_bit_of text name p = is_bit_beside (slice_get (points text) name) p

abbrev pub among : List PlainModule → List Flop → Point → Bool
among text flops p = list_any (λ (f : Flop). is_bit_of text f.name p) flops

-- ---- flip-flops of CLK

-- a flip-flop of CLK by its first point, with its next value
pub record IsLoaderFlop (text : List PlainModule) (f : Flop) : Type 0 where
  pub at : Point
  pub stands : StandsFor text f.name at
  pub path : Path
  pub clock : List ℕ
  pub next : PlainExpr
  pub drives : Drives text at (flop path clock next 0)
  pub clocked : clock_of text path clock ≡ Some clock_name
  pub source : IsSource text f.next path next

abbrev pub AreLoaderFlops : List PlainModule → List Flop → Type 0
AreLoaderFlops text flops = (f : Flop) → Contains flops f → IsLoaderFlop text f

-- a declared point is driven by a flip-flop of CLK
pub record IsLoaderPoint (text : List PlainModule) (p : Point) : Type 0 where
  pub path : Path
  pub clock : List ℕ
  pub next : PlainExpr
  pub bit : ℕ
  pub declared : is_declared text p ≡ true
  pub drives : Drives text p (flop path clock next bit)
  pub clocked : clock_of text path clock ≡ Some clock_name

-- each closed set has none but these, as far as its points are declared
abbrev pub HoldsClosed : List PlainModule → (flops : Point → Bool) → Type 0
HoldsClosed text flops = (some : Point → Bool) → IsClosed text some → (p : Point) → is_declared text p ≡ true → some p ≡ true → flops p ≡ true

-- ---- one look at each

-- these are inside, and of all others nothing is known
pub record AreBegun (flops : List Flop) (statuses : List Status) : Type 0 where
  pub inside : (f : Flop) → Contains flops f → slice_get statuses f.name ≡ Some Inside
  pub others : (name : ℕ) (status : Status) → slice_get statuses name ≡ Some status →
      (status ≡ New) ⊎ ((status ≡ Inside) × (f : Flop) × Contains flops f × (f.name ≡ name))

-- what a flip-flop takes at its tick reads points of a set alone
abbrev pub ReadsWithin : List PlainModule → (flops : Point → Bool) → Flop → Type 0
ReadsWithin text flops f =
    (path : Path) (next : PlainExpr) → IsSource text f.next path next → (p : Point) → expression_reads text path next p ≡ true → Within text flops p

-- it reads a point that is not in the set
abbrev pub ReadsBeyond : List PlainModule → (flops : Point → Bool) → Flop → Type 0
ReadsBeyond text flops f =
    (path : Path) (next : PlainExpr) → IsSource text f.next path next →
    (p : Point) × (expression_reads text path next p ≡ true) × ¬ Within text flops p

-- whether it does
abbrev pub Looks : List PlainModule → (all left : Point → Bool) → Flop → (stays : Bool) → Type 0
Looks text all left f true = ReadsWithin text all f
Looks text all left f false = ReadsBeyond text left f

-- ---- the greatest closed set

-- A search among flip-flops that are the greatest closed set. All that it tells is so of the set.
pub record IsClosedSearch (text : List PlainModule) (statuses : List Status) : Type 0 where
  pub scene : Scene text
  pub search : IsSearch text scene statuses []
  pub same : (p : Point) → scene.all p ≡ true → scene.left p ≡ true
  pub closed : IsClosed text scene.all
  pub greatest : HoldsClosed text scene.all
