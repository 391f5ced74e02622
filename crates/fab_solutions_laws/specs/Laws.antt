-- Laws of ternary solutions.
use Rattle.std.specs.Prelude.{◌≡◌, ℕ, Bool, true, List, [], ◌∷◌, length, Some}
use Rattle.fab_syntax.specs.Plain.{PlainExpr, PlainModule}
use Rattle.fab_syntax.specs.Sound.{IsSound}
use Rattle.fab_load_runs_laws.specs.fab_meaning_Points.{Path, Point, Driver, outside, copy, bit_of, flop, hold, Drives, module_at}
use Rattle.fab_load_runs_laws.specs.fab_meaning_Settled.{Assignment}
use Rattle.fab_load_runs_laws.specs.fab_meaning_Reads.{is_declared}
use Rattle.fab_load_runs_laws.specs.fab_sound_Narrow.{AreNarrow}
use Rattle.fab_load_runs_laws.specs.fab_values_Declarations.{Declaration, declarations, found_in}
use Rattle.fab_load_runs_laws.specs.fab_values_Evaluation.{local_width, IsFit}
use Rattle.fab_systems_laws.specs.System.{AreListed, IsSettledOn}
use Rattle.fab_systems_laws.specs.Ternary.{Tern, known, IsBelow, AreBelow, IsMonotone}
use Rattle.fab_ternary_laws.specs.Values.{tern_value}
use Rattle.fab_ternary_laws.specs.Shown.{Terns, tern_shown}
use Rattle.fab_solutions_laws.specs.Solutions.{tern_given, IsLeastSolution}

-- Where inputs and held values are known, solutions are those of `fab_ternary_laws`.
abbrev pub GivenIsShown : Type 0
GivenIsShown =
    (text : List PlainModule) (inputs held : Assignment) (t : Terns) (p : Point) (d : Driver) →
    tern_given text (λ q. known (inputs q)) (λ q. known (held q)) t p d ≡ tern_shown text inputs held t p d

-- lists of one length, bit by bit below
abbrev pub AreUnder : (ts us : List Tern) → Type 0
AreUnder [] [] = Unit {0}
AreUnder [] (u ∷ us) = ⊥
AreUnder (t ∷ ts) [] = ⊥
AreUnder (t ∷ ts) (u ∷ us) = IsBelow t u × AreUnder ts us

-- names have as many bits as they are declared with
abbrev pub AreWide : List Declaration → (names : List ℕ → List Tern) → Type 0
AreWide ds names = (name : List ℕ) → length (names name) ≡ local_width (found_in ds name)

-- What is known of the value of an expression that has one stays known where more is known of its names.
abbrev pub ValuesGrow : Type 0
ValuesGrow =
    (ds : List Declaration) (names more : List ℕ → List Tern) → AreWide ds names → ((name : List ℕ) → AreUnder (names name) (more name)) →
    (e : PlainExpr) → IsFit ds e → AreUnder (tern_value names e) (tern_value more e)

-- the expressions of a driver have values over the names of their instance
abbrev pub IsFitAt : List PlainModule → Path → PlainExpr → Type 0
IsFitAt text path e = (m : PlainModule) × (module_at text path ≡ Some m) × IsFit (declarations m) e

abbrev pub HasFit : List PlainModule → Driver → Type 0
HasFit text outside = Unit {0}
HasFit text (copy other) = Unit {0}
HasFit text (bit_of path e bit) = IsFitAt text path e
HasFit text (flop path clock next bit) = IsFitAt text path next
HasFit text (hold path gate e bit) = IsFitAt text path gate × IsFitAt text path e

-- What is known of what such a driver gives its point stays known where more is known of inputs, held values and points.
abbrev pub DriversGrow : Type 0
DriversGrow =
    (text : List PlainModule) (inputs later held kept t u : Terns) → AreBelow inputs later → AreBelow held kept → AreBelow t u →
    (p : Point) (d : Driver) → HasFit text d → IsBelow (tern_given text inputs held t p d) (tern_given text later kept u p d)

-- In a sound text whose widths are counted in 64 bits all drivers are such.
abbrev pub DriversFit : Type 0
DriversFit = (text : List PlainModule) → IsSound text → AreNarrow text → (p : Point) (d : Driver) → Drives text p d → HasFit text d

abbrev pub LeastSolutionsExist : Type 0
LeastSolutionsExist = (text : List PlainModule) → IsSound text → AreNarrow text → (inputs held : Terns) → (t : Terns) × IsLeastSolution text inputs held t

-- There is one least solution at most, on the declared points.
abbrev pub LeastSolutionsAgree : Type 0
LeastSolutionsAgree =
    (text : List PlainModule) (inputs held t u : Terns) → IsLeastSolution text inputs held t → IsLeastSolution text inputs held u →
    (p : Point) → is_declared text p ≡ true → t p ≡ u p

-- Points suffice for themselves where each shows its value as soon as all of them have theirs, whatever the other points have. If these values stand in
-- the least solution, they are its values.
abbrev pub DemandedIsLeast : Type 0 → Type 0
DemandedIsLeast P =
    (has demanded : P → Bool) (points : List P) (show : P → (P → Tern) → Tern) → AreListed has points → IsMonotone has show →
    (t w : P → Tern) → IsSettledOn has show t → ((u : P → Tern) → IsSettledOn has show u → (p : P) → has p ≡ true → IsBelow (t p) (u p)) →
    ((p : P) → demanded p ≡ true → has p ≡ true) → ((p : P) → demanded p ≡ true → IsBelow (w p) (t p)) →
    ((s : P → Tern) → ((q : P) → demanded q ≡ true → s q ≡ w q) → (p : P) → demanded p ≡ true → show p s ≡ w p) →
    (p : P) → demanded p ≡ true → t p ≡ w p
