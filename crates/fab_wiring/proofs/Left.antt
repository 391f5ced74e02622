-- What ticks leave with flip-flops and latches, and what is given, by number.
use Rattle.std.proofs.Common.{◌≡◌, ℕ, Bool, true, false, List, Option, Some, None, if◌then◌else◌, refl, sym, ap, subst, ◌∙◌}
use Rattle.std.specs.Str.{bytes_eq}
use Rattle.std.proofs.lemmas.Slice.Eq.{bytes_eq-Decides}
use Rattle.fab_syntax.specs.Plain.{PlainModule}
use Rattle.fab_meaning.specs.Points.{Point, Driver, outside, copy, bit_of, flop, hold, IsStored}
use Rattle.fab_meaning.specs.Runs.{clock_name, user_clock_name, clock_of, is_clock}
use Rattle.fab_systems_laws.specs.Ternary.{Tern}
use Rattle.fab_ternary_laws.specs.Shown.{Terns}
use Rattle.fab_network.specs.fab_solutions_laws_Solutions.{tern_kept}
use Rattle.fab_equations.specs.Equations.{IsPoint}
use Rattle.fab_equations.proofs.Points.{points_are_declared}
use Rattle.fab_compiled.specs.declared.tree.Tree.{Tree}
use Rattle.fab_compiled.specs.Leading.{PointTerns}
use Rattle.fab_compiled.specs.Values.{AreByNumber}
use Rattle.fab_network.specs.declared.network.Clock.{Clock}
use Rattle.fab_network.specs.declared.network.Clock.TheVariants.{Loader, User, Other}
use Rattle.fab_network.specs.declared.network.Drive.{Drive}
use Rattle.fab_network.specs.declared.network.Drive.TheVariants.{Given, Flop, Hold}
use Rattle.fab_wiring.specs.Wiring.{clock_called, IsDriveOf}
use Rattle.fab_wiring.specs.Given.{IsGivenTo, IsClockNamed, given_at, ticks_at, left_by, left_tern}
use Rattle.fab_wiring.specs.Laws.{GivenByNumber, LeftByNumber, NextByNumber}
use Rattle.fab_wiring.proofs.Solved.{point_there}

-- the clock of a name, by the two tests of it
by_tests : (loads uses : Bool) → Clock
by_tests loads uses = if loads then Loader else if uses then User else Other

loader_ticks : (loads uses : Bool) → loads ≡ ticks_at Loader (by_tests loads uses)
unfolding by_tests
loader_ticks true uses = refl
loader_ticks false true = refl
loader_ticks false false = refl

user_ticks : (loads uses : Bool) → (loads ≡ true → uses ≡ false) → uses ≡ ticks_at User (by_tests loads uses)
unfolding by_tests
user_ticks true uses apart = apart refl
user_ticks false true apart = refl
user_ticks false false apart = refl

not_both : (name : List ℕ) → bytes_eq name clock_name ≡ true → bytes_eq name user_clock_name ≡ false
not_both name is = subst (λ (n : List ℕ). bytes_eq n user_clock_name ≡ false) (sym ((bytes_eq-Decides name clock_name).0 is)) refl

clock_ticks : (tick : Clock) (name : List ℕ) → IsClockNamed tick name → (o : Option (List ℕ)) → is_clock name o ≡ ticks_at tick (clock_called o)
unfolding by_tests
clock_ticks Loader name is None = refl
clock_ticks User name is None = refl
clock_ticks Loader name is (Some n) = ap (bytes_eq n) is ∙ loader_ticks (bytes_eq n clock_name) (bytes_eq n user_clock_name)
clock_ticks User name is (Some n) = ap (bytes_eq n) is ∙ user_ticks (bytes_eq n clock_name) (bytes_eq n user_clock_name) (not_both n)
clock_ticks Other name is o = absurd is

module _ (text : List PlainModule) (trees : List Tree) (inputs held t : Terns) (given s : PointTerns) (same : AreByNumber text t s)
    (tick : Clock) (name : List ℕ) (named : IsClockNamed tick name) where
  left_is : (number : ℕ) (p : Point) (d : Driver) (drive : Drive) → IsPoint text number p → IsGivenTo inputs held p d (given number) → IsStored d →
      IsDriveOf text trees d drive → tern_kept text name held t p d ≡ left_by trees tick (given number) s number (Some drive)
  left_is number p (flop path own next bit) (Flop kind source) is g holds of =
      let ticks : is_clock name (clock_of text path own) ≡ ticks_at tick kind = clock_ticks tick name named (clock_of text path own) ∙ ap (ticks_at tick) (sym of.0) in
      (λ j. if ticks j then sym (of.1.value t s same) j else sym g j)
  left_is number p (hold path gate e bit) (Hold opens latched) is g holds of = sym (same number p is)
  left_is number p outside drive is g holds of = absurd holds
  left_is number p (copy other) drive is g holds of = absurd holds
  left_is number p (bit_of path e bit) drive is g holds of = absurd holds
  left_is number p (flop path own next bit) drive is g holds of = absurd of
  left_is number p (hold path gate e bit) drive is g holds of = absurd of

pub left_by_number : LeftByNumber
left_by_number text trees drives wired inputs held t given s are_given same tick name named number p d is driven holds =
    let w = wired number p d is driven in
    left_is text trees inputs held t given s same tick name named number p d w.drive is (are_given number p d is driven) holds w.of
    ∙ sym (ap (left_by trees tick (given number) s number) w.is)

-- ---- what is given

module _ (text : List PlainModule) (trees : List Tree) (inputs held : Terns) (p : Point) (fed kept : Tern) where
  given_is : (d : Driver) (drive : Drive) → IsDriveOf text trees d drive → fed ≡ inputs p → (IsStored d → kept ≡ held p) →
      IsGivenTo inputs held p d (given_at (Some drive) fed kept)
  given_is outside Given of input hold_is = input
  given_is (copy other) drive of input hold_is = tt
  given_is (bit_of path e bit) drive of input hold_is = tt
  given_is (flop path clock next bit) (Flop kind source) of input hold_is = hold_is tt
  given_is (hold path gate e bit) (Hold opens latched) of input hold_is = hold_is tt
  given_is d drive of input hold_is = absurd of

pub given_by_number : GivenByNumber
given_by_number text trees drives wired inputs held fed kept fed_is kept_is number p d is driven =
    let w = wired number p d is driven in
    subst (λ (o : Option Drive). IsGivenTo inputs held p d (given_at o (fed number) (kept number))) (sym w.is)
    (given_is text trees inputs held p (fed number) (kept number) d w.drive w.of (fed_is number p is) (λ holds. kept_is number p is))

pub next_by_number : NextByNumber
next_by_number text sound trees drives wired inputs held t later next given s fed are_given same tick name named leaves fed_is number p d is driven =
    let w = wired number p d is driven in
    let left = left_tern trees drives tick given s in
    subst (λ (o : Option Drive). IsGivenTo later next p d (given_at o (fed number) (left number))) (sym w.is)
    (given_is text trees later next p (fed number) (left number) d w.drive w.of (fed_is number p is)
    (λ holds.
    sym (leaves p d (points_are_declared text sound p (point_there text number p is)) driven
    ∙ left_by_number text trees drives wired inputs held t given s are_given same tick name named number p d is driven holds)))
