-- Solutions of a text and solutions by number.
use Rattle.std.proofs.Common.{◌≡◌, ℕ, List, length, Some, Contains, sym, ap, subst, ◌∙◌, arith}
use Rattle.std.proofs.lemmas.Option.{slice_get_within, slice_get-get_or, get_or_from_slice_get}
use Rattle.fab_syntax.specs.Plain.{PlainModule}
use Rattle.fab_syntax.specs.Sound.{IsSound}
use Rattle.fab_meaning.specs.Points.{Point, Driver, outside, copy, bit_of, flop, hold, Drives}
use Rattle.fab_meaning.specs.Sound.{PointsOfSoundTextsHaveOneDriver}
use Rattle.fab_systems_laws.specs.Ternary.{Tern, IsBelow}
use Rattle.fab_ternary_laws.specs.Shown.{Terns, through}
use Rattle.fab_network.specs.fab_solutions_laws_Solutions.{tern_given, Solves as SolvesText, IsLeastSolution}
use Rattle.fab_equations.specs.Instances.{points}
use Rattle.fab_equations.specs.Equations.{IsPoint}
use Rattle.fab_equations.proofs.Numbering.{some_there}
use Rattle.fab_equations.proofs.Points.{points_are_declared, declared_are_points}
use Rattle.fab_compiled.specs.declared.tree.Tree.{Tree}
use Rattle.fab_compiled.specs.Leading.{PointTerns}
use Rattle.fab_compiled.specs.Values.{AreByNumber}
use Rattle.fab_network.specs.declared.network.Drive.{Drive}
use Rattle.fab_network.specs.declared.network.Drive.TheVariants.{Given, Flop, Same, Value, Hold}
use Rattle.fab_network.specs.Solved.{asked_by, asked_tern, Solves, IsLeast}
use Rattle.fab_wiring.specs.Wiring.{IsDriveOf, AreDrives}
use Rattle.fab_wiring.specs.Given.{IsGivenTo, AreGivenByNumber}
use Rattle.fab_wiring.specs.Laws.{LeastByNumber, SolutionsByNumber}
use Rattle.fab_wiring.proofs.Numbered.{points_have_terns}

pub is_point : (text : List PlainModule) (p : Point) → Contains (points text) p → (number : ℕ) × IsPoint text number p
is_point text p there = (there.0, slice_get-get_or (points text) there.0 p there.1 ∙ ap Some there.2)

pub point_there : (text : List PlainModule) (number : ℕ) (p : Point) → IsPoint text number p → Contains (points text) p
point_there text number p is = (number, slice_get_within (points text) number p is, get_or_from_slice_get (points text) number p p is)

module _ (text : List PlainModule) (trees : List Tree) (inputs held : Terns) (given : PointTerns) where
  asked_is : (t : Terns) (s : PointTerns) → AreByNumber text t s → (number : ℕ) (p : Point) (d : Driver) (drive : Drive) →
      IsGivenTo inputs held p d (given number) → IsDriveOf text trees d drive → asked_by trees (given number) s (Some drive) ≡ tern_given text inputs held t p d
  asked_is t s same number p outside Given g of = g
  asked_is t s same number p (copy other) (Same n) g of = same n other of
  asked_is t s same number p (bit_of path e bit) (Value source) g of = of.value t s same
  asked_is t s same number p (flop path clock next bit) (Flop kind source) g of = g
  asked_is t s same number p (hold path gate e bit) (Hold opens latched) g of = (λ j. through (of.0.value t s same j) (of.1.value t s same j) (g j))
  asked_is t s same number p d drive g of = absurd of

  module _ (sound : IsSound text) (one : PointsOfSoundTextsHaveOneDriver) (drives : List Drive) (long : length drives ≡ length (points text))
      (wired : AreDrives text trees drives) (are_given : AreGivenByNumber text inputs held given) where
    asked : (t : Terns) (s : PointTerns) → AreByNumber text t s → (number : ℕ) (p : Point) (d : Driver) → IsPoint text number p → Drives text p d →
        asked_tern trees drives given s number ≡ tern_given text inputs held t p d
    asked t s same number p d is driven =
        let w = wired number p d is driven in
        ap (asked_by trees (given number) s) w.is ∙ asked_is t s same number p d w.drive (are_given number p d is driven) w.of

    pub numbered_solves : (t : Terns) (s : PointTerns) → AreByNumber text t s → SolvesText text inputs held t → Solves trees drives given s
    numbered_solves t s same solves number l =
        let there = some_there (points text) number (omega (arith, long)) in
        let p = there.0 in
        let declared = points_are_declared text sound p (point_there text number p there.1) in
        let d = one text sound p declared in
        same number p there.1 ∙ solves p d.0 declared d.1 ∙ sym (asked t s same number p d.0 there.1 d.1)

    pub text_solves : (t : Terns) (s : PointTerns) → AreByNumber text t s → Solves trees drives given s → SolvesText text inputs held t
    text_solves t s same solves p d declared driven =
        let there = is_point text p (declared_are_points text sound p declared) in
        sym (same there.0 p there.1) ∙ solves there.0 (omega (arith, long, slice_get_within (points text) there.0 p there.1)) ∙ asked t s same there.0 p d there.1 driven

    pub least_numbered : (t : Terns) (s : PointTerns) → AreByNumber text t s → IsLeastSolution text inputs held t → IsLeast trees drives given s
    least_numbered t s same least = record {
      solves = numbered_solves t s same least.solves;
      least = λ u solves number l.
          let there = some_there (points text) number (omega (arith, long)) in
          let p = there.0 in
          let other = points_have_terns text sound u in
          let below : IsBelow (t p) (other.0 p) =
          least.least other.0 (text_solves other.0 u other.1 solves) p (points_are_declared text sound p (point_there text number p there.1)) in
          subst (λ (x : Tern). IsBelow x (u number)) (sym (same number p there.1)) (subst (λ (x : Tern). IsBelow (t p) x) (sym (other.1 number p there.1)) below);
    }

pub least_by_number : PointsOfSoundTextsHaveOneDriver → LeastByNumber
least_by_number one text sound trees drives long wired inputs held t given s are_given same least =
    least_numbered text trees inputs held given sound one drives long wired are_given t s same least

pub solutions_by_number : PointsOfSoundTextsHaveOneDriver → SolutionsByNumber
solutions_by_number one text sound trees drives long wired inputs held t given s are_given same = (
  numbered_solves text trees inputs held given sound one drives long wired are_given t s same,
  text_solves text trees inputs held given sound one drives long wired are_given t s same,
)
