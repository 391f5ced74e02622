-- Drives for what drives points.
use Rattle.std.proofs.Common.{◌≡◌, ℕ, ◌+◌, List, [], ◌∷◌, ◌++◌, length, length-append, slice_get, Some, sym, ap, subst, ◌∙◌, inl, inr, arith}
use Rattle.std.proofs.lemmas.Option.{slice_get_within}
use Rattle.fab_syntax.specs.Plain.{PlainModule}
use Rattle.fab_syntax.specs.Sound.{IsSound}
use Rattle.fab_meaning.specs.Points.{Point, Driver, Drives}
use Rattle.fab_meaning.specs.Sound.{PointsOfSoundTextsHaveOneDriver}
use Rattle.fab_equations.specs.Instances.{points}
use Rattle.fab_equations.specs.Equations.{IsPoint, Means, IsDriven}
use Rattle.fab_equations.specs.declared.driver.Source.{Source as MeantSource}
use Rattle.fab_equations.specs.declared.driver.Driver.{Driver as MeantDriver}
use Rattle.fab_equations.specs.declared.driver.Driver.TheVariants as meant
use Rattle.fab_equations.proofs.ChildSteps.{pushed_cases}
use Rattle.fab_equations.proofs.Numbering.{same_value, some_there}
use Rattle.fab_equations.proofs.Points.{points_are_declared}
use Rattle.fab_compiled.specs.declared.tree.Tree.{Tree}
use Rattle.fab_network.specs.declared.network.Source.{Source}
use Rattle.fab_network.specs.declared.network.Drive.{Drive}
use Rattle.fab_network.specs.declared.network.Drive.TheVariants.{Hold}
use Rattle.fab_network.specs.Network.{IsFitDrive, AreFit}
use Rattle.fab_wiring.specs.Wiring.{IsDriveOf, IsSourceOf, AreDrives}
use Rattle.fab_wiring.specs.inner.Trees.{AreKept, IsMade}
use Rattle.fab_wiring.proofs.Solved.{point_there}
use Rattle.fab_wiring.proofs.Sources.{drive_fit_stays, drive_stays}

-- ---- the drive of a latch

pub hold_drive : (text : List PlainModule) (trees : List Tree) (driver : MeantDriver) (d : Driver) → Means text driver d →
    (gate latched : MeantSource) (opens source : Source) →
    driver ≡ meant.Hold gate latched → IsMade text trees gate opens → IsMade text trees latched source → IsDriveOf text trees d (Hold opens source)
hold_drive text trees driver d means gate latched opens source e open_made made =
    let m = subst (λ (x : MeantDriver). Means text x d) e means in
    subst (λ (x : Driver). IsDriveOf text trees x (Hold opens source)) (sym m.6)
    (subst (λ (bit : ℕ). IsSourceOf text trees m.0 m.1 bit opens) m.4 (open_made.value m.0 m.1 m.3), made.value m.0 m.2 m.5)

-- ---- the drives of the first points

-- a drive for what drives a point
pub record HasDrive (text : List PlainModule) (trees : List Tree) (number : ℕ) (drive : Drive) : Type 0 where
  pub p : Point
  pub is : IsPoint text number p
  pub d : Driver
  pub driven : Drives text p d
  pub of : IsDriveOf text trees d drive
  pub fit : IsFitDrive trees (length (points text)) drive

pub record AreDriven (text : List PlainModule) (trees : List Tree) (count : ℕ) (drives : List Drive) : Type 0 where
  pub long : length drives ≡ count
  pub each : (number : ℕ) (drive : Drive) → slice_get drives number ≡ Some drive → HasDrive text trees number drive

pub more_driven : (text : List PlainModule) (old new : List Tree) → AreKept old new →
    (count : ℕ) (before after : List Drive) (drive : Drive) (driver : MeantDriver) →
    after ≡ before ++ drive ∷ [] → IsDriven text count driver → ((d : Driver) → Means text driver d → IsDriveOf text new d drive) → IsFitDrive new (length (points text)) drive →
    AreDriven text old count before → AreDriven text new (count + 1) after
more_driven text old new kept count before after drive driver is driven of fit are = record {
  long = ap length is ∙ length-append before (drive ∷ []) ∙ ap (λ n. n + 1) are.long;
  each = λ number other there.
      elim (pushed_cases before drive other number (ap (λ (xs : List Drive). slice_get xs number) (sym is) ∙ there)) [
        | inl earlier ↦ (let has = are.each number other earlier in
            record {
              p = has.p;
              is = has.is;
              d = has.d;
              driven = has.driven;
              of = drive_stays text old new kept (length (points text)) has.d other has.fit has.of;
              fit = drive_fit_stays text old new kept (length (points text)) other has.fit;
            })
        | inr last ↦ (let place : count ≡ number = sym (last.0 ∙ are.long) in
            record {
              p = driven.of;
              is = subst (λ (n : ℕ). IsPoint text n driven.of) place driven.is;
              d = driven.by;
              driven = driven.drives;
              of = subst (IsDriveOf text new driven.by) last.1 (of driven.by driven.means);
              fit = subst (IsFitDrive new (length (points text))) last.1 fit;
            })
      ];
}

-- ---- the drives of all points

module _ (text : List PlainModule) (trees : List Tree) (drives : List Drive) (are : AreDriven text trees (length (points text)) drives) where
  pub all_fit : AreFit trees drives
  all_fit number drive is = subst (λ (n : ℕ). IsFitDrive trees n drive) (sym are.long) (are.each number drive is).fit

  pub all_drives : IsSound text → PointsOfSoundTextsHaveOneDriver → AreDrives text trees drives
  all_drives sound one number p d is driven =
      let there = some_there drives number (omega (arith, are.long, slice_get_within (points text) number p is)) in
      let has = are.each number there.0 there.1 in
      let same : has.p ≡ p = same_value (slice_get (points text) number) has.p p has.is is in
      let only = one text sound p (points_are_declared text sound p (point_there text number p is)) in
      let by : has.d ≡ d = only.2 has.d (subst (λ (q : Point). Drives text q has.d) same has.driven) ∙ sym (only.2 d driven) in
      record { drive = there.0; is = there.1; of = subst (λ (x : Driver). IsDriveOf text trees x there.0) by has.of }
