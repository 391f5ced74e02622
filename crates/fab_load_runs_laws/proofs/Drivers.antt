-- The drivers of the declared points of a sound text, as one function.
use Rattle.std.proofs.Common.{◌≡◌, Bool, true, false, List, refl}
use Rattle.std.proofs.lemmas.Bool.{false≢true}
use Rattle.fab_equations.specs.fab_syntax.specs.Plain.{PlainModule}
use Rattle.fab_equations.specs.fab_syntax.specs.Sound.{IsSound}
use Rattle.fab_equations.specs.fab_meaning.specs.Points.{Point, Driver, outside, Drives}
use Rattle.fab_equations.specs.fab_meaning.specs.Reads.{is_declared}
use Rattle.fab_equations.specs.fab_meaning.specs.Ranked.{AreDrivenBy}
use Rattle.fab_equations.specs.fab_meaning.proofs.SoundDrivers.{has_one_driver}

module _ (text : List PlainModule) (sound : IsSound text) where
  -- other points have none that matters
  abbrev driver_if : (p : Point) (declared : Bool) → is_declared text p ≡ declared → Driver
  driver_if p true h = (has_one_driver text sound p h).0
  driver_if p false h = outside

  drives_if : (p : Point) (declared : Bool) (e : is_declared text p ≡ declared) → declared ≡ true → Drives text p (driver_if p declared e)
  drives_if p true e h = (has_one_driver text sound p e).1
  drives_if p false e h = absurd (false≢true h)

  only_if : (p : Point) (declared : Bool) (e : is_declared text p ≡ declared) → declared ≡ true → (d : Driver) → Drives text p d → d ≡ driver_if p declared e
  only_if p true e h d drives = (has_one_driver text sound p e).2 d drives
  only_if p false e h d drives = absurd (false≢true h)

  pub drivers : (driver : Point → Driver) × AreDrivenBy text (is_declared text) driver
  drivers = (
    λ p. driver_if p (is_declared text p) refl,
    record {
      each = λ p h. drives_if p (is_declared text p) refl h;
      only = λ p d h drives. only_if p (is_declared text p) refl h d drives;
    },
  )
