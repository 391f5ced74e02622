-- Looks at points that are not known yet, and passes of them.
use Rattle.std.specs.Prelude.{◌≡◌, ℕ, ◌+◌, ◌<◌, ◌≤◌, Bool, true, false, List, [], ◌∷◌, length, slice_set}
use Rattle.fab_systems_laws.specs.Ternary.{unknown}
use Rattle.fab_systems_laws.specs.Ternary.{Tern as PlainTern}
use Rattle.fab_ternary.specs.declared.Tern.{Tern}
use Rattle.fab_ternary.specs.declared.Tern.TheVariants.{No, Yes, Open}
use Rattle.fab_ternary.specs.Terns.{plain_tern, is_known}
use Rattle.fab_compiled.specs.declared.tree.Tree.{Tree}
use Rattle.fab_compiled.specs.Terns.{seen}
use Rattle.fab_network.specs.declared.network.Drive.{Drive}
use Rattle.fab_network.specs.Passes.{kept_tern, shows, AreBacked, AreRising, EachListed, IsListed, StaysBelow}
use Rattle.fab_settling.specs.declared.passes.Visit.{Visit}
use Rattle.fab_settling.specs.declared.passes.Visit.TheVariants.{Known, Still, Found}

-- how many points are open
abbrev pub open_count : List Tern → ℕ
open_count [] = 0
open_count (Open ∷ terns) = 1 + open_count terns
open_count (Yes ∷ terns) = open_count terns
open_count (No ∷ terns) = open_count terns

-- all that stays the same while points are looked at
pub record Scene : Type 0 where
  pub trees : List Tree
  pub drives : List Drive
  pub held : List Tern
  pub order : List ℕ
  pub leads : List ℕ

-- what a point shows now
abbrev pub shows_now : Scene → (terns : List Tern) → (point : ℕ) → PlainTern
shows_now scene terns point = shows scene.trees scene.drives scene.held (seen terns scene.leads) point

-- What a look at one point does. Where it may wait, an open point need not have been looked at.
abbrev pub IsVisit : Scene → (waits : Bool) → (point : ℕ) → (old new : List Tern) → Visit → Type 0
IsVisit scene waits point old new Known = (new ≡ old) × (is_known (kept_tern old point) ≡ true)
IsVisit scene waits point old new Still = (new ≡ old) × (kept_tern old point ≡ unknown) × (waits ≡ false → shows_now scene old point ≡ unknown)
IsVisit scene waits point old new Found =
    (kept_tern old point ≡ unknown) × (t : Tern) × (new ≡ slice_set old point t) × (is_known (plain_tern t) ≡ true) × (plain_tern t ≡ shows_now scene old point)

abbrev pub changed_after : Bool → Visit → Bool
changed_after changed Known = changed
changed_after changed Still = changed
changed_after changed Found = true

abbrev pub unsettled_after : Bool → Visit → Bool
unsettled_after unsettled Known = unsettled
unsettled_after unsettled Still = true
unsettled_after unsettled Found = unsettled

-- what looks at points of the list have done, whichever they were
pub record IsFurther (scene : Scene) (old now : List Tern) : Type 0 where
  pub long : length now ≡ length old
  pub rising : AreRising old now
  pub below : StaysBelow scene.trees scene.drives scene.held scene.order scene.leads old now
  pub backed : AreBacked scene.trees scene.drives scene.held scene.order (seen now scene.leads)
  pub falls : open_count now ≤ open_count old
  pub others : (point : ℕ) → (IsListed scene.order point → ⊥) → kept_tern now point ≡ kept_tern old point

-- what looks at the first points of the list have done
pub record IsPassed (scene : Scene) (count : ℕ) (old now : List Tern) (changed unsettled : Bool) : Type 0 where
  pub further : IsFurther scene old now
  pub same : changed ≡ false → (now ≡ old) × EachListed count scene.order (λ point. kept_tern old point ≡ unknown → shows_now scene old point ≡ unknown)
  pub fewer : changed ≡ true → open_count now < open_count old
  pub all : unsettled ≡ false → EachListed count scene.order (λ point. is_known (kept_tern now point) ≡ true)
