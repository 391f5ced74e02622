-- A cycle: points that stand for themselves start anew, and are settled.
use Rattle.std.specs.Prelude.{◌≡◌, ℕ, ◌<◌, List, Option, None, Some, length, slice_get, slice_index}
use Rattle.fab_systems_laws.specs.Ternary.{unknown}
use Rattle.fab_systems_laws.specs.Ternary.{Tern as PlainTern}
use Rattle.fab_ternary.specs.declared.Tern.{Tern}
use Rattle.fab_compiled.specs.Terns.{seen}
use Rattle.fab_network.specs.declared.forms.Form.{Form}
use Rattle.fab_network.specs.declared.forms.Form.TheVariants.{Shows, Takes, Driven}
use Rattle.fab_network.specs.declared.network.Drive.{Drive}
use Rattle.fab_network.specs.declared.network.Drive.TheVariants.{Given, Flop, Same, Value, Hold}
use Rattle.fab_network.specs.declared.network.Network.{Network}
use Rattle.fab_network.specs.Passes.{kept_tern, AreRising, AreSolved, EachListed, IsListed, StaysBelow}

-- what a point starts with
abbrev pub start_tern : (given : PlainTern) → Option Drive → PlainTern
start_tern given None = unknown
start_tern given (Some Given) = given
start_tern given (Some (Flop clock next)) = given
start_tern given (Some (Same other)) = unknown
start_tern given (Some (Value source)) = unknown
start_tern given (Some (Hold gate latched)) = unknown

-- What a form tells of the start of a point with this drive.
abbrev pub IsStart : Form → Option Drive → Type 0
IsStart (Shows table) drive = (given : PlainTern) → start_tern given drive ≡ unknown
IsStart (Takes table) drive = (given : PlainTern) → start_tern given drive ≡ given
IsStart Driven drive = Unit {0}

-- the same of a point and the form at its place
abbrev pub IsStartAt : Network → List Form → (place point : ℕ) → Type 0
IsStartAt network forms place point = (form : Form) → slice_get forms place ≡ Some form → IsStart form (slice_get network.drives.items point)

abbrev pub AreStarts : Network → (order : List ℕ) → List Form → Type 0
AreStarts network order forms = (place : ℕ) → place < length order → IsStartAt network forms place (slice_index order place)

-- What is kept after a cycle over these points, where this is given to them.
pub record IsSettled (network : Network) (held : List Tern) (own leads : List ℕ) (old new : List Tern) : Type 0 where
  pub started : List Tern
  pub starts : EachListed (length own) own (λ point. kept_tern started point ≡ start_tern (kept_tern held point) (slice_get network.drives.items point))
  pub rising : AreRising started new
  pub below : StaysBelow network.trees.items network.drives.items held own leads started new
  pub solved : AreSolved network.trees.items network.drives.items held own (seen new leads)
  pub kept_first : (point : ℕ) → (IsListed own point → ⊥) → kept_tern started point ≡ kept_tern old point
  pub kept_then : (point : ℕ) → (IsListed own point → ⊥) → kept_tern new point ≡ kept_tern started point
