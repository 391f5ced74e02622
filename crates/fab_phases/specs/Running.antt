-- What a tick of UserCLK writes to points that stand for themselves.
use Rattle.std.specs.Prelude.{◌≡◌, ℕ, ◌<◌, List, Option, Some, None, slice_get}
use Rattle.fab_systems_laws.specs.Ternary.{Tern as PlainTern}
use Rattle.fab_ternary.specs.declared.Tern.{Tern}
use Rattle.fab_compiled.specs.Terns.{seen}
use Rattle.fab_compiled.specs.Leading.{PointTerns}
use Rattle.fab_compiled.specs.declared.tree.Tree.{Tree}
use Rattle.fab_network.specs.declared.forms.Form.{Form}
use Rattle.fab_network.specs.declared.network.Clock.TheVariants.{Loader, User, Other}
use Rattle.fab_network.specs.declared.network.Drive.{Drive}
use Rattle.fab_network.specs.declared.network.Drive.TheVariants.{Given, Flop, Same, Value, Hold}
use Rattle.fab_network.specs.declared.network.Network.{Network}
use Rattle.fab_network.specs.Forms.{HasForm}
use Rattle.fab_network.specs.Network.{source_tern}
use Rattle.fab_network.specs.Passes.{kept_tern, IsListed}
use Rattle.fab_demand.specs.Asked.{Asked}
use Rattle.fab_phases.specs.Lists.{Each}

-- numbers below a count
abbrev pub AreNumbers : (count : ℕ) → List ℕ → Type 0
AreNumbers count numbers = Each numbers (λ number. number < count)

-- the form at a place is one of this point
abbrev pub HasFormAt : Network → (leads : List ℕ) → (terns : List Tern) → List Form → (place point : ℕ) → Type 0
HasFormAt network leads terns forms place point =
    (form : Form) → slice_get forms place ≡ Some form → HasForm network.trees.items network.drives.items leads terns point form

-- what a point is left with, by its drive, where points have these values
abbrev pub written_by : List Tree → (held : PlainTern) → PointTerns → (point : ℕ) → Option Drive → PlainTern
written_by trees held t point (Some (Flop User next)) = source_tern trees t next
written_by trees held t point (Some (Flop Loader next)) = held
written_by trees held t point (Some (Flop Other next)) = held
written_by trees held t point (Some (Hold gate latched)) = t point
written_by trees held t point (Some Given) = held
written_by trees held t point (Some (Same other)) = held
written_by trees held t point (Some (Value source)) = held
written_by trees held t point None = held

abbrev pub WritesOwn : Network → (demand : Asked) → (point : ℕ) → (held left : PlainTern) → Type 0
WritesOwn network demand point held left =
    left ≡ written_by network.trees.items held (seen demand.terns demand.leads) point (slice_get network.drives.items point)

-- Points that stand for themselves have what the tick leaves them, and all others what they had.
pub record IsTickedOwn (network : Network) (demand : Asked) (old new : List Tern) : Type 0 where
  pub own : (point : ℕ) → IsListed demand.own point → WritesOwn network demand point (kept_tern old point) (kept_tern new point)
  pub others : (point : ℕ) → (IsListed demand.own point → ⊥) → kept_tern new point ≡ kept_tern old point
