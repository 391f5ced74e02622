-- How words are loaded piece by piece, by numbers: a piece is a word, or a bit of one.
use Rattle.std.specs.Prelude.{◌≡◌, ◌⊎◌, ℕ, ◌+◌, ◌<◌, ◌≤◌, Bool, List, [], ◌∷◌, Some, length, slice_get}
use Rattle.fab_bits.specs.Bits.{digits}
use Rattle.fab_systems_laws.specs.Ternary.{Tern as PlainTern}
use Rattle.fab_systems_laws.specs.Ternary.{known, unknown}
use Rattle.fab_meaning.specs.Value.{bit_at}
use Rattle.fab_ternary.specs.declared.Tern.{Tern}
use Rattle.fab_compiled.specs.Leading.{PointTerns, IsMarked}
use Rattle.fab_network.specs.declared.network.Clock.{Clock}
use Rattle.fab_network.specs.declared.network.Clock.TheVariants.{Loader}
use Rattle.fab_network.specs.declared.network.Drive.TheVariants.{Given, Flop, Hold}
use Rattle.fab_network.specs.declared.network.Network.{Network}
use Rattle.fab_network.specs.declared.network.Source.{Source}
use Rattle.fab_network.specs.Network.{source_tern}
use Rattle.fab_network.specs.Passes.{kept_tern}
use Rattle.fab_network.specs.Solved.{IsLeast}
use Rattle.fab_demand.specs.Asked.{Asked, DiffersInOwn}
use Rattle.fab_demand.specs.Demand.{IsAsked, IsKept}
use Rattle.fab_phases.specs.Loading.{AreLoading}
use Rattle.fab_phases.specs.declared.loading.Loading.{Loading}

-- the bits of a word, with bit 0 the least significant
unfoldable pub word_bits : ℕ → List Bool
word_bits word = digits 32 word

-- The points from the first on have the bits of a piece, and all others what they had.
pub record IsOffered (first : ℕ) (piece : List Bool) (old new : PointTerns) : Type 0 where
  pub bits : (bit : ℕ) → bit < length piece → new (first + bit) ≡ known (bit_at piece bit)
  pub others : (point : ℕ) → (point < first) ⊎ (first + length piece ≤ point) → new point ≡ old point

-- what a tick leaves with a flip-flop of its clock: its next value; and with a latch: what its point has
pub record IsLeft (network : Network) (clock : Clock) (t : PointTerns) (point : ℕ) (left : PlainTern) : Type 0 where
  pub flop : (next : Source) → slice_get network.drives.items point ≡ Some (Flop clock next) → left ≡ source_tern network.trees.items t next
  pub latch : (gate latched : Source) → slice_get network.drives.items point ≡ Some (Hold gate latched) → left ≡ t point

-- A piece is offered, and after a tick of the loader's clock all that loading sets has what the least solution leaves there.
pub record IsLoadStep (network : Network) (loads : List Bool) (first : ℕ) (piece : List Bool) (old new : PointTerns) : Type 0 where
  pub offered : PointTerns
  pub is_offered : IsOffered first piece old offered
  pub t : PointTerns
  pub least : IsLeast network.trees.items network.drives.items offered t
  pub loaded : (point : ℕ) → IsMarked loads point → IsLeft network Loader t point (new point)
  pub others : (point : ℕ) → (IsMarked loads point → ⊥) → new point ≡ offered point

-- pieces one after the other
abbrev pub AreLoadSteps : Network → (loads : List Bool) → (first : ℕ) → (pieces : List (List Bool)) → (old new : PointTerns) → Type 0
AreLoadSteps network loads first [] old new = (point : ℕ) → new point ≡ old point
AreLoadSteps network loads first (piece ∷ pieces) old new =
    (next : PointTerns) × IsLoadStep network loads first piece old next × AreLoadSteps network loads first pieces next new

-- ---- what stays the same while words are loaded

-- All that loading needs has been asked for, where the points that take pieces were inputs that vary; and what is given now is kept.
pub record IsLoadingAt (network : Network) (loading : Loading) (loads : List Bool) (first width : ℕ) (demand : Asked) (given : List Tern) : Type 0 where
  pub base : PointTerns
  pub asked : Asked
  pub is_asked : IsAsked network Loader base asked
  pub differs : DiffersInOwn asked demand
  pub gathered : AreLoading network asked loads loading
  pub inputs : (bit : ℕ) → bit < width → (slice_get network.drives.items (first + bit) ≡ Some Given) × (base (first + bit) ≡ unknown)
  pub kept : IsKept network Loader base asked.terns asked.leads (kept_tern given)
