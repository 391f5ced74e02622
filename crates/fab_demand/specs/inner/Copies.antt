-- Bits of an expression that are copies of points.
use Rattle.std.specs.Prelude.{◌≡◌, ℕ, ◌+◌, ◌<◌, ◌≤◌, Bool, false, List, Some, length, slice_get}
use Rattle.fab_systems_laws.specs.Ternary.{Tern as PlainTern}
use Rattle.fab_ternary.specs.declared.Tern.{Tern}
use Rattle.fab_compiled.specs.declared.tree.Tree.{Tree}
use Rattle.fab_compiled.specs.Leading.{PointTerns, AreAbove, IsMarked}
use Rattle.fab_network.specs.declared.network.Network.{Network}
use Rattle.fab_network.specs.Leading.{bits_of_source}
use Rattle.fab_demand.specs.declared.copies.Copied.{Copied}
use Rattle.fab_demand.specs.declared.copies.Copies.{Copies}
use Rattle.fab_demand.specs.Asked.{Asked}
use Rattle.fab_demand.specs.inner.Beside.{IsBit, TellsGate}

-- These bits have what points have that follow one another, under all assignments that know no less than what is kept.
pub record CopiesPoints (terns : List Tern) (leads : List ℕ) (value : PointTerns → (bit : ℕ) → PlainTern) (copied : Copied) : Type 0 where
  pub within : copied.point + copied.count ≤ length leads
  pub same : (k : ℕ) → k < copied.count → (t : PointTerns) → AreAbove terns leads t → value t (copied.low + k) ≡ t (copied.point + k)

pub record TellsCopies (trees : List Tree) (asked : Asked) (copies : Copies) : Type 0 where
  pub gate : TellsGate trees asked.terns asked.leads asked.marks copies.bits.gate copies.passes
  pub copied : CopiesPoints asked.terns asked.leads (bits_of_source trees copies.bits.source) copies.copied

-- this bit is a copy of this point
pub record IsCopyOf (copied : Copied) (bit from : ℕ) : Type 0 where
  pub place : ℕ
  pub at : bit ≡ copied.low + place
  pub within : place < copied.count
  pub is : from ≡ copied.point + place

-- a point that has not been asked for is a copy of one that has been
pub record IsCopy (network : Network) (copies : Copies) (marks : List Bool) (point from : ℕ) : Type 0 where
  pub unmarked : slice_get marks point ≡ Some false
  pub marked : IsMarked marks from
  pub bit : ℕ
  pub drive : IsBit network copies.bits point bit
  pub copy : IsCopyOf copies.copied bit from
