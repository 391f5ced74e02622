-- The value of an expression that is kept for its bits.
use Rattle.std.specs.Prelude.{◌≡◌, ℕ, Bool, true, List, Some, slice_get}
use Rattle.fab_systems_laws.specs.Ternary.{IsBelow}
use Rattle.fab_ternary.specs.declared.Tern.{Tern}
use Rattle.fab_ternary.specs.Terns.{plain_tern}
use Rattle.fab_compiled.specs.declared.tree.Tree.{Tree}
use Rattle.fab_compiled.specs.Leading.{PointTerns}
use Rattle.fab_network.specs.declared.network.Source.{Source}
use Rattle.fab_network.specs.declared.sharing.Shared.{Shared}
use Rattle.fab_network.specs.declared.sharing.KeptValues.{KeptValues}
use Rattle.fab_network.specs.Network.{source_tern, IsFitSource}

-- A bit that is kept is below what its source has, and is that as long as nothing has come to be known since.
pub record IsKeptBit (trees : List Tree) (count : ℕ) (t : PointTerns) (exact : Bool) (source : Source) (kept : Tern) : Type 0 where
  pub fit : IsFitSource trees count source
  pub below : IsBelow (plain_tern kept) (source_tern trees t source)
  pub same : exact ≡ true → plain_tern kept ≡ source_tern trees t source

-- the same of all bits that are kept
abbrev pub IsShared : List Tree → (count : ℕ) → PointTerns → Shared → Type 0
IsShared trees count t shared =
    (bit : ℕ) (kept : Tern) → slice_get shared.bits.items bit ≡ Some kept →
    IsKeptBit trees count t shared.exact (record { tree = shared.tree; first = shared.first; bit = bit }) kept

-- What a pass keeps of expressions is right of them.
pub record AreShared (trees : List Tree) (count : ℕ) (t : PointTerns) (values : KeptValues) : Type 0 where
  pub points : IsShared trees count t values.points
  pub gates : IsShared trees count t values.gates
