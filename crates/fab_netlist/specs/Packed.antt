-- Packed designs without where they lie in memory.
use Rattle.std.specs.Prelude.{ℕ, List, Option}
use Rattle.fab_netlist.specs.declared.net_id.NetId.{NetId}

-- A cell: its table as in a cover, the nets that it reads, and the initial value of its latch, if it has one.
pub record PlainCell : Type 0 where
  pub table : ℕ
  pub inputs : List NetId
  pub latch : Option ℕ

pub record PlainPacked : Type 0 where
  pub cells : List PlainCell
  pub inputs : List (List ℕ)
  pub outputs : List (List ℕ × NetId)
  -- the reset port, by its place among the inputs
  pub reset : Option ℕ
