-- An order in which the covers of a netlist may be asked. Covers are named by their places in the netlist.
use Rattle.std.specs.Prelude.{ℕ, ◌<◌, List, [], ◌∷◌, length, Contains}
use Rattle.fab_netlist.specs.declared.netlist.Order.{Order}
use Rattle.fab_netlist.specs.declared.netlist.Order.TheVariants as orders
use Rattle.fab_netlist.specs.Plain.{PlainNetlist}
use Rattle.fab_netlist.specs.WellMade.{IsWellMade}
use Rattle.fab_netlist.specs.Cycles.{Reads, IsOneCycle, HasNoCycle}

-- Each cover stands behind those that it reads, where some covers come first.
abbrev pub StandBehind : PlainNetlist → (first : List ℕ) → List ℕ → Type 0
StandBehind netlist first [] = Unit {0}
StandBehind netlist first (place ∷ places) =
    (place < length netlist.covers) × ((source : ℕ) → Reads netlist place source → Contains first source) × StandBehind netlist (place ∷ first) places

-- all covers, each behind those that it reads
pub record IsOrder (netlist : PlainNetlist) (places : List ℕ) : Type 0 where
  pub behind : StandBehind netlist [] places
  pub all : (place : ℕ) → place < length netlist.covers → Contains places place

-- an order, or a cycle where there is none
abbrev pub IsFound : PlainNetlist → Order → Type 0
IsFound netlist (orders.Straight places) = IsOrder netlist places.items × HasNoCycle netlist
IsFound netlist (orders.Round places) = IsOneCycle netlist places.items

-- what holds of a netlist and of what it keeps of its covers
pub record IsSound (netlist : PlainNetlist) (order : Order) : Type 0 where
  pub made : IsWellMade netlist
  pub found : IsFound netlist order
