-- Netlists without where they lie in memory.
use Rattle.std.specs.Prelude.{◌≡◌, ℕ, ◌<◌, Bool, false, List, [], length, get_or, Option}
use Rattle.fab_netlist.specs.declared.netlist.Latch.{Latch}

-- Nets are numbers. Bit i of the table is the value of the output where the inputs, the first as least significant, spell i.
pub record PlainCover : Type 0 where
  pub line : ℕ
  pub inputs : List ℕ
  pub output : ℕ
  pub table : ℕ

pub record PlainNetlist : Type 0 where
  pub nets : List (List ℕ)
  pub inputs : List ℕ
  pub outputs : List ℕ
  pub covers : List PlainCover
  pub latches : List Latch
  -- the reset port, by its place among the inputs
  pub reset : Option ℕ

-- something stands at a place of a list
abbrev pub IsAt : {X : Type 0} → List X → (place : ℕ) → X → Type 0
IsAt xs place x = (place < length xs) × (get_or xs place x ≡ x)

-- the bit at a place, which is 0 past the end
abbrev pub bit_at : List Bool → ℕ → Bool
bit_at bits place = get_or bits place false

-- what stands for a cover past the end
abbrev pub no_cover : PlainCover
no_cover = record { line = 0; inputs = []; output = 0; table = 0 }

abbrev pub cover_at : PlainNetlist → ℕ → PlainCover
cover_at netlist place = get_or netlist.covers place no_cover

abbrev pub name_of : PlainNetlist → ℕ → List ℕ
name_of netlist net = get_or netlist.nets net []
