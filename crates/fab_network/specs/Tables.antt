-- Tables of the values that a bit of an expression has by those of a few points.
use Rattle.std.specs.Prelude.{◌≡◌, ◌⊎◌, ℕ, zero, suc, ◌+◌, ◌*◌, ◌/◌, ◌%◌, ◌<◌, Bool, true, false, List, Some, length, slice_get, slice_index, slice_set}
use Rattle.fab_systems_laws.specs.Ternary.{no, yes, unknown}
use Rattle.fab_systems_laws.specs.Ternary.{Tern as PlainTern}
use Rattle.fab_ternary.specs.declared.Tern.{Tern}
use Rattle.fab_ternary.specs.Terns.{plain_tern, is_known}
use Rattle.fab_compiled.specs.declared.tree.Tree.{Tree}
use Rattle.fab_compiled.specs.Leading.{PointTerns}
use Rattle.fab_compiled.specs.Terns.{seen}
use Rattle.fab_compiled.specs.Trees.{EachPlace}
use Rattle.fab_network.specs.declared.network.Source.{Source}
use Rattle.fab_network.specs.declared.tables.Inputs.{Inputs}
use Rattle.fab_network.specs.declared.tables.Values.{Values}
use Rattle.fab_network.specs.declared.tables.Table.{Table}
use Rattle.fab_network.specs.Network.{source_tern}
use Rattle.fab_network.specs.Passes.{kept_tern}

-- ---- places of entries

-- a value as a digit
abbrev pub digit_of : PlainTern → ℕ
digit_of no = 0
digit_of yes = 1
digit_of unknown = 2

-- the value of a digit
abbrev pub tern_of : ℕ → PlainTern
tern_of zero = no
tern_of (suc zero) = yes
tern_of (suc (suc n)) = unknown

-- the place for what the inputs have, with the first as the least significant digit
abbrev pub entry_place : Inputs → PointTerns → ℕ
entry_place inputs t = digit_of (t inputs.first) + 3 * digit_of (t inputs.second) + 9 * (digit_of (t inputs.third) + 3 * digit_of (t inputs.fourth))

-- values that are the digits of a place
pub record AreDigits (place : ℕ) (values : Values) : Type 0 where
  pub first : plain_tern values.first ≡ tern_of (place % 3)
  pub second : plain_tern values.second ≡ tern_of (place / 3 % 3)
  pub third : plain_tern values.third ≡ tern_of (place / 9 % 3)
  pub fourth : plain_tern values.fourth ≡ tern_of (place / 27 % 3)

-- ---- inputs

-- all inputs are points below a number
pub record AreInside (count : ℕ) (inputs : Inputs) : Type 0 where
  pub first : inputs.first < count
  pub second : inputs.second < count
  pub third : inputs.third < count
  pub fourth : inputs.fourth < count

-- values that the inputs have
pub record AreKept (t : PointTerns) (inputs : Inputs) (values : Values) : Type 0 where
  pub first : plain_tern values.first ≡ t inputs.first
  pub second : plain_tern values.second ≡ t inputs.second
  pub third : plain_tern values.third ≡ t inputs.third
  pub fourth : plain_tern values.fourth ≡ t inputs.fourth

-- what is kept for points where the inputs are given values
abbrev pub put_at : List Tern → Inputs → Values → List Tern
put_at terns inputs values =
    slice_set (slice_set (slice_set (slice_set terns inputs.first values.first) inputs.second values.second) inputs.third values.third)
    inputs.fourth values.fourth

abbrev pub IsInput : Inputs → (point : ℕ) → Type 0
IsInput inputs point = (point ≡ inputs.first) ⊎ ((point ≡ inputs.second) ⊎ ((point ≡ inputs.third) ⊎ (point ≡ inputs.fourth)))

-- ---- points that vary

-- A point that does not vary: it is known, or has not been asked for.
abbrev pub IsFixed : (marks : List Bool) → (base : List Tern) → (point : ℕ) → Type 0
IsFixed marks base point = (is_known (kept_tern base point) ≡ true) ⊎ (slice_get marks point ≡ Some false)

-- all points have what they had but those that vary
abbrev pub StayFixed : (marks : List Bool) → (base now : List Tern) → Type 0
StayFixed marks base now = (point : ℕ) → IsFixed marks base point → kept_tern now point ≡ kept_tern base point

-- a point is led to one that does not vary or is an input
abbrev pub IsRead : (marks : List Bool) → (base : List Tern) → List ℕ → Inputs → (point : ℕ) → Type 0
IsRead marks base leads inputs point = IsFixed marks base (slice_index leads point) ⊎ IsInput inputs (slice_index leads point)

-- the same of all points of an expression
abbrev pub ReadsAll : (marks : List Bool) → (base : List Tern) → List ℕ → Inputs → (first : ℕ) → Tree → Type 0
ReadsAll marks base leads inputs first tree = EachPlace (λ place. IsRead marks base leads inputs (first + place)) tree

-- the inputs of an expression
pub record AreInputs (marks : List Bool) (base : List Tern) (leads : List ℕ) (first : ℕ) (tree : Tree) (inputs : Inputs) : Type 0 where
  pub inside : AreInside (length leads) inputs
  pub reads : ReadsAll marks base leads inputs first tree

-- ---- tables

-- A table has what a source has, whatever points have that vary.
pub record IsTable (trees : List Tree) (leads : List ℕ) (marks : List Bool) (base : List Tern) (source : Source) (table : Table) : Type 0 where
  pub inside : AreInside (length leads) table.inputs
  pub long : length table.entries ≡ 81
  pub value : (now : List Tern) → StayFixed marks base now → (found : Tern) → slice_get table.entries (entry_place table.inputs (kept_tern now)) ≡ Some found →
      plain_tern found ≡ source_tern trees (seen now leads) source
