-- Boards on which all is known, and where the bits of two expressions differ.
use Rattle.std.specs.Prelude.{◌≡◌, ◌≢◌, ℕ, ◌+◌, ◌<◌, ◌≤◌, Bool, true, List, Option, Some, None, length}
use Rattle.fab_meaning.specs.Value.{bit_at}
use Rattle.fab_ternary.specs.declared.Tern.{Tern}
use Rattle.fab_ternary.specs.Terns.{is_known}
use Rattle.fab_compiled.specs.declared.tree.Tree.{Tree}
use Rattle.fab_compiled.specs.Evaluation.{known_bits, value_seen}
use Rattle.fab_network.specs.Passes.{kept_tern}

-- all points are known
abbrev pub AreAllKnown : List Tern → Type 0
AreAllKnown terns = (point : ℕ) → point < length terns → is_known (kept_tern terns point) ≡ true

-- the bits of an expression, where all points are known
abbrev pub bits_seen : List Tern → List ℕ → (first : ℕ) → Tree → List Bool
bits_seen terns leads first tree = known_bits (value_seen terns leads first tree)

-- the same bits from one place up to another
abbrev pub AgreeFrom : (xs ys : List Bool) → (low end : ℕ) → Type 0
AgreeFrom xs ys low end = (place : ℕ) → low ≤ place → place < end → bit_at xs place ≡ bit_at ys place

-- the highest place below an end at which bits differ, or none
abbrev pub IsLastApart : (xs ys : List Bool) → (end : ℕ) → Option ℕ → Type 0
IsLastApart xs ys end None = AgreeFrom xs ys 0 end
IsLastApart xs ys end (Some place) = (place < end) × (bit_at xs place ≢ bit_at ys place) × AgreeFrom xs ys (place + 1) end
