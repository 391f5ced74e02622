-- The map of the declared names of a module.
use Rattle.std.specs.Prelude.{◌≡◌, ℕ, ◌+◌, ◌<◌, ◌^◌, List, [], ◌∷◌, Vec}
use Rattle.fab_values.specs.Declarations.{Declaration, width}
use Rattle.fab_values.specs.declared.names.Local.{Local}

-- the declaration that an entry stands for
abbrev pub declared : {A : Type 0} → Vec ℕ A × Local → Declaration
declared entry = record { name = entry.0.items; shape = entry.1.shape; role = entry.1.role }

-- the bits of the entries follow one another from the first up to the end
abbrev pub AreFrom : {A : Type 0} → (first end : ℕ) → List (Vec ℕ A × Local) → Type 0
AreFrom first end [] = end ≡ first
AreFrom first end (entry ∷ entries) = (entry.1.first ≡ first) × AreFrom (first + width entry.1.shape) end entries
