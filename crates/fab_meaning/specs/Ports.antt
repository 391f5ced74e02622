-- Ports that modules of several kinds have.
use Rattle.std.specs.Prelude.{ℕ, zero, suc, Bool, true, List, [], ◌∷◌, codes}
use Rattle.fab_syntax.specs.declared.tree.Shape.TheVariants.{Scalar, Vector}
use Rattle.fab_syntax.specs.declared.tree.Port.{Port}

-- a port of one bit
abbrev pub scalar : (input : Bool) → List ℕ → Port
scalar input name = record { input = input; shape = Scalar; name = name }

abbrev pub config_name : List ℕ
config_name = codes "ConfigBits"

-- the configuration bits, where there are any
abbrev pub config_port : (bits : ℕ) → List Port
config_port zero = []
config_port (suc n) = record { input = true; shape = Vector (suc n); name = config_name } ∷ []
