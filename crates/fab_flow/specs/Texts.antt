-- What commands make that store one text.
use Rattle.std.specs.Prelude.{◌≡◌, ℕ, List, [], ◌∷◌}
use Rattle.fab_outputs.specs.Storing.{PlainOutput, output}

-- the one output is a text of which this holds
pub record MakesText (Is : (text : List ℕ) → Type 0) (out : List ℕ) (outputs : List PlainOutput) : Type 0 where
  pub text : List ℕ
  pub made : Is text
  pub outputs_are : outputs ≡ output out text ∷ []
