-- Tokens taken one after the other.
use Rattle.std.specs.Prelude.{List, [], ◌∷◌, Result, Ok, Err}
use Rattle.fab_base.specs.declared.problem.Problem.{Problem}
use Rattle.fab_tokens.specs.declared.token.Token.{Token}
use Rattle.fab_vread.specs.inner.Machine.{Machine, after_token}

abbrev pub and_next : Result Machine Problem → (Machine → Result Machine Problem) → Result Machine Problem
and_next (Ok m) more = more m
and_next (Err problem) more = Err problem

-- tokens, one after the other
unfoldable pub run : Machine → List Token → Result Machine Problem
run m [] = Ok m
run m (token ∷ tokens) = and_next (after_token m token) (λ n. run n tokens)

abbrev pub and_take : Result Machine Problem → List Token → Result Machine Problem
and_take given tokens = and_next given (λ n. run n tokens)
