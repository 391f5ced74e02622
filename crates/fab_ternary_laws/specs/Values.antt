-- The ternary value of an expression, from the ternary bits of each name. It is `value` of `fab_meaning` case by case.
use Rattle.std.specs.Prelude.{ℕ, ◌+◌, List, [], ◌∷◌, ◌++◌, map, slice_range}
use Rattle.fab_matrix.specs.fab_syntax.specs.Plain.{PlainExpr, PlainExprs, constant, variable, pick, part, concatenation, complement, operation, conditional, none, more}
use Rattle.fab_systems_laws.specs.Ternary.{Tern, known}
use Rattle.fab_ternary_laws.specs.Operators.{tern_at, inverse, tern_operated, one_of, entry}

abbrev mutual
  pub tern_value : (names : List ℕ → List Tern) → PlainExpr → List Tern
  tern_value names (constant bits) = map known bits
  tern_value names (variable name) = names name
  tern_value names (pick name index) = entry (names name) (tern_value names index) ∷ []
  tern_value names (part name high low) = slice_range (names name) low (high + 1)
  tern_value names (concatenation parts) = tern_concatenated names parts
  tern_value names (complement e) = map inverse (tern_value names e)
  tern_value names (operation op a b) = tern_operated op (tern_value names a) (tern_value names b)
  tern_value names (conditional c a b) = one_of (tern_at (tern_value names c) 0) (tern_value names a) (tern_value names b)

  pub tern_concatenated : (names : List ℕ → List Tern) → PlainExprs → List Tern
  tern_concatenated names none = []
  tern_concatenated names (more e rest) = tern_concatenated names rest ++ tern_value names e
