-- Compiled expressions: places for names.
use Rattle.std.specs.Prelude.{◌≡◌, ℕ, ◌+◌, Bool, List, [], Option, None, Some}
use Rattle.fab_syntax.specs.declared.tree.Op.{Op}
use Rattle.fab_syntax.specs.declared.tree.Op.TheVariants as ops
use Rattle.fab_syntax.specs.Plain.{PlainExpr, PlainExprs}
use Rattle.fab_values.specs.Declarations.{Declaration, bits_of, found_in, width}
use Rattle.fab_values.specs.Evaluation.{expr_width, exprs_width}
use Rattle.fab_values.specs.declared.names.Local.{Local}
use Rattle.fab_systems_laws.specs.Ternary.{Tern}
use Rattle.fab_solutions_laws.specs.fab_ternary_laws_Shown.{first_terns}
use Rattle.fab_solutions_laws.specs.fab_ternary_laws_Values.{tern_value, tern_concatenated}
use Rattle.fab_compiled.specs.declared.tree.Tree.{Tree, Const, Cat', And', Or', Xor', Equal', Minus'}
use Rattle.fab_compiled.specs.declared.compiler.Place.{Place}
use Rattle.fab_compiled.specs.Trees.{tree_value, tree_width, IsMade, IsBelowPlace}

-- the bits of a name, where each place of an instance has a value
abbrev pub local_terns : (at : ℕ → Tern) → Option Local → List Tern
local_terns at None = []
local_terns at (Some local) = first_terns (width local.shape) (λ bit. at (local.first + bit))

abbrev pub named_terns : List Declaration → (at : ℕ → Tern) → (name : List ℕ) → List Tern
named_terns ds at name = local_terns at (found_in ds name)

-- a tree whose places are those of its expression's names, and which has its value
pub record IsCompiled (ds : List Declaration) (e : PlainExpr) (tree : Tree) (wide : ℕ) : Type 0 where
  pub made : IsMade tree
  pub tree_wide : tree_width tree ≡ wide
  pub is_wide : wide ≡ expr_width ds e
  pub below : IsBelowPlace (bits_of ds) tree
  pub value : (at : ℕ → Tern) → tree_value at tree ≡ tern_value (named_terns ds at) e

-- the same of the parts of a concatenation
pub record AreCompiled (ds : List Declaration) (es : PlainExprs) (tree : Tree) (wide : ℕ) : Type 0 where
  pub made : IsMade tree
  pub tree_wide : tree_width tree ≡ wide
  pub is_wide : wide ≡ exprs_width ds es
  pub below : IsBelowPlace (bits_of ds) tree
  pub value : (at : ℕ → Tern) → tree_value at tree ≡ tern_concatenated (named_terns ds at) es

-- ---- parts

-- the place of a declared name
abbrev pub IsPlaceOf : Option Local → Place → Type 0
IsPlaceOf None place = ⊥
IsPlaceOf (Some local) place = (place.first ≡ local.first) × (place.count ≡ width local.shape)

abbrev pub tree_is_constant : List Bool → Tree → Type 0
tree_is_constant word (Const bits) = bits.items ≡ word
tree_is_constant word _ = ⊥

-- two parts in one
abbrev pub IsJoined : (low : Tree) (low_wide : ℕ) (high : Tree) (high_wide : ℕ) (tree : Tree) (wide : ℕ) → Type 0
IsJoined low low_wide high high_wide (Cat' p a w q b) wide = (a ≡ low) × (w ≡ low_wide) × (b ≡ high) × (wide ≡ low_wide + high_wide)
IsJoined low low_wide high high_wide _ wide = ⊥

-- an operator and its operands in one
abbrev pub IsOperation : Op → (left : Tree) (left_wide : ℕ) (right : Tree) (tree : Tree) (wide : ℕ) → Type 0
IsOperation ops.And left left_wide right (And' p a q b) wide = (a ≡ left) × (b ≡ right) × (wide ≡ left_wide)
IsOperation ops.Or left left_wide right (Or' p a q b) wide = (a ≡ left) × (b ≡ right) × (wide ≡ left_wide)
IsOperation ops.Xor left left_wide right (Xor' p a q b) wide = (a ≡ left) × (b ≡ right) × (wide ≡ left_wide)
IsOperation ops.Equal left left_wide right (Equal' w p a q b) wide = (w ≡ left_wide) × (a ≡ left) × (b ≡ right) × (wide ≡ 1)
IsOperation ops.Minus left left_wide right (Minus' w p a q b) wide = (w ≡ left_wide) × (a ≡ left) × (b ≡ right) × (wide ≡ left_wide)
IsOperation op left left_wide right _ wide = ⊥
