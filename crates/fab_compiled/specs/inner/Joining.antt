-- Parts of a concatenation that are joined: those of full groups, and those of the last group.
use Rattle.std.specs.Prelude.{◌≡◌, ℕ, ◌+◌, List, ◌++◌}
use Rattle.fab_syntax.specs.Plain.{PlainExprs}
use Rattle.fab_values.specs.Declarations.{Declaration, bits_of}
use Rattle.fab_values.specs.Evaluation.{exprs_width}
use Rattle.fab_systems_laws.specs.Ternary.{Tern}
use Rattle.fab_solutions_laws.specs.fab_ternary_laws_Values.{tern_concatenated}
use Rattle.fab_compiled.specs.declared.tree.Tree.{Tree}
use Rattle.fab_compiled.specs.Trees.{tree_value, tree_width, IsMade, IsBelowPlace}
use Rattle.fab_compiled.specs.Compiling.{named_terns}

-- the less significant parts of a concatenation and its group make these parts
pub record AreJoined (ds : List Declaration) (es : PlainExprs) (low : Tree) (low_wide : ℕ) (group : Tree) (group_wide : ℕ) : Type 0 where
  pub low_made : IsMade low
  pub low_tree : tree_width low ≡ low_wide
  pub low_below : IsBelowPlace (bits_of ds) low
  pub group_made : IsMade group
  pub group_tree : tree_width group ≡ group_wide
  pub group_below : IsBelowPlace (bits_of ds) group
  pub is_wide : low_wide + group_wide ≡ exprs_width ds es
  pub value : (at : ℕ → Tern) → tree_value at low ++ tree_value at group ≡ tern_concatenated (named_terns ds at) es
