-- Compiled expressions and the meaning of the text.
use Rattle.std.specs.Prelude.{◌≡◌, ℕ, ◌+◌, List}
use Rattle.fab_syntax.specs.Plain.{PlainExpr, PlainModule}
use Rattle.fab_syntax.specs.Sound.{IsSound}
use Rattle.fab_solutions_laws.specs.fab_meaning_Points.{Point}
use Rattle.fab_values.specs.Declarations.{declarations}
use Rattle.fab_solutions_laws.specs.fab_ternary_laws_Values.{tern_value}
use Rattle.fab_solutions_laws.specs.fab_ternary_laws_Shown.{Terns, tern_names}
use Rattle.fab_equations.specs.Equations.{IsPoint}
use Rattle.fab_equations.specs.Instances.{Instance}
use Rattle.fab_equations.specs.Numbering.{IsInstanceOfNumber, points_before}
use Rattle.fab_compiled.specs.declared.tree.Tree.{Tree}
use Rattle.fab_compiled.specs.Trees.{tree_value}
use Rattle.fab_compiled.specs.Compiling.{IsCompiled}
use Rattle.fab_compiled.specs.Leading.{PointTerns}

-- the same values by the numbers of points
abbrev pub AreByNumber : List PlainModule → Terns → PointTerns → Type 0
AreByNumber text t s = (number : ℕ) (p : Point) → IsPoint text number p → s number ≡ t p

-- Over the points of an instance a compiled expression has the value that the meaning of the text gives the expression there.
abbrev pub CompiledValues : Type 0
CompiledValues =
    (text : List PlainModule) → IsSound text → (number : ℕ) (i : Instance) → IsInstanceOfNumber text number i → (t : Terns) (s : PointTerns) → AreByNumber text t s →
    (e : PlainExpr) (tree : Tree) (wide : ℕ) → IsCompiled (declarations i.here) e tree wide →
    tree_value (λ place. s (points_before text number + place)) tree ≡ tern_value (tern_names text t i.path) e
