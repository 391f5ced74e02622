-- Compiled expressions: their widths, and their ternary values where each place of an instance has one.
use Rattle.std.specs.Prelude.{◌≡◌, ℕ, ◌+◌, ◌^◌, ◌<◌, ◌≤◌, List, [], ◌∷◌, ◌++◌, map, length}
use Rattle.fab_syntax.specs.declared.tree.Op.TheVariants as ops
use Rattle.fab_systems_laws.specs.Ternary.{Tern, known}
use Rattle.fab_solutions_laws.specs.fab_ternary_laws_Operators.{tern_at, inverse, tern_operated, one_of, entry}
use Rattle.fab_solutions_laws.specs.fab_ternary_laws_Shown.{first_terns}
use Rattle.fab_compiled.specs.declared.tree.Tree.{Tree, Const, Bits, Pick', Cat', Not', And', Or', Xor', Equal', Minus', Cond'}

abbrev pub tree_width : Tree → ℕ
tree_width (Const bits) = length bits.items
tree_width (Bits first count) = count
tree_width (Pick' first width p index) = 1
tree_width (Cat' p low width q high) = width + tree_width high
tree_width (Not' p e) = tree_width e
tree_width (And' p a q b) = tree_width a
tree_width (Or' p a q b) = tree_width a
tree_width (Xor' p a q b) = tree_width a
tree_width (Equal' width p a q b) = 1
tree_width (Minus' width p a q b) = width
tree_width (Cond' p c q a r b) = tree_width a

-- the widths that a tree tells are those of its parts, and operands and branches agree
abbrev pub IsMade : Tree → Type 0
IsMade (Const bits) = Unit {0}
IsMade (Bits first count) = Unit {0}
IsMade (Pick' first width p index) = (tree_width index ≡ width) × (width ≤ 32) × IsMade index
IsMade (Cat' p low width q high) = (tree_width low ≡ width) × IsMade low × IsMade high
IsMade (Not' p e) = IsMade e
IsMade (And' p a q b) = (tree_width a ≡ tree_width b) × IsMade a × IsMade b
IsMade (Or' p a q b) = (tree_width a ≡ tree_width b) × IsMade a × IsMade b
IsMade (Xor' p a q b) = (tree_width a ≡ tree_width b) × IsMade a × IsMade b
IsMade (Equal' width p a q b) = (tree_width a ≡ width) × (tree_width b ≡ width) × IsMade a × IsMade b
IsMade (Minus' width p a q b) = (tree_width a ≡ width) × (tree_width b ≡ width) × IsMade a × IsMade b
IsMade (Cond' p c q a r b) = (tree_width c ≡ 1) × (tree_width a ≡ tree_width b) × IsMade c × IsMade a × IsMade b

-- all places of a tree are below a bound
abbrev pub IsBelowPlace : (bound : ℕ) → Tree → Type 0
IsBelowPlace bound (Const bits) = Unit {0}
IsBelowPlace bound (Bits first count) = first + count ≤ bound
IsBelowPlace bound (Pick' first width p index) = (first + 2 ^ width ≤ bound) × IsBelowPlace bound index
IsBelowPlace bound (Cat' p low width q high) = IsBelowPlace bound low × IsBelowPlace bound high
IsBelowPlace bound (Not' p e) = IsBelowPlace bound e
IsBelowPlace bound (And' p a q b) = IsBelowPlace bound a × IsBelowPlace bound b
IsBelowPlace bound (Or' p a q b) = IsBelowPlace bound a × IsBelowPlace bound b
IsBelowPlace bound (Xor' p a q b) = IsBelowPlace bound a × IsBelowPlace bound b
IsBelowPlace bound (Equal' width p a q b) = IsBelowPlace bound a × IsBelowPlace bound b
IsBelowPlace bound (Minus' width p a q b) = IsBelowPlace bound a × IsBelowPlace bound b
IsBelowPlace bound (Cond' p c q a r b) = IsBelowPlace bound c × IsBelowPlace bound a × IsBelowPlace bound b

-- the value of a tree; it is `tern_value` of `fab_ternary_laws` with places for names
abbrev pub tree_value : (at : ℕ → Tern) → Tree → List Tern
tree_value at (Const bits) = map known bits.items
tree_value at (Bits first count) = first_terns count (λ k. at (first + k))
tree_value at (Pick' first width p index) = entry (first_terns (2 ^ width) (λ k. at (first + k))) (tree_value at index) ∷ []
tree_value at (Cat' p low width q high) = tree_value at low ++ tree_value at high
tree_value at (Not' p e) = map inverse (tree_value at e)
tree_value at (And' p a q b) = tern_operated ops.And (tree_value at a) (tree_value at b)
tree_value at (Or' p a q b) = tern_operated ops.Or (tree_value at a) (tree_value at b)
tree_value at (Xor' p a q b) = tern_operated ops.Xor (tree_value at a) (tree_value at b)
tree_value at (Equal' width p a q b) = tern_operated ops.Equal (tree_value at a) (tree_value at b)
tree_value at (Minus' width p a q b) = tern_operated ops.Minus (tree_value at a) (tree_value at b)
tree_value at (Cond' p c q a r b) = one_of (tern_at (tree_value at c) 0) (tree_value at a) (tree_value at b)

-- what holds of all places of a tree
abbrev pub EachPlace : (ℕ → Type 0) → Tree → Type 0
EachPlace Has (Const bits) = Unit {0}
EachPlace Has (Bits first count) = (k : ℕ) → k < count → Has (first + k)
EachPlace Has (Pick' first width p index) = ((k : ℕ) → k < 2 ^ width → Has (first + k)) × EachPlace Has index
EachPlace Has (Cat' p low width q high) = EachPlace Has low × EachPlace Has high
EachPlace Has (Not' p e) = EachPlace Has e
EachPlace Has (And' p a q b) = EachPlace Has a × EachPlace Has b
EachPlace Has (Or' p a q b) = EachPlace Has a × EachPlace Has b
EachPlace Has (Xor' p a q b) = EachPlace Has a × EachPlace Has b
EachPlace Has (Equal' width p a q b) = EachPlace Has a × EachPlace Has b
EachPlace Has (Minus' width p a q b) = EachPlace Has a × EachPlace Has b
EachPlace Has (Cond' p c q a r b) = EachPlace Has c × EachPlace Has a × EachPlace Has b
