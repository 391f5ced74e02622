-- The values of compiled expressions where points have values.
use Rattle.std.specs.Prelude.{ℕ, ◌+◌, ◌-◌, Bool, List, [], map}
use Rattle.std.specs.List.{list_all}
use Rattle.fab_syntax.specs.declared.tree.Op.TheVariants as ops
use Rattle.fab_systems_laws.specs.Ternary.{no}
use Rattle.fab_systems_laws.specs.Ternary.{Tern as PlainTern}
use Rattle.fab_solutions_laws.specs.fab_ternary_laws_Operators.{same_terns, tern_operated}
use Rattle.fab_ternary.specs.declared.Tern.{Tern}
use Rattle.fab_compiled.specs.declared.tree.Tree.{Tree, Equal', Minus'}
use Rattle.fab_ternary.specs.Terns.{is_known, is_one}
use Rattle.fab_compiled.specs.Terns.{seen}
use Rattle.fab_compiled.specs.Trees.{tree_value, IsBelowPlace}

-- the value of an expression over the points of an instance, of which the first is given
abbrev pub value_seen : List Tern → List ℕ → (first : ℕ) → Tree → List PlainTern
value_seen terns leads first tree = tree_value (λ place. seen terns leads (first + place)) tree

-- all points of an expression over those of an instance are below a number
abbrev pub IsWithin : Tree → (first count : ℕ) → Type 0
IsWithin tree first count = IsBelowPlace (count - first) tree

abbrev pub all_known : List PlainTern → Bool
all_known ts = list_all is_known ts

-- bits of which all are known
abbrev pub known_bits : List PlainTern → List Bool
known_bits ts = map is_one ts

abbrev pub operands_same : List Tern → List ℕ → (first : ℕ) → Tree → PlainTern
operands_same terns leads first (Equal' width p a q b) = same_terns (value_seen terns leads first a) (value_seen terns leads first b)
operands_same terns leads first _ = no

abbrev pub operands_difference : List Tern → List ℕ → (first : ℕ) → Tree → List PlainTern
operands_difference terns leads first (Minus' width p a q b) = tern_operated ops.Minus (value_seen terns leads first a) (value_seen terns leads first b)
operands_difference terns leads first _ = []

abbrev pub operands_width : Tree → ℕ
operands_width (Minus' width p a q b) = width
operands_width _ = 0
