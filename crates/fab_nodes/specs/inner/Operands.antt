-- The operands of an expression.
use Rattle.std.specs.Prelude.{◌≡◌, ℕ, ◌+◌, ◌^◌, ◌≤◌, Bool, true, false, List, [], ◌∷◌, ◌++◌, map}
use Rattle.fab_syntax.specs.declared.tree.Op.TheVariants as ops
use Rattle.fab_systems_laws.specs.Ternary.{Tern as PlainTern}
use Rattle.fab_solutions_laws.specs.fab_ternary_laws_Operators.{each_tern, entry, inverse, same_terns, tern_operated}
use Rattle.fab_solutions_laws.specs.fab_ternary_laws_Shown.{first_terns}
use Rattle.fab_compiled.specs.declared.whole_values.Pairing.TheVariants.{Both, Either, Differs}
use Rattle.fab_compiled.specs.declared.tree.Tree.{Tree, Const, Bits, Pick', Cat', Not', And', Or', Xor', Equal', Minus', Cond'}
use Rattle.fab_compiled.specs.Pairs.{by}
use Rattle.fab_nodes.specs.declared.operands.Unary.{Unary}
use Rattle.fab_nodes.specs.declared.operands.Unary.TheVariants.{Inverse, Pick}
use Rattle.fab_nodes.specs.declared.operands.Binary.{Binary}
use Rattle.fab_nodes.specs.declared.operands.Binary.TheVariants.{Cat, Pair, Equal, Minus}
use Rattle.fab_nodes.specs.declared.operands.Operands.{Operands}
use Rattle.fab_nodes.specs.declared.operands.Operands.TheVariants.{None, One, Two, Three}

-- a name, a part of one or a constant
abbrev pub is_plain : Tree → Bool
is_plain (Const bits) = true
is_plain (Bits first count) = true
is_plain _ = false

-- the operator of an expression and its operands
pub data Parts : Type 0 where
  none : Parts
  one : Unary → Tree → Parts
  two : Binary → Tree → Tree → Parts
  three : Tree → Tree → Tree → Parts

abbrev pub parts : Tree → Parts
parts (Const bits) = none
parts (Bits first count) = none
parts (Pick' first width p index) = one (Pick first width) index
parts (Not' p e) = one Inverse e
parts (Cat' p low width q high) = two Cat low high
parts (And' p a q b) = two (Pair Both) a b
parts (Or' p a q b) = two (Pair Either) a b
parts (Xor' p a q b) = two (Pair Differs) a b
parts (Equal' width p a q b) = two Equal a b
parts (Minus' width p a q b) = two Minus a b
parts (Cond' p c q a r b) = three c a b

-- the same as they are handed out
abbrev pub handed : Operands → Parts
handed None = none
handed (One operator a) = one operator a.now
handed (Two operator a b) = two operator a.now b.now
handed (Three c a b) = three c.now a.now b.now

-- what an operator makes of the value of its operand, where places have these
abbrev pub made_of : (at : ℕ → PlainTern) → Unary → List PlainTern → List PlainTern
made_of at Inverse ts = map inverse ts
made_of at (Pick first width) ts = entry (first_terns (2 ^ width) (λ k. at (first + k))) ts ∷ []

-- the same of the values of two operands
abbrev pub joined : Binary → (ts us : List PlainTern) → List PlainTern
joined Cat ts us = ts ++ us
joined (Pair pairing) ts us = each_tern (by pairing) ts us
joined Equal ts us = same_terns ts us ∷ []
joined Minus ts us = tern_operated ops.Minus ts us

-- how many bits that has, where its operands have so many
abbrev pub made_width : Unary → (operand : ℕ) → ℕ
made_width Inverse operand = operand
made_width (Pick first width) operand = 1

abbrev pub joined_width : Binary → (left right : ℕ) → ℕ
joined_width Cat left right = left + right
joined_width (Pair pairing) left right = left
joined_width Equal left right = 1
joined_width Minus left right = left

-- an index has as many bits as its pick tells
abbrev pub IsWide : Unary → (operand : ℕ) → Type 0
IsWide Inverse operand = Unit {0}
IsWide (Pick first width) operand = (operand ≡ width) × (width ≤ 32)

-- operands of an operator that is no concatenation have the same number of bits
abbrev pub AreWide : Binary → (left right : ℕ) → Type 0
AreWide Cat left right = Unit {0}
AreWide (Pair pairing) left right = left ≡ right
AreWide Equal left right = left ≡ right
AreWide Minus left right = left ≡ right

-- the table of a pick ends before a place
abbrev pub IsTableWithin : (bound : ℕ) → Unary → Type 0
IsTableWithin bound Inverse = Unit {0}
IsTableWithin bound (Pick first width) = first + 2 ^ width ≤ bound
