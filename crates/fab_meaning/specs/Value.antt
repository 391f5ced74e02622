-- The value of an expression, given the bits of each name. All values are 0 or 1, and a list of bits has its least
-- significant bit first. Section numbers are those of IEEE 1364-2005.
use Rattle.std.specs.Prelude.{ℕ, ◌+◌, ◌-◌, ◌^◌, Bool, false, ◌&&◌, ◌||◌, not, List, [], ◌∷◌, ◌++◌, map, length, slice_range, slice_index_or, if◌then◌else◌}
use Rattle.fab_bits.specs.Bits.{number, digits, each_bit, other_bit, same_bits}
use Rattle.fab_syntax.specs.declared.tree.Op.{Op}
use Rattle.fab_syntax.specs.declared.tree.Op.TheVariants.{And, Or, Xor, Equal, Minus}
use Rattle.fab_syntax.specs.Plain.{PlainExpr, PlainExprs, constant, variable, pick, part, concatenation, complement, operation, conditional, none, more}

-- Bitwise operators (5.1.10), equality (5.1.8), and the difference, which wraps at the common width (5.1.5, 5.4.1).
abbrev pub operated : Op → List Bool → List Bool → List Bool
operated And xs ys = each_bit (λ a b. a && b) xs ys
operated Or xs ys = each_bit (λ a b. a || b) xs ys
operated Xor xs ys = each_bit other_bit xs ys
operated Equal xs ys = same_bits xs ys ∷ []
operated Minus xs ys = digits (length xs) (number xs + 2 ^ length xs - number ys)

-- the bit at a place; there are none past the end
abbrev pub bit_at : List Bool → ℕ → Bool
bit_at bits place = slice_index_or bits place false

abbrev mutual
  pub value : (names : List ℕ → List Bool) → PlainExpr → List Bool
  value names (constant bits) = bits
  value names (variable name) = names name
  -- bit-selects and part-selects (5.2.1)
  value names (pick name index) = bit_at (names name) (number (value names index)) ∷ []
  value names (part name high low) = slice_range (names name) low (high + 1)
  value names (concatenation parts) = concatenated names parts
  value names (complement e) = map not (value names e)
  value names (operation op a b) = operated op (value names a) (value names b)
  -- the conditional operator (5.1.13)
  value names (conditional c a b) = if bit_at (value names c) 0 then value names a else value names b

  -- a concatenation has its most significant part first (5.1.14)
  pub concatenated : (names : List ℕ → List Bool) → PlainExprs → List Bool
  concatenated names none = []
  concatenated names (more e rest) = concatenated names rest ++ value names e
