-- Names of wires whose counts have no bound: a bit is called by the name of its row and its number.
use Rattle.std.specs.Prelude.{ℕ, ◌+◌, Bool, false, Option, Some, None, List, [], ◌∷◌, ◌++◌, ◌==◌, ◌||◌, ◌&&◌, map, length, drop, nat_eq, nat_lt, codes, if◌then◌else◌}
use Rattle.std.specs.List.{starts_with, flat_map}
use Rattle.fab_lines.specs.Items.{is_among}
use Rattle.std.specs.Int.Digits.{digits_of}
use Rattle.fab_lines.specs.Numbers.{is_number, number_of}
use Rattle.fab_model.specs.Tiles.{counted}

-- a number in decimal digits, however many these are
unfoldable pub text_of : ℕ → List ℕ
text_of n = if n == 0 then codes "0" else map (λ digit. 48 + digit) (digits_of 10 n)

-- the bits of one side of a row
pub record PlainFamily : Type 0 where
  pub base : List ℕ
  pub bits : ℕ

abbrev pub numbered_names : PlainFamily → List (List ℕ)
numbered_names family = counted family.bits (λ bit. family.base ++ text_of bit)

-- ---- the same as tests, for counts that nobody writes out

-- a name is that of a bit: the base, and behind it a number below the count
unfoldable pub has_bit : PlainFamily → (name : List ℕ) → Bool
has_bit family name =
    starts_with nat_eq name family.base && is_number (drop (length family.base) name)
    && nat_lt (number_of (drop (length family.base) name)) family.bits

abbrev pub first_name : PlainFamily → List ℕ
first_name family = family.base ++ codes "0"

-- two families share a name: the first name of one is a name of the other
unfoldable pub meet : PlainFamily → PlainFamily → Bool
meet one other = nat_lt 0 one.bits && nat_lt 0 other.bits && (has_bit one (first_name other) || has_bit other (first_name one))

-- ---- lists of names

-- Some name of the list stands among those before the list, or before it in the list.
unfoldable pub come_twice : (before names : List (List ℕ)) → Bool
come_twice before [] = false
come_twice before (name ∷ more) = is_among before name || come_twice (before ++ name ∷ []) more

-- the names of a side that may be missing
abbrev pub side_families : Option PlainFamily → List PlainFamily
side_families None = []
side_families (Some family) = family ∷ []

abbrev pub names_of : List PlainFamily → List (List ℕ)
names_of families = flat_map numbered_names families

-- names so far: families, and names that stand alone
pub record PlainNames : Type 0 where
  pub families : List PlainFamily
  pub pins : List (List ℕ)

unfoldable pub all_names : PlainNames → List (List ℕ)
all_names names = names_of names.families ++ names.pins

-- the names of the two sides of a row
abbrev pub sides_of : (source dest : Option PlainFamily) → List PlainFamily
sides_of source dest = side_families source ++ side_families dest

abbrev pub with_sides : PlainNames → (source dest : Option PlainFamily) → PlainNames
with_sides names source dest = record { families = names.families ++ sides_of source dest; pins = names.pins }

abbrev pub with_pins : PlainNames → List (List ℕ) → PlainNames
with_pins names pins = record { families = names.families; pins = names.pins ++ pins }
