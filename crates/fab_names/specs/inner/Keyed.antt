-- Families by their bases.
use Rattle.std.specs.Prelude.{◌≡◌, ◌≤◌, ◌<◌, ℕ, true, Contains, List, [], ◌++◌, Option, Some, None, Vec, length, get_or, position}
use Rattle.std.specs.List.{list_all}
use Rattle.std.specs.Str.{bytes_eq}
use Rattle.fab_bits.specs.Keys.{group_at, key_names}
use Rattle.fab_lines.specs.Numbers.{is_digit}
use Rattle.fab_names.specs.Names.{PlainFamily}

-- ---- places under keys

abbrev pub group_of : {A : Type 0} → List (Vec ℕ A) → (slot : Option ℕ) → List ℕ
group_of groups None = []
group_of groups (Some slot) = group_at groups slot

-- the places under a key
abbrev pub under : {A : Type 0} → (keys groups : List (Vec ℕ A)) → (key : List ℕ) → List ℕ
under keys groups key = group_of groups (position (bytes_eq key) (key_names keys))

-- a place was added under a key, and nothing was taken away
pub record Adds {K : Type 0} (old new : K → List ℕ) (key : K) (place : ℕ) : Type 0 where
  pub kept : (other : K) (there : ℕ) → Contains (old other) there → Contains (new other) there
  pub added : Contains (new key) place

-- the same under each front of a base behind which only digits stand, and at least one
pub record AddsFronts (old new : List ℕ → List ℕ) (base : List ℕ) (place : ℕ) : Type 0 where
  pub kept : (other : List ℕ) (there : ℕ) → Contains (old other) there → Contains (new other) there
  pub added : (front digits : List ℕ) → base ≡ front ++ digits → 0 < length digits → list_all is_digit digits ≡ true → Contains (new front) place

-- ---- families

abbrev pub no_family : PlainFamily
no_family = record { base = []; bits = 0 }

abbrev pub family_at : List PlainFamily → (place : ℕ) → PlainFamily
family_at all place = get_or all place no_family

-- The place of each family with bits stands under its base, and under each front of that behind which only digits stand.
pub record IsKept (all : List PlainFamily) (bases fronts : List ℕ → List ℕ) (longest : ℕ) : Type 0 where
  pub based : (place : ℕ) → place < length all → 0 < (family_at all place).bits → Contains (bases (family_at all place).base) place
  pub fronted : (place : ℕ) (front digits : List ℕ) → place < length all → 0 < (family_at all place).bits → (family_at all place).base ≡ front ++ digits → 0 < length digits →
      list_all is_digit digits ≡ true → Contains (fronts front) place
  pub short : (place : ℕ) → place < length all → 0 < (family_at all place).bits → length (family_at all place).base ≤ longest
