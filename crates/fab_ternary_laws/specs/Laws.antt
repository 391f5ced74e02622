-- Laws of ternary values.
use Rattle.std.specs.Prelude.{◌≡◌, ℕ, ◌+◌, ◌-◌, ◌^◌, ◌≤◌, Bool, true, List, [], ◌∷◌, map, length, get_or, nat_lt, if◌then◌else◌}
use Rattle.fab_bits.specs.Bits.{number}
use Rattle.fab_matrix.specs.fab_syntax.specs.Plain.{PlainExpr, PlainModule}
use Rattle.fab_matrix.specs.fab_meaning.specs.Value.{value, bit_at}
use Rattle.fab_matrix.specs.fab_meaning.specs.Points.{Point, Driver}
use Rattle.fab_matrix.specs.fab_meaning.specs.Settled.{Assignment, shown}
use Rattle.fab_matrix.specs.fab_meaning.specs.Reads.{mentions, reads}
use Rattle.fab_matrix.specs.Names.{Name}
use Rattle.fab_matrix.specs.fab_meaning.specs.Ports.{config_name}
use Rattle.fab_matrix.specs.Matrix.{field, chain}
use Rattle.fab_systems_laws.specs.Ternary.{Tern, known, IsBelow}
use Rattle.fab_ternary_laws.specs.Operators.{entry}
use Rattle.fab_ternary_laws.specs.Values.{tern_value}
use Rattle.fab_ternary_laws.specs.Shown.{Terns, tern_shown}

-- ---- where all is known

-- Where the bits of the names that an expression mentions are known, so is its value, and it is the Boolean one.
abbrev pub KnownValues : Type 0
KnownValues =
    (names : List ℕ → List Bool) (terns : List ℕ → List Tern) (e : PlainExpr) →
    ((name : List ℕ) → mentions e name ≡ true → terns name ≡ map known (names name)) → tern_value terns e ≡ map known (value names e)

-- Where the points that a driver reads are known, so is what it gives its point, and it is what it gives by the Boolean meaning.
abbrev pub KnownDrivers : Type 0
KnownDrivers =
    (text : List PlainModule) (inputs held now : Assignment) (t : Terns) (p : Point) (d : Driver) →
    ((q : Point) → reads text d q ≡ true → t q ≡ known (now q)) → tern_shown text inputs held t p d ≡ known (shown text inputs held now p d)

-- ---- where only some is known

-- bits that ternary ones allow
abbrev pub Fits : List Tern → List Bool → Type 0
Fits [] [] = Unit {0}
Fits [] (b ∷ bits) = ⊥
Fits (t ∷ ts) [] = ⊥
Fits (t ∷ ts) (b ∷ bits) = IsBelow t (known b) × Fits ts bits

-- Where all entries that the known bits of an index allow are the same, the entry is known.
abbrev pub AgreedEntries : Type 0
AgreedEntries =
    (bits : List Bool) (index : List Tern) (b : Bool) → ((choice : List Bool) → Fits index choice → bit_at bits (number choice) ≡ b) →
    entry (map known bits) index ≡ known b

-- the input at a select value, counted from i on
abbrev pub at_from : (i select : ℕ) → (first : Name) → List Name → Name
at_from i select first inputs = if nat_lt select i then first else get_or inputs (select - i) first

-- Where the select bits are known, a chain has the ternary value of the input that they pick, whatever the other inputs have.
abbrev pub ChainsPick : Type 0
ChainsPick =
    (names : Name → List Bool) (terns : Name → List Tern) → terns config_name ≡ map known (names config_name) →
    (low width i : ℕ) (first : Name) (inputs : List Name) → length (value names (field low width)) ≡ width → i + length inputs ≤ 2 ^ width →
    tern_value terns (chain low width i first inputs) ≡ terns (at_from i (number (value names (field low width))) first inputs)
