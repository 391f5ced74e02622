-- Which values the points of a text can have together. Nothing here says in which order they come about.
use Rattle.std.specs.Prelude.{◌≡◌, ℕ, Bool, List, if◌then◌else◌}
use Rattle.fab_bits.specs.Bits.{first_bits}
use Rattle.fab_syntax.specs.Plain.{PlainModule}
use Rattle.fab_meaning.specs.Value.{value, bit_at}
use Rattle.fab_syntax.specs.Declarations.{width_in}
use Rattle.fab_meaning.specs.Points.{Path, Point, point, Driver, outside, copy, bit_of, flop, hold, Drives, module_at}

-- a value for each point
abbrev pub Assignment : Type 0
Assignment = Point → Bool

-- the bits of the names of an instance
abbrev pub names_at : List PlainModule → Assignment → Path → List ℕ → List Bool
names_at text now path name = first_bits (width_in (module_at text path) name) (λ bit. now (point path name bit))

-- What a driver gives its point, where the top's inputs, what flip-flops and latches hold, and all points are given: a
-- flip-flop shows what it holds, and a latch its data while its gate is 1, else what it holds.
abbrev pub shown : List PlainModule → (inputs held now : Assignment) → Point → Driver → Bool
shown text inputs held now p outside = inputs p
shown text inputs held now p (copy other) = now other
shown text inputs held now p (bit_of path e bit) = bit_at (value (names_at text now path) e) bit
shown text inputs held now p (flop path clock next bit) = held p
shown text inputs held now p (hold path gate e bit) =
    if bit_at (value (names_at text now path) gate) 0 then bit_at (value (names_at text now path) e) bit else held p

-- Each point of a set has what its driver gives it. An assignment may be settled on a set and not elsewhere.
abbrev pub IsSettledOn : (Point → Type 0) → List PlainModule → (inputs held now : Assignment) → Type 0
IsSettledOn Has text inputs held now =
    (p : Point) (d : Driver) → Has p → Drives text p d → now p ≡ shown text inputs held now p d
