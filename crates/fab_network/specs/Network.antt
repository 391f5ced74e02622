-- What points show, by numbers.
use Rattle.std.specs.Prelude.{◌≡◌, ℕ, ◌<◌, ◌≤◌, List, Option, None, Some, length, slice_get}
use Rattle.fab_systems_laws.specs.Ternary.{Tern, unknown}
use Rattle.fab_compiled.specs.fab_ternary_laws_Shown.{through}
use Rattle.fab_compiled.specs.declared.tree.Tree.{Tree}
use Rattle.fab_compiled.specs.Trees.{tree_width, IsMade}
use Rattle.fab_compiled.specs.Evaluation.{IsWithin}
use Rattle.fab_compiled.specs.Leading.{PointTerns, bit_under}
use Rattle.fab_network.specs.declared.network.Source.{Source}
use Rattle.fab_network.specs.declared.network.Drive.{Drive}
use Rattle.fab_network.specs.declared.network.Drive.TheVariants.{Given, Flop, Same, Value, Hold}

abbrev pub tern_in : Option Tree → PointTerns → (first bit : ℕ) → Tern
tern_in None t first bit = unknown
tern_in (Some tree) t first bit = bit_under t first tree bit

-- what a source has
abbrev pub source_tern : List Tree → PointTerns → Source → Tern
source_tern trees t source = tern_in (slice_get trees source.tree) t source.first source.bit

abbrev pub drive_tern : List Tree → (held : Tern) → PointTerns → (point : ℕ) → Option Drive → Tern
drive_tern trees held t point None = unknown
drive_tern trees held t point (Some Given) = t point
drive_tern trees held t point (Some (Flop clock next)) = t point
drive_tern trees held t point (Some (Same other)) = t other
drive_tern trees held t point (Some (Value source)) = source_tern trees t source
drive_tern trees held t point (Some (Hold gate latched)) = through (source_tern trees t gate) (source_tern trees t latched) held

-- What a point shows, where a latch holds this value; an input and a flip-flop show themselves.
abbrev pub shown_tern : List Tree → List Drive → (held : Tern) → PointTerns → (point : ℕ) → Tern
shown_tern trees drives held t point = drive_tern trees held t point (slice_get drives point)

-- two bits of one expression
pub record AreBeside (one other : Source) : Type 0 where
  pub tree : one.tree ≡ other.tree
  pub first : one.first ≡ other.first

-- a bit of an expression whose points are below a number
pub record IsFitSource (trees : List Tree) (count : ℕ) (source : Source) : Type 0 where
  pub tree : Tree
  pub is : slice_get trees source.tree ≡ Some tree
  pub made : IsMade tree
  pub within : source.bit < tree_width tree
  pub begins : source.first ≤ count
  pub inside : IsWithin tree source.first count

abbrev pub IsFitDrive : List Tree → (count : ℕ) → Drive → Type 0
IsFitDrive trees count Given = Unit {0}
IsFitDrive trees count (Flop clock next) = IsFitSource trees count next
IsFitDrive trees count (Same other) = other < count
IsFitDrive trees count (Value source) = IsFitSource trees count source
IsFitDrive trees count (Hold gate latched) = IsFitSource trees count gate × IsFitSource trees count latched

abbrev pub AreFit : List Tree → List Drive → Type 0
AreFit trees drives = (point : ℕ) (drive : Drive) → slice_get drives point ≡ Some drive → IsFitDrive trees (length drives) drive
