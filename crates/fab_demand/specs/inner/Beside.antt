-- Bits of an expression that are found together.
use Rattle.std.specs.Prelude.{◌≡◌, ℕ, ◌+◌, ◌<◌, ◌≤◌, ◌++◌, Bool, true, false, List, [], ◌∷◌, Option, None, Some, IfSome, length, slice_get, slice_set}
use Rattle.fab_systems_laws.specs.Ternary.{yes, unknown, known as known_tern}
use Rattle.fab_ternary.specs.declared.Tern.{Tern}
use Rattle.fab_ternary.specs.Terns.{plain_tern}
use Rattle.fab_compiled.specs.declared.tree.Tree.{Tree}
use Rattle.fab_compiled.specs.Leading.{PointTerns, AreAbove, AgreeOnMarked, FollowLeads}
use Rattle.fab_network.specs.declared.network.Drive.{Drive}
use Rattle.fab_network.specs.declared.network.Drive.TheVariants.{Value, Hold}
use Rattle.fab_network.specs.declared.network.Network.{Network}
use Rattle.fab_network.specs.declared.network.Source.{Source}
use Rattle.fab_network.specs.Network.{source_tern, AreBeside, IsFitSource}
use Rattle.fab_demand.specs.declared.others.Bits.{Bits}
use Rattle.fab_demand.specs.declared.others.Together.{Together}
use Rattle.fab_demand.specs.declared.registers.Span.{Span}
use Rattle.fab_compiled.specs.declared.parts.Part.{Part}
use Rattle.fab_demand.specs.declared.search.Search.{Search}
use Rattle.fab_demand.specs.Asked.{Asked, IsSourceAsked}
use Rattle.fab_compiled.specs.Parts.{TellsBits}
use Rattle.fab_network.specs.Leading.{bits_of_source}
use Rattle.fab_demand.specs.Search.{asked_of, Closes}

-- What is known now denies nothing that was possible by what was known before.
abbrev pub KnowsMore : (old new : Asked) → Type 0
KnowsMore old new = (t : PointTerns) → AreAbove new.terns new.leads t → AreAbove old.terns old.leads t

-- ---- bits that are found together

-- the bits of an expression are those of points below a number, and so is the gate
pub record AreFitBits (trees : List Tree) (count : ℕ) (bits : Bits) : Type 0 where
  pub source : IsFitSource trees count bits.source
  pub gate : IfSome bits.gate (IsFitSource trees count)

-- the drive of a bit, behind a gate if there is one
abbrev pub drive_of : Option Source → Source → Drive
drive_of None source = Value source
drive_of (Some gate) source = Hold gate source

abbrev pub IsDriveOf : Drive → Bits → Type 0
IsDriveOf drive bits = drive ≡ drive_of bits.gate bits.source

-- bits of one expression, behind the same gate
pub record AreAlike (found bits : Bits) : Type 0 where
  pub beside : AreBeside found.source bits.source
  pub gate : found.gate ≡ bits.gate

-- a drive tells this bit of the expression of another, behind the same gate
abbrev pub IsBitDrive : Drive → Bits → (bit : ℕ) → Type 0
IsBitDrive drive bits bit = drive ≡ drive_of bits.gate (record { tree = bits.source.tree; first = bits.source.first; bit = bit })

abbrev pub IsBit : Network → Bits → (point bit : ℕ) → Type 0
IsBit network bits point bit =
    slice_get network.drives.items point ≡ Some (drive_of bits.gate (record { tree = bits.source.tree; first = bits.source.first; bit = bit }))

-- A gate is known to be 1, or depends on points alone that have been asked for.
abbrev pub TellsGate : List Tree → List Tern → List ℕ → List Bool → (gate : Option Source) → (passes : Bool) → Type 0
TellsGate trees terns leads marks None passes = Unit {0}
TellsGate trees terns leads marks (Some gate) passes =
    (passes ≡ true → (t : PointTerns) → AreAbove terns leads t → source_tern trees t gate ≡ yes)
    × ((t u : PointTerns) → AreAbove terns leads t → FollowLeads leads marks t → AreAbove terns leads u → FollowLeads leads marks u → AgreeOnMarked marks t u →
    source_tern trees t gate ≡ source_tern trees u gate)

pub record TellsTogether (trees : List Tree) (asked : Asked) (together : Together) : Type 0 where
  pub gate : TellsGate trees asked.terns asked.leads asked.marks together.bits.gate together.passes
  pub bits : TellsBits asked.terns asked.leads asked.marks (bits_of_source trees together.bits.source) together.part

-- A bit stands in a part. It is known, or all points are marked on which it depends.
pub record IsInPart (together : Together) (bit : ℕ) (found : Tern) : Type 0 where
  pub place : ℕ
  pub at : bit ≡ together.part.low + place
  pub within : place < length together.part.bits.items
  pub known : (b : Bool) → plain_tern found ≡ known_tern b → (slice_get together.part.bits.items place ≡ Some found) × (together.passes ≡ true)
  pub enough : plain_tern found ≡ unknown → together.part.marked ≡ true

pub record IsBitOfPart (network : Network) (together : Together) (point : ℕ) (found : Tern) : Type 0 where
  pub bit : ℕ
  pub drive : IsBit network together.bits point bit
  pub in_part : IsInPart together bit found

-- the same of a point that has not been asked for
pub record IsBeside (network : Network) (together : Together) (marks : List Bool) (point : ℕ) (found : Tern) : Type 0 where
  pub unmarked : slice_get marks point ≡ Some false
  pub is : IsBitOfPart network together point found

-- The last point that waits is done, and has what is found of it, or stands for itself.
pub record IsClosedAs (old new : Search) (point : ℕ) (found : Tern) : Type 0 where
  pub known : (b : Bool) → plain_tern found ≡ known_tern b → (tern : Tern) × (plain_tern tern ≡ known_tern b) ×
      Closes old new point (record (asked_of old) { terns = slice_set old.terns.items point tern })
  pub itself : plain_tern found ≡ unknown → Closes old new point (record (asked_of old) { own = old.own.items ++ point ∷ [] })

-- ---- registers

pub record IsInSpan (span : Span) (source : Source) : Type 0 where
  pub tree : source.tree ≡ span.tree
  pub first : source.first ≡ span.first
  pub low : span.low ≤ source.bit
  pub below : source.bit < span.low + span.count

-- the bits of a part
pub record IsSpanOf (source : Source) (part : Part) (span : Span) : Type 0 where
  pub tree : span.tree ≡ source.tree
  pub first : span.first ≡ source.first
  pub low : span.low ≡ part.low
  pub count : span.count ≡ length part.bits.items

-- all that these bits need has been asked for
abbrev pub IsSpanAsked : List Tree → Asked → Span → Type 0
IsSpanAsked trees asked span = (source : Source) → IsInSpan span source → IsSourceAsked trees asked source
