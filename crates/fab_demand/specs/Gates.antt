-- What gates are found to be.
use Rattle.std.specs.Prelude.{◌≡◌, ℕ, Bool, List, Some, slice_get}
use Rattle.fab_systems_laws.specs.Ternary.{known as known_tern}
use Rattle.fab_ternary.specs.declared.Tern.{Tern}
use Rattle.fab_compiled.specs.declared.tree.Tree.{Tree}
use Rattle.fab_compiled.specs.Leading.{PointTerns, AreAbove, AgreeOnMarked, FollowLeads}
use Rattle.fab_network.specs.declared.network.Source.{Source}
use Rattle.fab_network.specs.Network.{source_tern}
use Rattle.fab_demand.specs.declared.gates.Gate.{Gate}
use Rattle.fab_demand.specs.declared.gates.Gate.TheVariants.{Known, Depends}
use Rattle.fab_demand.specs.declared.gates.KeptGate.{KeptGate}

-- What is told of a gate, as long as nothing known is denied: its value, or that it depends on points alone that have been asked for.
abbrev pub IsGate : List Tree → List Tern → List ℕ → (marks : List Bool) → (source : Source) → Gate → Type 0
IsGate trees terns leads marks source (Known b) = (t : PointTerns) → AreAbove terns leads t → source_tern trees t source ≡ known_tern b
IsGate trees terns leads marks source Depends =
    (t u : PointTerns) → AreAbove terns leads t → FollowLeads leads marks t → AreAbove terns leads u → FollowLeads leads marks u → AgreeOnMarked marks t u →
    source_tern trees t source ≡ source_tern trees u source

-- What is kept of gates is right.
abbrev pub AreGates : List Tree → List Tern → List ℕ → (marks : List Bool) → List KeptGate → Type 0
AreGates trees terns leads marks gates =
    (place : ℕ) (kept : KeptGate) → slice_get gates place ≡ Some kept → IsGate trees terns leads marks kept.source kept.gate
