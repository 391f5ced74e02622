-- What a legal implementation shows where each of its points has the value of its source.
use Rattle.std.specs.Prelude.{◌≡◌, ℕ, Bool, true, List, Contains, codes, Some, if◌then◌else◌}
use Rattle.fab_meaning.specs.Points.{Point}
use Rattle.fab_meaning.specs.Settled.{Assignment}
use Rattle.fab_model.specs.Grid.{PlainFabric}
use Rattle.fab_fabric.specs.Fabric.{AreTiles}
use Rattle.fab_fabric.specs.declared.wire.Site.{Site}
use Rattle.fab_netlist.specs.Plain.{PlainNetlist, IsAt, bit_at, name_of}
use Rattle.fab_netlist.specs.WellMade.{IsWellMade}
use Rattle.fab_netlist.specs.Cycles.{HasNoCycle}
use Rattle.fab_netlist.specs.Meaning.{Meets, first_value, is_reset, next_held}
use Rattle.fab_netlist.specs.Packed.{PlainPacked}
use Rattle.fab_netlist.specs.Packing.{Work, works, latch_of, latch_at, packed}
use Rattle.fab_implementation.specs.Plain.{Pad, PlainImplementation}
use Rattle.fab_points_laws.specs.fab_legal_Legal.{IsLegal}
use Rattle.fab_prim.specs.Ports.{top_name}
use Rattle.fab_points_laws.specs.fab_use_defs_Sites.{bel_point, top_point}
use Rattle.fab_points_laws.specs.fab_use_defs_Design.{IsOfDesign}
use Rattle.fab_points_laws.specs.fab_use_defs_Cycles.{Shows}
use Rattle.fab_points_laws.specs.fab_use_defs_Registers.{HoldsLatches}
use Rattle.fab_points_laws.specs.fab_use_defs_Sources.{Source, source_value, HasSource}

-- Each named point of a design has the value of each of its sources.
abbrev pub MeetsSources : PlainFabric → PlainPacked → PlainImplementation → (inputs held now : Assignment) → Type 0
MeetsSources fabric packed implementation inputs held now =
    (p : Point) (s : Source) → IsOfDesign fabric packed implementation p → HasSource fabric packed implementation p s → now p ≡ source_value inputs held now p s

-- The pad of each input port has at O_top the value that is given for the port, whatever else comes in.
abbrev pub PadsAreFed : PlainNetlist → PlainImplementation → (given : List Bool) → (inputs : Assignment) → Type 0
PadsAreFed netlist implementation given inputs =
    (place net : ℕ) (site : Site) → IsAt netlist.inputs place net → Contains implementation.ins (name_of netlist net, site) → inputs (top_point site top_name) ≡ bit_at given place

-- The flip-flop of a latch is enabled, and is reset where the netlist is. Where it is not, its table shows what the latch takes next.
pub record LatchTakes (netlist : PlainNetlist) (now : Assignment) (nets : ℕ → Bool) (site : Site) (latch : ℕ) : Type 0 where
  pub enabled : now (bel_point site (codes "EN")) ≡ true
  pub resets : now (bel_point site (codes "SR")) ≡ is_reset netlist nets
  pub next : bit_at (next_held netlist nets) latch ≡ (if is_reset netlist nets then first_value (latch_at netlist latch) else now (bel_point site (codes "t")))

-- so for each latch, at the site of the cell that was made of it
abbrev pub TakesNext : PlainNetlist → PlainImplementation → Assignment → (nets : ℕ → Bool) → Type 0
TakesNext netlist implementation now nets =
    (cell_number latch : ℕ) (work : Work) (site : Site) → IsAt (works netlist) cell_number work → latch_of work ≡ Some latch →
    Contains implementation.cells (cell_number, site) → LatchTakes netlist now nets site latch

-- Where each named point has the value of its sources, the pads show the values of the netlist's nets, and flip-flops take those of the latches.
abbrev pub SourcesCarry : Type 0
SourcesCarry =
    (fabric : PlainFabric) (netlist : PlainNetlist) (fixed : List Pad) (implementation : PlainImplementation) (inputs held now : Assignment)
    (given latches : List Bool) (nets : ℕ → Bool) → AreTiles fabric → IsWellMade netlist → HasNoCycle netlist →
    IsLegal fabric (packed netlist) fixed implementation → MeetsSources fabric (packed netlist) implementation inputs held now →
    PadsAreFed netlist implementation given inputs → HoldsLatches netlist implementation held latches → Meets netlist (bit_at given) (bit_at latches) nets →
    Shows netlist implementation now nets × TakesNext netlist implementation now nets
