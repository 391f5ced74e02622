-- The files of a design, one behind the other: what they spell, and what a reader of them comes upon before anything is refused.
use Rattle.std.specs.Prelude.{◌≡◌, ◌≤◌, ◌⊎◌, ℕ, List, [], Option}
use Rattle.fab_base.specs.declared.fault.Fault.{Fault}
use Rattle.fab_desk.specs.Files.{Map}
use Rattle.fab_model.specs.Grid.{PlainFabric}
use Rattle.fab_netlist.specs.Plain.{PlainNetlist}
use Rattle.fab_netlist.specs.WellMade.{most_nets}
use Rattle.fab_implementation.specs.Plain.{Pad}
use Rattle.fab_lines.specs.Order.{IsTextFault}
use Rattle.fab_texts.specs.Rows.{rows_of}
use Rattle.fab_lines.specs.Counts.{last_line}
use Rattle.fab_files.specs.Files.{Event}
use Rattle.fab_files.specs.Stages.{ReadsFrom, MeetsIn, ReadsIfNamed, MeetsIfNamed, MeetsBehind}
use Rattle.fab_read.specs.Fabrics.{SpellsFabric, MeetsFabric}
use Rattle.fab_blif.specs.Blif.{IsBlif, RefusesBlif, netlist_in}
use Rattle.fab_wide.specs.Split.{split_of, split_nets, RefusesSplit}
use Rattle.fab_state.specs.Constraints.{SpellsFixings, constraint_format, data_ports}

-- the names of the fabric file, of the BLIF file, and of the pcf file where a command names one
pub record DesignFiles : Type 0 where
  pub fabric : List ℕ
  pub blif : List ℕ
  pub pcf : Option (List ℕ)

abbrev pub design_files : (fabric blif : List ℕ) → (pcf : Option (List ℕ)) → DesignFiles
design_files fabric blif pcf = record { fabric = fabric; blif = blif; pcf = pcf }

-- a fabric, a netlist for it, and the sites on which ports of the netlist have to stand
pub record PlainDesign : Type 0 where
  pub fabric : PlainFabric
  pub netlist : PlainNetlist
  pub fixed : List Pad

-- ---- what the files spell

-- The netlist of a BLIF file, with each cover of more than four inputs split. It has few enough nets then, too.
pub record SpellsNetlist (bytes : List ℕ) (netlist : PlainNetlist) : Type 0 where
  pub is_blif : IsBlif 16 bytes
  pub few : split_nets (netlist_in bytes) ≤ most_nets
  pub is : netlist ≡ split_of (netlist_in bytes)

-- constraints of the data ports of this netlist, on sites of this fabric
abbrev pub SpellsConstraints : PlainFabric → PlainNetlist → (bytes : List ℕ) → (fixed : List Pad) → Type 0
SpellsConstraints fabric netlist bytes fixed = SpellsFixings fabric (data_ports netlist) (rows_of bytes) fixed

-- Each file spells its part of the design. Where no pcf file is named, no port is constrained.
pub record SpellsDesign (files : Map) (names : DesignFiles) (design : PlainDesign) : Type 0 where
  pub fabric : SpellsFabric files names.fabric design.fabric
  pub netlist : ReadsFrom files names.blif SpellsNetlist design.netlist
  pub fixed : ReadsIfNamed files names.pcf (SpellsConstraints design.fabric design.netlist) [] design.fixed

-- The netlist as it stands in the BLIF file, wide covers and all. What runs is said of this one.
abbrev pub read_of : {files : Map} {names : DesignFiles} {design : PlainDesign} → SpellsDesign files names design → PlainNetlist
read_of spelled = netlist_in spelled.netlist.bytes

-- ---- what is come upon

-- The first refusal of a BLIF file with these bytes. Behind all others comes that its netlist has too many nets when it is split.
abbrev pub RefusesNetlist : (file bytes : List ℕ) → Fault → Type 0
RefusesNetlist file bytes fault = RefusesBlif 16 file bytes fault ⊎ (IsBlif 16 bytes × RefusesSplit file (last_line bytes) (netlist_in bytes) fault)

abbrev pub MeetsNetlist : (files : Map) (blif : List ℕ) → Event → Type 0
MeetsNetlist files blif event = MeetsIn files blif (RefusesNetlist blif) event

-- the first line that is refused, of a pcf file with these bytes
abbrev pub RefusesConstraints : PlainFabric → PlainNetlist → (file bytes : List ℕ) → Fault → Type 0
RefusesConstraints fabric netlist file bytes fault = IsTextFault (constraint_format fabric (data_ports netlist)) file (rows_of bytes) (last_line bytes) fault

abbrev pub MeetsConstraints : (files : Map) → (pcf : Option (List ℕ)) → PlainFabric → PlainNetlist → Event → Type 0
MeetsConstraints files pcf fabric netlist event = MeetsIfNamed files pcf (RefusesConstraints fabric netlist) event

-- the BLIF file, and behind it the pcf file
abbrev pub MeetsBehindFabric : (files : Map) (names : DesignFiles) → PlainFabric → Event → Type 0
MeetsBehindFabric files names fabric event =
    MeetsBehind (ReadsFrom files names.blif SpellsNetlist) (MeetsNetlist files names.blif) (λ netlist. MeetsConstraints files names.pcf fabric netlist) event

-- The fabric file with all that it names comes first, then the BLIF file, and then the pcf file, if it is named.
abbrev pub MeetsDesign : (files : Map) (names : DesignFiles) → Event → Type 0
MeetsDesign files names event = MeetsBehind (SpellsFabric files names.fabric) (MeetsFabric files names.fabric) (λ fabric. MeetsBehindFabric files names fabric) event
