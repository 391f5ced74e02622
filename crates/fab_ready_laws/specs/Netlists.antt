-- What the laws of the commands that read a netlist ask for.
use Rattle.std.specs.Prelude.{ℕ, List}
use Rattle.fab_desk.specs.Files.{Map}
use Rattle.fab_netlist.specs.Plain.{PlainNetlist}
use Rattle.fab_files.specs.Stages.{ReadsFrom}
use Rattle.fab_designs.specs.Designs.{SpellsNetlist, MeetsNetlist}
use Rattle.fab_judged_laws.specs.Judged.{IsReadyOrRefused}

-- Each BLIF file spells a netlist, or it has a first refusal.
abbrev pub NetlistsAreJudged : (files : Map) → Type 0
NetlistsAreJudged files =
    (blif : List ℕ) → IsReadyOrRefused ((netlist : PlainNetlist) × ReadsFrom files blif SpellsNetlist netlist) (MeetsNetlist files blif)
