-- What holds of the netlist that a BLIF file spells, whose wide covers are split: it is well made, and runs as the one in the file does.
use Rattle.std.proofs.Common.{◌<◌, ℕ, All, List, Option, sym, subst}
use Rattle.fab_desk.specs.Files.{Map}
use Rattle.fab_netlist.specs.Plain.{PlainCover, PlainNetlist}
use Rattle.fab_netlist.specs.WellMade.{IsWellMade}
use Rattle.fab_netlist.specs.Cycles.{HasNoCycle}
use Rattle.fab_netlist.specs.Resets.{netlist_with}
use Rattle.fab_netlist.specs.Wide.{IsWideMade, RunsAs, RunsAsWith}
use Rattle.fab_blif.specs.Blif.{netlist_in, wide_in}
use Rattle.fab_blif.proofs.Netlists.{wide_is_made}
use Rattle.fab_wide.proofs.Whole.{split_is_acyclic, split_is_made, split_is_small, split_runs}
use Rattle.fab_designs.specs.Designs.{DesignFiles, PlainDesign, SpellsDesign, SpellsNetlist, read_of}

module _ (bytes : List ℕ) (netlist : PlainNetlist) (spelled : SpellsNetlist bytes netlist) where
  wide_made : IsWideMade (wide_in bytes)
  wide_made = wide_is_made bytes spelled.is_blif

  pub netlist_made : IsWellMade netlist
  netlist_made = subst IsWellMade (sym spelled.is) (split_is_made (wide_in bytes) wide_made spelled.few)

  pub netlist_acyclic : HasNoCycle netlist
  netlist_acyclic = subst HasNoCycle (sym spelled.is) (split_is_acyclic (wide_in bytes) wide_made spelled.is_blif.acyclic)

  -- its tables have 16 bits
  pub netlist_small : All (λ (cover : PlainCover). cover.table < 65536) netlist.covers
  netlist_small =
      subst (λ (n : PlainNetlist). All (λ (cover : PlainCover). cover.table < 65536) n.covers) (sym spelled.is) (split_is_small (wide_in bytes) wide_made)

  pub netlist_runs : RunsAsWith (netlist_in bytes) netlist
  netlist_runs = subst (RunsAsWith (netlist_in bytes)) (sym spelled.is) (split_runs (wide_in bytes) wide_made)

-- the netlist of a design runs as the one that stands in its BLIF file, with each reset port
pub design_runs : {files : Map} {names : DesignFiles} {design : PlainDesign} (spelled : SpellsDesign files names design) (port : Option (List ℕ))
    → RunsAs (netlist_with port (read_of spelled)) (netlist_with port design.netlist)
design_runs spelled port = netlist_runs spelled.netlist.bytes _ spelled.netlist.spelled port
