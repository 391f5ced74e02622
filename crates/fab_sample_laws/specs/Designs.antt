-- The design that the files of a sample spell.
use Rattle.std.specs.Prelude.{◌≡◌, ◌≤◌, ℕ, All, [], codes, length, None, Ok}
use Rattle.fab_desk.specs.Files.{Map}
use Rattle.fab_kinds.specs.declared.kind.Kind.TheVariants as kinds
use Rattle.fab_netlist.specs.Packing.{packed, packing}
use Rattle.fab_fabric.specs.Sites.{sites_of_kind}
use Rattle.fab_flow.specs.fab_designs_Designs.{DesignFiles, PlainDesign, design_files, SpellsDesign}
use Rattle.fab_sample.specs.Drawn.{covers, sample_latches}
use Rattle.fab_sample.specs.Files.{sample_files}
use Rattle.fab_sample_laws.specs.Fabrics.{Stands, IsAbsent, place_tables, IsSampleFabric}
use Rattle.fab_sample_laws.specs.Named.{IsOfItems}
use Rattle.fab_sample_laws.specs.Samples.{sample_items, input_words, output_words}

-- The files of a sample are there, and no table says where configuration bits stand. Nothing is asked of other names.
pub record TellsSample (files : Map) (size : ℕ) (draws : ℕ → ℕ) : Type 0 where
  pub stand : All (Stands files) (sample_files size draws)
  pub no_places : All (IsAbsent files) place_tables

-- the names of the files that spell the design; no port is constrained
abbrev pub sample_names : DesignFiles
sample_names = design_files (codes "sample.csv") (codes "sample.blif") None

-- The files spell this design: the fabric of the size, and the netlist that is drawn. The fabric has sites for it.
pub record IsSampleDesign (files : Map) (size : ℕ) (draws : ℕ → ℕ) (design : PlainDesign) : Type 0 where
  pub spelled : SpellsDesign files sample_names design
  pub fabric : IsSampleFabric size design.fabric
  pub netlist : IsOfItems design.netlist (input_words size) (output_words size) (sample_items size (covers size draws) (sample_latches size draws))
  pub fixed : design.fixed ≡ []
  pub fits : packing design.netlist (length (sites_of_kind design.fabric kinds.Lut4c)) (length (sites_of_kind design.fabric kinds.Io)) ≡ Ok (packed design.netlist)

abbrev pub SampleDesignsAreRead : Type 0
SampleDesignsAreRead =
    (files : Map) (size : ℕ) (draws : ℕ → ℕ) → 2 ≤ size → size ≤ 16 → TellsSample files size draws → (design : PlainDesign) × IsSampleDesign files size draws design
