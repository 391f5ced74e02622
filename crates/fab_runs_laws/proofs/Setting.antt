-- What the headline supposes, and the laws on which it stands.
use Rattle.std.specs.Prelude.{List}
use Rattle.fab_syntax.specs.Plain.{PlainModule}
use Rattle.fab_model.specs.Grid.{PlainFabric}
use Rattle.fab_model.specs.Drive.{PlainBits}
use Rattle.fab_fabric.specs.Fabric.{IsFabric, AreTiles}
use Rattle.fab_netlist.specs.Plain.{PlainNetlist}
use Rattle.fab_netlist.specs.WellMade.{IsWellMade}
use Rattle.fab_netlist.specs.Cycles.{HasNoCycle}
use Rattle.fab_netlist.specs.Meaning.{AcyclicMeansOneRun}
use Rattle.fab_netlist.specs.Packing.{packed}
use Rattle.fab_implementation.specs.Plain.{Pad, PlainImplementation}
use Rattle.fab_points_laws.specs.fab_legal_WellMade.{IsWellMadePacked}
use Rattle.fab_points_laws.specs.fab_legal_Legal.{IsLegal}
use Rattle.fab_points_laws.proofs.fab_legal_PackedMade.{packed_made}
use Rattle.fab_points_laws.specs.fab_fabric_text_defs_Texts.{IsFabricText}
use Rattle.fab_points_laws.specs.fab_text_loads_laws_Loads.{LoadsConfigurations}
use Rattle.fab_points_laws.specs.fab_use_defs_Configuring.{Configures}
use Rattle.fab_points_laws.specs.Laws.{ConfigurationGoes, DesignIsDeclared, DesignIsListed, DesignSettlesBySources, LoadedIsKnown, RankedDesignSettlesOnce, RegistersTick}

pub record Laws : Type 0 where
  -- of texts that are loaded
  pub loads : (fabric : PlainFabric) (text : List PlainModule) → IsFabric fabric → IsFabricText fabric text → LoadsConfigurations fabric text
  pub goes : ConfigurationGoes
  -- of design points
  pub declared : DesignIsDeclared
  pub listed : DesignIsListed
  pub by_sources : DesignSettlesBySources
  pub registers : RegistersTick
  pub known : LoadedIsKnown
  pub once : RankedDesignSettlesOnce
  -- and of netlists
  pub one_run : AcyclicMeansOneRun

-- a legal implementation of a netlist, a text of its fabric, and configuration bits that are those of the implementation
pub record Setting : Type 0 where
  pub laws : Laws
  pub fabric : PlainFabric
  pub text : List PlainModule
  pub netlist : PlainNetlist
  pub fixed : List Pad
  pub implementation : PlainImplementation
  pub bits : PlainBits
  pub is : IsFabric fabric
  pub are : AreTiles fabric
  pub is_text : IsFabricText fabric text
  pub made : IsWellMade netlist
  pub acyclic : HasNoCycle netlist
  pub legal : IsLegal fabric (packed netlist) fixed implementation
  pub configures : Configures fabric (packed netlist) implementation bits

pub cells_made : (s : Setting) → IsWellMadePacked (packed s.netlist)
cells_made s = packed_made s.netlist s.made
