-- What the command `timing` makes of a design and an implementation of it. It is refused as `assemble` is, and for the same causes.
use Rattle.std.specs.Prelude.{◌≡◌, List, [], ◌∷◌, ℕ}
use Rattle.fab_desk.specs.Files.{Map}
use Rattle.fab_model.specs.Grid.{PlainFabric}
use Rattle.fab_netlist.specs.Plain.{PlainNetlist}
use Rattle.fab_netlist.specs.Packing.{packed}
use Rattle.fab_netlist.specs.Resets.{netlist_with}
use Rattle.fab_implementation.specs.Plain.{PlainImplementation}
use Rattle.fab_timing.specs.Walks.{IsLongest, PlainPath}
use Rattle.fab_timing.specs.Text.{timing_text}
use Rattle.fab_outputs.specs.Storing.{PlainOutput, output}
use Rattle.fab_flow.specs.Assembling.{AssemblyFiles, IsReadyToAssemble}

-- the one output is the text of a longest walk of an implementation of a netlist
pub record IsTimed (fabric : PlainFabric) (netlist : PlainNetlist) (implementation : PlainImplementation) (out : List ℕ) (outputs : List PlainOutput) : Type 0 where
  pub path : PlainPath
  pub longest : IsLongest fabric (packed netlist) implementation path
  pub outputs_are : outputs ≡ output out (timing_text fabric path) ∷ []

-- The output is made of what these files spell, as `assemble` takes them. What the names call the base is the name of the output.
pub record MakesTiming (files : Map) (names : AssemblyFiles) (outputs : List PlainOutput) : Type 0 where
  pub ready : IsReadyToAssemble files names
  pub made : IsTimed ready.design.fabric (netlist_with ready.implementation.reset ready.design.netlist) ready.implementation names.base outputs
