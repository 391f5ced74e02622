-- A small design: one cell without inputs, bound to the LUT of a small fabric.
use Rattle.std.specs.Prelude.{◌≡◌, false, List, [], ◌∷◌, None}
use Rattle.fab_syntax.specs.Plain.{PlainModule}
use Rattle.fab_meaning.specs.Points.{point}
use Rattle.fab_meaning.specs.Settled.{Assignment}
use Rattle.fab_meaning.specs.Runs.{clock_name}
use Rattle.fab_model.specs.Drive.{PlainBits}
use Rattle.fab_fabric.specs.declared.wire.Site.{Site}
use Rattle.fab_netlist.specs.Packed.{PlainCell, PlainPacked}
use Rattle.fab_use_defs.specs.fab_implementation_Plain.{PlainImplementation}
use Rattle.fab_use_defs.specs.fab_drives_laws_Examples.{small_fabric}
use Rattle.fab_use_defs.specs.fab_fabric_text_defs_Texts.{IsFabricText}
use Rattle.fab_use_defs.specs.fab_text_loads_laws_Loads.{IsConfigured}
use Rattle.fab_use_defs.specs.Design.{IsDesignPoint}
use Rattle.fab_use_defs.specs.Headline.{SettlesOnce}

abbrev pub zero_cell : PlainCell
zero_cell = record { table = 0; inputs = []; latch = None }

abbrev pub lut_site : Site
lut_site = record { x = 1; y = 0; bel = 0 }

abbrev pub small_packed : PlainPacked
small_packed = record { cells = zero_cell ∷ []; inputs = []; outputs = []; reset = None }

abbrev pub small_implementation : PlainImplementation
small_implementation = record { cells = (0, lut_site) ∷ []; ins = []; outs = []; trees = []; reset = None }

abbrev pub small_bits : PlainBits
small_bits x y bit = false

-- In each text of the small fabric that is configured so, the design has exactly one settled assignment.
abbrev pub SmallDesignSettlesOnce : Type 0
SmallDesignSettlesOnce =
    (text : List PlainModule) (inputs held : Assignment) → IsFabricText small_fabric text → IsConfigured small_fabric small_bits held → inputs (point [] clock_name 0) ≡ false →
    SettlesOnce (IsDesignPoint small_fabric text small_packed small_implementation) text inputs held
