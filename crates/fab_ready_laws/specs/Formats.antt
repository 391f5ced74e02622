-- Whatever bytes stand in a file, they spell what the format promises, or the file has a first refusal.
use Rattle.std.specs.Prelude.{◌⊎◌, ℕ, List}
use Rattle.fab_base.specs.declared.fault.Fault.{Fault}
use Rattle.fab_syntax.specs.Plain.{PlainModule}
use Rattle.fab_syntax.specs.Sound.{IsSound}
use Rattle.fab_model.specs.Grid.{PlainFabric}
use Rattle.fab_netlist.specs.Plain.{PlainNetlist}
use Rattle.fab_state.specs.Plain.{PlainState}
use Rattle.fab_blif.specs.Blif.{IsBlif, RefusesBlif}
use Rattle.fab_designs.specs.Designs.{SpellsNetlist, RefusesNetlist, SpellsConstraints, RefusesConstraints}
use Rattle.fab_designs.specs.Implementations.{SpellsImplementation, RefusesImplementation}
use Rattle.fab_simulate_command.specs.Simulating.{SpellsDevice, RefusesDevice, SpellsState, RefusesState, SpellsStimulus, RefusesStimulus}
use Rattle.fab_judged_laws.specs.Judged.{IsSpelledOrRefused}

-- BLIF files with covers of at most so many inputs
abbrev pub BlifsAreJudged : Type 0
BlifsAreJudged = (most : ℕ) (file bytes : List ℕ) → IsBlif most bytes ⊎ ((fault : Fault) × RefusesBlif most file bytes fault)

-- netlists, whose wide covers are split
abbrev pub NetlistTextsAreJudged : Type 0
NetlistTextsAreJudged = (file bytes : List ℕ) → IsSpelledOrRefused (SpellsNetlist bytes) (RefusesNetlist file bytes)

abbrev pub ConstraintsAreJudged : Type 0
ConstraintsAreJudged =
    (fabric : PlainFabric) (netlist : PlainNetlist) (file bytes : List ℕ) →
    IsSpelledOrRefused (SpellsConstraints fabric netlist bytes) (RefusesConstraints fabric netlist file bytes)

abbrev pub ImplementationTextsAreJudged : Type 0
ImplementationTextsAreJudged =
    (fabric : PlainFabric) (file bytes : List ℕ) → IsSpelledOrRefused (SpellsImplementation fabric bytes) (RefusesImplementation fabric file bytes)

-- Verilog texts that can be simulated
abbrev pub DevicesAreJudged : Type 0
DevicesAreJudged = (file bytes : List ℕ) → IsSpelledOrRefused (SpellsDevice bytes) (RefusesDevice file bytes)

-- states of a sound text, and stimuli for its ports
abbrev pub StatesAreJudged : Type 0
StatesAreJudged = (text : List PlainModule) → IsSound text → (file bytes : List ℕ) → IsSpelledOrRefused (SpellsState text bytes) (RefusesState text file bytes)

abbrev pub StimuliAreJudged : Type 0
StimuliAreJudged =
    (text : List PlainModule) (state : PlainState) (of : List ℕ) → SpellsState text of state → (file bytes : List ℕ) →
    IsSpelledOrRefused (SpellsStimulus state bytes) (RefusesStimulus state file bytes)
