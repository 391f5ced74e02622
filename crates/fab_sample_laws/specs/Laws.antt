-- What is read of the files of a sample.
use Rattle.std.specs.Prelude.{◌≡◌, ◌≤◌, ℕ, ◌*◌, Bool, List, [], ◌∷◌, length, Ok}
use Rattle.fab_base.specs.declared.TheConstants.{MAX_FILE_BYTES}
use Rattle.fab_netlist.specs.WellMade.{ports}
use Rattle.fab_netlist.specs.Packing.{packed, packing, works}
use Rattle.fab_blif.specs.Blif.{IsBlif, models_in, netlist_in}
use Rattle.fab_sample.specs.declared.design.Cover.{Cover}
use Rattle.fab_sample.specs.declared.design.Latch.{Latch}
use Rattle.fab_sample.specs.Lines.{text}
use Rattle.fab_texts.specs.Rows.{rows_of}
use Rattle.fab_stimulus.specs.Spelled.{Spells, Says}
use Rattle.fab_sample.specs.Drawn.{covers, sample_latches, sample_stimulus}
use Rattle.fab_sample.specs.Netlists.{netlist_lines, stimulus_text_lines}
use Rattle.fab_sample_laws.specs.Named.{IsOfItems}
use Rattle.fab_sample_laws.specs.Samples.{sample_items, input_words, output_words, sample_model}

-- the text of the netlist of these covers and latches
abbrev pub netlist_text : (size : ℕ) → List Cover → List Latch → List ℕ
netlist_text size covers latches = text (netlist_lines size covers latches)

-- These bytes are read as the netlist of these covers and latches.
pub record ReadsNetlist (size : ℕ) (drawn : List Cover) (latches : List Latch) (bytes : List ℕ) : Type 0 where
  -- They are no more than a file may have,
  pub short : length bytes ≤ MAX_FILE_BYTES
  -- and a BLIF file of one model, which says no more and no less. No cover is wide.
  pub blif : IsBlif 16 bytes
  pub narrow : IsBlif 4 bytes
  pub model : models_in bytes ≡ sample_model size drawn latches ∷ []
  -- Its netlist has these ports, covers and latches.
  pub netlist : IsOfItems (netlist_in bytes) (input_words size) (output_words size) (sample_items size drawn latches)
  -- It wants two look-up tables for each tile in a square of logic, at the most, and two pads for each row of it.
  pub cells : length (works (netlist_in bytes)) ≤ 2 * (size * size)
  pub pads : length (ports (netlist_in bytes)) ≡ 2 * size
  pub fits : (tables pads : ℕ) → 2 * (size * size) ≤ tables → 2 * size ≤ pads → packing (netlist_in bytes) tables pads ≡ Ok (packed (netlist_in bytes))

-- The netlist of every sample is read, whatever is drawn for it.
abbrev pub SampleNetlistsAreRead : Type 0
SampleNetlistsAreRead =
    (size : ℕ) (draws : ℕ → ℕ) → 2 ≤ size → size ≤ 16 →
    ReadsNetlist size (covers size draws) (sample_latches size draws) (netlist_text size (covers size draws) (sample_latches size draws))

-- ---- the stimulus

-- the text of a stimulus
abbrev pub stimulus_text : (size : ℕ) → (lines : List (List Bool)) → List ℕ
stimulus_text size lines = text (stimulus_text_lines size lines)

-- These bytes are read as this stimulus, where the ports are the netlist's inputs.
pub record ReadsStimulus (size : ℕ) (lines : List (List Bool)) (bytes : List ℕ) : Type 0 where
  -- They are no more than a file may have. They spell the stimulus, so it is read.
  pub short : length bytes ≤ MAX_FILE_BYTES
  pub spelled : Spells (input_words size) (rows_of bytes) lines
  pub says : Says (input_words size) (rows_of bytes) lines

-- The stimulus of every sample is read, whatever is drawn for it.
abbrev pub SampleStimuliAreRead : Type 0
SampleStimuliAreRead =
    (size : ℕ) (draws : ℕ → ℕ) → 2 ≤ size → size ≤ 16 → ReadsStimulus size (sample_stimulus size draws) (stimulus_text size (sample_stimulus size draws))
