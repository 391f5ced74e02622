-- What a flow makes of the files of a sample.
use Rattle.std.specs.Prelude.{◌≤◌, ℕ, codes, None}
use Rattle.fab_desk.specs.Files.{Map}
use Rattle.fab_flow.specs.Flowing.{flow_files, IsReadyToFlow}
use Rattle.fab_sample_laws.specs.Designs.{TellsSample}

-- nothing of the files of a sample is refused
abbrev pub SamplesAreReady : Type 0
SamplesAreReady =
    (files : Map) (size : ℕ) (draws : ℕ → ℕ) → 2 ≤ size → size ≤ 16 → TellsSample files size draws →
    IsReadyToFlow files (flow_files (codes "sample.csv") (codes "sample.blif") None None (codes "sample"))
