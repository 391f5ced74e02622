-- The files of a sample tell it.
use Rattle.std.proofs.Common.{◌≡◌, ℕ, List, [], ◌∷◌, codes, Some, refl}
use Rattle.std.proofs.lemmas.List.Elements.{All-from_recursion}
use Rattle.fab_desk.specs.Files.{Map}
use Rattle.fab_outputs.specs.Storing.{output, with_outputs}
use Rattle.fab_draws.specs.Draws.{draws_of}
use Rattle.fab_sample.specs.declared.side.Side.TheVariants.{East, West}
use Rattle.fab_sample.specs.Drawn.{covers, sample_latches, sample_stimulus}
use Rattle.fab_sample.specs.Files.{sample_files}
use Rattle.fab_sample.specs.Grid.{fabric_lines}
use Rattle.fab_sample.specs.Lines.{text}
use Rattle.fab_sample.specs.Lists.{edge_lines, logic_lines}
use Rattle.fab_sample.specs.Netlists.{netlist_lines, stimulus_text_lines}
use Rattle.fab_sample_runs_laws.specs.fab_sample_laws_Fabrics.{IsAbsent, Stands, place_tables}
use Rattle.fab_sample_runs_laws.specs.fab_sample_laws_Designs.{TellsSample}
use Rattle.fab_sampling.specs.Sampling.{no_files, sample_map}

-- six files of these names, whatever their texts
module _ (fabric west logic east blif stimulus : List ℕ) where
  abbrev shelved : Map
  shelved =
      with_outputs
      (output (codes "sample.csv") fabric ∷ output (codes "SW.list") west ∷ output (codes "SLOG.list") logic ∷ output (codes "SE.list") east ∷ output (codes "sample.blif") blif
      ∷ output (codes "sample.stim") stimulus ∷ [])
      no_files

  all_stand : (shelved (codes "sample.csv") ≡ Some fabric) × ((shelved (codes "SW.list") ≡ Some west) × ((shelved (codes "SLOG.list") ≡ Some logic)
      × ((shelved (codes "SE.list") ≡ Some east) × ((shelved (codes "sample.blif") ≡ Some blif) × ((shelved (codes "sample.stim") ≡ Some stimulus) × Unit {0})))))
  all_stand = (refl, (refl, (refl, (refl, (refl, (refl, tt))))))

  none_places : IsAbsent shelved (codes "SW_ConfigMem.csv") × (IsAbsent shelved (codes "SLOG_ConfigMem.csv") × (IsAbsent shelved (codes "SE_ConfigMem.csv") × Unit {0}))
  none_places = (refl, (refl, (refl, tt)))

pub sample_told : (size seed : ℕ) → TellsSample (sample_map size seed) size (draws_of seed)
unfolding sample_map
sample_told size seed =
    let draws = draws_of seed in
    let blif = text (netlist_lines size (covers size draws) (sample_latches size draws)) in
    let stimulus = text (stimulus_text_lines size (sample_stimulus size draws)) in
    let fabric = text (fabric_lines size) in
    let west = text (edge_lines East West) in
    let east = text (edge_lines West East) in
    record {
      stand = All-from_recursion (Stands (sample_map size seed)) (sample_files size draws) (all_stand fabric west (text logic_lines) east blif stimulus);
      no_places = All-from_recursion (IsAbsent (sample_map size seed)) place_tables (none_places fabric west (text logic_lines) east blif stimulus);
    }
