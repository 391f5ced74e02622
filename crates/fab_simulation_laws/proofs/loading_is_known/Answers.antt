use Rattle.fab_simulation_laws.proofs.Loading.{loading_is_known as they_are_known, loading_is_kept as they_are_kept}
use Rattle.fab_simulation_laws.proofs.loading_is_known.Goals as goal

pub returns : goal.returns
returns c = record { known = they_are_known; kept = they_are_kept c.points_of_sound_texts_have_one_driver.ensures }
