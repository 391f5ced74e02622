use Rattle.fab_load_runs_laws.proofs.Sound.{led_runs}
use Rattle.fab_load_runs_laws.proofs.led_runs_exist.Goals as goal

pub returns : goal.returns
returns c text names sound clocks no_user moments low held = led_runs text sound names clocks no_user moments low held
