use Rattle.fab_load_runs_laws.proofs.Sound.{led_decided}
use Rattle.fab_load_runs_laws.proofs.led_is_decided.Goals as goal

pub returns : goal.returns
returns c text names sound = led_decided text sound names
