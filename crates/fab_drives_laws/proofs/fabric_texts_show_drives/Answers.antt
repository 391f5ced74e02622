use Rattle.fab_drives_laws.proofs.Fabrics.{fabric_shows_drives}
use Rattle.fab_drives_laws.proofs.fabric_texts_show_drives.Goals as goal

pub returns : goal.returns
returns c = fabric_shows_drives
