use Rattle.fab_blif.proofs.Excluded.{not_refused}
use Rattle.fab_blif.proofs.laws.refused_blif_has_no_netlist.Goals as goal

pub returns : goal.returns
returns c = λ most file bytes fault refused is. not_refused most file bytes fault is refused
