use Rattle.fab_list_files.proofs.Named.{names_are_wires}
use Rattle.fab_list_files.proofs.laws.listed_names_are_wire_names.Goals as goal

pub returns : goal.returns
returns c = names_are_wires
