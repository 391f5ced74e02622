use Rattle.fab_ready_laws.proofs.Blifs.{netlists_judged}
use Rattle.fab_ready_laws.proofs.Designs.{assembly_judged}
use Rattle.fab_ready_laws.proofs.assemble_is_ready_or_refused.Goals as goal

pub returns : goal.returns
returns c = λ files names.
    assembly_judged files (netlists_judged files) c.spelled_designs_are_sound.ensures c.packed_is_well_made.ensures c.implementations_are_judged.ensures names
