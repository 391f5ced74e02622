use Rattle.fab_fasm.proofs.PartsLaw.{lines_and_parts}
use Rattle.fab_fasm.proofs.laws.lines_are_their_parts.Goals as goal

pub returns : goal.returns
returns c = lines_and_parts
