use Rattle.fab_solutions_laws.proofs.Demanded.{demanded_least}
use Rattle.fab_solutions_laws.proofs.demanded_is_least.Goals as goal

pub returns : goal.returns
returns g c has demanded points show listed monotone t w settled least inside below suffice =
    demanded_least has demanded points show listed monotone t w settled least inside below suffice
