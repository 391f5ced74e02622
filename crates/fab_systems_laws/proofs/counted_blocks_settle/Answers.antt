use Rattle.std.proofs.Common.{length}
use Rattle.fab_systems_laws.proofs.Counts.{below, rank_by_count}
use Rattle.fab_systems_laws.proofs.Moves.{moves_settle}
use Rattle.fab_systems_laws.proofs.counted_blocks_settle.Goals as goal

pub returns : goal.returns
returns g c has given reads rank ranks next points ranked only listed =
    moves_settle has given next reads (λ p. below rank (rank p) points) (length points) (rank_by_count has given reads rank ranks points ranked listed) only
