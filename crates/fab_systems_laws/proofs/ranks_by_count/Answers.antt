use Rattle.fab_systems_laws.proofs.Counts.{below, rank_by_count}
use Rattle.fab_systems_laws.proofs.ranks_by_count.Goals as goal

pub returns : goal.returns
returns g c has given reads rank ranks points ranked listed =
    ((λ p. below rank (rank p) points), rank_by_count has given reads rank ranks points ranked listed)
