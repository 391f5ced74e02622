use Rattle.fab_systems_laws.proofs.Groups.{grouped_rank}
use Rattle.fab_systems_laws.proofs.groups_rank.Goals as goal

pub returns : goal.returns
returns g c has given reads rank ranks fine fine_given fine_reads group place places ranked grouped =
    grouped_rank has given reads rank ranks fine fine_given fine_reads group place places ranked grouped
