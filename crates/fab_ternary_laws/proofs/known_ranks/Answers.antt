use Rattle.fab_ternary_laws.proofs.Ranks.{all_known}
use Rattle.fab_ternary_laws.proofs.known_ranks.Goals as goal

pub returns : goal.returns
returns g c has given reads rank ranks show next t a ranked_here at_given shows solves settled =
    all_known has given reads rank ranks show next t a ranked_here at_given shows solves settled
