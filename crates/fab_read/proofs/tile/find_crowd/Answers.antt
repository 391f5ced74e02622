use Rattle.std.proofs.Common.{get_or, ap, ◌∙◌}
use Rattle.fab_read.proofs.Crowds.{crowd_found}
use Rattle.fab_read.proofs.tile.find_crowd.Goals as goal

pub returns : goal.returns
returns c = c.first_crowd.ensures ∙ crowd_found c.deref.result.now c.args.pairs.now (λ output. ap (λ counts. get_or counts output 0) c.deref.ensures.value ∙ c.in_ok-counts.ensures output)
