use Rattle.std.proofs.Common.{◌∙◌}
use Rattle.fab_annealing.proofs.Kept.{numbers_read}
use Rattle.fab_annealing.proofs.ties.Ties.at.Goals as goal

pub returns : goal.returns
returns c = c.deref.ensures.value ∙ numbers_read c.args.self.now.nets.items c.args.item c.index.result.now c.requires c.index.ensures
