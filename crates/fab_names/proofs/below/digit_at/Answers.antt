use Rattle.fab_names.proofs.Leads.{digit_more}
use Rattle.fab_names.proofs.below.digit_at.Goals as goal

pub returns-clause-more : goal.returns-clause-more
returns-clause-more c = digit_more c.args.digits.now c.args.width c.args.place c.from.result c.requires.digits c.requires.wide c.requires.within c.if-place-gap.false c.from.ensures
