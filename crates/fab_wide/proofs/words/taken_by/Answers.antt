use Rattle.std.proofs.Common.{length, arith, ap}
use Rattle.fab_wide.proofs.Joined.{few_words}
use Rattle.fab_wide.proofs.words.taken_by.Goals as goal

pub returns-clause-small : goal.returns-clause-small
returns-clause-small c =
    omega (
      arith,
      c.taken.ensures.small,
      ap length c.deref.ensures.value,
      c.in_ok-words.ensures.words.many,
      few_words (length c.args.cover.now.inputs) c.requires.few,
    )
