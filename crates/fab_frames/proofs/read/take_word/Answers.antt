use Rattle.fab_frames.specs.inner.Taking.{plain_part}
use Rattle.fab_frames.proofs.PlacedWords.{no_fixed_part, fine_word, spare_word, takes_word}
use Rattle.fab_frames.proofs.read.take_word.Goals as goal

pub returns-then-take_bits-clause-fine : goal.returns-then-take_bits-clause-fine
returns-then-take_bits-clause-fine c =
    fine_word c.args.fabric.now (plain_part c.args.part) c.args.word c.in_ok-word.word c.take_bits.result (no_fixed_part c.args.part c.in_default.not-Fixed)
    c.in_ok-word.ensures.ok_part c.take_bits.ensures.spare c.if-take_bits.true

pub returns-then-take_bits-clause-taken : goal.returns-then-take_bits-clause-taken
returns-then-take_bits-clause-taken c =
    takes_word c.args.fabric.now (plain_part c.args.part) c.args.word c.in_ok-word.word c.args.bits.now c.take_bits.new.bits (no_fixed_part c.args.part c.in_default.not-Fixed)
    c.in_ok-word.ensures.ok_part c.if-take_bits.ensures.taken

pub returns-else-take_bits-clause-refused : goal.returns-else-take_bits-clause-refused
returns-else-take_bits-clause-refused c =
    spare_word c.args.fabric.now (plain_part c.args.part) c.args.word c.in_ok-word.word c.take_bits.result (no_fixed_part c.args.part c.in_default.not-Fixed)
    c.in_ok-word.ensures.ok_part c.take_bits.ensures.spare c.if-take_bits.false
