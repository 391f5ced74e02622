use Rattle.std.proofs.Common.{◌∙◌, ap}
use Rattle.std.specs.Prelude.{nat_lt}
use Rattle.std.specs.Str.{bytes_eq}
use Rattle.fab_sound.specs.inner.Checks.{count_at}
use Rattle.fab_sound.proofs.Clocking.{counted_more}
use Rattle.fab_sound.proofs.clocks.take_clock.Goals as goal

pub returns-clause-serve : goal.returns-clause-serve
returns-clause-serve c = λ e name.
    ap (nat_lt 0) (c.in_ok-count_up.ensures name) ∙ counted_more (bytes_eq c.args.clock.now name) (count_at c.args.clocks.now name)
