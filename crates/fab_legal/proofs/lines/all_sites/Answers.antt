use Rattle.fab_legal.proofs.Noted.{no_site_here}
use Rattle.fab_legal.proofs.lines.all_sites.Goals as goal

pub returns-in_default : goal.returns-in_default
returns-in_default c = (
  c.loop-number-test.true,
  no_site_here c.args.noted.now c.loop-number.number _ c.loop-number-test.true c.in_default.not-Some,
  λ less small. (_, c.loop-number.invariant.each less (record { x = 0; y = 0; bel = 0 }) small),
)
