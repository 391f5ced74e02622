use Rattle.std.proofs.Common.{map, reverse}
use Rattle.fab_assemble.specs.inner.Sites.{HoldSites}
use Rattle.fab_assemble.proofs.state.cell_sites.Given as goal

-- the lines so far, from the last
abbrev pub invariant-loop-line : goal.invariant-loop-line
invariant-loop-line l = HoldSites (reverse (map (λ line. line.now) l.yielded)) l.count l.sites.items
