use Rattle.std.proofs.Common.{map, reverse}
use Rattle.fab_assemble.specs.inner.Sites.{HoldPads}
use Rattle.fab_assemble.proofs.state.pad_sites.Given as goal

-- the lines so far, from the last
abbrev pub invariant-loop-port : goal.invariant-loop-port
invariant-loop-port l = HoldPads (reverse (map (λ line. line.now) l.yielded)) l.sites.entries
