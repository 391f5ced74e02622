use Rattle.std.proofs.Common.{◌≡◌, ◌++◌, map, take}
use Rattle.fab_tables.proofs.expansion.push_joined.Given as goal

abbrev pub invariant-loop-alternative : goal.invariant-loop-alternative
invariant-loop-alternative l = l.longer.items ≡ l.initial.longer.items ++ map (λ alternative. l.name ++ alternative) (map (λ alternative. alternative.now) (take l.alternative-index l.alternatives))
