use Rattle.std.proofs.Common.{◌≡◌, ◌++◌, take}
use Rattle.std.specs.List.{flat_map}
use Rattle.fab_legal.specs.inner.Kept.{in_sinks}
use Rattle.fab_legal.proofs.sinks.put_ins.Given as goal

abbrev pub invariant-loop-site : goal.invariant-loop-site
invariant-loop-site l = l.sinks.items ≡ l.fn.sinks.items ++ flat_map (in_sinks l.fabric) (take l.site-index l.sites)
