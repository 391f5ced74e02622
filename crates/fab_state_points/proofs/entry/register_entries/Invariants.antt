use Rattle.std.proofs.Common.{◌≡◌, take}
use Rattle.fab_state_points.specs.Entries.{register_entries}
use Rattle.fab_state_points.proofs.entry.register_entries.Given as goal

abbrev pub invariant-loop-site : goal.invariant-loop-site
invariant-loop-site l = l.entries.items ≡ register_entries (take l.site-index l.ffs)
