use Rattle.std.proofs.Common.{◌≡◌, ◌++◌, take}
use Rattle.fab_place.proofs.placing.put_sites.Given as goal

abbrev pub invariant-loop-site : goal.invariant-loop-site
invariant-loop-site l = l.sites.items ≡ l.fn.sites.items ++ take l.site-index l.more
