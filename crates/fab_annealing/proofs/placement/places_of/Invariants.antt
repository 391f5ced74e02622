use Rattle.std.proofs.Common.{◌≡◌, get_or, map, take}
use Rattle.fab_annealing.proofs.placement.places_of.Given as goal

abbrev pub invariant-loop-site : goal.invariant-loop-site
invariant-loop-site l = l.places.items ≡ map (λ s. get_or l.table s 0) (take l.site-index l.sites)
