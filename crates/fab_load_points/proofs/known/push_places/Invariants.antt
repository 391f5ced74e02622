use Rattle.std.proofs.Common.{◌≡◌, ◌++◌, ◌-◌, map, take}
use Rattle.fab_load_points.proofs.known.push_places.Given as goal

abbrev pub invariant-loop-read : goal.invariant-loop-read
invariant-loop-read l = l.places.items ≡ l.initial.places.items ++ map (λ read. read - l.first) (take l.read-index l.reads)
