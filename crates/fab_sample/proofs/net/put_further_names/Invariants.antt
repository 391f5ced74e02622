use Rattle.std.proofs.Common.{◌≡◌, ◌++◌, ◌∷◌, map, take}
use Rattle.std.specs.List.{flat_map}
use Rattle.fab_sample.specs.Netlists.{net_name}
use Rattle.fab_sample.proofs.net.put_further_names.Given as goal

abbrev pub invariant-loop-net : goal.invariant-loop-net
invariant-loop-net l = l.out.items ≡ l.fn.out.items ++ flat_map (λ part. 32 ∷ part) (map net_name (take l.net-index l.nets))
