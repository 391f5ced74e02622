use Rattle.std.proofs.Common.{◌≡◌, ◌++◌, map, drop}
use Rattle.fab_bits.specs.Keys.{key_names}
use Rattle.fab_blif_models.specs.Judge.{names_twice}
use Rattle.fab_blif_models.proofs.judging.names_twice.Given as goal

abbrev pub invariant-loop-name : goal.invariant-loop-name
invariant-loop-name l =
    names_twice (key_names l.before.keys ++ key_names l.seen.keys) (map (λ w. w.now) (drop l.name-index l.names))
    ≡ names_twice (key_names l.before.keys) (map (λ w. w.now) l.names)
