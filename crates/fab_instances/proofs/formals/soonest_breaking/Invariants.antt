use Rattle.std.proofs.Common.{◌≡◌, None, map, option_map, take}
use Rattle.fab_blif_models.specs.Plain.{plain_statement}
use Rattle.fab_instances.specs.Uses.{breaking_in, soonest_of}
use Rattle.fab_bits.specs.Keys.{key_names}
use Rattle.fab_instances.proofs.formals.soonest_breaking.Given as goal

abbrev pub invariant-loop-line : goal.invariant-loop-line
invariant-loop-line l = option_map (λ found. (found.0, found.1.now)) l.found
    ≡ soonest_of (breaking_in (key_names l.places.keys) (map (λ names. key_names names.keys) l.ports)) None (map (λ line. plain_statement line.now) (take l.line-index l.lines))
