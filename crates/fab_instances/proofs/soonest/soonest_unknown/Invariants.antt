use Rattle.std.proofs.Common.{◌≡◌, None, map, option_map, take}
use Rattle.fab_blif_models.specs.Plain.{plain_statement}
use Rattle.fab_instances.specs.Uses.{soonest_of, unknown_in}
use Rattle.fab_bits.specs.Keys.{key_names}
use Rattle.fab_instances.proofs.soonest.soonest_unknown.Given as goal

abbrev pub invariant-loop-line : goal.invariant-loop-line
invariant-loop-line l = option_map (λ found. (found.0, found.1.now)) l.found
    ≡ soonest_of (unknown_in (key_names l.places.keys)) None (map (λ line. plain_statement line.now) (take l.line-index l.lines))
