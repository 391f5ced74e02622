use Rattle.std.proofs.Common.{◌≡◌, map, option_map, take}
use Rattle.fab_blif_models.specs.Plain.{plain_statement}
use Rattle.fab_instances.specs.inner.Ranks.{level_in}
use Rattle.fab_instances.specs.Uses.{soonest_of}
use Rattle.fab_bits.specs.Keys.{key_names}
use Rattle.fab_instances.proofs.ranks.soonest_level_in.Given as goal

abbrev pub invariant-loop-line : goal.invariant-loop-line
invariant-loop-line l = option_map (λ found. (found.0, found.1.now)) l.found
    ≡ soonest_of (level_in (key_names l.places.keys) l.ranks l.rank) (option_map (λ found. (found.0, found.1.now)) l.first) (map plain_statement (take l.line-index l.model.statements.items))
