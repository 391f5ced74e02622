use Rattle.std.proofs.Common.{◌≡◌, map, take, true}
use Rattle.std.specs.List.{list_all}
use Rattle.fab_blif_models.specs.Plain.{plain_statement}
use Rattle.fab_instances.specs.inner.Ranks.{stays}
use Rattle.fab_bits.specs.Keys.{key_names}
use Rattle.fab_instances.proofs.ranks.all_stay.Given as goal

abbrev pub invariant-loop-line : goal.invariant-loop-line
invariant-loop-line l = list_all (stays (key_names l.places.keys) l.ranks l.rank) (map plain_statement (take l.line-index l.model.statements.items)) ≡ true
