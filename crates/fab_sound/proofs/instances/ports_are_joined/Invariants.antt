use Rattle.std.proofs.Common.{◌≡◌, drop}
use Rattle.std.specs.List.{list_all}
use Rattle.fab_sound.specs.inner.Checks.{count_at}
use Rattle.fab_sound.specs.inner.Rules.{is_joined_once}
use Rattle.fab_sound.proofs.instances.ports_are_joined.Given as goal

abbrev pub invariant-loop-port : goal.invariant-loop-port
invariant-loop-port l = list_all (is_joined_once (count_at l.counts)) (drop l.port-index l.ports) ≡ list_all (is_joined_once (count_at l.counts)) l.ports
