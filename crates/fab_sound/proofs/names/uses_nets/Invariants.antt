use Rattle.std.proofs.Common.{◌≡◌, drop}
use Rattle.std.specs.List.{flat_map, list_all}
use Rattle.fab_sound.specs.inner.Checks.{has_net, plain_all, expression_names}
use Rattle.fab_sound.proofs.names.uses_nets.Given as goal

abbrev pub invariant-loop-value : goal.invariant-loop-value
invariant-loop-value l =
    list_all (has_net l.names) (flat_map expression_names (plain_all (drop l.value-index l.value-items)))
    ≡ list_all (has_net l.names) (flat_map expression_names (plain_all l.value-items))
