use Rattle.std.proofs.Common.{◌≡◌, drop}
use Rattle.std.specs.List.{flat_map, list_all}
use Rattle.fab_syntax.specs.Sound.{own_names}
use Rattle.fab_sound.specs.inner.Checks.{has_net, plain_all}
use Rattle.fab_sound.proofs.names.names_are_nets.Given as goal

abbrev pub invariant-loop-part : goal.invariant-loop-part
invariant-loop-part l =
    list_all (has_net l.names) (flat_map own_names (plain_all (drop l.part-index l.part-items)))
    ≡ list_all (has_net l.names) (flat_map own_names (plain_all l.part-items))
