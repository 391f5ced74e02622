use Rattle.std.proofs.Common.{◌≡◌, drop}
use Rattle.std.specs.List.{list_all}
use Rattle.fab_sound.specs.inner.Checks.{count_at}
use Rattle.fab_sound.specs.inner.Rules.{port_is_driven}
use Rattle.fab_sound.proofs.drivers.ports_are_driven.Given as goal

abbrev pub invariant-loop-port : goal.invariant-loop-port
invariant-loop-port l =
    list_all (port_is_driven (count_at l.drives.driven) (count_at l.drives.held)) (drop l.port-index l.ports)
    ≡ list_all (port_is_driven (count_at l.drives.driven) (count_at l.drives.held)) l.ports
