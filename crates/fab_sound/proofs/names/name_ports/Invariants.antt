use Rattle.std.proofs.Common.{◌≡◌, ◌++◌, ℕ, drop, List, [], map}
use Rattle.std.specs.Option.{option_or}
use Rattle.fab_syntax.specs.declared.tree.Port.{Port}
use Rattle.fab_syntax.specs.Sound.{Mention, net, refusals}
use Rattle.fab_sound.specs.inner.Checks.{Notes, found, net_declared, net_of}
use Rattle.fab_sound.proofs.names.name_ports.Given as goal

abbrev pub invariant-loop-port : goal.invariant-loop-port
invariant-loop-port l =
    ((before : List Mention) → Notes l.initial.names before → (rest : List Mention) →
    (after : List Mention) × Notes l.names after
    × (refusals before (map (λ (port : Port). net port.name) l.ports ++ rest)
    ≡ refusals after (map (λ (port : Port). net port.name) (drop l.port-index l.ports) ++ rest)))
    × ((name : List ℕ) → option_or (net_declared (found l.names name)) (net_of (drop l.port-index l.ports) [] name)
    ≡ option_or (net_declared (found l.initial.names name)) (net_of l.ports [] name))
