use Rattle.std.proofs.Common.{◌≡◌, ◌++◌, take, drop}
use Rattle.fab_names.specs.Names.{all_names, come_twice}
use Rattle.fab_names.proofs.names.Names.meets_pins.Given as goal

abbrev pub invariant-loop-place : goal.invariant-loop-place
invariant-loop-place l = come_twice (all_names l.self ++ take l.place l.pins) (drop l.place l.pins) ≡ come_twice (all_names l.self) l.pins
