use Rattle.std.proofs.Common.{◌≡◌, ◌++◌, ◌≤◌, map, slice_range}
use Rattle.fab_kinds.specs.Pins.{pin_names}
use Rattle.fab_syntax.specs.Plain.{plain_join}
use Rattle.fab_gen_tile.specs.TileModule.{pin_join}
use Rattle.fab_gen_tile.proofs.joins.push_pin_joins.Given as goal

-- the joins so far are those of the pins so far
abbrev pub invariant-loop-pin : goal.invariant-loop-pin
invariant-loop-pin l = record {
  least : l.from ≤ l.pin;
  joins : map plain_join l.joins.items ≡ map plain_join l.initial.joins.items ++ map (pin_join l.bel) (slice_range (pin_names l.bel.kind) l.from l.pin);
}
