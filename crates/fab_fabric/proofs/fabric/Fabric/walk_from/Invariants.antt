use Rattle.std.proofs.Common.{◌≡◌, ◌-◌}
use Rattle.fab_model.specs.Cascade.{placed_row, walk_from}
use Rattle.fab_fabric.specs.Walks.{place_of, placed_at, HasRow}
use Rattle.fab_fabric.proofs.fabric.Fabric.walk_from.Given as goal

-- the walk that is left gives what the whole walk gives
abbrev pub invariant-loop-border : goal.invariant-loop-border
invariant-loop-border l = record {
  stands : HasRow l.self l.here;
  rest : walk_from l.self (l.borders - l._border) (placed_row l.self (place_of l.here)) l.rest ≡ walk_from l.self l.borders (placed_at l.self l.fn.from) l.fn.bit;
}
