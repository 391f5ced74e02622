use Rattle.std.proofs.Common.{◌≡◌, ◌++◌, take}
use Rattle.fab_gen_tile.specs.TileModule.{bels_ports}
use Rattle.fab_gen_tile.proofs.tile.push_bels_ports.Given as goal

-- the ports so far are those of the BELs so far
abbrev pub invariant-loop-place : goal.invariant-loop-place
invariant-loop-place l = l.ports.items ≡ l.initial.ports.items ++ bels_ports (take l.place l.bels)
