use Rattle.std.proofs.Common.{◌≡◌, ◌++◌, map, take}
use Rattle.std.specs.List.{enumerate_from}
use Rattle.fab_syntax.specs.Plain.{plain_item}
use Rattle.fab_model.specs.Tiles.{bits_before}
use Rattle.fab_gen_tile.specs.TileModule.{bel_instance}
use Rattle.fab_gen_tile.proofs.tile.push_bel_instances.Given as goal

-- the bits and the instances of the BELs so far
abbrev pub invariant-loop-place : goal.invariant-loop-place
invariant-loop-place l = record {
  low : l.low ≡ bits_before l.bels l.place;
  items : map plain_item l.items.items ≡ map plain_item l.initial.items.items ++ map (λ placed. bel_instance placed.0 (bits_before l.bels placed.0) placed.1) (enumerate_from 0 (take l.place l.bels));
}
