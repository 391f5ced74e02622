use Rattle.std.proofs.Common.{◌≡◌, ◌+◌, ◌++◌, drop, map}
use Rattle.fab_netlist.specs.Wide.{tabled_cover}
use Rattle.fab_wide.specs.Split.{all_parts, all_taken}
use Rattle.fab_wide.proofs.narrowing.narrow_all.Given as goal

abbrev pub invariant-loop-cover : goal.invariant-loop-cover
invariant-loop-cover l = record {
  parts : l.made.covers ++ all_parts (map tabled_cover (drop l.cover-index l.covers)) l.made.fresh ≡ all_parts (map tabled_cover l.covers) l.fresh;
  nets : all_taken (map tabled_cover (drop l.cover-index l.covers)) + l.made.fresh ≡ all_taken (map tabled_cover l.covers) + l.fresh;
}
