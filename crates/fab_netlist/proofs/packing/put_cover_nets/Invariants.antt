use Rattle.std.proofs.Common.{◌≡◌, ◌++◌, drop, map}
use Rattle.std.specs.List.{filter}
use Rattle.fab_netlist.specs.inner.Survey.{kept_by}
use Rattle.fab_netlist.specs.inner.Places.{net_by}
use Rattle.fab_netlist.proofs.packing.put_cover_nets.Given as goal

abbrev pub invariant-loop-cover : goal.invariant-loop-cover
invariant-loop-cover l = l.out.items ++ map (net_by l.netlist l.survey) (filter (kept_by l.survey) (drop l.cover-index l.netlist.covers)) ≡ l.fn.out.items ++ map (net_by l.netlist l.survey) (filter (kept_by l.survey) l.netlist.covers)
