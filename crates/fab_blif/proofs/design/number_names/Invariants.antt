use Rattle.std.proofs.Common.{◌≡◌, ◌++◌, drop, map}
use Rattle.indexmap.specs.IndexSet.{insert_all}
use Rattle.fab_blif.specs.Flat.{net_eq, net_in}
use Rattle.fab_blif.specs.inner.Walk.{plain_nets, net_numbers}
use Rattle.fab_blif.proofs.design.number_names.Given as goal

abbrev pub invariant-loop-name : goal.invariant-loop-name
invariant-loop-name l = record {
  nets : insert_all net_eq (plain_nets l.nets.keys) (map (net_in l.copy) (drop l.name-index l.names))
      ≡ insert_all net_eq (plain_nets l.fn.nets.keys) (map (net_in l.copy) l.names);
  numbers : l.numbers.items ++ net_numbers (plain_nets l.nets.keys) (map (net_in l.copy) (drop l.name-index l.names))
      ≡ net_numbers (plain_nets l.fn.nets.keys) (map (net_in l.copy) l.names);
}
