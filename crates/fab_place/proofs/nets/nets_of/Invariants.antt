use Rattle.std.proofs.Common.{◌≡◌, length, take}
use Rattle.fab_place.proofs.Linked.{AreListed, net_of, item_of}
use Rattle.fab_place.proofs.nets.nets_of.Given as goal

abbrev pub invariant-loop-pin : goal.invariant-loop-pin
invariant-loop-pin l = record {
  nets : length l.by_net.items ≡ l.nets;
  items : length l.by_item.items ≡ l.items;
  by_net : AreListed net_of item_of l.by_net.items (take l.pin-index l.pins);
  by_item : AreListed item_of net_of l.by_item.items (take l.pin-index l.pins);
}
