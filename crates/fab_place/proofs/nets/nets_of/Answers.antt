use Rattle.std.proofs.Common.{◌≡◌, ◌+◌, ◌++◌, ◌∷◌, [], List, refl, ◌∙◌, subst, get_or, take, arith}
use Rattle.std.proofs.lemmas.List.{take_more}
use Rattle.fab_annealing.specs.declared.nets.Nets.{Nets}
use Rattle.fab_place.specs.declared.nets.Pin.{Pin}
use Rattle.fab_place.proofs.Linked.{AreListed, net_of, item_of, take_past, none_listed, listed_more, made_nets, made_pins}
use Rattle.fab_place.proofs.nets.nets_of.Goals as goal

pub loop-pin-init : goal.loop-pin-init
loop-pin-init c = record {
  nets = c.in_ok-by_net.ensures.count;
  items = c.in_ok-by_item.ensures.count;
  by_net = none_listed net_of item_of c.in_ok-by_net.by_net.items [] refl c.in_ok-by_net.ensures.empty;
  by_item = none_listed item_of net_of c.in_ok-by_item.by_item.items [] refl c.in_ok-by_item.ensures.empty;
}

pub loop-pin-preserved : goal.loop-pin-preserved
loop-pin-preserved c =
    let inv = c.loop-pin.invariant in
    let pins = c.args.pins.now in
    let k = c.loop-pin.pin-index in
    let none : Pin = record { net = 0; item = 0 } in
    let one = get_or pins k none in
    let more : take (k + 1) pins ≡ take k pins ++ one ∷ [] = take_more pins k none c.loop-pin-test.true in
    record {
      nets = c.in_ok-put.ensures.count ∙ inv.nets;
      items = c.in_ok-put-2.ensures.count ∙ inv.items;
      by_net = listed_more net_of item_of c.loop-pin.by_net.items c.put.new.lists.items (take k pins) (take (k + 1) pins) one inv.by_net more c.in_ok-put.ensures.here c.in_ok-put.ensures.others;
      by_item = listed_more item_of net_of c.loop-pin.by_item.items c.put-in-loop-pin.new.lists.items (take k pins) (take (k + 1) pins) one inv.by_item more c.in_ok-put-2.ensures.here c.in_ok-put-2.ensures.others;
    }

pub returns-clause-made : goal.returns-clause-made
returns-clause-made c =
    let inv = c.loop-pin.invariant in
    let pins = c.args.pins.now in
    let nets : Nets = record { items = c.loop-pin.by_net; touching = c.loop-pin.by_item } in
    let all : take c.loop-pin.pin-index pins ≡ pins = take_past c.loop-pin.pin-index pins (omega (arith, c.loop-pin-test.false)) in
    made_nets nets pins
    (subst (λ (ps : List Pin). AreListed net_of item_of c.loop-pin.by_net.items ps) all inv.by_net)
    (subst (λ (ps : List Pin). AreListed item_of net_of c.loop-pin.by_item.items ps) all inv.by_item)
    (λ k d low. omega (arith, c.requires.nets k d low, inv.nets)) (λ k d low. omega (arith, c.requires.items k d low, inv.items))
    (omega (arith, c.requires.few, inv.nets)) (omega (arith, c.requires.few_items, inv.items))

pub returns-clause-pins : goal.returns-clause-pins
returns-clause-pins c =
    let inv = c.loop-pin.invariant in
    let pins = c.args.pins.now in
    let nets : Nets = record { items = c.loop-pin.by_net; touching = c.loop-pin.by_item } in
    let all : take c.loop-pin.pin-index pins ≡ pins = take_past c.loop-pin.pin-index pins (omega (arith, c.loop-pin-test.false)) in
    made_pins nets pins
    (subst (λ (ps : List Pin). AreListed net_of item_of c.loop-pin.by_net.items ps) all inv.by_net)
    (subst (λ (ps : List Pin). AreListed item_of net_of c.loop-pin.by_item.items ps) all inv.by_item)
    (λ k d low. omega (arith, c.requires.nets k d low, inv.nets)) (λ k d low. omega (arith, c.requires.items k d low, inv.items))
