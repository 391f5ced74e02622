use Rattle.std.proofs.Common.{map}
use Rattle.indexmap.specs.IndexSet.{insert_all}
use Rattle.fab_blif.specs.Flat.{net_eq, net_in}
use Rattle.fab_blif.specs.inner.Walk.{plain_nets, net_numbers}
use Rattle.fab_blif.proofs.Numbers.{nets_more, numbers_more}
use Rattle.fab_blif.proofs.design.number_names.Goals as goal

pub loop-name-preserved : goal.loop-name-preserved
loop-name-preserved c =
    let net = net_in c.args.copy.now in
    let names = c.args.names.now in
    let old = plain_nets c.loop-name.nets.keys in
    let new = plain_nets c.number_name.new.nets.keys in
    record {
      nets =
          nets_more net names c.loop-name.name-index c.name-item.result c.loop-name-test.true c.name-item.is old new
          c.in_ok-number_name.ensures.nets (insert_all net_eq (plain_nets c.args.nets.now.keys) (map net names)) c.loop-name.invariant.nets;
      numbers =
          numbers_more net names c.loop-name.name-index c.name-item.result c.loop-name-test.true c.name-item.is old new
          c.in_ok-number_name.ensures.nets (net_numbers (plain_nets c.args.nets.now.keys) (map net names)) c.loop-name.numbers.items c.push.new.self.items
          c.in_ok-number_name.field-0 c.in_ok-push.ensures.items c.in_ok-number_name.ensures.number c.loop-name.invariant.numbers;
    }
