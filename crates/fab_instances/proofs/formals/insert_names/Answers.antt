use Rattle.fab_bits.specs.Keys.{key_names}
use Rattle.fab_instances.proofs.Naming.{same_more}
use Rattle.fab_instances.proofs.formals.insert_names.Goals as goal

pub loop-name-preserved : goal.loop-name-preserved
loop-name-preserved c =
    same_more (key_names c.args.ports.now.keys) (key_names c.loop-name.ports.keys) (key_names c.insert_name.new.ports.keys) c.args.names.now c.loop-name.name-index c.name-item.result
    c.loop-name-test.true c.name-item.is c.loop-name.invariant c.in_ok-insert_name.ensures
