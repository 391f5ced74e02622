use Rattle.fab_bits.specs.Keys.{key_names}
use Rattle.fab_instances.proofs.Naming.{same_added}
use Rattle.fab_instances.proofs.formals.insert_name.Goals as goal

pub returns : goal.returns
returns c = same_added (key_names c.args.ports.now.keys) (key_names c.insert_new.new.names.keys) c.args.name.now c.in_ok-insert_new.field-0 c.in_ok-insert_new.ensures.added c.in_ok-insert_new.ensures.names
