use Rattle.std.proofs.Common.{◌<◌, arith}
use Rattle.fab_files.proofs.Complete.{ok_unless_memory}
use Rattle.fab_read.specs.Fabrics.{MeetsFabric}
use Rattle.fab_read.proofs.FabricsOnce.{not_refused}
use Rattle.fab_read.proofs.fabric.read_fabric.Goals as goal

pub returns-clause-complete : goal.returns-clause-complete
returns-clause-complete g c = λ files is fabric spelled still.
    let reads = g.D.Desk.reads in
    let before = reads c.args.desk.now in
    let after = reads c.read.new.desk in
    ok_unless_memory (g.D.Desk.told c.args.desk.now) (before < after) (λ files. MeetsFabric files c.args.name.now) files is
    (λ rose. omega (arith, rose, still)) (λ fault refused. not_refused files c.args.name.now fabric fault spelled refused) c.read.result c.read.ensures.cause
