use Rattle.std.proofs.Common.{◌<◌, arith}
use Rattle.fab_list_files.specs.Sides.{MeetsPairs}
use Rattle.fab_files.proofs.Complete.{ok_unless_memory}
use Rattle.fab_list_files.proofs.Once.{not_both}
use Rattle.fab_list_files.proofs.pairs.read_pairs.Goals as goal

pub returns-clause-complete : goal.returns-clause-complete
returns-clause-complete g c = λ files is pairs spelled still.
    let reads = g.D.Desk.reads in
    let before = reads c.args.desk.now in
    let after = reads c.read.new.desk in
    ok_unless_memory (g.D.Desk.told c.args.desk.now) (before < after) (λ files. MeetsPairs files c.args.name.now) files is
    (λ rose. omega (arith, rose, still)) (λ fault refused. not_both files c.args.name.now pairs fault spelled refused) c.read.result c.read.ensures.cause
