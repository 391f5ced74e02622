use Rattle.std.proofs.Common.{◌<◌, arith}
use Rattle.fab_files.proofs.Complete.{ok_unless_memory}
use Rattle.fab_designs.specs.Implementations.{MeetsImplementation}
use Rattle.fab_designs.proofs.Judged.{spelled_not_refused}
use Rattle.fab_designs.proofs.implementation.read_implementation.Goals as goal

pub returns-clause-complete : goal.returns-clause-complete
returns-clause-complete g c = λ files is it spelled still.
    let before = g.D.Desk.reads c.args.desk.now in
    let after = g.D.Desk.reads c.read.new.desk in
    let file = c.args.file.now in
    let fabric = c.args.fabric.now in
    ok_unless_memory (g.D.Desk.told c.args.desk.now) (before < after) (λ files. MeetsImplementation files file fabric) files is
    (λ rose. omega (arith, rose, still)) (λ fault refused. spelled_not_refused files file fabric it fault c.is_well_made.ensures.is_fabric c.is_well_made.ensures.are_tiles spelled refused)
    c.read.result c.read.ensures.cause
