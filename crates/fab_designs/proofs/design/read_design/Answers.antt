use Rattle.std.proofs.Common.{◌<◌, arith}
use Rattle.std.specs.Option.{option_copied}
use Rattle.fab_files.proofs.Complete.{ok_unless_memory}
use Rattle.fab_designs.specs.Designs.{DesignFiles, design_files, MeetsDesign}
use Rattle.fab_designs.proofs.Judged.{design_is_judged}
use Rattle.fab_designs.proofs.design.read_design.Goals as goal

pub returns-clause-complete : goal.returns-clause-complete
returns-clause-complete g c = λ files is design spelled still.
    let before = g.D.Desk.reads c.args.desk.now in
    let after = g.D.Desk.reads c.read.new.desk in
    let names : DesignFiles = design_files c.args.fabric.now c.args.blif.now (option_copied c.args.pcf) in
    ok_unless_memory (g.D.Desk.told c.args.desk.now) (before < after) (λ files. MeetsDesign files names) files is
    (λ rose. omega (arith, rose, still)) (λ fault refused. (design_is_judged files names).apart design fault spelled refused) c.read.result c.read.ensures.cause
