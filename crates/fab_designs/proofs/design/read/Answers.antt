use Rattle.std.proofs.Common.{◌≡◌, ◌<◌, refl, ◌∙◌, arith}
use Rattle.std.specs.Option.{option_copied}
use Rattle.std.proofs.lemmas.Result.{err_from_is_err_and}
use Rattle.fab_files.specs.Stages.{at_first, behind_it}
use Rattle.fab_files.proofs.Causes.{cause_weaker}
use Rattle.fab_read.specs.Fabrics.{MeetsFabric}
use Rattle.fab_designs.specs.Designs.{DesignFiles, design_files, MeetsDesign, MeetsNetlist, MeetsConstraints}
use Rattle.fab_designs.proofs.design.read.Goals as goal

pub returns-in_err-fabric-clause-cause : goal.returns-in_err-fabric-clause-cause
returns-in_err-fabric-clause-cause g c =
    let residual = err_from_is_err_and c.from_residual.result c.from_residual.ensures.1 in
    let told = g.D.Desk.told c.args.desk.now in
    let rose = g.D.Desk.reads c.args.desk.now < g.D.Desk.reads c.read_fabric.new.desk in
    let names : DesignFiles = design_files c.args.fabric.now c.args.blif.now (option_copied c.args.pcf) in
    rw (residual.1, residual.2) (cause_weaker told told rose rose (λ files. MeetsFabric files names.fabric) (λ files. MeetsDesign files names) c.in_err-fabric.field-0.0
    refl (λ r. r) (λ files is event met. at_first met) c.in_err-fabric.ensures.cause)

pub returns-in_err-netlist-clause-cause : goal.returns-in_err-netlist-clause-cause
returns-in_err-netlist-clause-cause g c =
    let residual = err_from_is_err_and c.from_residual-in_err-netlist.result c.from_residual-in_err-netlist.ensures.1 in
    let reads = g.D.Desk.reads in
    let names : DesignFiles = design_files c.args.fabric.now c.args.blif.now (option_copied c.args.pcf) in
    rw (residual.1, residual.2) (cause_weaker (g.D.Desk.told c.read_fabric.new.desk) (g.D.Desk.told c.args.desk.now)
    (reads c.read_fabric.new.desk < reads c.read_netlist.new.desk) (reads c.args.desk.now < reads c.read_netlist.new.desk)
    (λ files. MeetsNetlist files names.blif) (λ files. MeetsDesign files names) c.in_err-netlist.field-0.0
    c.in_ok-fabric.ensures.told (λ r. omega (arith, r, c.in_ok-fabric.ensures.reads))
    (λ files is event met. behind_it (c.in_ok-fabric.ensures.spelled files is) (at_first met)) c.in_err-netlist.ensures.cause)

pub returns-in_err-fixed-clause-cause : goal.returns-in_err-fixed-clause-cause
returns-in_err-fixed-clause-cause g c =
    let residual = err_from_is_err_and c.from_residual-in_err-fixed.result c.from_residual-in_err-fixed.ensures.1 in
    let reads = g.D.Desk.reads in
    let names : DesignFiles = design_files c.args.fabric.now c.args.blif.now (option_copied c.args.pcf) in
    let same : g.D.Desk.told c.read_netlist.new.desk ≡ g.D.Desk.told c.args.desk.now = c.in_ok-netlist.ensures.told ∙ c.in_ok-fabric.ensures.told in
    rw (residual.1, residual.2) (cause_weaker (g.D.Desk.told c.read_netlist.new.desk) (g.D.Desk.told c.args.desk.now)
    (reads c.read_netlist.new.desk < reads c.read_constraints.new.desk) (reads c.args.desk.now < reads c.read_constraints.new.desk)
    (λ files. MeetsConstraints files names.pcf c.in_ok-fabric.fabric c.in_ok-netlist.netlist) (λ files. MeetsDesign files names) c.in_err-fixed.field-0.0
    same (λ r. omega (arith, r, c.in_ok-fabric.ensures.reads, c.in_ok-netlist.ensures.reads))
    (λ files is event met. behind_it (c.in_ok-fabric.ensures.spelled files is) (behind_it (c.in_ok-netlist.ensures.spelled files (c.in_ok-fabric.ensures.told ∙ is)) met)) c.in_err-fixed.ensures.cause)
