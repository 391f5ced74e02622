use Rattle.std.proofs.Common.{◌<◌, ◌∙◌, ap, map, arith}
use Rattle.std.proofs.lemmas.Result.{IfErr-weaker, on_ok_weaker, err_from_is_err_and}
use Rattle.fab_outputs.specs.Storing.{plain_output}
use Rattle.fab_outputs.proofs.Ending.{cause_of_store, leaves_of_store, done_of_store}
use Rattle.fab_flow.specs.Partial.{IsReadyToExchange, MakesPartial, MeetsPartial, PartialFiles, partial_files, partial_refusals}
use Rattle.fab_flow.proofs.BitsMade.{features_behind}
use Rattle.fab_flow.proofs.PartialMade.{chain_cause, chain_leaves, content_cause, content_leaves, fabric_cause, fasm_cause, implementation_behind, implementation_cause, partial_made}
use Rattle.fab_flow.proofs.partial.do_partial.Goals as goal

-- ---- a file is refused

pub returns-in_err-read-clause-cause : goal.returns-in_err-read-clause-cause
returns-in_err-read-clause-cause g c =
    let residual = err_from_is_err_and c.from_residual.result c.from_residual.ensures.1 in
    let names : PartialFiles = partial_files c.args.fabric.now c.args.implementation.now c.args.fasm.now c.args.first c.args.last c.args.out.now in
    rw (residual.1, residual.2) (fabric_cause (g.D.Desk.told c.args.desk.now) names _ _ c.in_err-read.field-0.0 c.in_err-read.ensures.cause)

pub returns-in_err-check_frames-clause-cause : goal.returns-in_err-check_frames-clause-cause
returns-in_err-check_frames-clause-cause g c =
    let residual = err_from_is_err_and c.from_residual-in_err-check_frames.result c.from_residual-in_err-check_frames.ensures.1 in
    let names : PartialFiles = partial_files c.args.fabric.now c.args.implementation.now c.args.fasm.now c.args.first c.args.last c.args.out.now in
    rw (residual.1, residual.2)
    (chain_cause (g.D.Desk.told c.args.desk.now) names _ _ c.in_err-check_frames.field-0.0 c.in_ok-read.read (λ files is. c.in_ok-read.ensures.spelled files is)
    c.in_err-check_frames.ensures.chain c.in_err-check_frames.ensures.refused)

pub returns-in_err-check_frames-clause-leaves : goal.returns-in_err-check_frames-clause-leaves
returns-in_err-check_frames-clause-leaves g c =
    let residual = err_from_is_err_and c.from_residual-in_err-check_frames.result c.from_residual-in_err-check_frames.ensures.1 in
    let names : PartialFiles = partial_files c.args.fabric.now c.args.implementation.now c.args.fasm.now c.args.first c.args.last c.args.out.now in
    rw (residual.1, residual.2)
    (chain_leaves (λ files. MakesPartial files names) (g.D.Desk.told c.args.desk.now) _ names c.in_err-check_frames.field-0.0 c.in_ok-read.ensures.told
    c.in_err-check_frames.ensures.refused)

pub returns-in_err-running-clause-cause : goal.returns-in_err-running-clause-cause
returns-in_err-running-clause-cause g c =
    let residual = err_from_is_err_and c.from_residual-in_err-running.result c.from_residual-in_err-running.ensures.1 in
    let names : PartialFiles = partial_files c.args.fabric.now c.args.implementation.now c.args.fasm.now c.args.first c.args.last c.args.out.now in
    let reads = g.D.Desk.reads in
    let before = c.in_ok-read.ensures.reads in
    rw (residual.1, residual.2)
    (implementation_cause (g.D.Desk.told c.args.desk.now) names (reads c.args.desk.now < reads c.read_implementation.new.desk) _ c.in_err-running.field-0.0 c.in_ok-read.read
    (λ files is. c.in_ok-read.ensures.spelled files is) c.in_ok-check_frames.ensures.frames (g.D.Desk.told c.read_fabric.new.desk) (reads c.read_fabric.new.desk < reads c.read_implementation.new.desk)
    c.in_ok-read.ensures.told (λ rose. omega (arith, rose, before)) c.in_err-running.ensures.cause)

pub returns-in_err-features-clause-cause : goal.returns-in_err-features-clause-cause
returns-in_err-features-clause-cause g c =
    let residual = err_from_is_err_and c.from_residual-in_err-features.result c.from_residual-in_err-features.ensures.1 in
    let names : PartialFiles = partial_files c.args.fabric.now c.args.implementation.now c.args.fasm.now c.args.first c.args.last c.args.out.now in
    let told = g.D.Desk.told c.args.desk.now in
    let same = c.in_ok-running.ensures.told ∙ c.in_ok-read.ensures.told in
    let reads = g.D.Desk.reads in
    let before = c.in_ok-read.ensures.reads in
    let later = c.in_ok-running.ensures.reads in
    let implemented = implementation_behind told (g.D.Desk.told c.read_fabric.new.desk) c.args.implementation.now c.in_ok-read.read c.in_ok-running.running c.in_ok-read.ensures.told
    (λ files is. c.in_ok-running.ensures.spelled files is) in
    rw (residual.1, residual.2)
    (fasm_cause told names (reads c.args.desk.now < reads c.read_features.new.desk) _ c.in_err-features.field-0.0 c.in_ok-read.read (λ files is. c.in_ok-read.ensures.spelled files is)
    c.in_ok-check_frames.ensures.frames c.in_ok-running.running implemented (g.D.Desk.told c.read_implementation.new.desk) (reads c.read_implementation.new.desk < reads c.read_features.new.desk)
    same (λ rose. omega (arith, rose, before, later)) c.in_err-features.ensures.cause)

-- ---- what was read is

pub returns-in_err-bytes-clause-cause : goal.returns-in_err-bytes-clause-cause
returns-in_err-bytes-clause-cause g c =
    let residual = err_from_is_err_and c.from_residual-in_err-bytes.result c.from_residual-in_err-bytes.ensures.1 in
    let names : PartialFiles = partial_files c.args.fabric.now c.args.implementation.now c.args.fasm.now c.args.first c.args.last c.args.out.now in
    let told = g.D.Desk.told c.args.desk.now in
    let same = c.in_ok-running.ensures.told ∙ c.in_ok-read.ensures.told in
    let implemented = implementation_behind told (g.D.Desk.told c.read_fabric.new.desk) c.args.implementation.now c.in_ok-read.read c.in_ok-running.running c.in_ok-read.ensures.told
    (λ files is. c.in_ok-running.ensures.spelled files is) in
    let features = features_behind told (g.D.Desk.told c.read_implementation.new.desk) c.args.fasm.now c.deref.result.now c.in_ok-features.features.items same c.deref.ensures.value
    (λ files is. c.in_ok-features.ensures.spelled files is) in
    rw (residual.1, residual.2)
    (content_cause told names _ _ c.in_err-bytes.field-0.0 c.in_ok-read.read (λ files is. c.in_ok-read.ensures.spelled files is) c.in_ok-check_frames.ensures.frames c.in_ok-running.running implemented
    c.deref.result.now features
    c.in_err-bytes.ensures.refused)

pub returns-in_err-bytes-clause-leaves : goal.returns-in_err-bytes-clause-leaves
returns-in_err-bytes-clause-leaves g c =
    let residual = err_from_is_err_and c.from_residual-in_err-bytes.result c.from_residual-in_err-bytes.ensures.1 in
    let names : PartialFiles = partial_files c.args.fabric.now c.args.implementation.now c.args.fasm.now c.args.first c.args.last c.args.out.now in
    let same = c.in_ok-running.ensures.told ∙ c.in_ok-read.ensures.told in
    rw (residual.1, residual.2)
    (content_leaves (λ files. MakesPartial files names) (g.D.Desk.told c.args.desk.now) (g.D.Desk.told c.read_features.new.desk) c.in_ok-read.read c.in_ok-running.running c.deref.result.now
    c.args.first c.args.last c.in_err-bytes.field-0.0 (c.in_ok-features.ensures.told ∙ same) c.in_err-bytes.ensures.refused)

-- ---- the bitstream is stored

pub returns-clause-done : goal.returns-clause-done
returns-clause-done g c =
    let names : PartialFiles = partial_files c.args.fabric.now c.args.implementation.now c.args.fasm.now c.args.first c.args.last c.args.out.now in
    let told = g.D.Desk.told c.args.desk.now in
    let same = c.in_ok-running.ensures.told ∙ c.in_ok-read.ensures.told in
    let implemented = implementation_behind told (g.D.Desk.told c.read_fabric.new.desk) c.args.implementation.now c.in_ok-read.read c.in_ok-running.running c.in_ok-read.ensures.told
    (λ files is. c.in_ok-running.ensures.spelled files is) in
    let features = features_behind told (g.D.Desk.told c.read_implementation.new.desk) c.args.fasm.now c.deref.result.now c.in_ok-features.features.items same c.deref.ensures.value
    (λ files is. c.in_ok-features.ensures.spelled files is) in
    let outputs = map plain_output c.deref-2.result.now in
    let of = c.in_ok-bytes.ensures in
    on_ok_weaker c.store_all.result (λ stored. done_of_store (λ files. MakesPartial files names) told outputs (g.D.Desk.told c.read_features.new.desk) (g.D.Desk.told c.store_all.new.desk)
    (λ files is. partial_made files names c.in_ok-read.read c.in_ok-running.running c.deref.result.now c.in_ok-bytes.bytes.items outputs (c.in_ok-read.ensures.spelled files is)
    c.in_ok-check_frames.ensures.frames (implemented files is) (features files is) of.within of.unused of.right of.made (ap (map plain_output) c.deref-2.ensures.value ∙ c.in_ok-outputs.ensures.are))
    (c.in_ok-features.ensures.told ∙ same) stored) c.store_all.ensures.done

pub returns-clause-leaves : goal.returns-clause-leaves
returns-clause-leaves g c =
    let names : PartialFiles = partial_files c.args.fabric.now c.args.implementation.now c.args.fasm.now c.args.first c.args.last c.args.out.now in
    let told = g.D.Desk.told c.args.desk.now in
    let same = c.in_ok-running.ensures.told ∙ c.in_ok-read.ensures.told in
    let implemented = implementation_behind told (g.D.Desk.told c.read_fabric.new.desk) c.args.implementation.now c.in_ok-read.read c.in_ok-running.running c.in_ok-read.ensures.told
    (λ files is. c.in_ok-running.ensures.spelled files is) in
    let features = features_behind told (g.D.Desk.told c.read_implementation.new.desk) c.args.fasm.now c.deref.result.now c.in_ok-features.features.items same c.deref.ensures.value
    (λ files is. c.in_ok-features.ensures.spelled files is) in
    let outputs = map plain_output c.deref-2.result.now in
    let of = c.in_ok-bytes.ensures in
    IfErr-weaker c.store_all.result _ _
    (λ fault stopped. leaves_of_store (λ files. MakesPartial files names) told outputs (g.D.Desk.told c.read_features.new.desk) (g.D.Desk.told c.store_all.new.desk) _ fault
    (λ files is. partial_made files names c.in_ok-read.read c.in_ok-running.running c.deref.result.now c.in_ok-bytes.bytes.items outputs (c.in_ok-read.ensures.spelled files is)
    c.in_ok-check_frames.ensures.frames (implemented files is) (features files is) of.within of.unused of.right of.made (ap (map plain_output) c.deref-2.ensures.value ∙ c.in_ok-outputs.ensures.are))
    (c.in_ok-features.ensures.told ∙ same) stopped) c.store_all.ensures.stopped

pub returns-clause-cause : goal.returns-clause-cause
returns-clause-cause g c =
    let names : PartialFiles = partial_files c.args.fabric.now c.args.implementation.now c.args.fasm.now c.args.first c.args.last c.args.out.now in
    let told = g.D.Desk.told c.args.desk.now in
    let same = c.in_ok-running.ensures.told ∙ c.in_ok-read.ensures.told in
    let implemented = implementation_behind told (g.D.Desk.told c.read_fabric.new.desk) c.args.implementation.now c.in_ok-read.read c.in_ok-running.running c.in_ok-read.ensures.told
    (λ files is. c.in_ok-running.ensures.spelled files is) in
    let features = features_behind told (g.D.Desk.told c.read_implementation.new.desk) c.args.fasm.now c.deref.result.now c.in_ok-features.features.items same c.deref.ensures.value
    (λ files is. c.in_ok-features.ensures.spelled files is) in
    let of = c.in_ok-bytes.ensures in
    let first = c.in_ok-read.ensures.writes in
    let second = c.in_ok-running.ensures.writes in
    let third = c.in_ok-features.ensures.writes in
    IfErr-weaker c.store_all.result _ _
    (λ fault stopped. cause_of_store told _ _ (λ files. MeetsPartial files names) (λ files. IsReadyToExchange files names) partial_refusals (map plain_output c.deref-2.result.now) _ _ _ fault
    (λ files is. record {
      fabric = c.in_ok-read.read;
      implementation = c.in_ok-running.running;
      features = c.deref.result.now;
      spelled = c.in_ok-read.ensures.spelled files is;
      frames = c.in_ok-check_frames.ensures.frames;
      implemented = implemented files is;
      read = features files is;
      within = of.within;
      unused = of.unused;
      right = of.right;
    })
    (λ rose. omega (arith, rose, first, second, third)) stopped) c.store_all.ensures.stopped
