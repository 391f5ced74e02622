use Rattle.std.proofs.Common.{◌<◌, ◌∙◌, ap, map, arith}
use Rattle.std.proofs.lemmas.Result.{IfErr-weaker, on_ok_weaker, err_from_is_err_and}
use Rattle.fab_outputs.specs.Storing.{plain_output}
use Rattle.fab_flow.specs.BitFeatures.{FeaturesFiles, IsReadyForFeatures, MakesFeatures, MeetsBitFeatures, features_files, features_refusals}
use Rattle.fab_outputs.proofs.Ending.{cause_of_store, leaves_of_store, done_of_store}
use Rattle.fab_flow.proofs.BitFeaturesMade.{bits_behind, bitstream_cause, fabric_cause, features_made}
use Rattle.fab_flow.proofs.bit_features.do_features.Goals as goal

-- ---- a file is refused

pub returns-in_err-read-clause-cause : goal.returns-in_err-read-clause-cause
returns-in_err-read-clause-cause g c =
    let residual = err_from_is_err_and c.from_residual.result c.from_residual.ensures.1 in
    let names : FeaturesFiles = features_files c.args.fabric.now c.args.bit.now c.args.out.now in
    rw (residual.1, residual.2) (fabric_cause (g.D.Desk.told c.args.desk.now) names _ _ c.in_err-read.field-0.0 c.in_err-read.ensures.cause)

pub returns-in_err-bits-clause-cause : goal.returns-in_err-bits-clause-cause
returns-in_err-bits-clause-cause g c =
    let residual = err_from_is_err_and c.from_residual-in_err-bits.result c.from_residual-in_err-bits.ensures.1 in
    let names : FeaturesFiles = features_files c.args.fabric.now c.args.bit.now c.args.out.now in
    let reads = g.D.Desk.reads in
    let before = c.in_ok-read.ensures.reads in
    rw (residual.1, residual.2)
    (bitstream_cause (g.D.Desk.told c.args.desk.now) names (reads c.args.desk.now < reads c.read_bits.new.desk) _ c.in_err-bits.field-0.0 c.in_ok-read.read
    (g.D.Desk.told c.read_fabric.new.desk) (reads c.read_fabric.new.desk < reads c.read_bits.new.desk) (λ files is. c.in_ok-read.ensures.spelled files is)
    c.in_ok-read.ensures.told (λ rose. omega (arith, rose, before)) c.in_err-bits.ensures.cause)

-- ---- the features are stored

pub returns-clause-done : goal.returns-clause-done
returns-clause-done g c =
    let names : FeaturesFiles = features_files c.args.fabric.now c.args.bit.now c.args.out.now in
    let told = g.D.Desk.told c.args.desk.now in
    let read = bits_behind told (g.D.Desk.told c.read_fabric.new.desk) c.args.bit.now c.in_ok-read.read c.in_ok-bits.bits c.in_ok-read.ensures.told (λ files is. c.in_ok-bits.ensures.spelled files is) in
    let outputs = map plain_output c.deref.result.now in
    on_ok_weaker c.store_all.result (λ stored. done_of_store (λ files. MakesFeatures files names) told outputs (g.D.Desk.told c.read_bits.new.desk) (g.D.Desk.told c.store_all.new.desk)
    (λ files is. features_made files names c.in_ok-read.read c.in_ok-bits.bits c.in_ok-text.text.items outputs (c.in_ok-read.ensures.spelled files is) (read files is) c.in_ok-text.ensures
    (ap (map plain_output) c.deref.ensures.value ∙ c.in_ok-outputs.ensures.are))
    (c.in_ok-bits.ensures.told ∙ c.in_ok-read.ensures.told) stored) c.store_all.ensures.done

pub returns-clause-leaves : goal.returns-clause-leaves
returns-clause-leaves g c =
    let names : FeaturesFiles = features_files c.args.fabric.now c.args.bit.now c.args.out.now in
    let told = g.D.Desk.told c.args.desk.now in
    let read = bits_behind told (g.D.Desk.told c.read_fabric.new.desk) c.args.bit.now c.in_ok-read.read c.in_ok-bits.bits c.in_ok-read.ensures.told (λ files is. c.in_ok-bits.ensures.spelled files is) in
    let outputs = map plain_output c.deref.result.now in
    IfErr-weaker c.store_all.result _ _ (λ fault stopped. leaves_of_store (λ files. MakesFeatures files names) told outputs (g.D.Desk.told c.read_bits.new.desk) (g.D.Desk.told c.store_all.new.desk) _ fault
    (λ files is. features_made files names c.in_ok-read.read c.in_ok-bits.bits c.in_ok-text.text.items outputs (c.in_ok-read.ensures.spelled files is) (read files is) c.in_ok-text.ensures
    (ap (map plain_output) c.deref.ensures.value ∙ c.in_ok-outputs.ensures.are))
    (c.in_ok-bits.ensures.told ∙ c.in_ok-read.ensures.told) stopped) c.store_all.ensures.stopped

pub returns-clause-cause : goal.returns-clause-cause
returns-clause-cause g c =
    let names : FeaturesFiles = features_files c.args.fabric.now c.args.bit.now c.args.out.now in
    let told = g.D.Desk.told c.args.desk.now in
    let read = bits_behind told (g.D.Desk.told c.read_fabric.new.desk) c.args.bit.now c.in_ok-read.read c.in_ok-bits.bits c.in_ok-read.ensures.told (λ files is. c.in_ok-bits.ensures.spelled files is) in
    let first = c.in_ok-read.ensures.writes in
    let second = c.in_ok-bits.ensures.writes in
    IfErr-weaker c.store_all.result _ _ (λ fault stopped. cause_of_store told _ _ (λ files. MeetsBitFeatures files names) (λ files. IsReadyForFeatures files names) features_refusals
    (map plain_output c.deref.result.now) _ _ _ fault
    (λ files is. record { fabric = c.in_ok-read.read; bits = c.in_ok-bits.bits; spelled = c.in_ok-read.ensures.spelled files is; read = read files is })
    (λ rose. omega (arith, rose, first, second)) stopped) c.store_all.ensures.stopped
