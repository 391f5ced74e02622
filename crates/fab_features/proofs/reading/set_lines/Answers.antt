use Rattle.std.proofs.Common.{take}
use Rattle.std.proofs.lemmas.Result.{err_from_is_err_and}
use Rattle.fab_fabric.specs.Bits.{plain_bits}
use Rattle.fab_netlist.specs.Plain.{IsAt}
use Rattle.fab_legal.proofs.Lists.{at_read, right_more}
use Rattle.fab_features.specs.Wrong.{IsRightFeature}
use Rattle.fab_features.specs.inner.Lines.{IsLineOne}
use Rattle.fab_features.proofs.Added.{more_of}
use Rattle.fab_features.proofs.Chosen.{holds_more, agrees, known_feature, first_refused}
use Rattle.fab_features.proofs.reading.set_lines.Goals as goal

pub returns-in_err-said-clause-err : goal.returns-in_err-said-clause-err
returns-in_err-said-clause-err c =
    let fabric = c.args.fabric.now in
    let features = c.args.features.now in
    let l = c.loop-feature in
    let at : IsAt features l.feature-index c.feature-item.result = at_read features l.feature-index c.feature-item.result c.loop-feature-test.true c.feature-item.is in
    let told = err_from_is_err_and c.from_residual.result c.from_residual.ensures.1 in
    rw (told.1, told.2) (first_refused fabric features l.feature-index c.feature-item.result c.in_err-said.field-0.0 at l.invariant.right
    (c.in_err-said.ensures.err (take l.feature-index features) l.invariant.holds))

pub loop-feature-preserved : goal.loop-feature-preserved
loop-feature-preserved c =
    let fabric = c.args.fabric.now in
    let features = c.args.features.now in
    let l = c.loop-feature in
    let n = l.feature-index in
    let feature = c.feature-item.result in
    let at : IsAt features n feature = at_read features n feature c.loop-feature-test.true c.feature-item.is in
    record {
      are = c.set_line.ensures.are;
      adds = more_of (IsLineOne fabric) features n feature (plain_bits c.args.bits.now) (plain_bits l.bits) (plain_bits c.set_line.new.bits) at l.invariant.adds c.set_line.ensures.adds;
      holds = holds_more fabric feature l.table c.set_line.new.table features n at l.invariant.holds c.set_line.ensures.notes;
      right =
          right_more (IsRightFeature fabric) features n feature l.invariant.right at (record {
            known = known_feature fabric feature c.in_ok-said.said c.in_ok-said.ensures.said c.in_ok-said.ensures.inside;
            agrees = agrees fabric (take n features) l.table feature l.invariant.holds c.in_ok-said.ensures.allows;
          });
    }
