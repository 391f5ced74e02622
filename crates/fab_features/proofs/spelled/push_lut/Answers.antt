use Rattle.fab_features.proofs.Pushed.{pushes_both}
use Rattle.fab_features.proofs.spelled.push_lut.Goals as goal

pub returns : goal.returns
returns c =
    let start = c.args.features.now.items in
    let first = c.push_field.new.features.items in
    let second = c.push_field-2.new.features.items in
    let third = c.push_field-3.new.features.items in
    let last = c.push_field-4.new.features.items in
    pushes_both start third last _ _ (pushes_both start second third _ _ (pushes_both start first second _ _ c.in_ok-push_field.ensures c.in_ok-push_field-2.ensures) c.in_ok-push_field-3.ensures) c.in_ok-push_field-4.ensures
