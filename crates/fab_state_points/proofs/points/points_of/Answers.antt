use Rattle.std.proofs.Common.{Some, ◌+◌, sym, subst, get_or}
use Rattle.std.proofs.lemmas.Option.{slice_get-get_or}
use Rattle.fab_syntax.specs.Plain.{plain_text}
use Rattle.fab_state_points.specs.Entries.{IsFoundEntry}
use Rattle.fab_state_points.specs.declared.entry.Entry.TheVariants as entries
use Rattle.fab_state_points.proofs.Absent.{AreSoFar, is_first_absent, so_far_more}
use Rattle.fab_state_points.proofs.points.points_of.Goals as goal

pub returns-in-None-clause-refused : goal.returns-in-None-clause-refused
returns-in-None-clause-refused c =
    let none = entries.Input (record { x = 0; y = 0; bel = 0 }) in
    is_first_absent (plain_text c.args.equations.now) c.args.file.now c.args.before c.args.lines.now c.loop-place.place (get_or c.args.lines.now c.loop-place.place none)
    c.loop-place.numbers.items c.in_ok-number.field-0 c.refusal.result c.loop-place.invariant (slice_get-get_or c.args.lines.now c.loop-place.place none c.loop-place-test.true)
    c.in_ok-number.ensures c.in-None.is c.refusal.ensures

pub loop-place-preserved : goal.loop-place-preserved
loop-place-preserved c =
    let text = plain_text c.args.equations.now in
    let none = entries.Input (record { x = 0; y = 0; bel = 0 }) in
    let entry = get_or c.args.lines.now c.loop-place.place none in
    let found : IsFoundEntry text entry (Some c.in-Some.number) = subst (IsFoundEntry text entry) c.in-Some.is c.in_ok-number.ensures in
    subst (AreSoFar text c.args.lines.now (c.loop-place.place + 1)) (sym c.in_ok-push-in-Some.ensures.items)
    (so_far_more text c.args.lines.now c.loop-place.place c.loop-place.numbers.items entry c.in-Some.number c.loop-place.invariant
    (slice_get-get_or c.args.lines.now c.loop-place.place none c.loop-place-test.true) found.0 found.1)
