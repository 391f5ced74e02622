use Rattle.std.proofs.Common.{get_or, nat_eq, sym, ◌∙◌}
use Rattle.fab_implementation.specs.Plain.{Edge}
use Rattle.fab_legal.specs.Nets.{IsRightEntry}
use Rattle.fab_legal.specs.inner.Tables.{entered_number}
use Rattle.fab_legal.proofs.Lists.{at_default, right_more, wrong_here}
use Rattle.fab_legal.proofs.Sets.{keys_more}
use Rattle.fab_legal.proofs.ReachSearch.{entered_again, not_reached, entry_right}
use Rattle.fab_legal.proofs.reach.first_wrong.Goals as goal

pub returns-then-again : goal.returns-then-again
returns-then-again c =
    let none : Edge = (record { 0 = 0 }, record { 0 = 0 }) in
    let edge = get_or c.args.edges.now c.loop-place.place none in
    let at = at_default c.args.edges.now c.loop-place.place none c.loop-place-test.true in
    wrong_here (IsRightEntry c.args.edges.now) c.args.edges.now c.loop-place.place edge c.loop-place.invariant.right at
    (entered_again c.args.edges.now c.loop-place.place edge at c.loop-place.seen.keys c.args.reached.now.keys c.loop-place.invariant.seen c.requires.reached
    (sym c.contains-again.ensures ∙ c.if-again.true))

pub returns-then-not-is_reached : goal.returns-then-not-is_reached
returns-then-not-is_reached c =
    let none : Edge = (record { 0 = 0 }, record { 0 = 0 }) in
    let edge = get_or c.args.edges.now c.loop-place.place none in
    let at = at_default c.args.edges.now c.loop-place.place none c.loop-place-test.true in
    wrong_here (IsRightEntry c.args.edges.now) c.args.edges.now c.loop-place.place edge c.loop-place.invariant.right at
    (not_reached c.args.edges.now c.loop-place.place edge at c.loop-place.seen.keys c.args.reached.now.keys c.loop-place.invariant.seen c.requires.reached
    (sym c.contains-is_reached.ensures ∙ c.if-not-is_reached.true))

pub loop-place-preserved : goal.loop-place-preserved
loop-place-preserved c =
    let none : Edge = (record { 0 = 0 }, record { 0 = 0 }) in
    let edge = get_or c.args.edges.now c.loop-place.place none in
    let at = at_default c.args.edges.now c.loop-place.place none c.loop-place-test.true in
    record {
      seen = keys_more nat_eq entered_number c.args.edges.now c.loop-place.place edge c.loop-place.seen.keys c.insert.new.self.keys at c.loop-place.invariant.seen c.in_ok-insert.ensures.keys;
      right = right_more (IsRightEntry c.args.edges.now) c.args.edges.now c.loop-place.place edge c.loop-place.invariant.right at
          (entry_right c.args.edges.now c.loop-place.place edge at c.loop-place.seen.keys c.args.reached.now.keys c.loop-place.invariant.seen c.requires.reached
          (sym c.contains-again.ensures ∙ c.if-again.false) (sym c.contains-is_reached.ensures ∙ c.if-not-is_reached.false));
    }
