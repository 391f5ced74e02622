use Rattle.std.proofs.Common.{◌≡◌, Bool, true, List, Some, length, slice_get, sym, ◌∙◌, subst, arith}
use Rattle.std.specs.Prelude.{◌↔◌}
use Rattle.std.specs.Vec.{with_items}
use Rattle.std.proofs.lemmas.List.{with_items_is}
use Rattle.fab_syntax.specs.Plain.{plain_text}
use Rattle.fab_meaning.specs.Loading.{IsLoading}
use Rattle.fab_equations.specs.Instances.{points}
use Rattle.fab_load_points.proofs.Marking.{marks_tell}
use Rattle.fab_load_points.proofs.points.loading_points.Goals as goal

pub returns-clause-loading : goal.returns-clause-loading
returns-clause-loading c number p is =
    let text = plain_text c.args.equations.now in
    let made = c.in_ok-marks.marks in
    let new = c.mark_points.new.marks in
    let filled : (with_items made new).items ≡ new = with_items_is made new (c.mark_points.auto.marks ∙ c.deref_mut.ensures.len) in
    let long : length new ≡ length (points text) = omega (arith, c.mark_points.auto.marks, c.deref_mut.ensures.len, c.in_ok-marks.ensures.len, c.points.ensures) in
    subst (λ (marks : List Bool). (slice_get marks number ≡ Some true) ↔ IsLoading text p) (sym filled)
    (marks_tell text new long c.in_ok-mark_points.ensures number p is)
