use Rattle.std.proofs.Common.{sym}
use Rattle.fab_syntax.specs.Plain.{plain_text}
use Rattle.fab_meaning.specs.Points.{point}
use Rattle.fab_load_points.proofs.Reading.{if_ok, if_on_ok}
use Rattle.fab_load_points.proofs.Marking.{closed_again, driven_begin, marked_driven}
use Rattle.fab_load_points.proofs.points.mark_of.Goals as goal

pub overflow_sub-point : goal.overflow_sub-point
overflow_sub-point c =
    (driven_begin (plain_text c.args.equations.now) c.requires.sound c.args.point c.driver_near-driver.result c.driver_near-driver.ensures.drives c.in-Some.bit (sym c.in-Some.ensures)).0

pub returns-in-Some-clause-closed : goal.returns-in-Some-clause-closed
returns-in-Some-clause-closed c =
    let text = plain_text c.args.equations.now in
    let driven = c.driver_near-driver.ensures.drives in
    let begin = driven_begin text c.requires.sound c.args.point c.driver_near-driver.result driven c.in-Some.bit (sym c.in-Some.ensures) in
    if_on_ok c.is_inside.result _ _ c.is_inside.ensures.told
    (λ inside told.
    closed_again text c.requires.sound c.args.search.now.statuses.items c.is_inside.new.self.statuses.items c.requires.closed
    (told c.requires.closed.scene (point driven.of.path driven.of.name 0) begin.1 c.requires.closed.search).0)

pub returns-in-Some-clause-mark : goal.returns-in-Some-clause-mark
returns-in-Some-clause-mark c =
    let text = plain_text c.args.equations.now in
    let driven = c.driver_near-driver.ensures.drives in
    let begin = driven_begin text c.requires.sound c.args.point c.driver_near-driver.result driven c.in-Some.bit (sym c.in-Some.ensures) in
    let old = c.args.search.now.statuses.items in
    let new = c.is_inside.new.self.statuses.items in
    if_ok c.is_inside.result _ _ c.is_inside.ensures.told
    (λ inside told.
    let after = told c.requires.closed.scene (point driven.of.path driven.of.name 0) begin.1 c.requires.closed.search in
    marked_driven text c.requires.sound c.args.point c.driver_near-driver.result driven c.in-Some.bit (sym c.in-Some.ensures) new
    (closed_again text c.requires.sound old new c.requires.closed after.0) inside after.1)
