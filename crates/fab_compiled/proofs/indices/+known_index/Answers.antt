use Rattle.std.proofs.Common.{◌+◌, ap, sym}
use Rattle.fab_solutions_laws.specs.fab_ternary_laws_Shown.{first_terns}
use Rattle.fab_compiled.specs.Terns.{seen}
use Rattle.fab_compiled.specs.Evaluation.{value_seen}
use Rattle.fab_compiled.specs.inner.Indices.{IsNumberBelow}
use Rattle.fab_compiled.proofs.Numbered.{each_some, parts_below, points_below, same_below}
use Rattle.fab_compiled.proofs.indices.+known_index.Goals as goal

pub returns-in-Bits : goal.returns-in-Bits
returns-in-Bits t c =
    let at = seen c.args.view.now.terns.now c.args.view.now.leads.now in
    let value = value_seen c.args.view.now.terns.now c.args.view.now.leads.now c.args.first in
    each_some c.known_points.result (IsNumberBelow (first_terns c.in-Bits.count (λ k. at (c.args.first + c.in-Bits.place + k))) c.args.above)
    (IsNumberBelow (value c.args.tree.now) c.args.above)
    (λ n below. same_below (first_terns c.in-Bits.count (λ k. at (c.args.first + (c.in-Bits.place + k)))) (value c.args.tree.now) c.args.above n (ap value c.in-Bits.is)
    (points_below at c.args.first c.in-Bits.place c.in-Bits.count c.args.above n below))
    c.known_points.ensures

pub returns-in_ok-upper-in-Cat : goal.returns-in_ok-upper-in-Cat
returns-in_ok-upper-in-Cat t c =
    let value = value_seen c.args.view.now.terns.now c.args.view.now.leads.now c.args.first in
    let low = c.in-Cat.low.value in
    let high = c.in-Cat.high.value in
    let upper = c.in_ok-upper-in-Cat.upper in
    each_some c.known_index-in-Cat.result (IsNumberBelow (value c.deref-in-Cat.result.now) upper) (IsNumberBelow (value c.args.tree.now) c.args.above)
    (λ n below. parts_below (value low) (value high) (value c.args.tree.now) c.args.above upper n (ap value c.in-Cat.is)
    (same_below (value c.deref.result.now) (value high) c.args.above upper (sym (ap value c.deref.ensures)) c.in_ok-upper-in-Cat.ensures)
    (same_below (value c.deref-in-Cat.result.now) (value low) upper n (sym (ap value c.deref-in-Cat.ensures)) below))
    c.known_index-in-Cat.ensures
