use Rattle.std.proofs.Common.{◌≡◌, ◌<◌, false, length, None, get_or, inl, inr, sym, ap, ◌∙◌, subst, arith}
use Rattle.std.proofs.lemmas.Option.{slice_get-get_or}
use Rattle.fab_syntax.specs.Plain.{plain_text}
use Rattle.fab_equations.specs.Equations.{IsDriven}
use Rattle.fab_equations.specs.declared.driver.Driver.TheVariants.{Same, Value, Flop, Hold}
use Rattle.fab_load_points.specs.inner.Points.{bit_driven}
use Rattle.fab_load_points.proofs.Copies.{outside_marked, same_marked, same_within}
use Rattle.fab_load_points.proofs.points.given_mark.Goals as goal

pub returns-in-Same : goal.returns-in-Same
returns-in-Same c =
    let text = plain_text c.args.equations.now in
    let marks = c.args.marks.now in
    let other = c.in-Same.other in
    let driven : IsDriven text c.args.point (Same other) = subst (IsDriven text c.args.point) c.in-Same.is c.requires.driven in
    let inside = same_within text c.requires.sound c.args.point other driven in
    let less : other < length marks = omega (arith, inside, c.requires.marks) in
    same_marked text c.requires.sound c.args.point other driven marks (get_or marks other false) (slice_get-get_or marks other false less) c.requires.behind

pub returns-in-Outside : goal.returns-in-Outside
returns-in-Outside c =
    let text = plain_text c.args.equations.now in
    let given = c.requires.given in
    elim c.in-Outside.is [
      | inl out ↦
          outside_marked text c.requires.sound c.args.point (subst (IsDriven text c.args.point) out c.requires.driven) c.carries_words.result c.carries_words.ensures
      | inr own ↦ elim own [
        | inl value ↦ (let e : bit_driven (Value value.0) ≡ None = ap bit_driven (sym value.1) ∙ given in cc)
        | inr stored ↦ elim stored [
          | inl flop ↦ (let e : bit_driven (Flop flop.0 flop.1) ≡ None = ap bit_driven (sym flop.2) ∙ given in cc)
          | inr hold ↦ (let e : bit_driven (Hold hold.0 hold.1) ≡ None = ap bit_driven (sym hold.2) ∙ given in cc)
        ]
      ]
    ]
