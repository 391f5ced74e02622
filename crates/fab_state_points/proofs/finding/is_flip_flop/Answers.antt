use Rattle.std.proofs.Common.{sym, subst, inl, inr}
use Rattle.std.proofs.lemmas.Bool.{false≢true}
use Rattle.fab_syntax.specs.Plain.{plain_text}
use Rattle.fab_state_points.proofs.Found.{IsOther, not_clocked}
use Rattle.fab_state_points.proofs.finding.is_flip_flop.Goals as goal

pub returns-in-Outside : goal.returns-in-Outside
returns-in-Outside c p is =
    let other : IsOther c.driver.result =
    elim c.in-Outside.is [
      | inl e ↦ subst IsOther (sym e) tt
      | inr m ↦ elim m [
        | inl same ↦ subst IsOther (sym same.1) tt
        | inr n ↦ elim n [
          | inl value ↦ subst IsOther (sym value.1) tt
          | inr hold ↦ subst IsOther (sym hold.2) tt
        ]
      ]
    ] in (
      (λ t. absurd (false≢true t)),
      λ clocked. absurd (not_clocked c.points_are_numbered.ensures.declared c.points_of_sound_texts_have_one_driver.ensures (plain_text c.args.equations.now)
          c.text_is_sound.ensures.sound c.args.number c.driver.result p c.driver.ensures.drives other is clocked),
    )
