use Rattle.std.proofs.Common.{◌≡◌, ◌+◌, ℕ, arith, sym, ap, ◌∙◌, slice_index, ⊎_elim}
use Rattle.std.proofs.lemmas.Bool.{cases_lt}
use Rattle.fab_compiled.proofs.reading.first_in_row.Goals as goal
use Rattle.fab_compiled.proofs.reading.first_in_row.Goals.{then-leads-place, else-leads-place}

pub loop-place-init : goal.loop-place-init
loop-place-init c = λ e k l. absurd (omega arith)

pub loop-place-preserved : goal.loop-place-preserved
loop-place-preserved c =
    let leads : _ = c.args.leads.now in
    let low : ℕ = slice_index leads 0 in
    elim c.if-leads-place.branch [
      | then-leads-place w ↦ λ e k l. cc
      | else-leads-place w ↦ λ e k l.
          ⊎_elim (λ below. c.loop-place.invariant (sym w.follow-is ∙ e) k below)
          (λ above. let here : k ≡ c.loop-place.place = omega (arith, l, above) in
          ap (slice_index leads) here ∙ w.if-leads-place.false ∙ ap (λ n. low + n) (sym here))
          (cases_lt k c.loop-place.place)
    ]

pub returns-then-follow : goal.returns-then-follow
returns-then-follow c = (omega arith, λ k l. c.loop-place.invariant c.if-follow.true k (omega (arith, l, c.loop-place-test.false)))
