use Rattle.std.proofs.Common.{◌≡◌, ◌+◌, ◌++◌, ◌∷◌, [], true, false, rules, sym, ◌∙◌, subst}
use Rattle.fab_changes.specs.Changes.{drive_at, TakesGiven}
use Rattle.fab_changes.specs.inner.Grouping.{AreTaken}
use Rattle.fab_changes.proofs.Grouping.{taken_more, taken_same}
use Rattle.fab_changes.proofs.groups.taken_of.Goals as goal
use Rattle.fab_changes.proofs.groups.taken_of.Goals.{then-is_taken+in_ok-ok+in_ok-ok-2, else-is_taken}

pub loop-place-preserved : goal.loop-place-preserved
loop-place-preserved c =
    let network = c.args.network.now in
    let own = c.args.own.now in
    let place = c.loop-place.place in
    let taken = c.loop-place.taken.items in
    elim c.if-is_taken.branch [
      | then-is_taken+in_ok-ok+in_ok-ok-2 w ↦ (let items : c.if-is_taken.taken.items ≡ taken ++ place ∷ [] = search rules in
          let takes : TakesGiven (drive_at network own place) = sym c.is_taken.ensures ∙ w.if-is_taken.true in
          subst (AreTaken network own (place + 1)) (sym items) (taken_more network own place taken takes c.loop-place.invariant))
      | else-is_taken w ↦ (let items : c.if-is_taken.taken.items ≡ taken = search rules in
          let none : TakesGiven (drive_at network own place) → ⊥ =
          λ takes. (let both : true ≡ false = sym takes ∙ sym c.is_taken.ensures ∙ w.if-is_taken.false in cc) in
          subst (AreTaken network own (place + 1)) (sym items) (taken_same network own place taken none c.loop-place.invariant))
    ]
