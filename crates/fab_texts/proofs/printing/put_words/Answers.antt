use Rattle.std.proofs.Common.{◌++◌, [], ap, ◌∙◌, ℕ, List, Bor, get_or, arith}
use Rattle.fab_texts.proofs.Joining.{joined_more, joined_first}
use Rattle.fab_texts.proofs.printing.put_words.Goals as goal
use Rattle.fab_texts.proofs.printing.put_words.Goals.{then-place-gt0+in_ok-push, else-place-gt0}

pub loop-place-preserved : goal.loop-place-preserved
loop-place-preserved c =
    let now : Bor (List ℕ) → List ℕ = λ w. w.now in
    let none : Bor (List ℕ) = record { ref_ptr = (0, 0); now = [] } in
    let word = now (get_or c.args.words.now c.loop-place.place none) in
    elim c.if-place-gt0.branch [
      | then-place-gt0+in_ok-push w ↦
          let out = ap (λ o. o.items) w.out-is ∙ w.in_ok-push.ensures.items in
          joined_more now c.args.words.now c.loop-place.place none c.args.out.now.items c.loop-place.out.items c.extend_from_slice.new.self.items c.loop-place-test.true w.if-place-gt0.true c.loop-place.invariant
          (c.in_ok-extend_from_slice.ensures.items ∙ ap (λ (front : List ℕ). front ++ word) out)
      | else-place-gt0 w ↦
          let out = ap (λ o. o.items) w.out-is in
          joined_first now c.args.words.now c.loop-place.place none c.args.out.now.items c.loop-place.out.items c.extend_from_slice.new.self.items c.loop-place-test.true (omega arith) c.loop-place.invariant
          (c.in_ok-extend_from_slice.ensures.items ∙ ap (λ (front : List ℕ). front ++ word) out)
    ]
