use Rattle.std.proofs.Common.{◌≡◌, ℕ, List, [], ◌∷◌, ◌++◌, true, false, cond, get_or, refl, sym, ap, ◌∙◌, append-nil}
use Rattle.std.specs.Str.{bytes_eq}
use Rattle.fab_tables.specs.Matrix.{is_one, pair_with}
use Rattle.fab_tables.proofs.Sides.{pair_if, pairs_push}
use Rattle.fab_tables.proofs.matrix.push_pairs.Goals as goal
use Rattle.fab_tables.proofs.matrix.push_pairs.Goals.{then-eq+in_ok-push, else-eq}

pub loop-place-preserved : goal.loop-place-preserved
loop-place-preserved c =
    let cell = c.index-digits-place.result in
    let input = get_or c.args.inputs.now c.loop-place.place 0 in
    let pair = pair_with c.args.output input in
    let told : is_one cell ≡ c.eq.result = sym (c.eq.ensures ∙ (λ j. bytes_eq (c.bytes.ensures j) (c.as_slice.ensures j))) in
    let added : c.if-eq.pairs.items ≡ c.loop-place.pairs.items ++ pair_if c.args.output input cell = elim c.if-eq.branch [
      | then-eq+in_ok-push w ↦ ap (λ v. v.items) w.pairs-is ∙ w.in_ok-push.ensures.items ∙ ap (λ one. c.loop-place.pairs.items ++ cond one (pair ∷ []) []) (sym (told ∙ w.if-eq.true))
      | else-eq w ↦ ap (λ v. v.items) w.pairs-is ∙ sym (append-nil c.loop-place.pairs.items) ∙ ap (λ one. c.loop-place.pairs.items ++ cond one (pair ∷ []) []) (sym (told ∙ w.if-eq.false))
    ] in
    pairs_push c.args.output c.args.inputs.now c.args.digits.now c.loop-place.place cell c.args.pairs.now.items c.loop-place.pairs.items c.if-eq.pairs.items c.loop-place-test.true c.requires c.index-digits-place.is c.loop-place.invariant added
