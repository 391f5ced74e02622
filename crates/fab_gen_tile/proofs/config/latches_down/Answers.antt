use Rattle.std.proofs.Common.{◌≡◌, ◌∙◌, ℕ, ◌+◌, ◌-◌, ◌++◌, ap, sym, map, reverse, arith}
use Rattle.std.proofs.lemmas.List.{map_push, append-nil}
use Rattle.fab_model.specs.Tiles.{counted}
use Rattle.fab_syntax.specs.Plain.{PlainExpr, plain_expr, variable}
use Rattle.fab_gen_tile.specs.Names.{latch_name}
use Rattle.fab_gen_tile.proofs.Counted.{counted_none, reversed_more}
use Rattle.fab_gen_tile.proofs.config.latches_down.Goals as goal

pub loop-bit-preserved : goal.loop-bit-preserved
loop-bit-preserved c =
    let f : ℕ → PlainExpr = λ bit. variable (latch_name bit) in
    let n = c.loop-bit.bit - 1 in
    let items = map plain_expr c.loop-bit.latches.items in
    let one_more : n + 1 ≡ c.loop-bit.bit = omega arith in
    let so_far : items ++ reverse (counted (n + 1) f) ≡ reverse (counted c.args.bits f) =
    ap (λ k. items ++ reverse (counted k f)) one_more ∙ c.loop-bit.invariant in
    ap (λ xs. xs ++ reverse (counted n f))
    (ap (map plain_expr) c.in_ok-push.ensures.items ∙ map_push plain_expr c.loop-bit.latches.items _)
    ∙ reversed_more n f items (reverse (counted c.args.bits f)) _ so_far (ap variable c.in_ok-latch_name.ensures)

pub returns : goal.returns
returns c =
    let f : ℕ → PlainExpr = λ bit. variable (latch_name bit) in
    let items = map plain_expr c.loop-bit.latches.items in
    let none : c.loop-bit.bit ≡ 0 = omega arith in
    sym (append-nil items) ∙ ap (λ rest. items ++ rest) (sym (ap (λ k. reverse (counted k f)) none ∙ ap reverse (counted_none f))) ∙ c.loop-bit.invariant
