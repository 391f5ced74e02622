use Rattle.std.proofs.Common.{◌∙◌, ◌++◌, ◌∷◌, [], ◌==◌, map, ap, sym}
use Rattle.std.proofs.lemmas.List.{map_push, append-nil}
use Rattle.fab_syntax.specs.Plain.{plain_module}
use Rattle.fab_gen_top.proofs.Grid.{some_matrix, no_matrix}
use Rattle.fab_gen_top.proofs.text.push_matrix.Goals as goal

pub returns : goal.returns
returns c =
    let old = map plain_module c.args.modules.now.items in
    ap (map plain_module) c.in_ok-push.ensures.items
    ∙ map_push plain_module c.args.modules.now.items _
    ∙ ap (λ m. old ++ m ∷ []) c.in_ok-matrix.ensures
    ∙ ap (λ ms. old ++ ms) (sym (some_matrix c.args.tile.now c.in_ok-matrix.matrix c.is_empty.result c.in_ok-matrix.ensures (c.is_empty.ensures ∙ ap (λ n. n == 0) c.in_ok-matrix.matrix.items.ok.0) c.if-is_empty.false))

pub returns-then-is_empty : goal.returns-then-is_empty
returns-then-is_empty c =
    let old = map plain_module c.args.modules.now.items in
    sym (append-nil old) ∙ ap (λ ms. old ++ ms) (sym (no_matrix c.args.tile.now c.in_ok-matrix.matrix c.is_empty.result c.in_ok-matrix.ensures (c.is_empty.ensures ∙ ap (λ n. n == 0) c.in_ok-matrix.matrix.items.ok.0) c.if-is_empty.true))
