use Rattle.std.proofs.Common.{◌≡◌, ◌+◌, ◌||◌, ℕ, Bool, List, [], ◌∷◌, map, drop, sym, ap, ◌∙◌, subst}
use Rattle.std.specs.Str.{bytes_eq}
use Rattle.std.proofs.lemmas.Bool.{false≢true}
use Rattle.std.proofs.lemmas.List.{at_drop_more, drop_all}
use Rattle.fab_syntax.specs.declared.tree.Expr.{Expr}
use Rattle.fab_syntax.specs.Plain.{PlainExpr, pick, concatenation, complement, operation, conditional, plain_expr, plain_exprs, plain_text}
use Rattle.fab_syntax.proofs.Plain.{plain_concatenation}
use Rattle.fab_meaning.specs.Reads.{mentions, some_mentions}
use Rattle.fab_load_points.specs.inner.Causes.{AddsNames}
use Rattle.fab_load_points.proofs.Reading.{none_added, both_added, on_ok}
use Rattle.fab_load_points.proofs.causes.+add_names.Goals as goal

pub add_names-returns-in-Var : goal.add_names-returns-in-Var
add_names-returns-in-Var t c =
    let text = plain_text c.args.equations.now in
    let old = c.args.reads.now.items in
    let new = c.add_name.new.reads.items in
    on_ok c.add_name.result _ _ c.add_name.ensures
    (λ adds i is. subst (λ (e : PlainExpr). AddsNames text i.path (mentions e) old new) (sym (ap plain_expr c.in-Var.is)) (adds i is))

pub add_names-returns-in_ok-add_name-in-Pick : goal.add_names-returns-in_ok-add_name-in-Pick
add_names-returns-in_ok-add_name-in-Pick t c =
    let text = plain_text c.args.equations.now in
    let old = c.args.reads.now.items in
    let middle = c.add_name-in-Pick.new.reads.items in
    let new = c.add_names.new.reads.items in
    let name = c.in-Pick.name in
    let e = plain_expr c.deref.result.now in
    let same : plain_expr c.args.expr.now ≡ pick name e = ap plain_expr c.in-Pick.is ∙ ap (λ (x : Expr). pick name (plain_expr x)) (sym c.deref.ensures) in
    on_ok c.add_names.result _ _ c.add_names.ensures
    (λ adds i is.
    subst (λ (x : PlainExpr). AddsNames text i.path (mentions x) old new) (sym same)
    (both_added text i.path (bytes_eq name) (mentions e) old middle new (c.in_ok-add_name-in-Pick.ensures i is) (adds i is)))

pub add_names-returns-in-Part : goal.add_names-returns-in-Part
add_names-returns-in-Part t c =
    let text = plain_text c.args.equations.now in
    let old = c.args.reads.now.items in
    let new = c.add_name-in-Part.new.reads.items in
    on_ok c.add_name-in-Part.result _ _ c.add_name-in-Part.ensures
    (λ adds i is. subst (λ (e : PlainExpr). AddsNames text i.path (mentions e) old new) (sym (ap plain_expr c.in-Part.is)) (adds i is))

pub add_names-returns-in-Cat : goal.add_names-returns-in-Cat
add_names-returns-in-Cat t c =
    let text = plain_text c.args.equations.now in
    let old = c.args.reads.now.items in
    let new = c.add_parts.new.reads.items in
    let es = plain_exprs (map plain_expr c.deref-in-Cat.result.now) in
    let same : plain_expr c.args.expr.now ≡ concatenation es =
    ap plain_expr c.in-Cat.is ∙ plain_concatenation c.in-Cat.parts ∙ ap (λ (ps : List Expr). concatenation (plain_exprs (map plain_expr ps))) (sym c.deref-in-Cat.ensures.value) in
    on_ok c.add_parts.result _ _ c.add_parts.ensures
    (λ adds i is. subst (λ (e : PlainExpr). AddsNames text i.path (mentions e) old new) (sym same) (adds i is))

pub add_names-returns-in-Not : goal.add_names-returns-in-Not
add_names-returns-in-Not t c =
    let text = plain_text c.args.equations.now in
    let old = c.args.reads.now.items in
    let new = c.add_names-in-Not.new.reads.items in
    let e = plain_expr c.deref-in-Not.result.now in
    let same : plain_expr c.args.expr.now ≡ complement e = ap plain_expr c.in-Not.is ∙ ap (λ (x : Expr). complement (plain_expr x)) (sym c.deref-in-Not.ensures) in
    on_ok c.add_names-in-Not.result _ _ c.add_names-in-Not.ensures
    (λ adds i is. subst (λ (x : PlainExpr). AddsNames text i.path (mentions x) old new) (sym same) (adds i is))

pub add_names-returns-in_ok-add_names-in-Two : goal.add_names-returns-in_ok-add_names-in-Two
add_names-returns-in_ok-add_names-in-Two t c =
    let text = plain_text c.args.equations.now in
    let old = c.args.reads.now.items in
    let middle = c.add_names-in-Two.new.reads.items in
    let new = c.add_names-in-Two-2.new.reads.items in
    let a = plain_expr c.deref-in-Two.result.now in
    let b = plain_expr c.deref-in-Two-2.result.now in
    let op = c.in-Two.field-0 in
    let same : plain_expr c.args.expr.now ≡ operation op a b =
    ap plain_expr c.in-Two.is ∙ (λ j. operation op (plain_expr (sym c.deref-in-Two.ensures j)) (plain_expr (sym c.deref-in-Two-2.ensures j))) in
    on_ok c.add_names-in-Two-2.result _ _ c.add_names-in-Two-2.ensures
    (λ adds i is.
    subst (λ (x : PlainExpr). AddsNames text i.path (mentions x) old new) (sym same)
    (both_added text i.path (mentions a) (mentions b) old middle new (c.in_ok-add_names-in-Two.ensures i is) (adds i is)))

pub add_names-returns-in_ok-add_names-in-Cond-2 : goal.add_names-returns-in_ok-add_names-in-Cond-2
add_names-returns-in_ok-add_names-in-Cond-2 t c =
    let text = plain_text c.args.equations.now in
    let old = c.args.reads.now.items in
    let first = c.add_names-in-Cond.new.reads.items in
    let second = c.add_names-in-Cond-2.new.reads.items in
    let new = c.add_names-in-Cond-3.new.reads.items in
    let test = plain_expr c.deref-in-Cond.result.now in
    let yes = plain_expr c.deref-in-Cond-2.result.now in
    let no = plain_expr c.deref-in-Cond-3.result.now in
    let same : plain_expr c.args.expr.now ≡ conditional test yes no =
    ap plain_expr c.in-Cond.is
    ∙ (λ j. conditional (plain_expr (sym c.deref-in-Cond.ensures j)) (plain_expr (sym c.deref-in-Cond-2.ensures j)) (plain_expr (sym c.deref-in-Cond-3.ensures j))) in
    on_ok c.add_names-in-Cond-3.result _ _ c.add_names-in-Cond-3.ensures
    (λ adds i is.
    subst (λ (x : PlainExpr). AddsNames text i.path (mentions x) old new) (sym same)
    (both_added text i.path (mentions test) (λ name. mentions yes name || mentions no name) old first new (c.in_ok-add_names-in-Cond.ensures i is)
    (both_added text i.path (mentions yes) (mentions no) first second new (c.in_ok-add_names-in-Cond-2.ensures i is) (adds i is))))

pub add_parts-loop-part-preserved : goal.add_parts-loop-part-preserved
add_parts-loop-part-preserved t c i is last rest =
    let text = plain_text c.args.equations.now in
    let parts = c.args.parts.now in
    let k = c.loop-part.part-index in
    let e = c.part-item.result in
    let now = c.loop-part.reads.items in
    let names : List Expr → List ℕ → Bool = λ ps. some_mentions (plain_exprs (map plain_expr ps)) in
    let split : names (drop k parts) ≡ names (e ∷ drop (k + 1) parts) =
    at_drop_more names parts k e c.loop-part-test.true ∙ ap (λ (x : Expr). names (x ∷ drop (k + 1) parts)) (sym c.part-item.is) in
    c.loop-part.invariant i is last
    (subst (λ (has : List ℕ → Bool). AddsNames text i.path has now last) (sym split)
    (both_added text i.path (mentions (plain_expr e)) (names (drop (k + 1) parts)) now c.add_names.new.reads.items last (c.in_ok-add_names.ensures i is) rest))

pub add_parts-returns : goal.add_parts-returns
add_parts-returns t c i is =
    let text = plain_text c.args.equations.now in
    let parts = c.args.parts.now in
    let k = c.loop-part.part-index in
    let now = c.loop-part.reads.items in
    let names : List Expr → List ℕ → Bool = λ ps. some_mentions (plain_exprs (map plain_expr ps)) in
    c.loop-part.invariant i is now
    (subst (λ (has : List ℕ → Bool). AddsNames text i.path has now now) (sym (ap names (drop_all k parts c.loop-part-test.false)))
    (none_added text i.path (names []) now (λ name h d. false≢true h)))
