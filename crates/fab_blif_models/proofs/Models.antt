-- The last of a list of models.
use Rattle.std.proofs.Common.{◌≡◌, List, [], ◌∷◌, ◌++◌, map, refl, sym, ap, ◌∙◌}
use Rattle.std.proofs.lemmas.List.{map_push}
use Rattle.fab_blif_models.specs.declared.model.Model.{Model}
use Rattle.fab_blif_models.specs.declared.model.Statement.{Statement}
use Rattle.fab_blif_models.specs.Plain.{PlainStatement, plain_model, plain_statement}
use Rattle.fab_blif_models.specs.inner.Following.{with_statements}
use Rattle.fab_lines.specs.Items.{with_last}

pub with_last-push : {X : Type 0} (change : X → X) (xs : List X) (x : X) → with_last change (xs ++ x ∷ []) ≡ xs ++ change x ∷ []
with_last-push change [] x = refl
with_last-push change (y ∷ []) x = refl
with_last-push change (y ∷ z ∷ xs) x = ap (λ l. y ∷ l) (with_last-push change (z ∷ xs) x)

-- the last item is taken and put back with a change
pub put_back : {X Y : Type 0} (view : X → Y) (change : Y → Y) (old rest new : List X) (last next : X) → old ≡ rest ++ last ∷ [] → new ≡ rest ++ next ∷ [] → view next ≡ change (view last)
    → map view new ≡ with_last change (map view old)
put_back view change old rest new last next popped pushed changed =
    ap (map view) pushed
    ∙ map_push view rest next
    ∙ ap (λ y. map view rest ++ y ∷ []) changed
    ∙ sym (with_last-push change (map view rest) (view last))
    ∙ ap (with_last change) (sym (map_push view rest last))
    ∙ ap (λ l. with_last change (map view l)) (sym popped)

-- a model whose statements are changed
pub model_changed : (change : List PlainStatement → List PlainStatement) (last next : Model) → next.line ≡ last.line → next.name ≡ last.name
    → map plain_statement next.statements.items ≡ change (map plain_statement last.statements.items) → plain_model next ≡ with_statements change (plain_model last)
model_changed change last next line name statements = λ j. record { line = line j; name = name j; statements = statements j }

pub statement_pushed : (old new : List Statement) (statement : Statement) → new ≡ old ++ statement ∷ [] → map plain_statement new ≡ map plain_statement old ++ plain_statement statement ∷ []
statement_pushed old new statement pushed = ap (map plain_statement) pushed ∙ map_push plain_statement old statement
