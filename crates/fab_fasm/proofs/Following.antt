-- The reader follows the judgement of lines.
use Rattle.std.proofs.Common.{◌≡◌, ℕ, ◌+◌, List, [], ◌∷◌, ◌++◌, length, Option, Some, None, Result, Ok, Err, refl, sym, ap, ◌∙◌, arith, append-nil, append_assoc}
use Rattle.fab_base.specs.declared.problem.Problem.{Problem}
use Rattle.fab_lines.specs.Order.{judged}
use Rattle.fab_lines.proofs.Judging.{Follows}
use Rattle.fab_fasm.specs.declared.feature.Feature.{Feature}
use Rattle.fab_fasm.specs.Fasm.{line_of, refusal_of, fasm_judge, said, features_from, with_line, after_line}

-- the features of one line more
features_push : (number : ℕ) (front : List (List ℕ)) (line : List ℕ) → features_from number (front ++ line ∷ []) ≡ features_from number front ++ said (line_of (length front + number) line)
features_push number [] line =
    let same : 0 + number ≡ number = omega arith in
    append-nil (said (line_of number line)) ∙ ap (λ n. said (line_of n line)) (sym same)
features_push number (first ∷ front) line =
    let same : length front + (number + 1) ≡ length (first ∷ front) + number = omega arith in
    ap (λ (l : List Feature). said (line_of number first) ++ l) (features_push (number + 1) front line)
    ∙ sym (append_assoc (said (line_of number first)) (features_from (number + 1) front) (said (line_of (length front + (number + 1)) line)))
    ∙ ap (λ n. (said (line_of number first) ++ features_from (number + 1) front) ++ said (line_of n line)) same

with_line-judged : (features whole : List Feature) (answer : Result (Option Feature) Problem) → whole ≡ features ++ said answer → with_line features answer ≡ judged (refusal_of answer) whole
with_line-judged features whole (Ok None) is = ap (λ (l : List Feature). Ok l) (sym (is ∙ append-nil features))
with_line-judged features whole (Ok (Some feature)) is = ap (λ (l : List Feature). Ok l) (sym is)
with_line-judged features whole (Err problem) is = refl

pub follows_fasm : Follows fasm_judge after_line (features_from 1)
follows_fasm = record {
  answers = λ front line fine. with_line-judged (features_from 1 front) (features_from 1 (front ++ line ∷ [])) (line_of (length front + 1) line) (features_push 1 front line);
}
