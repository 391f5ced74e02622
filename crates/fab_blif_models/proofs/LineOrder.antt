-- The lines of the models that lines spell ascend.
use Rattle.std.proofs.Common.{◌≡◌, ℕ, suc, Bool, ◌+◌, ◌<◌, ◌≤◌, List, [], ◌∷◌, ◌++◌, length, map, get_or, Option, Some, None, refl, sym, ap, subst, ◌∙◌, ◌⊎◌, inl, inr, arith, append-nil, append_assoc}
use Rattle.std.specs.List.{All, AllPairs}
use Rattle.std.specs.Str.Lines.{lines}
use Rattle.std.proofs.lemmas.Bool.{cases_Bool}
use Rattle.std.proofs.lemmas.List.{map_push, length-map, length-append}
use Rattle.std.proofs.lemmas.List.Concat.{flat_map-append}
use Rattle.std.proofs.lemmas.List.Elements.{All-get_or, All-nil, All-push, All-weaker}
use Rattle.std.proofs.lemmas.List.Quantifiers.{all_pairs_push}
use Rattle.fab_lines.specs.Parts.{uncommented}
use Rattle.fab_lines.specs.Joined.{goes_on, without_last, onto_next, joined, joined_lines}
use Rattle.fab_lines.specs.Order.{IsFine}
use Rattle.fab_blif_models.specs.declared.words.Kind.{Kind}
use Rattle.fab_blif_models.specs.declared.words.Kind.TheVariants as kinds
use Rattle.fab_blif_models.specs.Plain.{PlainBody, PlainStatement, PlainModel}
use Rattle.fab_blif_models.specs.Words.{Word, words, kind_of}
use Rattle.fab_lines.specs.Items.{word_at, with_last}
use Rattle.fab_netlist.specs.declared.wide.Cube.{Cube}
use Rattle.fab_blif_models.specs.Covers.{is_on_set, pattern_of}
use Rattle.fab_blif_models.specs.Judge.{judge}
use Rattle.fab_blif_models.specs.Spelled.{body_of, spelled}
use Rattle.fab_blif_models.specs.inner.Following.{State, with_body, pushed, pushed_row, row_of, with_cube, context_after, models_after}
use Rattle.fab_blif_models.specs.Rules.{line_numbers, LinesAscend}
use Rattle.fab_blif_models.proofs.FollowsLines.{summary, state_more}
use Rattle.fab_blif_models.proofs.Passing.{each_line}

-- ---- the number of lines

onto_next_count : (front : List ℕ) (next : List (List ℕ)) → length (onto_next front next) ≡ suc (length next)
onto_next_count front [] = refl
onto_next_count front (line ∷ rest) = refl

joined_count : (text : List (List ℕ)) → length (joined text) ≡ length text
joined_count [] = refl
joined_count (line ∷ rest) = elim (cases_Bool (goes_on line)) [
  | inl t ↦ rw t (onto_next_count (without_last line) (joined rest) ∙ ap suc (joined_count rest))
  | inr f ↦ rw f (ap suc (joined_count rest))
]

-- a text has as many lines as its joined lines
pub lines_count : (bytes : List ℕ) → length (joined_lines bytes) ≡ length (lines bytes)
lines_count bytes = joined_count (map uncommented (lines bytes)) ∙ length-map (lines bytes) uncommented

-- ---- the lines of models

-- those of one model
abbrev numbers_of : PlainModel → List ℕ
numbers_of model = model.line ∷ map (λ statement. statement.line) model.statements

row_statements : (on : Bool) (row : Cube) (statements : List PlainStatement) → map (λ s. s.line) (with_last (with_cube on row) statements) ≡ map (λ s. s.line) statements
row_statements on row [] = refl
row_statements on row (s ∷ []) = refl
row_statements on row (s ∷ t ∷ statements) = ap (λ (l : List ℕ). s.line ∷ l) (row_statements on row (t ∷ statements))

row_lines : (on : Bool) (row : Cube) (models : List PlainModel) → line_numbers (pushed_row on row models) ≡ line_numbers models
row_lines on row [] = refl
row_lines on row (model ∷ []) = ap (λ (l : List ℕ). (model.line ∷ l) ++ []) (row_statements on row model.statements)
row_lines on row (model ∷ other ∷ models) = ap (λ (l : List ℕ). numbers_of model ++ l) (row_lines on row (other ∷ models))

-- a line more of some number, or of none where there is no model
IsMore : (number : ℕ) (old new : List ℕ) → Type 0
IsMore number old new = (new ≡ old) ⊎ (new ≡ old ++ number ∷ [])

pushed_lines : (number : ℕ) (body : PlainBody) (models : List PlainModel) → IsMore number (line_numbers models) (line_numbers (pushed number body models))
unfolding IsMore
pushed_lines number body [] = inl refl
pushed_lines number body (model ∷ []) = inr (
    append-nil (numbers_of model')
    ∙ ap (λ (l : List ℕ). model.line ∷ l) (map_push (λ (s : PlainStatement). s.line) model.statements statement)
    ∙ ap (λ (l : List ℕ). l ++ number ∷ []) (sym (append-nil (numbers_of model))))
  where
    statement : PlainStatement
    statement = record { line = number; body = body }

    model' : PlainModel
    model' = record { line = model.line; name = model.name; statements = model.statements ++ record { line = number; body = body } ∷ [] }
pushed_lines number body (model ∷ other ∷ models) = elim (pushed_lines number body (other ∷ models)) [
  | inl same ↦ inl (ap (λ (l : List ℕ). numbers_of model ++ l) same)
  | inr more ↦ inr (ap (λ (l : List ℕ). numbers_of model ++ l) more ∙ sym (append_assoc (numbers_of model) (line_numbers (other ∷ models)) (number ∷ [])))
]

said_lines : (number : ℕ) (body : Option PlainBody) (models : List PlainModel) → IsMore number (line_numbers models) (line_numbers (with_body number body models))
unfolding IsMore
said_lines number None models = inl refl
said_lines number (Some body) models = pushed_lines number body models

after_lines : (most : ℕ) (models : List PlainModel) (number : ℕ) (on : Option Bool) (kind : Kind) (line : List Word)
    → IsMore number (line_numbers models) (line_numbers (models_after most models number on kind line))
unfolding IsMore
after_lines most models number on kinds.Model line =
    inr (flat_map-append numbers_of models (record { line = number; name = word_at line 1; statements = [] } ∷ []))
after_lines most models number on kinds.Row line = inl (row_lines (is_on_set on) (row_of most (pattern_of line)) models)
after_lines most models number on kinds.Blank line = said_lines number (body_of kinds.Blank line []) models
after_lines most models number on kinds.Passed line = said_lines number (body_of kinds.Passed line []) models
after_lines most models number on kinds.End line = said_lines number (body_of kinds.End line []) models
after_lines most models number on kinds.Inputs line = said_lines number (body_of kinds.Inputs line []) models
after_lines most models number on kinds.Outputs line = said_lines number (body_of kinds.Outputs line []) models
after_lines most models number on kinds.Clock line = said_lines number (body_of kinds.Clock line []) models
after_lines most models number on kinds.Names line = said_lines number (body_of kinds.Names line []) models
after_lines most models number on kinds.Latch line = said_lines number (body_of kinds.Latch line []) models
after_lines most models number on kinds.Instance line = said_lines number (body_of kinds.Instance line []) models
after_lines most models number on kinds.Buffer line = said_lines number (body_of kinds.Buffer line []) models
after_lines most models number on kinds.Other line = said_lines number (body_of kinds.Other line []) models

-- ---- one line more

-- numbers that ascend up to one
record Ascends (numbers : List ℕ) (count : ℕ) : Type 0 where
  ascend : AllPairs (λ before after. before < after) numbers
  within : All (λ line. (1 ≤ line) × (line ≤ count)) numbers

wider : (numbers : List ℕ) (count : ℕ) → Ascends numbers count → Ascends numbers (count + 1)
wider numbers count all = record {
  ascend = all.ascend;
  within = All-weaker (λ line. (1 ≤ line) × (line ≤ count)) (λ line. (1 ≤ line) × (line ≤ count + 1)) (λ line in_it. (in_it.0, omega (arith, in_it.1))) numbers all.within;
}

one_more : (numbers : List ℕ) (count : ℕ) → Ascends numbers count → Ascends (numbers ++ (count + 1) ∷ []) (count + 1)
one_more numbers count all =
    let below : (k d : ℕ) → k < length numbers → get_or numbers k d < count + 1 =
    λ k d l. omega (arith, (All-get_or (λ line. (1 ≤ line) × (line ≤ count)) numbers k d l all.within).1) in
    let last : (1 ≤ count + 1) × (count + 1 ≤ count + 1) = (omega arith, omega arith) in
    record {
      ascend = all_pairs_push (λ before after. before < after) numbers (count + 1) all.ascend below;
      within = All-push (λ line. (1 ≤ line) × (line ≤ count + 1)) numbers (count + 1) (wider numbers count all).within last;
    }

more_ascends : (old new : List ℕ) (count : ℕ) → IsMore (count + 1) old new → Ascends old count → Ascends new (count + 1)
unfolding IsMore
more_ascends old new count (inl same) all = subst (λ (l : List ℕ). Ascends l (count + 1)) (sym same) (wider old count all)
more_ascends old new count (inr more) all = subst (λ (l : List ℕ). Ascends l (count + 1)) (sym more) (one_more old count all)

line_ascends : (most : ℕ) (front : List (List ℕ)) (line : List ℕ) → IsFine (judge most) front → judge most front line ≡ None → Ascends (line_numbers (spelled front)) (length front)
    → Ascends (line_numbers (spelled (front ++ line ∷ []))) (length (front ++ line ∷ []))
line_ascends most front line fine_before fine all =
    let state = summary most front in
    let kind = kind_of (words line) in
    let after = models_after most state.models (length front + 1) (context_after state.context kind (words line)).on kind (words line) in
    let same : after ≡ spelled (front ++ line ∷ []) = ap (λ (s : State). s.models) (state_more most front line fine_before fine) in
    let count : length front + 1 ≡ length (front ++ line ∷ []) = sym (length-append front (line ∷ [])) in
    let next : Ascends (line_numbers after) (length front + 1) =
    more_ascends (line_numbers state.models) (line_numbers after) (length front) (after_lines most state.models (length front + 1) (context_after state.context kind (words line)).on kind (words line)) all in
    subst (λ (models : List PlainModel). Ascends (line_numbers models) (length (front ++ line ∷ []))) same (subst (Ascends (line_numbers after)) count next)

-- the lines of models that lines spell, where none is refused
pub spelled_ascend : (most : ℕ) (text : List (List ℕ)) → IsFine (judge most) text → LinesAscend (spelled text) (length text)
spelled_ascend most text fine =
    let none : Ascends [] 0 = record { ascend = λ i j d less within. absurd (omega arith); within = All-nil (λ line. (1 ≤ line) × (line ≤ 0)) } in
    let all = each_line most (λ l. Ascends (line_numbers (spelled l)) (length l)) (line_ascends most) none text fine in
    record { ascend = all.ascend; within = all.within }
