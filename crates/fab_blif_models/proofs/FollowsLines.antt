-- The reader follows the judge of lines: what it keeps is what the lines before spell.
use Rattle.std.proofs.Common.{◌≡◌, ℕ, ◌+◌, Bool, false, List, [], ◌∷◌, ◌++◌, length, map, filter, Option, Some, None, Ok, refl, sym, ap, subst, ◌∙◌, arith, ◌≤◌, unwrap_or}
use Rattle.std.specs.List.{list_any, after_last, last_or, enumerate_from}
use Rattle.std.proofs.lemmas.List.{map_push, take_all}
use Rattle.fab_base.specs.declared.problem.Problem.{Problem}
use Rattle.fab_lines.specs.Order.{IsFine, judged}
use Rattle.fab_lines.proofs.Judging.{Follows}
use Rattle.fab_blif_models.specs.declared.words.Kind.{Kind}
use Rattle.fab_blif_models.specs.declared.words.Kind.TheVariants as kinds
use Rattle.fab_blif_models.specs.Words.{Word, words, kind_of, begins_model, is_row_kind, is_row, is_statement}
use Rattle.fab_blif_models.specs.Covers.{cube_of, is_on, is_on_set, pattern_of, rows_on}
use Rattle.fab_blif_models.specs.Context.{Context, context_of, open_rows, width_by, width_of}
use Rattle.fab_blif_models.specs.Judge.{judge}
use Rattle.fab_blif_models.specs.Spelled.{Line, body_of, at_line, rows_in, models_of, spelled}
use Rattle.fab_blif_models.specs.inner.Following.{State, context_after, models_after, pushed_row, state_after, with_body, after_line}
use Rattle.fab_blif_models.proofs.Parts.{after_last-since, since_within, split_last, since}
use Rattle.fab_blif_models.proofs.Cubes.{rows_on-push}
use Rattle.fab_blif_models.proofs.ContextLines.{context_more}
use Rattle.fab_blif_models.proofs.Passing.{row_fits_cover}
use Rattle.fab_blif_models.proofs.ModelLines.{seen, begins, rows_of_none, rows_same, statements_push, models_model, models_other, bodied, models_row}

-- what lines leave
abbrev pub summary : (most : ℕ) → List (List ℕ) → State
summary most lines = record { most = most; context = context_of (map words lines); models = spelled lines }

-- ---- numbers of lines

enumerate-append : (n : ℕ) (xs ys : List (List Word)) → enumerate_from n (xs ++ ys) ≡ enumerate_from n xs ++ enumerate_from (n + length xs) ys
enumerate-append n [] ys = let same : n ≡ n + 0 = omega arith in ap (λ (k : ℕ). enumerate_from k ys) same
enumerate-append n (x ∷ xs) ys =
    let same : n + 1 + length xs ≡ n + length (x ∷ xs) = omega arith in
    ap (λ (l : List Line). (n, x) ∷ l) (enumerate-append (n + 1) xs ys ∙ ap (λ (k : ℕ). enumerate_from (n + 1) xs ++ enumerate_from k ys) same)

seen-enumerate : (n : ℕ) (xs : List (List Word)) → seen (enumerate_from n xs) ≡ xs
seen-enumerate n [] = refl
seen-enumerate n (x ∷ xs) = ap (λ (l : List (List Word)). x ∷ l) (seen-enumerate (n + 1) xs)

-- ---- the open cover

names_by : (kind : Kind) (line : List Word) (n : ℕ) → width_by kind line ≡ Some n → kind ≡ kinds.Names
names_by kinds.Blank line n is = absurd cc
names_by kinds.Row line n is = absurd cc
names_by kinds.Model line n is = absurd cc
names_by kinds.End line n is = absurd cc
names_by kinds.Inputs line n is = absurd cc
names_by kinds.Outputs line n is = absurd cc
names_by kinds.Clock line n is = absurd cc
names_by kinds.Names line n is = refl
names_by kinds.Latch line n is = absurd cc
names_by kinds.Instance line n is = absurd cc
names_by kinds.Buffer line n is = absurd cc
names_by kinds.Passed line n is = absurd cc
names_by kinds.Other line n is = absurd cc

names_of : (last : Option (List Word)) (n : ℕ) → width_of last ≡ Some n → (line : List Word) × (last ≡ Some line) × (kind_of line ≡ kinds.Names)
names_of None n is = absurd cc
names_of (Some line) n is = (line, refl, names_by (kind_of line) line n is)

-- ---- one line more

-- a line that is neither a row nor a `.model` line
other_more : (lines : List Line) (line : Line) (kind : Kind) → kind_of line.1 ≡ kind → begins_model kind ≡ false → is_row_kind kind ≡ false → models_of (lines ++ line ∷ []) ≡ with_body line.0 (body_of kind line.1 []) (models_of lines)
other_more lines line kind is within other =
    models_other (λ old. old ++ at_line line.0 (body_of (kind_of line.1) line.1 [])) lines line (ap begins_model is ∙ within)
    (statements_push line (rows_same kind line is other) (since begins lines))
    ∙ bodied line.0 (body_of (kind_of line.1) line.1 []) (models_of lines)
    ∙ ap (λ (k : Kind). with_body line.0 (body_of k line.1 []) (models_of lines)) is

-- a row of a cover
row_more : (lines : List (List Word)) (row : Line) (n : ℕ) → width_of (last_or None (filter is_statement lines)) ≡ Some n → kind_of row.1 ≡ kinds.Row
    → models_of (enumerate_from 1 lines ++ row ∷ []) ≡ pushed_row (is_on_set (rows_on (open_rows lines ++ row.1 ∷ []))) (cube_of (pattern_of row.1)) (models_of (enumerate_from 1 lines))
row_more lines row n open_one is =
    let last = names_of (last_or None (filter is_statement lines)) n open_one in
    let parts = split_last is_statement lines last.0 last.1 in
    let front = enumerate_from 1 parts.0 in
    let cover : Line = (1 + length parts.0, last.0) in
    let rest = enumerate_from (1 + length parts.0 + 1) parts.1 in
    let cube = cube_of (pattern_of row.1) in
    let none : list_any is_statement (seen rest) ≡ false = ap (list_any is_statement) (seen-enumerate (1 + length parts.0 + 1) parts.1) ∙ parts.4 in
    let whole : enumerate_from 1 lines ≡ front ++ cover ∷ rest = ap (enumerate_from 1) parts.2 ∙ enumerate-append 1 parts.0 (last.0 ∷ parts.1) in
    let rows : rows_in rest ≡ open_rows lines =
    rows_of_none rest none
    ∙ ap (filter is_row) (seen-enumerate (1 + length parts.0 + 1) parts.1)
    ∙ sym (ap (filter is_row) (ap (after_last is_statement) parts.2 ∙ after_last-since is_statement (parts.0 ++ last.0 ∷ parts.1) ∙ since_within is_statement parts.0 last.0 parts.1 parts.3 parts.4)) in
    subst (λ (l : List Line). models_of (l ++ row ∷ []) ≡ pushed_row (is_on_set (rows_on (open_rows lines ++ row.1 ∷ []))) cube (models_of l)) (sym whole)
    (subst (λ (r : List (List Word)). models_of ((front ++ cover ∷ rest) ++ row ∷ []) ≡ pushed_row (is_on_set (rows_on (r ++ row.1 ∷ []))) cube (models_of (front ++ cover ∷ rest))) rows
    (models_row front cover rest row last.2 none is))

models_more : (most : ℕ) (lines : List (List Word)) (row : Line) (kind : Kind) → kind_of row.1 ≡ kind
    → (kind ≡ kinds.Row → (n : ℕ) × (width_of (last_or None (filter is_statement lines)) ≡ Some n) × (length (pattern_of row.1) ≤ most))
    → models_of (enumerate_from 1 lines ++ row ∷ []) ≡ models_after most (models_of (enumerate_from 1 lines)) row.0 (context_after (context_of lines) kind row.1).on kind row.1
models_more most lines row kinds.Blank is has_cover = other_more (enumerate_from 1 lines) row kinds.Blank is refl refl
models_more most lines row kinds.Passed is has_cover = other_more (enumerate_from 1 lines) row kinds.Passed is refl refl
models_more most lines row kinds.Row is has_cover =
    let cover = has_cover refl in
    let pattern = pattern_of row.1 in
    row_more lines row cover.0 cover.1 is
    ∙ ap (λ (on : Option Bool). pushed_row (is_on_set on) (cube_of pattern) (models_of (enumerate_from 1 lines))) (rows_on-push (open_rows lines) row.1)
    ∙ ap (λ (signs : Word). pushed_row (is_on_set (Some (unwrap_or (rows_on (open_rows lines)) (is_on row.1)))) (cube_of signs) (models_of (enumerate_from 1 lines))) (sym (take_all most pattern cover.2))
models_more most lines row kinds.Model is has_cover = models_model (enumerate_from 1 lines) row (ap begins_model is)
models_more most lines row kinds.End is has_cover = other_more (enumerate_from 1 lines) row kinds.End is refl refl
models_more most lines row kinds.Inputs is has_cover = other_more (enumerate_from 1 lines) row kinds.Inputs is refl refl
models_more most lines row kinds.Outputs is has_cover = other_more (enumerate_from 1 lines) row kinds.Outputs is refl refl
models_more most lines row kinds.Clock is has_cover = other_more (enumerate_from 1 lines) row kinds.Clock is refl refl
models_more most lines row kinds.Names is has_cover = other_more (enumerate_from 1 lines) row kinds.Names is refl refl
models_more most lines row kinds.Latch is has_cover = other_more (enumerate_from 1 lines) row kinds.Latch is refl refl
models_more most lines row kinds.Instance is has_cover = other_more (enumerate_from 1 lines) row kinds.Instance is refl refl
models_more most lines row kinds.Buffer is has_cover = other_more (enumerate_from 1 lines) row kinds.Buffer is refl refl
models_more most lines row kinds.Other is has_cover = other_more (enumerate_from 1 lines) row kinds.Other is refl refl

length-map : (lines : List (List ℕ)) → length (map words lines) ≡ length lines
length-map [] = refl
length-map (line ∷ lines) = omega (arith, length-map lines)

-- the state of one line more
pub state_more : (most : ℕ) (front : List (List ℕ)) (line : List ℕ) → IsFine (judge most) front → judge most front line ≡ None
    → state_after (summary most front) (length front + 1) (kind_of (words line)) (words line) ≡ summary most (front ++ line ∷ [])
state_more most front line fine_before fine =
    let lines = map words front in
    let row : Line = (length front + 1, words line) in
    let pushed : map words (front ++ line ∷ []) ≡ lines ++ words line ∷ [] = map_push words front line in
    let same : 1 + length lines ≡ length front + 1 = omega (arith, length-map front) in
    let numbered : enumerate_from 1 (map words (front ++ line ∷ [])) ≡ enumerate_from 1 lines ++ row ∷ [] =
    ap (enumerate_from 1) pushed ∙ enumerate-append 1 lines (words line ∷ []) ∙ ap (λ (n : ℕ). enumerate_from 1 lines ++ (n, words line) ∷ []) same in
    let contexts = ap context_of pushed ∙ context_more lines (words line) (kind_of (words line)) refl in
    let models = ap models_of numbered ∙ models_more most lines row (kind_of (words line)) refl (row_fits_cover most front line fine_before fine) in
    sym (λ j. record { most = most; context = contexts j; models = models j })

judged_same : {S : Type 0} (why : Option Problem) (a b : S) → (why ≡ None → a ≡ b) → judged why a ≡ judged why b
judged_same None a b same = ap (λ s. Ok s) (same refl)
judged_same (Some problem) a b same = refl

pub follows_judge : (most : ℕ) → Follows (judge most) after_line (summary most)
follows_judge most = record {
  answers = λ front line fine. judged_same (judge most front line) (state_after (summary most front) (length front + 1) (kind_of (words line)) (words line)) (summary most (front ++ line ∷ []))
      (state_more most front line fine);
}
