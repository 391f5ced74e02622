-- The models that lines spell, with one line more.
use Rattle.std.proofs.Common.{◌≡◌, ℕ, ◌<◌, Bool, true, false, ◌||◌, List, [], ◌∷◌, ◌++◌, length, map, filter, Option, Some, None, refl, sym, ap, subst, ◌∙◌, inl, inr, arith, append-nil, append_assoc}
use Rattle.std.specs.List.{list_any, before_first}
use Rattle.std.proofs.lemmas.Bool.{cases_Bool}
use Rattle.std.proofs.lemmas.List.{map-append, map_push}
use Rattle.fab_blif_models.specs.declared.words.Kind.{Kind}
use Rattle.fab_blif_models.specs.declared.words.Kind.TheVariants as kinds
use Rattle.fab_blif_models.specs.Plain.{PlainBody, PlainStatement, PlainModel}
use Rattle.fab_blif_models.specs.Words.{Word, kind_of, begins_model, ends_cover, is_row_kind, is_model, is_row, is_statement}
use Rattle.fab_lines.specs.Items.{word_at, with_last}
use Rattle.fab_blif_models.specs.Covers.{cube_of, cubes_of, is_on_set, pattern_of, rows_on}
use Rattle.fab_netlist.specs.declared.wide.Cube.{Cube}
use Rattle.fab_blif_models.specs.Spelled.{Line, cover_of, body_of, at_line, rows_in, statements, models_of}
use Rattle.fab_blif_models.specs.inner.Following.{with_statements, with_body, with_cube, pushed_row}
use Rattle.fab_blif_models.proofs.Models.{with_last-push}
use Rattle.fab_blif_models.proofs.Parts.{before_within, before_none, before_found, since, since_found, since_first, since_append, filter_push, filter_kept, with_last-behind}

-- the words of lines
abbrev pub seen : List Line → List (List Word)
seen lines = map (λ line. line.1) lines

abbrev pub begins : Line → Bool
begins line = is_model line.1

-- ---- rows

rows_within : (before : List Line) (line : Line) (after : List Line) → is_statement line.1 ≡ true → rows_in (before ++ line ∷ after) ≡ rows_in before
rows_within before line after ends =
    ap (λ (l : List (List Word)). filter is_row (before_first is_statement l)) (map-append (λ (l : Line). l.1) before (line ∷ after))
    ∙ ap (filter is_row) (before_within is_statement (seen before) line.1 (seen after) ends)

pub rows_of_none : (lines : List Line) → list_any is_statement (seen lines) ≡ false → rows_in lines ≡ filter is_row (seen lines)
rows_of_none lines none = ap (filter is_row) (before_none is_statement (seen lines) none)

any_still : (lines : List Line) (line : Line) → list_any is_statement (seen lines) ≡ false → is_statement line.1 ≡ false → list_any is_statement (seen (lines ++ line ∷ [])) ≡ false
any_still [] line none stays = rw stays refl
any_still (other ∷ lines) line none stays = elim (cases_Bool (is_statement other.1)) [
  | inl t ↦ (let some : true ≡ false = rw t at none in absurd cc)
  | inr f ↦ (let rest : list_any is_statement (seen lines) ≡ false = rw f at none in rw f (any_still lines line rest stays))
]

rows_row : (lines : List Line) (line : Line) → list_any is_statement (seen lines) ≡ false → is_statement line.1 ≡ false → is_row line.1 ≡ true → rows_in (lines ++ line ∷ []) ≡ rows_in lines ++ line.1 ∷ []
rows_row lines line none stays row =
    rows_of_none (lines ++ line ∷ []) (any_still lines line none stays)
    ∙ ap (filter is_row) (map-append (λ (l : Line). l.1) lines (line ∷ []))
    ∙ filter_push is_row (seen lines) line.1 row
    ∙ ap (λ (l : List (List Word)). l ++ line.1 ∷ []) (sym (rows_of_none lines none))

rows_idle : (lines : List Line) (line : Line) → is_statement line.1 ≡ false → is_row line.1 ≡ false → rows_in (lines ++ line ∷ []) ≡ rows_in lines
rows_idle lines line stays other = elim (cases_Bool (list_any is_statement (seen lines))) [
  | inl t ↦
      ap (λ (l : List (List Word)). filter is_row (before_first is_statement l)) (map-append (λ (l : Line). l.1) lines (line ∷ []))
      ∙ ap (filter is_row) (before_found is_statement (seen lines) (line.1 ∷ []) t)
  | inr f ↦
      rows_of_none (lines ++ line ∷ []) (any_still lines line f stays)
      ∙ ap (filter is_row) (map-append (λ (l : Line). l.1) lines (line ∷ []))
      ∙ filter_kept is_row (seen lines) line.1 other
      ∙ sym (rows_of_none lines f)
]

-- a line that is no row leaves the rows of those before it
pub rows_same : (kind : Kind) (line : Line) → kind_of line.1 ≡ kind → is_row_kind kind ≡ false → (lines : List Line) → rows_in (lines ++ line ∷ []) ≡ rows_in lines
rows_same kind line is other lines = elim (cases_Bool (is_statement line.1)) [
  | inl t ↦ rows_within lines line [] t
  | inr f ↦ rows_idle lines line f (ap is_row_kind is ∙ other)
]

-- ---- statements

pub statements_push : (line : Line) → ((lines : List Line) → rows_in (lines ++ line ∷ []) ≡ rows_in lines) → (lines : List Line)
    → statements (lines ++ line ∷ []) ≡ statements lines ++ at_line line.0 (body_of (kind_of line.1) line.1 [])
statements_push line same [] = append-nil (at_line line.0 (body_of (kind_of line.1) line.1 []))
statements_push line same (other ∷ lines) =
    ap (λ (rows : List (List Word)). at_line other.0 (body_of (kind_of other.1) other.1 rows) ++ statements (lines ++ line ∷ [])) (same lines)
    ∙ ap (λ (l : List PlainStatement). at_line other.0 (body_of (kind_of other.1) other.1 (rows_in lines)) ++ l) (statements_push line same lines)
    ∙ sym (append_assoc (at_line other.0 (body_of (kind_of other.1) other.1 (rows_in lines))) (statements lines) (at_line line.0 (body_of (kind_of line.1) line.1 [])))

statements_append : (before : List Line) (line : Line) (after : List Line) → is_statement line.1 ≡ true → statements (before ++ line ∷ after) ≡ statements before ++ statements (line ∷ after)
statements_append [] line after ends = refl
statements_append (other ∷ before) line after ends =
    ap (λ (rows : List (List Word)). at_line other.0 (body_of (kind_of other.1) other.1 rows) ++ statements (before ++ line ∷ after)) (rows_within before line after ends)
    ∙ ap (λ (l : List PlainStatement). at_line other.0 (body_of (kind_of other.1) other.1 (rows_in before)) ++ l) (statements_append before line after ends)
    ∙ sym (append_assoc (at_line other.0 (body_of (kind_of other.1) other.1 (rows_in before))) (statements before) (statements (line ∷ after)))

body_none : (kind : Kind) (line : List Word) (rows : List (List Word)) → ends_cover kind ≡ false → body_of kind line rows ≡ None
body_none kinds.Blank line rows stays = refl
body_none kinds.Row line rows stays = refl
body_none kinds.Model line rows stays = absurd cc
body_none kinds.End line rows stays = absurd cc
body_none kinds.Inputs line rows stays = absurd cc
body_none kinds.Outputs line rows stays = absurd cc
body_none kinds.Clock line rows stays = absurd cc
body_none kinds.Names line rows stays = absurd cc
body_none kinds.Latch line rows stays = absurd cc
body_none kinds.Instance line rows stays = absurd cc
body_none kinds.Buffer line rows stays = absurd cc
body_none kinds.Passed line rows stays = refl
body_none kinds.Other line rows stays = absurd cc

no_model : (kind : Kind) → ends_cover kind ≡ false → begins_model kind ≡ false
no_model kinds.Blank stays = refl
no_model kinds.Row stays = refl
no_model kinds.Model stays = absurd cc
no_model kinds.End stays = refl
no_model kinds.Inputs stays = refl
no_model kinds.Outputs stays = refl
no_model kinds.Clock stays = refl
no_model kinds.Names stays = refl
no_model kinds.Latch stays = refl
no_model kinds.Instance stays = refl
no_model kinds.Buffer stays = refl
no_model kinds.Passed stays = refl
no_model kinds.Other stays = refl

statements_none : (lines : List Line) → list_any is_statement (seen lines) ≡ false → statements lines ≡ []
statements_none [] none = refl
statements_none (line ∷ lines) none = elim (cases_Bool (is_statement line.1)) [
  | inl t ↦ (let some : true ≡ false = rw t at none in absurd cc)
  | inr f ↦ (
      let rest : list_any is_statement (seen lines) ≡ false = rw f at none in
      ap (λ (b : Option PlainBody). at_line line.0 b ++ statements lines) (body_none (kind_of line.1) line.1 (rows_in lines) f) ∙ statements_none lines rest)
]

models_within : (lines : List Line) → list_any is_statement (seen lines) ≡ false → list_any begins lines ≡ false
models_within [] none = refl
models_within (line ∷ lines) none = elim (cases_Bool (is_statement line.1)) [
  | inl t ↦ (let some : true ≡ false = rw t at none in absurd cc)
  | inr f ↦ (
      let rest : list_any is_statement (seen lines) ≡ false = rw f at none in
      ap (λ (b : Bool). b || list_any begins lines) (no_model (kind_of line.1) f) ∙ models_within lines rest)
]

-- what a cover with these rows says
abbrev with_rows : (line : List Word) → (rows : List (List Word)) → PlainBody
with_rows line rows = cover_of line (is_on_set (rows_on rows)) (cubes_of rows)

-- a cover and its rows at the end
cover_last : (before : List Line) (line : Line) (after : List Line) → kind_of line.1 ≡ kinds.Names → list_any is_statement (seen after) ≡ false
    → statements (before ++ line ∷ after) ≡ statements before ++ record { line = line.0; body = with_rows line.1 (rows_in after) } ∷ []
cover_last before line after is none =
    statements_append before line after (ap ends_cover is)
    ∙ ap (λ (kind : Kind). statements before ++ (at_line line.0 (body_of kind line.1 (rows_in after)) ++ statements after)) is
    ∙ ap (λ (l : List PlainStatement). statements before ++ record { line = line.0; body = with_rows line.1 (rows_in after) } ∷ l) (statements_none after none)

-- and with one row more
cover_row : (before : List Line) (line : Line) (after : List Line) (row : Line) → kind_of line.1 ≡ kinds.Names → list_any is_statement (seen after) ≡ false → kind_of row.1 ≡ kinds.Row
    → statements ((before ++ line ∷ after) ++ row ∷ []) ≡ with_last (with_cube (is_on_set (rows_on (rows_in after ++ row.1 ∷ []))) (cube_of (pattern_of row.1))) (statements (before ++ line ∷ after))
cover_row before line after row is none row_is =
    let rows = rows_in after in
    let on = is_on_set (rows_on (rows ++ row.1 ∷ [])) in
    let change = with_cube on (cube_of (pattern_of row.1)) in
    ap statements (append_assoc before (line ∷ after) (row ∷ []))
    ∙ cover_last before line (after ++ row ∷ []) is (any_still after row none (ap ends_cover row_is))
    ∙ ap (λ (all : List (List Word)). statements before ++ record { line = line.0; body = with_rows line.1 all } ∷ []) (rows_row after row none (ap ends_cover row_is) (ap is_row_kind row_is))
    ∙ ap (λ (cubes : List Cube). statements before ++ record { line = line.0; body = cover_of line.1 on cubes } ∷ []) (map_push (λ (r : List Word). cube_of (pattern_of r)) rows row.1)
    ∙ sym (with_last-push change (statements before) (record { line = line.0; body = with_rows line.1 rows }))
    ∙ ap (with_last change) (sym (cover_last before line after is none))

-- ---- models

models_none : (lines : List Line) → list_any begins lines ≡ false → models_of lines ≡ []
models_none [] none = refl
models_none (line ∷ lines) none = elim (cases_Bool (begins line)) [
  | inl t ↦ (let some : true ≡ false = rw t at none in absurd cc)
  | inr f ↦ (let rest : list_any begins lines ≡ false = rw f at none in rw f (models_none lines rest))
]

models_some : (lines : List Line) → list_any begins lines ≡ true → 0 < length (models_of lines)
models_some [] some = absurd cc
models_some (line ∷ lines) some = elim (cases_Bool (begins line)) [
  | inl t ↦ rw t (omega arith)
  | inr f ↦ (let rest : list_any begins lines ≡ true = rw f at some in rw f (models_some lines rest))
]

pub models_model : (lines : List Line) (line : Line) → begins line ≡ true → models_of (lines ++ line ∷ []) ≡ models_of lines ++ record { line = line.0; name = word_at line.1 1; statements = [] } ∷ []
models_model [] line first = rw first refl
models_model (other ∷ lines) line first = elim (cases_Bool (begins other)) [
  | inl t ↦ rw t (λ j. record { line = other.0; name = word_at other.1 1; statements = statements (before_within begins lines line [] first j) } ∷ models_model lines line first j)
  | inr f ↦ rw f (models_model lines line first)
]

-- a line that changes the statements of the last model
pub models_other : (change : List PlainStatement → List PlainStatement) (lines : List Line) (line : Line) → begins line ≡ false
    → statements (since begins lines ++ line ∷ []) ≡ change (statements (since begins lines)) → models_of (lines ++ line ∷ []) ≡ with_last (with_statements change) (models_of lines)
models_other change [] line within changed = rw within refl
models_other change (other ∷ lines) line within changed = elim (cases_Bool (list_any begins lines)) [
  | inl some ↦ (
      let later : statements (since begins lines ++ line ∷ []) ≡ change (statements (since begins lines)) = subst (λ (l : List Line). statements (l ++ line ∷ []) ≡ change (statements l)) (since_found begins other lines some) changed in
      let rest = models_other change lines line within later in
      elim (cases_Bool (begins other)) [
        | inl t ↦
            rw t (
            (λ j. record { line = other.0; name = word_at other.1 1; statements = statements (before_found begins lines (line ∷ []) some j) } ∷ rest j)
            ∙ sym (with_last-behind (with_statements change) (record { line = other.0; name = word_at other.1 1; statements = statements (before_first begins lines) }) (models_of lines) (models_some lines some)))
        | inr f ↦ rw f rest
      ])
  | inr none ↦ (
      let none_more : list_any begins (lines ++ line ∷ []) ≡ false = any_more lines none in
      elim (cases_Bool (begins other)) [
        | inl t ↦ (
            let here : statements (lines ++ line ∷ []) ≡ change (statements lines) = subst (λ (l : List Line). statements (l ++ line ∷ []) ≡ change (statements l)) (since_first begins other lines none t) changed in
            rw t (
            (λ j. record { line = other.0; name = word_at other.1 1; statements = statements (before_none begins (lines ++ line ∷ []) none_more j) } ∷ models_none (lines ++ line ∷ []) none_more j)
            ∙ (λ j. record { line = other.0; name = word_at other.1 1; statements = here j } ∷ [])
            ∙ sym (λ j. with_last (with_statements change) (record { line = other.0; name = word_at other.1 1; statements = statements (before_none begins lines none j) } ∷ models_none lines none j))))
        | inr f ↦ rw f (models_none (lines ++ line ∷ []) none_more ∙ sym (ap (with_last (with_statements change)) (models_none lines none)))
      ])
]
  where
    any_more : (ls : List Line) → list_any begins ls ≡ false → list_any begins (ls ++ line ∷ []) ≡ false
    any_more [] h = rw within refl
    any_more (l ∷ ls) h = elim (cases_Bool (begins l)) [
      | inl t ↦ (let some : true ≡ false = rw t at h in absurd cc)
      | inr f ↦ (let rest : list_any begins ls ≡ false = rw f at h in rw f (any_more ls rest))
    ]

-- a change of nothing
with_last-same : {X : Type 0} (change : X → X) → ((x : X) → change x ≡ x) → (xs : List X) → with_last change xs ≡ xs
with_last-same change same [] = refl
with_last-same change same (x ∷ []) = ap (λ y. y ∷ []) (same x)
with_last-same change same (x ∷ y ∷ xs) = ap (λ l. x ∷ l) (with_last-same change same (y ∷ xs))

-- what a line says goes into the last model
pub bodied : (number : ℕ) (body : Option PlainBody) (models : List PlainModel) → with_last (with_statements (λ old. old ++ at_line number body)) models ≡ with_body number body models
bodied number None models = with_last-same (with_statements (λ old. old ++ [])) (λ m. λ j. record { line = m.line; name = m.name; statements = append-nil m.statements j }) models
bodied number (Some body) models = refl

-- a row goes into the last cover
pub models_row : (before : List Line) (line : Line) (after : List Line) (row : Line) → kind_of line.1 ≡ kinds.Names → list_any is_statement (seen after) ≡ false → kind_of row.1 ≡ kinds.Row
    → models_of ((before ++ line ∷ after) ++ row ∷ []) ≡ pushed_row (is_on_set (rows_on (rows_in after ++ row.1 ∷ []))) (cube_of (pattern_of row.1)) (models_of (before ++ line ∷ after))
models_row before line after row is none row_is =
    let change = with_last (with_cube (is_on_set (rows_on (rows_in after ++ row.1 ∷ []))) (cube_of (pattern_of row.1))) in
    let within : list_any begins (line ∷ after) ≡ false = ap (λ (b : Bool). b || list_any begins after) (ap begins_model is) ∙ models_within after none in
    let from_last : since begins (before ++ line ∷ after) ≡ since begins before ++ line ∷ after = since_append begins before (line ∷ after) within in
    models_other change (before ++ line ∷ after) row (ap begins_model row_is)
    (subst (λ (l : List Line). statements (l ++ row ∷ []) ≡ change (statements l)) (sym from_last) (cover_row (since begins before) line after row is none row_is))
