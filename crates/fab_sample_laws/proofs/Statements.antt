-- The model that rows of words spell.
use Rattle.std.proofs.Common.{◌≡◌, ℕ, ◌+◌, true, false, List, [], ◌∷◌, ◌++◌, length, map, filter, codes, refl, sym, ap, ◌∙◌, arith, append_assoc}
use Rattle.std.specs.List.{AllByRecursion as Each, list_any, flat_map, enumerate_from, before_first}
use Rattle.std.proofs.lemmas.List.Folds.{list_any-append}
use Rattle.fab_blif_models.specs.declared.words.Kind.{Kind}
use Rattle.fab_blif_models.specs.declared.words.Kind.TheVariants as kinds
use Rattle.fab_blif_models.specs.Words.{Word, kind_of, is_model, is_row, is_statement, ends_cover, is_row_kind}
use Rattle.fab_blif_models.specs.Covers.{cubes_of, is_on_set, rows_on}
use Rattle.fab_blif_models.specs.Plain as bodies
use Rattle.fab_blif_models.specs.Plain.{PlainBody, PlainStatement, PlainModel}
use Rattle.fab_blif_models.specs.Spelled.{Line, cover_of, body_of, at_line, rows_in, statements, models_of, spelled}
use Rattle.fab_blif_models.proofs.Parts.{before_none, before_within}
use Rattle.fab_blif_models.proofs.ModelLines.{seen, begins}
use Rattle.fab_sample_laws.specs.Items.{Row, row_line, Pattern, Item, cover, wire, latch, pattern_row, item_rows, model_rows, statement_at, statements_from, model_said}
use Rattle.fab_sample_laws.proofs.TextLines.{are_rows, rows_words}
use Rattle.fab_sample_laws.proofs.JudgedRows.{not_first}

seen_rows : (n : ℕ) (rows : List Row) → seen (enumerate_from n rows) ≡ rows
seen_rows n [] = refl
seen_rows n (row ∷ rows) = ap (λ (l : List Row). row ∷ l) (seen_rows (n + 1) rows)

-- ---- rows of a cover

abbrev OfCover : Row → Type 0
OfCover row = kind_of row ≡ kinds.Row

no_statement : (rows : List Row) → Each OfCover rows → list_any is_statement rows ≡ false
no_statement [] all = refl
no_statement (row ∷ rows) all = rw (ap ends_cover all.0) (no_statement rows all.1)

all_rows : (rows : List Row) → Each OfCover rows → filter is_row rows ≡ rows
all_rows [] all = refl
all_rows (row ∷ rows) all = rw (ap is_row_kind all.0) (ap (λ (l : List Row). row ∷ l) (all_rows rows all.1))

-- the rows in front of the next statement
rows_before : (n : ℕ) (rows : List Row) (next : Row) (rest : List Row) → Each OfCover rows → is_statement next ≡ true → rows_in (enumerate_from n (rows ++ next ∷ rest)) ≡ rows
rows_before n rows next rest all ends =
    ap (λ (l : List Row). filter is_row (before_first is_statement l)) (seen_rows n (rows ++ next ∷ rest))
    ∙ ap (filter is_row) (before_within is_statement rows next rest ends ∙ before_none is_statement rows (no_statement rows all))
    ∙ all_rows rows all

-- they say nothing of their own
passed : (n : ℕ) (rows rest : List Row) → Each OfCover rows → statements (enumerate_from n (rows ++ rest)) ≡ statements (enumerate_from (n + length rows) rest)
passed n [] rest all = let same : n ≡ n + 0 = omega arith in ap (λ (k : ℕ). statements (enumerate_from k rest)) same
passed n (row ∷ rows) rest all =
    let same : n + 1 + length rows ≡ n + length (row ∷ rows) = omega arith in
    ap (λ (kind : Kind). at_line n (body_of kind row (rows_in (enumerate_from (n + 1) (rows ++ rest)))) ++ statements (enumerate_from (n + 1) (rows ++ rest))) all.0
    ∙ passed (n + 1) rows rest all.1
    ∙ ap (λ (k : ℕ). statements (enumerate_from k rest)) same

-- a cover and its rows
names_said : (n : ℕ) (line : Row) (rows : List Row) (next : Row) (rest : List Row) → kind_of line ≡ kinds.Names → Each OfCover rows → is_statement next ≡ true
    → statements (enumerate_from n (line ∷ rows ++ next ∷ rest)) ≡ record { line = n; body = cover_of line (is_on_set (rows_on rows)) (cubes_of rows) } ∷ statements (enumerate_from (n + length (line ∷ rows)) (next ∷ rest))
names_said n line rows next rest is all ends =
    let after = enumerate_from (n + 1) (rows ++ next ∷ rest) in
    let same : n + 1 + length rows ≡ n + length (line ∷ rows) = omega arith in
    ap (λ (kind : Kind). at_line n (body_of kind line (rows_in after)) ++ statements after) is
    ∙ ap (λ (l : List Row). at_line n (body_of kinds.Names line l) ++ statements after) (rows_before (n + 1) rows next rest all ends)
    ∙ ap (λ (l : List PlainStatement). at_line n (body_of kinds.Names line rows) ++ l)
    (passed (n + 1) rows (next ∷ rest) all ∙ ap (λ (k : ℕ). statements (enumerate_from k (next ∷ rest))) same)

pattern_kinds : (patterns : List Pattern) → Each OfCover (map pattern_row patterns)
pattern_kinds [] = tt
pattern_kinds ((true, second, third) ∷ patterns) = (refl, pattern_kinds patterns)
pattern_kinds ((false, second, third) ∷ patterns) = (refl, pattern_kinds patterns)

item_said : (n : ℕ) (item : Item) (next : Row) (rest : List Row) → is_statement next ≡ true
    → statements (enumerate_from n (item_rows item ++ next ∷ rest)) ≡ statement_at n item ∷ statements (enumerate_from (n + length (item_rows item)) (next ∷ rest))
item_said n (cover first second third output patterns) next rest ends =
    names_said n (codes ".names" ∷ first ∷ second ∷ third ∷ output ∷ []) (map pattern_row patterns) next rest refl (pattern_kinds patterns) ends
item_said n (wire source output) next rest ends = names_said n (codes ".names" ∷ source ∷ output ∷ []) ((codes "1" ∷ codes "1" ∷ []) ∷ []) next rest refl (refl, tt) ends
item_said n (latch input output true) next rest ends = refl
item_said n (latch input output false) next rest ends = refl

-- ---- all items, and the end

abbrev end_row : Row
end_row = codes ".end" ∷ []

record Begins (rows : List Row) : Type 0 where
  first : Row
  rest : List Row
  are : rows ≡ first ∷ rest
  ends : is_statement first ≡ true

begins_with : (items : List Item) → Begins (flat_map item_rows items ++ end_row ∷ [])
begins_with [] = record { first = end_row; rest = []; are = refl; ends = refl }
begins_with (cover first second third output patterns ∷ items) =
    record { first = codes ".names" ∷ first ∷ second ∷ third ∷ output ∷ []; rest = (map pattern_row patterns ++ flat_map item_rows items) ++ end_row ∷ []; are = refl; ends = refl }
begins_with (wire source output ∷ items) =
    record { first = codes ".names" ∷ source ∷ output ∷ []; rest = ((codes "1" ∷ codes "1" ∷ []) ∷ flat_map item_rows items) ++ end_row ∷ []; are = refl; ends = refl }
begins_with (latch input output initial ∷ items) = record { first = _; rest = flat_map item_rows items ++ end_row ∷ []; are = refl; ends = refl }

items_said : (n : ℕ) (items : List Item) → statements (enumerate_from n (flat_map item_rows items ++ end_row ∷ [])) ≡ statements_from n items
items_said n [] = refl
items_said n (item ∷ items) =
    let more = begins_with items in
    let later = n + length (item_rows item) in
    ap (λ (l : List Row). statements (enumerate_from n l)) (append_assoc (item_rows item) (flat_map item_rows items) (end_row ∷ []))
    ∙ ap (λ (l : List Row). statements (enumerate_from n (item_rows item ++ l))) more.are
    ∙ item_said n item more.first more.rest more.ends
    ∙ ap (λ (l : List Row). statement_at n item ∷ statements (enumerate_from later l)) (sym more.are)
    ∙ ap (λ (l : List PlainStatement). statement_at n item ∷ l) (items_said later items)

-- ---- one model

item_no_model : (item : Item) → list_any is_model (item_rows item) ≡ false
item_no_model (cover first second third output patterns) = patterns_no_model patterns
  where
    patterns_no_model : (patterns : List Pattern) → list_any is_model (map pattern_row patterns) ≡ false
    patterns_no_model [] = refl
    patterns_no_model ((true, second, third) ∷ patterns) = patterns_no_model patterns
    patterns_no_model ((false, second, third) ∷ patterns) = patterns_no_model patterns
item_no_model (wire source output) = refl
item_no_model (latch input output true) = refl
item_no_model (latch input output false) = refl

items_no_model : (items : List Item) → list_any is_model (flat_map item_rows items ++ end_row ∷ []) ≡ false
items_no_model [] = refl
items_no_model (item ∷ items) =
    ap (list_any is_model) (append_assoc (item_rows item) (flat_map item_rows items) (end_row ∷ []))
    ∙ list_any-append is_model (item_rows item) (flat_map item_rows items ++ end_row ∷ [])
    ∙ rw (item_no_model item, items_no_model items) refl

numbered_no_model : (n : ℕ) (rows : List Row) → list_any is_model rows ≡ false → list_any begins (enumerate_from n rows) ≡ false
numbered_no_model n [] none = refl
numbered_no_model n (row ∷ rows) none =
    let b = not_first (is_model row) (list_any is_model rows) none in
    rw b.0 (numbered_no_model (n + 1) rows b.1)

no_models : (lines : List Line) → list_any begins lines ≡ false → models_of lines ≡ []
no_models [] none = refl
no_models (line ∷ lines) none =
    let b = not_first (begins line) (list_any begins lines) none in
    rw b.0 (no_models lines b.1)

models_said : (name : Word) (inputs outputs : List Word) (items : List Item) → models_of (enumerate_from 1 (model_rows name inputs outputs items)) ≡ model_said name inputs outputs items ∷ []
models_said name inputs outputs items =
    let after = (codes ".inputs" ∷ inputs) ∷ (codes ".outputs" ∷ outputs) ∷ flat_map item_rows items ++ end_row ∷ [] in
    let none = numbered_no_model 2 after (items_no_model items) in
    let all : statements (enumerate_from 2 after) ≡ (model_said name inputs outputs items).statements =
    ap (λ (l : List PlainStatement). record { line = 2; body = bodies.inputs inputs } ∷ record { line = 3; body = bodies.outputs outputs } ∷ l) (items_said 4 items) in
    λ j. record { line = 1; name = name; statements = (ap statements (before_none begins (enumerate_from 2 after) none) ∙ all) j } ∷ no_models (enumerate_from 2 after) none j

pub model_spelled : (name : Word) (inputs outputs : List Word) (items : List Item) → are_rows (model_rows name inputs outputs items) ≡ true
    → spelled (map row_line (model_rows name inputs outputs items)) ≡ model_said name inputs outputs items ∷ []
model_spelled name inputs outputs items good =
    ap (λ (l : List Row). models_of (enumerate_from 1 l)) (rows_words (model_rows name inputs outputs items) good) ∙ models_said name inputs outputs items
