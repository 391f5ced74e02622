-- What the next line depends on, after one line more.
use Rattle.std.proofs.Common.{◌≡◌, Bool, true, false, ◌||◌, List, [], ◌∷◌, ◌++◌, filter, None, refl, sym, ap, ◌∙◌, append-nil, append_assoc}
use Rattle.std.specs.List.{list_any, flat_map, after_last, last_or}
use Rattle.std.specs.Str.{bytes_eq}
use Rattle.std.proofs.lemmas.Grind.{flat_map-append}
use Rattle.std.proofs.lemmas.Slice.Eq.{bytes_eq-Decides}
use Rattle.indexmap.specs.IndexSet.{insert_all}
use Rattle.fab_select.specs.Selection.{firsts}
use Rattle.fab_select.proofs.Firsts.{firsts_push}
use Rattle.fab_blif_models.specs.declared.words.Kind.{Kind}
use Rattle.fab_blif_models.specs.declared.words.Kind.TheVariants as kinds
use Rattle.fab_blif_models.specs.Words.{Word, kind_of, begins_model, ends_model, ends_cover, is_row_kind, is_model, is_end, is_row, is_statement}
use Rattle.fab_blif_models.specs.Covers.{rows_on}
use Rattle.fab_blif_models.specs.Context.{named_by, named, model_lines, ports, width_by, width_of, open_rows, context_of}
use Rattle.fab_blif_models.specs.inner.Following.{with_ports, context_after}
use Rattle.fab_blif_models.proofs.Parts.{any_push, after_push, after_passes, filter_push, filter_kept, last_or-push}
use Rattle.fab_blif_models.proofs.Cubes.{rows_on-push}

-- more names, each at its first place
firsts_append : (names more : List Word) → firsts bytes_eq (names ++ more) ≡ insert_all bytes_eq (firsts bytes_eq names) more
firsts_append names [] = ap (firsts bytes_eq) (append-nil names)
firsts_append names (name ∷ more) =
    ap (firsts bytes_eq) (sym (append_assoc names (name ∷ []) more))
    ∙ firsts_append (names ++ name ∷ []) more
    ∙ ap (λ (keys : List Word). insert_all bytes_eq keys more) (firsts_push bytes_eq bytes_eq-Decides names name)

ports_more : (asked : Kind) (lines : List (List Word)) (line : List Word) → is_model line ≡ false → ports asked (lines ++ line ∷ []) ≡ insert_all bytes_eq (ports asked lines) (named asked line)
ports_more asked lines line within =
    ap (λ (l : List (List Word)). firsts bytes_eq (flat_map (named asked) l)) (after_push is_model lines line within)
    ∙ ap (firsts bytes_eq) (flat_map-append (named asked) (model_lines lines) (line ∷ []) ∙ ap (λ (l : List Word). flat_map (named asked) (model_lines lines) ++ l) (append-nil (named asked line)))
    ∙ firsts_append (flat_map (named asked) (model_lines lines)) (named asked line)

or_when_false : (a b : Bool) → b ≡ false → (a || b) ≡ a
or_when_false true b h = refl
or_when_false false b h = h

or_when_true : (a b : Bool) → b ≡ true → (a || b) ≡ true
or_when_true true b h = refl
or_when_true false b h = h

begun_kept : (lines : List (List Word)) (line : List Word) → is_model line ≡ false → list_any is_model (lines ++ line ∷ []) ≡ list_any is_model lines
begun_kept lines line within = any_push is_model lines line ∙ or_when_false (list_any is_model lines) (is_model line) within

ended_kept : (lines : List (List Word)) (line : List Word) → is_model line ≡ false → is_end line ≡ false → list_any is_end (model_lines (lines ++ line ∷ [])) ≡ list_any is_end (model_lines lines)
ended_kept lines line within open_still =
    ap (list_any is_end) (after_push is_model lines line within) ∙ any_push is_end (model_lines lines) line ∙ or_when_false (list_any is_end (model_lines lines)) (is_end line) open_still

width_new : (lines : List (List Word)) (line : List Word) → is_statement line ≡ true → width_of (last_or None (filter is_statement (lines ++ line ∷ []))) ≡ width_by (kind_of line) line
width_new lines line ends = ap (λ (l : List (List Word)). width_of (last_or None l)) (filter_push is_statement lines line ends) ∙ ap width_of (last_or-push None (filter is_statement lines) line)

width_kept : (lines : List (List Word)) (line : List Word) → is_statement line ≡ false → width_of (last_or None (filter is_statement (lines ++ line ∷ []))) ≡ width_of (last_or None (filter is_statement lines))
width_kept lines line stays = ap (λ (l : List (List Word)). width_of (last_or None l)) (filter_kept is_statement lines line stays)

pub rows_none : (lines : List (List Word)) (line : List Word) → is_statement line ≡ true → open_rows (lines ++ line ∷ []) ≡ []
rows_none lines line ends = ap (filter is_row) (after_passes is_statement lines line ends)

pub rows_kept : (lines : List (List Word)) (line : List Word) → is_statement line ≡ false → is_row line ≡ false → open_rows (lines ++ line ∷ []) ≡ open_rows lines
rows_kept lines line stays other = ap (filter is_row) (after_push is_statement lines line stays) ∙ filter_kept is_row (after_last is_statement lines) line other

pub rows_more : (lines : List (List Word)) (line : List Word) → is_statement line ≡ false → is_row line ≡ true → open_rows (lines ++ line ∷ []) ≡ open_rows lines ++ line ∷ []
rows_more lines line stays row = ap (filter is_row) (after_push is_statement lines line stays) ∙ filter_push is_row (after_last is_statement lines) line row

-- ---- by kinds

after_statement : (lines : List (List Word)) (line : List Word) → is_model line ≡ false → is_end line ≡ false → is_statement line ≡ true
    → context_of (lines ++ line ∷ []) ≡ with_ports (context_of lines) (named kinds.Inputs line) (named kinds.Outputs line) (named kinds.Clock line) (width_by (kind_of line) line)
after_statement lines line within open_still ends = λ j. record {
  begun = begun_kept lines line within j;
  ended = ended_kept lines line within open_still j;
  inputs = ports_more kinds.Inputs lines line within j;
  outputs = ports_more kinds.Outputs lines line within j;
  clocks = ports_more kinds.Clock lines line within j;
  width = width_new lines line ends j;
  on = rows_on (rows_none lines line ends j);
}

-- a line of one of these kinds
by_kind : (lines : List (List Word)) (line : List Word) (kind : Kind) → kind_of line ≡ kind → begins_model kind ≡ false → ends_model kind ≡ false → ends_cover kind ≡ true
    → context_of (lines ++ line ∷ []) ≡ with_ports (context_of lines) (named_by kinds.Inputs kind line) (named_by kinds.Outputs kind line) (named_by kinds.Clock kind line) (width_by kind line)
by_kind lines line kind is within open_still ends =
    after_statement lines line (ap begins_model is ∙ within) (ap ends_model is ∙ open_still) (ap ends_cover is ∙ ends)
    ∙ ap (λ (k : Kind). with_ports (context_of lines) (named_by kinds.Inputs k line) (named_by kinds.Outputs k line) (named_by kinds.Clock k line) (width_by k line)) is

unnamed : (asked kind : Kind) (line : List Word) → kind_of line ≡ kind → named_by asked kind line ≡ [] → named asked line ≡ []
unnamed asked kind line is none = ap (λ (k : Kind). named_by asked k line) is ∙ none

ports_kept : (asked kind : Kind) (lines : List (List Word)) (line : List Word) → kind_of line ≡ kind → begins_model kind ≡ false → named_by asked kind line ≡ [] → ports asked (lines ++ line ∷ []) ≡ ports asked lines
ports_kept asked kind lines line is within none =
    ports_more asked lines line (ap begins_model is ∙ within) ∙ ap (insert_all bytes_eq (ports asked lines)) (unnamed asked kind line is none)

-- an empty line, or one that is passed over
idle : (lines : List (List Word)) (line : List Word) (kind : Kind) → kind_of line ≡ kind → begins_model kind ≡ false → ends_model kind ≡ false → ends_cover kind ≡ false → is_row_kind kind ≡ false
    → named_by kinds.Inputs kind line ≡ [] → named_by kinds.Outputs kind line ≡ [] → named_by kinds.Clock kind line ≡ [] → context_of (lines ++ line ∷ []) ≡ context_of lines
idle lines line kind is within open_still stays other no_input no_output no_clock = λ j. record {
  begun = begun_kept lines line (ap begins_model is ∙ within) j;
  ended = ended_kept lines line (ap begins_model is ∙ within) (ap ends_model is ∙ open_still) j;
  inputs = ports_kept kinds.Inputs kind lines line is within no_input j;
  outputs = ports_kept kinds.Outputs kind lines line is within no_output j;
  clocks = ports_kept kinds.Clock kind lines line is within no_clock j;
  width = width_kept lines line (ap ends_cover is ∙ stays) j;
  on = rows_on (rows_kept lines line (ap ends_cover is ∙ stays) (ap is_row_kind is ∙ other) j);
}

pub context_more : (lines : List (List Word)) (line : List Word) (kind : Kind) → kind_of line ≡ kind → context_of (lines ++ line ∷ []) ≡ context_after (context_of lines) kind line
context_more lines line kinds.Blank is = idle lines line kinds.Blank is refl refl refl refl refl refl refl
context_more lines line kinds.Passed is = idle lines line kinds.Passed is refl refl refl refl refl refl refl
context_more lines line kinds.Row is = λ j. record {
  begun = begun_kept lines line (ap begins_model is) j;
  ended = ended_kept lines line (ap begins_model is) (ap ends_model is) j;
  inputs = ports_kept kinds.Inputs kinds.Row lines line is refl refl j;
  outputs = ports_kept kinds.Outputs kinds.Row lines line is refl refl j;
  clocks = ports_kept kinds.Clock kinds.Row lines line is refl refl j;
  width = width_kept lines line (ap ends_cover is) j;
  on = (ap rows_on (rows_more lines line (ap ends_cover is) (ap is_row_kind is)) ∙ rows_on-push (open_rows lines) line) j;
}
context_more lines line kinds.Model is =
    let begins : is_model line ≡ true = ap begins_model is in
    let none = after_passes is_model lines line begins in
    λ j. record {
      begun = (any_push is_model lines line ∙ or_when_true (list_any is_model lines) (is_model line) begins) j;
      ended = list_any is_end (none j);
      inputs = firsts bytes_eq (flat_map (named kinds.Inputs) (none j));
      outputs = firsts bytes_eq (flat_map (named kinds.Outputs) (none j));
      clocks = firsts bytes_eq (flat_map (named kinds.Clock) (none j));
      width = (width_new lines line (ap ends_cover is) ∙ ap (λ (k : Kind). width_by k line) is) j;
      on = rows_on (rows_none lines line (ap ends_cover is) j);
    }
context_more lines line kinds.End is = λ j. record {
  begun = begun_kept lines line (ap begins_model is) j;
  ended = (ap (list_any is_end) (after_push is_model lines line (ap begins_model is)) ∙ any_push is_end (model_lines lines) line ∙ or_when_true (list_any is_end (model_lines lines)) (is_end line) (ap ends_model is)) j;
  inputs = ports_kept kinds.Inputs kinds.End lines line is refl refl j;
  outputs = ports_kept kinds.Outputs kinds.End lines line is refl refl j;
  clocks = ports_kept kinds.Clock kinds.End lines line is refl refl j;
  width = (width_new lines line (ap ends_cover is) ∙ ap (λ (k : Kind). width_by k line) is) j;
  on = rows_on (rows_none lines line (ap ends_cover is) j);
}
context_more lines line kinds.Inputs is = by_kind lines line kinds.Inputs is refl refl refl
context_more lines line kinds.Outputs is = by_kind lines line kinds.Outputs is refl refl refl
context_more lines line kinds.Clock is = by_kind lines line kinds.Clock is refl refl refl
context_more lines line kinds.Names is = by_kind lines line kinds.Names is refl refl refl
context_more lines line kinds.Latch is = by_kind lines line kinds.Latch is refl refl refl
context_more lines line kinds.Instance is = by_kind lines line kinds.Instance is refl refl refl
context_more lines line kinds.Buffer is = by_kind lines line kinds.Buffer is refl refl refl
context_more lines line kinds.Other is = by_kind lines line kinds.Other is refl refl refl
