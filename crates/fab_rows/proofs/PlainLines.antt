-- In a line without quotes and ends of records, csv finds what stands between the commas.
use Rattle.std.proofs.Common.{◌≡◌, ℕ, Bool, true, false, not, ◌&&◌, ◌||◌, cond, eqb, List, [], ◌∷◌, ◌++◌, map, Option, Some, None, refl, sym, ap, ◌∙◌, inl, inr, append_assoc, append-nil}
use Rattle.std.specs.Prelude.{unwrap_or, option_map}
use Rattle.std.specs.List.{list_all, slice_split, onto_first}
use Rattle.std.proofs.lemmas.Bool.{cases_Bool, and_parts, not-true}
use Rattle.csv.specs.Machine.{Read, step, is_end, fields_after, field_after, ends_at_end, next_record}
use Rattle.csv.specs.Reading.{default_config, strip_bom}
use Rattle.csv.specs.declared.parser.State.{State}
use Rattle.csv.specs.declared.parser.State.TheVariants as states
use Rattle.csv.specs.declared.parser.Action.{Action}
use Rattle.csv.specs.declared.parser.Action.TheVariants as actions
use Rattle.fab_lines.specs.Parts.{trimmed, without_back, is_empty_cell}
use Rattle.fab_rows.specs.Rows.{fields_of_line}
use Rattle.fab_rows.specs.inner.Plain.{is_comma, is_plain_byte}

-- within a record, and not within quotes
abbrev is_open : State → Bool
is_open states.StartRecord = false
is_open states.StartField = true
is_open states.InField = true
is_open states.InQuoted = false
is_open states.AfterQuote = false
is_open states.InEscape = false
is_open states.InComment = false
is_open states.AfterCr = false

abbrev plain_step : ℕ → State × Action
plain_step byte = cond (eqb byte 44) (states.StartField, actions.EndField) (states.InField, actions.Copy)

record IsPlain (byte : ℕ) : Type 0 where
  pub quote : eqb byte 34 ≡ false
  pub carriage_return : eqb byte 13 ≡ false
  pub line_feed : eqb byte 10 ≡ false
  pub mark : eqb byte 239 ≡ false

plain_is : (byte : ℕ) → is_plain_byte byte ≡ true → IsPlain byte
plain_is byte plain =
    let last = and_parts (not (eqb byte 34) && not (eqb byte 13) && not (eqb byte 10)) (not (eqb byte 239)) plain in
    let third = and_parts (not (eqb byte 34) && not (eqb byte 13)) (not (eqb byte 10)) last.0 in
    let first = and_parts (not (eqb byte 34)) (not (eqb byte 13)) third.0 in
    record { quote = not-true _ first.0; carriage_return = not-true _ first.1; line_feed = not-true _ third.1; mark = not-true _ last.1 }

open_step : (state : State) (byte : ℕ) → is_open state ≡ true → IsPlain byte → step default_config state byte ≡ plain_step byte
open_step states.StartField byte is_in plain = let a = plain.quote in let b = plain.carriage_return in let c = plain.line_feed in rw (a, b, c) refl
open_step states.InField byte is_in plain = let b = plain.carriage_return in let c = plain.line_feed in rw (b, c) refl
open_step states.StartRecord byte is_in plain = absurd cc
open_step states.InQuoted byte is_in plain = absurd cc
open_step states.AfterQuote byte is_in plain = absurd cc
open_step states.InEscape byte is_in plain = absurd cc
open_step states.InComment byte is_in plain = absurd cc
open_step states.AfterCr byte is_in plain = absurd cc

first_step : (byte : ℕ) → IsPlain byte → step default_config states.StartRecord byte ≡ plain_step byte
first_step byte plain = let a = plain.quote in let b = plain.carriage_return in let c = plain.line_feed in rw (b, c, a) refl

open_ends : (state : State) → is_open state ≡ true → ends_at_end state ≡ true
open_ends states.StartField is_in = refl
open_ends states.InField is_in = refl
open_ends states.StartRecord is_in = absurd cc
open_ends states.InQuoted is_in = refl
open_ends states.AfterQuote is_in = refl
open_ends states.InEscape is_in = refl
open_ends states.InComment is_in = refl
open_ends states.AfterCr is_in = absurd cc

-- a beginning of the first field
abbrev begun : List ℕ → List (List ℕ) → List (List ℕ)
begun front [] = front ∷ []
begun front (field ∷ fields) = (front ++ field) ∷ fields

begun-onto : (byte : ℕ) (fields : List (List ℕ)) → begun [] (onto_first byte fields) ≡ onto_first byte fields
begun-onto byte [] = refl
begun-onto byte (field ∷ fields) = refl

begun-none : (text : List ℕ) → begun [] (slice_split is_comma text) ≡ slice_split is_comma text
begun-none [] = refl
begun-none (byte ∷ rest) = elim (cases_Bool (eqb byte 44)) [
  | inl comma ↦ rw comma refl
  | inr other ↦ rw other (begun-onto byte (slice_split is_comma rest))
]

begun-more : (front : List ℕ) (byte : ℕ) (fields : List (List ℕ)) → begun (front ++ byte ∷ []) fields ≡ begun front (onto_first byte fields)
begun-more front byte [] = refl
begun-more front byte (field ∷ fields) = ap (λ first. first ∷ fields) (append_assoc front (byte ∷ []) field)

-- what is read after a step
abbrev after : List (List ℕ) → List ℕ → ℕ → List ℕ → State × Action → Option Read
after fields field byte rest taken =
    cond (is_end taken.1) (Some (fields_after taken.1 fields field, taken.0, rest)) (next_record default_config taken.0 (fields_after taken.1 fields field) (field_after taken.1 byte field) rest)

plain_read : (state : State) (fields : List (List ℕ)) (field text : List ℕ) → is_open state ≡ true → list_all is_plain_byte text ≡ true
    → next_record default_config state fields field text ≡ Some (fields ++ begun field (slice_split is_comma text), states.StartRecord, [])
unfolding next_record
plain_read state fields field [] is_in plain =
    let ends = open_ends state is_in in
    rw ends (ap (λ last. Some (fields ++ last ∷ [], states.StartRecord, [])) (sym (append-nil field)))
plain_read state fields field (byte ∷ rest) is_in plain =
    let parts = and_parts (is_plain_byte byte) (list_all is_plain_byte rest) plain in
    let taken = ap (after fields field byte rest) (open_step state byte is_in (plain_is byte parts.0)) in
    taken ∙ elim (cases_Bool (eqb byte 44)) [
      | inl comma ↦ rw comma (
          plain_read states.StartField (fields ++ field ∷ []) [] rest refl parts.1
          ∙ ap (λ all. Some (all, states.StartRecord, []))
          (ap (λ more. (fields ++ field ∷ []) ++ more) (begun-none rest)
          ∙ append_assoc fields (field ∷ []) (slice_split is_comma rest)
          ∙ ap (λ last. fields ++ last ∷ slice_split is_comma rest) (sym (append-nil field))))
      | inr other ↦ rw other (
          plain_read states.InField fields (field ++ byte ∷ []) rest refl parts.1
          ∙ ap (λ more. Some (fields ++ more, states.StartRecord, [])) (begun-more field byte (slice_split is_comma rest)))
    ]

first_read : (byte : ℕ) (rest : List ℕ) → IsPlain byte → next_record default_config states.StartRecord [] [] (byte ∷ rest) ≡ next_record default_config states.StartField [] [] (byte ∷ rest)
unfolding next_record
first_read byte rest plain = ap (after [] [] byte rest) (first_step byte plain ∙ sym (open_step states.StartField byte refl plain))

no_mark : (text : List ℕ) → list_all is_plain_byte text ≡ true → strip_bom text ≡ text
unfolding strip_bom
no_mark [] plain = refl
no_mark (a ∷ []) plain = refl
no_mark (a ∷ b ∷ []) plain = refl
no_mark (a ∷ b ∷ c ∷ rest) plain = let none = (plain_is a (and_parts (is_plain_byte a) _ plain).0).mark in rw none refl

-- the fields of a plain line that is not empty
plain_fields : (byte : ℕ) (rest : List ℕ) → list_all is_plain_byte (byte ∷ rest) ≡ true → fields_of_line (byte ∷ rest) ≡ slice_split is_comma (byte ∷ rest)
plain_fields byte rest plain =
    let found : Option Read → List (List ℕ) = λ read. unwrap_or (option_map (λ r. r.0) read) [] in
    ap (λ text. found (next_record default_config states.StartRecord [] [] text)) (no_mark (byte ∷ rest) plain)
    ∙ ap found (first_read byte rest (plain_is byte (and_parts (is_plain_byte byte) _ plain).0) ∙ plain_read states.StartField [] [] (byte ∷ rest) refl plain)
    ∙ begun-none (byte ∷ rest)

-- the cells of a plain line
pub plain_cells : (text : List ℕ) → list_all is_plain_byte text ≡ true → without_back is_empty_cell (map trimmed (slice_split is_comma text)) ≡ without_back is_empty_cell (map trimmed (fields_of_line text))
unfolding strip_bom next_record
plain_cells [] plain = refl
plain_cells (byte ∷ rest) plain = ap (λ fields. without_back is_empty_cell (map trimmed fields)) (sym (plain_fields byte rest plain))
