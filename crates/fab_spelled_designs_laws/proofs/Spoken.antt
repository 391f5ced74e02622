-- What the models of a text say is said by words of its lines. So the ports that they declare are words.
use Rattle.std.proofs.Common.{ℕ, List, [], ◌∷◌, map, Option, Some, None, inl, inr}
use Rattle.std.specs.List.{AllByRecursion as Each, before_first, enumerate_from, position_or_len}
use Rattle.std.proofs.lemmas.Bool.{cases_Bool}
use Rattle.fab_lines.specs.Joined.{joined_lines}
use Rattle.fab_blif_models.specs.declared.words.Kind.{Kind}
use Rattle.fab_blif_models.specs.declared.words.Kind.TheVariants as kinds
use Rattle.fab_blif_models.specs.Plain.{PlainBody, PlainModel, PlainStatement}
use Rattle.fab_blif_models.specs.Rules.{declared_inputs, declared_outputs, input_names, output_names}
use Rattle.fab_blif_models.specs.Spelled.{Line, at_line, body_of, models_of, rows_in, statements}
use Rattle.fab_blif_models.specs.Words.{Word, arguments, is_model, kind_of, words}
use Rattle.fab_instances.specs.Places.{no_model, statements_of}
use Rattle.fab_blif.specs.Blif.{models_in}
use Rattle.fab_blif.proofs.Each.{each_flat, each_joined, of_place}
use Rattle.fab_spelled_designs_laws.proofs.Lines.{AreSpoken, IsSpoken, each_taken, lines_are_spoken}

-- ---- what the lines of a text say

abbrev IsSpokenLine : Line → Type 0
IsSpokenLine line = AreSpoken line.1

-- what holds of the body that a line of words says, if it says one, holds of all statements
module _ (P : PlainBody → Type 0) where
  abbrev pub Says : PlainStatement → Type 0
  Says statement = P statement.body

  abbrev pub OnBody : Option PlainBody → Type 0
  OnBody None = Unit {0}
  OnBody (Some body) = P body

  abbrev pub OfLines : Type 0
  OfLines = (kind : Kind) (line : List Word) (rows : List (List Word)) → AreSpoken line → OnBody (body_of kind line rows)

  of_line : (number : ℕ) (found : Option PlainBody) → OnBody found → Each Says (at_line number found)
  of_line number None on = tt
  of_line number (Some body) on = (on, tt)

  of_statements : OfLines → (text : List Line) → Each IsSpokenLine text → Each Says (statements text)
  of_statements of_body [] all = tt
  of_statements of_body (line ∷ after) all =
      let found = body_of (kind_of line.1) line.1 (rows_in after) in
      each_joined Says (at_line line.0 found) (statements after) (of_line line.0 found (of_body (kind_of line.1) line.1 (rows_in after) all.0)) (of_statements of_body after all.1)

  abbrev pub AllSay : PlainModel → Type 0
  AllSay model = Each Says model.statements

  of_models : OfLines → (text : List Line) → Each IsSpokenLine text → Each AllSay (models_of text)
  of_models of_body [] all = tt
  of_models of_body (line ∷ after) all = elim (cases_Bool (is_model line.1)) [
    | inl t ↦ rw t (
      of_statements of_body (before_first (λ (other : Line). is_model other.1) after) (each_taken IsSpokenLine (position_or_len (λ (other : Line). is_model other.1) after) after all.1),
      of_models of_body after all.1,
    )
    | inr f ↦ rw f (of_models of_body after all.1)
  ]

  pub models_say : OfLines → (bytes : List ℕ) → Each AllSay (models_in bytes)
  models_say of_body bytes = of_models of_body (enumerate_from 1 (map words (joined_lines bytes))) (lines_are_spoken bytes)

-- ---- ports

abbrev DeclaresWords : PlainBody → Type 0
DeclaresWords body = AreSpoken (input_names body) × AreSpoken (output_names body)

spoken_arguments : (line : List Word) → AreSpoken line → AreSpoken (arguments line)
spoken_arguments [] all = tt
spoken_arguments (word ∷ line) all = all.1

declared_words : OfLines DeclaresWords
declared_words kinds.Inputs line rows all = (spoken_arguments line all, tt)
declared_words kinds.Outputs line rows all = (tt, spoken_arguments line all)
declared_words kinds.Clock line rows all = (tt, tt)
declared_words kinds.Names line rows all = (tt, tt)
declared_words kinds.Latch line rows all = (tt, tt)
declared_words kinds.Instance line rows all = (tt, tt)
declared_words kinds.Buffer line rows all = (tt, tt)
declared_words kind line rows all = tt

first_statements : (bytes : List ℕ) → Each (Says DeclaresWords) (statements_of (models_in bytes) 0)
first_statements bytes = of_place (AllSay DeclaresWords) (models_in bytes) 0 no_model tt (models_say DeclaresWords declared_words bytes)

-- those of the first model
pub inputs_are_spoken : (bytes : List ℕ) → AreSpoken (declared_inputs (statements_of (models_in bytes) 0))
inputs_are_spoken bytes =
    each_flat (Says DeclaresWords) IsSpoken (λ (s : PlainStatement). input_names s.body) (λ s says. says.0) (statements_of (models_in bytes) 0) (first_statements bytes)

pub outputs_are_spoken : (bytes : List ℕ) → AreSpoken (declared_outputs (statements_of (models_in bytes) 0))
outputs_are_spoken bytes =
    each_flat (Says DeclaresWords) IsSpoken (λ (s : PlainStatement). output_names s.body) (λ s says. says.1) (statements_of (models_in bytes) 0) (first_statements bytes)
