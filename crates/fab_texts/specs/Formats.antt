-- Formats whose lines of words are taken one after the other.
use Rattle.std.specs.Prelude.{List, Option, Some, None, Result, Ok, Err}
use Rattle.fab_base.specs.declared.problem.Problem.{Problem}
use Rattle.fab_base.specs.declared.problem.Problem.TheVariants as problems
use Rattle.fab_base.specs.declared.words.Reason.{Reason}
use Rattle.fab_lines.specs.Order.{Format}
use Rattle.fab_texts.specs.Rows.{Word, PlainRow, words_of}

abbrev pub refusal_of : {S : Type 0} → Result S Problem → Option Problem
refusal_of (Ok state) = None
refusal_of (Err problem) = Some problem

abbrev pub refused : {S : Type 0} → Reason → Result S Problem
refused reason = Err (problems.Malformed reason)

-- The format of a text in which `known lines` is what the lines so far say, `take` takes a line beside what is known or
-- refuses it, and `ending` is what is wrong with what all lines say.
abbrev pub text_format : {S : Type 0} → (known : List (List Word) → S) → (take : S → List Word → Result S Problem) → (ending : S → Option Problem) → Format PlainRow
text_format known take ending = record {
  number = λ row. row.line;
  judge = λ before row. refusal_of (take (known (words_of before)) row.words);
  ending = λ rows. ending (known (words_of rows));
}
