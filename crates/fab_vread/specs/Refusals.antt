-- Why a text is refused, and where, by the grammar alone: the first token with which no text begins, or the first line above a limit.
use Rattle.std.specs.Prelude.{◌≡◌, ◌⊎◌, ℕ, ◌<◌, ◌+◌, true, List, [], ◌∷◌, ◌++◌, ◌==◌, length, map, All, Option, Some, None, nat_lt, if◌then◌else◌}
use Rattle.fab_base.specs.declared.problem.Problem.{Problem}
use Rattle.fab_base.specs.declared.problem.Problem.TheVariants as problems
use Rattle.fab_base.specs.declared.words.Reason.TheVariants as reasons
use Rattle.fab_base.specs.declared.words.Quantity.TheVariants as quantities
use Rattle.fab_base.specs.declared.fault.Fault.{Fault}
use Rattle.fab_base.specs.Reading.{fault_at}
use Rattle.fab_lines.specs.Counts.{last_line}
use Rattle.fab_syntax.specs.Plain.{PlainModule}
use Rattle.fab_tokens.specs.declared.token.Token.{Token}
use Rattle.fab_tokens.specs.declared.token.Token.TheVariants as tokens
use Rattle.fab_tokens.specs.declared.token.Keyword.TheVariants as keywords
use Rattle.fab_tokens.specs.declared.scanner.Scan.{Scan}
use Rattle.fab_tokens.specs.declared.scanner.Scan.TheVariants as scans
use Rattle.fab_tokens.specs.declared.scanner.Step.{Step}
use Rattle.fab_tokens.specs.Scanning.{Lexeme, after_byte, at_end}
use Rattle.fab_grammar_defs.specs.Words.{is_foreign}
use Rattle.fab_grammar_defs.specs.Grammar.{Modules}

-- ---- tokens with their lines

-- the line of the byte behind this one
abbrev pub next_line : ℕ → (byte : ℕ) → ℕ
next_line line byte = if byte == 10 then line + 1 else line

abbrev pub lexeme : (line : ℕ) → Token → Lexeme
lexeme line token = record { token = token; line = line }

abbrev pub on_line : (line : ℕ) → Option Token → List Lexeme
on_line line None = []
on_line line (Some token) = lexeme line token ∷ []

abbrev pub step_lexemes : (line : ℕ) → Step → List Lexeme → List Lexeme
step_lexemes line step more = on_line line step.first ++ (on_line line step.second ++ more)

-- The tokens that bytes complete behind those of this scan, each on the line of the byte that completes it. A token has no line end
-- in it, so that is its own line. A comment that does not close is an unknown token on the last line.
unfoldable pub lexemes_from : Scan → (last line : ℕ) → List ℕ → List Lexeme
lexemes_from scan last line [] = on_line last (at_end scan)
lexemes_from scan last line (byte ∷ bytes) =
    step_lexemes line (after_byte scan byte) (lexemes_from (after_byte scan byte).scan line (next_line line byte) bytes)

abbrev pub lexemes_of : List ℕ → List Lexeme
lexemes_of bytes = lexemes_from scans.Between 1 1 bytes

abbrev pub tokens_in : List Lexeme → List Token
tokens_in lexemes = map (λ x. x.token) lexemes

-- ---- what tokens begin

-- some text within these bounds begins with the tokens
pub record BeginsWithin (deepest widest : ℕ) (ts : List Token) : Type 0 where
  pub more : List Token
  pub modules : List PlainModule
  pub made : Modules deepest widest (ts ++ more) modules

-- some text begins with the tokens
pub record BeginsText (ts : List Token) : Type 0 where
  pub deepest : ℕ
  pub widest : ℕ
  pub begins : BeginsWithin deepest widest ts

-- the tokens are those of a text
pub record AreText (ts : List Token) : Type 0 where
  pub deepest : ℕ
  pub widest : ℕ
  pub modules : List PlainModule
  pub made : Modules deepest widest ts modules

-- ---- what is wrong

-- The next token is in the first place of an item or a port, or in that of the edge.
pub data BeginsItem (front : List Token) : Type 0 where
  an_item : BeginsText (front ++ tokens.Keyword keywords.Wire ∷ []) → BeginsItem front
  a_port : BeginsText (front ++ tokens.Keyword keywords.Input ∷ []) → BeginsItem front
  an_edge : BeginsText (front ++ tokens.Keyword keywords.Posedge ∷ []) → BeginsItem front

-- a word of Verilog that the profile lacks, in such a place
abbrev pub IsLacking : (front : List Token) → Token → Type 0
IsLacking front (tokens.Identifier word) = (is_foreign word ≡ true) × BeginsItem front
IsLacking front _ = ⊥

-- what is wrong with a token that cannot stand behind these
pub data IsWrong (front : List Token) : Token → Problem → Type 0 where
  lacking : (word : List ℕ) → IsLacking front (tokens.Identifier word) → IsWrong front (tokens.Identifier word) (problems.Unsupported word)
  unfit : (t : Token) → (IsLacking front t → ⊥) → IsWrong front t (problems.Malformed reasons.Token)

-- the bits of the first constant that has more than 128
abbrev pub first_wide : List Token → Option ℕ
first_wide [] = None
first_wide (tokens.Constant bits ∷ ts) = if nat_lt 128 (length bits) then Some (length bits) else first_wide ts
first_wide (t ∷ ts) = first_wide ts

-- What is above its limit in these tokens: brackets, or else a constant.
pub data IsAbove (ts : List Token) : Problem → Type 0 where
  deep : ((widest : ℕ) → BeginsWithin 300 widest ts → ⊥) → IsAbove ts (problems.Limit quantities.ExpressionDepth 301 300)
  wide : (bits widest : ℕ) → BeginsWithin 300 widest ts → first_wide ts ≡ Some bits → IsAbove ts (problems.Limit quantities.LiteralBits bits 128)

-- ---- the first refusal

-- The lexemes up to somewhere on this line: those of the lines before it are within the limits.
pub record UpTo (line : ℕ) (front : List Lexeme) : Type 0 where
  pub earlier : List Lexeme
  pub here : List Lexeme
  pub parted : front ≡ earlier ++ here
  pub before_line : All (λ x. x.line < line) earlier
  pub on_it : All (λ x. x.line ≡ line) here
  pub within : BeginsWithin 300 128 (tokens_in earlier)

-- The first refusal of a text with these tokens and this last line, and the line at which it is reported.
pub data FirstRefusal (lexemes : List Lexeme) (last : ℕ) : (line : ℕ) → Problem → Type 0 where
  -- a token with which no text goes on
  by_token : {problem : Problem} (front back : List Lexeme) (x : Lexeme) → lexemes ≡ front ++ x ∷ back → UpTo x.line front →
      BeginsText (tokens_in front) → (BeginsText (tokens_in front ++ x.token ∷ []) → ⊥) → IsWrong (tokens_in front) x.token problem →
      FirstRefusal lexemes last x.line problem
  -- the text ends too early
  by_end : UpTo last lexemes → BeginsText (tokens_in lexemes) → (AreText (tokens_in lexemes) → ⊥) →
      FirstRefusal lexemes last last (problems.Malformed reasons.Token)
  -- a line is above a limit, and holds no such token
  by_limit : {problem : Problem} (line : ℕ) (front back : List Lexeme) → lexemes ≡ front ++ back → All (λ x. line < x.line) back → UpTo line front →
      BeginsText (tokens_in front) → (line < last) ⊎ AreText (tokens_in lexemes) → (BeginsWithin 300 128 (tokens_in front) → ⊥) →
      IsAbove (tokens_in front) problem → FirstRefusal lexemes last line problem

-- The fault tells the first refusal, at its line of the file.
pub record Refused (file : List ℕ) (lexemes : List Lexeme) (last : ℕ) (fault : Fault) : Type 0 where
  pub line : ℕ
  pub problem : Problem
  pub first : FirstRefusal lexemes last line problem
  pub told : fault ≡ fault_at file line problem

-- why the bytes of a file are refused
abbrev pub IsVerilogRefusal : (file bytes : List ℕ) → Fault → Type 0
IsVerilogRefusal file bytes fault = Refused file (lexemes_of bytes) (last_line bytes) fault
