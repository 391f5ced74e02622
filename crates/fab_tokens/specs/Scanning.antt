-- How bytes are cut into tokens, byte by byte.
use Rattle.std.specs.Prelude.{ℕ, ◌+◌, ◌≤◌, Bool, true, false, List, [], ◌∷◌, ◌++◌, ◌==◌, ◌||◌, ◌&&◌, map, if◌then◌else◌, Option, Some, None}
use Rattle.fab_syntax.specs.declared.tree.Op.{Op}
use Rattle.fab_syntax.specs.declared.tree.Op.TheVariants.{And, Or, Xor, Equal, Minus}
use Rattle.fab_tokens.specs.declared.token.Keyword.{Keyword}
use Rattle.fab_tokens.specs.declared.token.Token.{Token}
use Rattle.fab_tokens.specs.declared.token.Token.TheVariants as tokens
use Rattle.fab_tokens.specs.declared.scanner.Scan.{Scan}
use Rattle.fab_tokens.specs.declared.scanner.Scan.TheVariants as scans
use Rattle.fab_tokens.specs.declared.scanner.Step.{Step}
use Rattle.fab_tokens.specs.Literals.{is_digit, is_word_byte, number_of, constant_of}
use Rattle.fab_tokens.specs.Tokens.{keyword_of, begins_with_digit, is_mark}

-- a token with the line on which it stands
pub record Lexeme : Type 0 where
  pub token : Token
  pub line : ℕ

abbrev pub number_token : Option ℕ → Token
number_token None = tokens.Unknown
number_token (Some number) = tokens.Number number

abbrev pub name_token : (word : List ℕ) → Option Keyword → Token
name_token word None = tokens.Identifier word
name_token word (Some keyword) = tokens.Keyword keyword

-- the token of a word without an apostrophe
abbrev pub word_token : List ℕ → Token
word_token word = if begins_with_digit word then number_token (number_of word) else name_token word (keyword_of word)

abbrev pub constant_token : Option (List Bool) → Token
constant_token None = tokens.Unknown
constant_token (Some bits) = tokens.Constant bits

-- the tokens that a byte completes, and what stands between it and the next byte
abbrev pub step : Option Token → Option Token → Scan → Step
step first second scan = record { first = first; second = second; scan = scan }

abbrev pub going : Scan → Step
going scan = step None None scan

abbrev pub operator_of : ℕ → Option Op
operator_of byte =
    if byte == 38 then Some And
    else if byte == 124 then Some Or
    else if byte == 94 then Some Xor
    else if byte == 45 then Some Minus
    else None

-- After this token, if any, a byte begins something new: no token, or one of several bytes,
abbrev pub begun_other : Option Token → ℕ → Step
begun_other before byte =
    if (byte == 32) || (byte == 10) || (byte == 9) then step before None scans.Between
    else if byte == 61 then step before None scans.Equals
    else if byte == 60 then step before None scans.Less
    else if byte == 47 then step before None scans.Slash
    else if byte == 13 then step before None scans.Return
    else step before (Some tokens.Unknown) scans.Between

abbrev pub begun_operator : Option Token → ℕ → Option Op → Step
begun_operator before byte None = begun_other before byte
begun_operator before byte (Some op) = step before (Some (tokens.Operator op)) scans.Between

-- a token of one byte,
abbrev pub begun_sign : Option Token → ℕ → Step
begun_sign before byte =
    if is_mark byte then step before (Some (tokens.Mark byte)) scans.Between else begun_operator before byte (operator_of byte)

-- or a word
abbrev pub begun : Option Token → ℕ → Step
begun before byte = if is_word_byte byte then step before None (scans.Word (byte ∷ [])) else begun_sign before byte

-- A `$` belongs to the word before it, which is then no name here. An apostrophe belongs to the number before it, as the width of a
-- constant; behind another word it is no token.
abbrev pub after_word : List ℕ → ℕ → Step
after_word word byte =
    if is_word_byte byte then going (scans.Word (word ++ byte ∷ []))
    else if byte == 36 then going scans.ForeignWord
    else if (byte == 39) && begins_with_digit word then going (scans.Literal word [])
    else begun (Some (word_token word)) byte

abbrev pub after_foreign : ℕ → Step
after_foreign byte = if is_word_byte byte || (byte == 36) then going scans.ForeignWord else begun (Some tokens.Unknown) byte

abbrev pub after_literal : (width rest : List ℕ) → ℕ → Step
after_literal width rest byte =
    if is_word_byte byte || ((byte == 36) || (byte == 39)) then going (scans.Literal width (rest ++ byte ∷ []))
    else begun (Some (constant_token (constant_of width rest))) byte

abbrev pub after_equals : ℕ → Step
after_equals byte =
    if byte == 61 then step (Some (tokens.Operator Equal)) None scans.Between else begun (Some (tokens.Mark 61)) byte

abbrev pub after_less : ℕ → Step
after_less byte = if byte == 61 then step (Some tokens.Arrow) None scans.Between else begun (Some tokens.Unknown) byte

abbrev pub after_slash : ℕ → Step
after_slash byte =
    if byte == 47 then going scans.LineComment
    else if byte == 42 then going scans.BlockComment
    else begun (Some tokens.Unknown) byte

abbrev pub after_return : ℕ → Step
after_return byte = if byte == 10 then going scans.Between else begun (Some tokens.Unknown) byte

abbrev pub after_star : ℕ → Step
after_star byte =
    if byte == 47 then going scans.Between else if byte == 42 then going scans.BlockStar else going scans.BlockComment

unfoldable pub after_byte : Scan → ℕ → Step
after_byte scans.Between byte = begun None byte
after_byte (scans.Word word) byte = after_word word byte
after_byte scans.ForeignWord byte = after_foreign byte
after_byte (scans.Literal width rest) byte = after_literal width rest byte
after_byte scans.Equals byte = after_equals byte
after_byte scans.Less byte = after_less byte
after_byte scans.Slash byte = after_slash byte
after_byte scans.Return byte = after_return byte
after_byte scans.LineComment byte = if byte == 10 then going scans.Between else going scans.LineComment
after_byte scans.BlockComment byte = if byte == 42 then going scans.BlockStar else going scans.BlockComment
after_byte scans.BlockStar byte = after_star byte

-- the token that the end of the text completes
abbrev pub at_end : Scan → Option Token
at_end scans.Between = None
at_end (scans.Word word) = Some (word_token word)
at_end (scans.Literal width rest) = Some (constant_token (constant_of width rest))
at_end scans.Equals = Some (tokens.Mark 61)
at_end scans.LineComment = None
at_end _ = Some tokens.Unknown
