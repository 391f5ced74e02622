-- The tokens of a text and how each is spelled.
use Rattle.std.specs.Prelude.{◌≡◌, ℕ, ◌<◌, ◌≤◌, Bool, true, false, IsTrue, List, [], ◌∷◌, ◌++◌, ◌==◌, ◌||◌, not, is_none, is_some, nat_le, length, codes, decimal, if◌then◌else◌, Option, Some, None}
use Rattle.std.specs.List.{list_all}
use Rattle.std.specs.Str.{bytes_eq}
use Rattle.fab_syntax.specs.Spelling.{constant_text}
use Rattle.fab_syntax.specs.declared.tree.Op.{Op}
use Rattle.fab_syntax.specs.declared.tree.Op.TheVariants.{And, Or, Xor, Equal, Minus}
use Rattle.fab_tokens.specs.declared.token.Keyword.{Keyword}
use Rattle.fab_tokens.specs.declared.token.Keyword.TheVariants as keywords
use Rattle.fab_tokens.specs.declared.token.Token.{Token}
use Rattle.fab_tokens.specs.declared.token.Token.TheVariants as tokens
use Rattle.fab_tokens.specs.Literals.{is_digit, is_word_byte, max_number}

abbrev pub keyword_text : Keyword → List ℕ
keyword_text keywords.Module = codes "module"
keyword_text keywords.Endmodule = codes "endmodule"
keyword_text keywords.Input = codes "input"
keyword_text keywords.Output = codes "output"
keyword_text keywords.Wire = codes "wire"
keyword_text keywords.Reg = codes "reg"
keyword_text keywords.Assign = codes "assign"
keyword_text keywords.Always = codes "always"
keyword_text keywords.If = codes "if"
keyword_text keywords.Posedge = codes "posedge"

-- the keyword that a word is
unfoldable pub keyword_of : List ℕ → Option Keyword
keyword_of word =
    if bytes_eq word (codes "module") then Some keywords.Module
    else if bytes_eq word (codes "endmodule") then Some keywords.Endmodule
    else if bytes_eq word (codes "input") then Some keywords.Input
    else if bytes_eq word (codes "output") then Some keywords.Output
    else if bytes_eq word (codes "wire") then Some keywords.Wire
    else if bytes_eq word (codes "reg") then Some keywords.Reg
    else if bytes_eq word (codes "assign") then Some keywords.Assign
    else if bytes_eq word (codes "always") then Some keywords.Always
    else if bytes_eq word (codes "if") then Some keywords.If
    else if bytes_eq word (codes "posedge") then Some keywords.Posedge
    else None

abbrev pub begins_with_digit : List ℕ → Bool
begins_with_digit [] = false
begins_with_digit (byte ∷ bytes) = is_digit byte

-- A name: letters, digits and `_`, of which the first is no digit, and no keyword.
pub record IsIdentifier (name : List ℕ) : Type 0 where
  pub some : 0 < length name
  pub bytes : list_all is_word_byte name ≡ true
  pub first : begins_with_digit name ≡ false
  pub free : keyword_of name ≡ None

abbrev pub op_bytes : Op → List ℕ
op_bytes And = codes "&"
op_bytes Or = codes "|"
op_bytes Xor = codes "^"
op_bytes Equal = codes "=="
op_bytes Minus = codes "-"

-- `(`, `)`, `[`, `]`, `{`, `}`, `,`, `;`, `:`, `?`, `.`, `@`, `*` and `~`
unfoldable pub is_mark : ℕ → Bool
is_mark byte =
    (byte == 40) || (byte == 41) || (byte == 91) || (byte == 93) || (byte == 123) || (byte == 125) || (byte == 44)
    || (byte == 59) || (byte == 58) || (byte == 63) || (byte == 46) || (byte == 64) || (byte == 42) || (byte == 126)
