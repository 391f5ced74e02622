-- Which bytes spell which tokens. The tokens are those of IEEE 1364-2005, clause 3, cut to fab's profile.
use Rattle.std.specs.Prelude.{◌≡◌, ℕ, ◌<◌, ◌≤◌, Bool, true, false, List, [], ◌∷◌, ◌++◌, ◌==◌, ◌||◌, ◌&&◌, length, codes, decimal, if◌then◌else◌}
use Rattle.std.specs.List.{list_all}
use Rattle.fab_syntax.specs.Spelling.{constant_text}
use Rattle.fab_tokens.specs.declared.token.Token.{Token}
use Rattle.fab_tokens.specs.declared.token.Token.TheVariants as tokens
use Rattle.fab_tokens.specs.Literals.{is_word_byte, max_number}
use Rattle.fab_tokens.specs.Tokens.{keyword_text, op_bytes, is_mark, IsIdentifier}

abbrev pub token_text : Token → List ℕ
token_text (tokens.Identifier name) = name
token_text (tokens.Keyword keyword) = keyword_text keyword
token_text (tokens.Number number) = decimal number
token_text (tokens.Constant bits) = constant_text bits
token_text (tokens.Operator op) = op_bytes op
token_text tokens.Arrow = codes "<="
token_text (tokens.Mark byte) = byte ∷ []
token_text tokens.Unknown = []

-- names are no keywords, numbers and widths in range
abbrev pub IsToken : Token → Type 0
IsToken (tokens.Identifier name) = IsIdentifier name
IsToken (tokens.Keyword keyword) = Unit {0}
IsToken (tokens.Number number) = number ≤ max_number
IsToken (tokens.Constant bits) = (0 < length bits) × (length bits ≤ max_number)
IsToken (tokens.Operator op) = Unit {0}
IsToken tokens.Arrow = Unit {0}
IsToken (tokens.Mark byte) = (is_mark byte || (byte == 61)) ≡ true
IsToken tokens.Unknown = ⊥

-- a byte that may not follow a word or a constant: it would belong to it, or to no token
abbrev pub joins_words : ℕ → Bool
joins_words byte = is_word_byte byte || ((byte == 36) || (byte == 39))

-- whether a byte behind a token would make it longer; `==` is one token
abbrev pub continues : Token → ℕ → Bool
continues (tokens.Identifier name) byte = joins_words byte
continues (tokens.Keyword keyword) byte = joins_words byte
continues (tokens.Number number) byte = joins_words byte
continues (tokens.Constant bits) byte = joins_words byte
continues (tokens.Mark mark) byte = (mark == 61) && (byte == 61)
continues _ byte = false

-- A part of a text: a blank, a tab or a line feed; a carriage return with its line feed; a comment up to the end of its line,
-- and one between `/*` and `*/`; or a token.
pub data Part : Type 0 where
  blank : (byte : ℕ) → Part
  line_end : Part
  comment : (text : List ℕ) → Part
  block : (text : List ℕ) → Part
  token : Token → Part

abbrev pub part_text : Part → List ℕ
part_text (blank byte) = byte ∷ []
part_text line_end = 13 ∷ 10 ∷ []
part_text (comment text) = 47 ∷ 47 ∷ text ++ 10 ∷ []
part_text (block text) = 47 ∷ 42 ∷ text ++ 42 ∷ 47 ∷ []
part_text (token t) = token_text t

abbrev pub is_blank : ℕ → Bool
is_blank byte = (byte == 32) || (byte == 10) || (byte == 9)

abbrev pub is_no_feed : ℕ → Bool
is_no_feed byte = if byte == 10 then false else true

abbrev pub begins_with_slash : List ℕ → Bool
begins_with_slash [] = false
begins_with_slash (byte ∷ bytes) = byte == 47

-- `*/` stands among these bytes
abbrev pub has_close : List ℕ → Bool
has_close [] = false
has_close (byte ∷ bytes) = ((byte == 42) && begins_with_slash bytes) || has_close bytes

abbrev pub IsPart : Part → Type 0
IsPart (blank byte) = is_blank byte ≡ true
IsPart line_end = Unit {0}
IsPart (comment text) = list_all is_no_feed text ≡ true
IsPart (block text) = has_close text ≡ false
IsPart (token t) = IsToken t

-- the next byte, if any, does not make this part longer
abbrev pub IsApart : Part → List ℕ → Type 0
IsApart (token t) (byte ∷ bytes) = continues t byte ≡ false
IsApart _ _ = Unit {0}

-- a comment may end with the text
pub data Tail : Type 0 where
  no_tail : Tail
  open_comment : (text : List ℕ) → Tail

abbrev pub tail_text : Tail → List ℕ
tail_text no_tail = []
tail_text (open_comment text) = 47 ∷ 47 ∷ text

abbrev pub IsTail : Tail → Type 0
IsTail no_tail = Unit {0}
IsTail (open_comment text) = list_all is_no_feed text ≡ true

abbrev pub parts_text : List Part → Tail → List ℕ
parts_text [] tail = tail_text tail
parts_text (part ∷ parts) tail = part_text part ++ parts_text parts tail

-- each part is one, and ends where the next begins
abbrev pub AreParts : List Part → Tail → Type 0
AreParts [] tail = IsTail tail
AreParts (part ∷ parts) tail = IsPart part × IsApart part (parts_text parts tail) × AreParts parts tail

abbrev pub with_token : Part → List Token → List Token
with_token (token t) ts = t ∷ ts
with_token _ ts = ts

abbrev pub tokens_in : List Part → List Token
tokens_in [] = []
tokens_in (part ∷ parts) = with_token part (tokens_in parts)

-- The bytes are those of tokens, with blanks, line ends and comments before, between and behind them.
pub record Spells (bytes : List ℕ) (ts : List Token) : Type 0 where
  pub parts : List Part
  pub tail : Tail
  pub text : bytes ≡ parts_text parts tail
  pub cut : AreParts parts tail
  pub told : ts ≡ tokens_in parts
