-- Bytes that spell tokens give them.
use Rattle.std.proofs.Common.{◌≡◌, ℕ, ◌^◌, ◌<◌, ◌≤◌, Bool, true, false, ◌==◌, ◌&&◌, ◌||◌, List, [], ◌∷◌, ◌++◌, length, map, reverse, decimal, refl, sym, ap, ◌∙◌, subst, append_assoc, append-nil, arith, rules, Option, Some, None, if◌then◌else◌}
use Rattle.std.specs.List.{list_all}
use Rattle.std.proofs.lemmas.Bool.{false≢true, true≢false, eqb-true}
use Rattle.std.proofs.lemmas.Bool.Decides.{nat_tests}
use Rattle.std.proofs.lemmas.List.{reverse-append, length-reverse}
use Rattle.std.proofs.lemmas.List.Folds.{list_all-append}
use Rattle.std.proofs.lemmas.Fmt.{decimal_nonempty}
use Rattle.fab_syntax.specs.Spelling.{digit, constant_text}
use Rattle.fab_syntax.specs.declared.tree.Op.{Op}
use Rattle.fab_syntax.specs.declared.tree.Op.TheVariants as ops
use Rattle.fab_tokens.specs.declared.token.Token.{Token}
use Rattle.fab_tokens.specs.declared.token.Token.TheVariants as tokens
use Rattle.fab_tokens.specs.declared.scanner.Scan.TheVariants as scans
use Rattle.fab_tokens.specs.declared.scanner.Step.{Step}
use Rattle.fab_tokens.specs.Literals.{is_word_byte, max_number}
use Rattle.fab_tokens.specs.Scanning.{step, after_byte, word_token}
use Rattle.fab_tokens.specs.Told.{step_tokens, tokens_from, tokens_of}
use Rattle.fab_tokens.specs.Tokens.{is_mark, op_bytes}
use Rattle.fab_tokens.specs.Spelled.{Part, blank, line_end, comment, block, token, part_text, Tail, no_tail, open_comment, parts_text, tokens_in, token_text, IsToken, IsPart, IsApart, AreParts, IsTail, Spells, is_blank}
use Rattle.fab_tokens.proofs.Words.{both, number_told, name_told, keyword_told, keyword_bytes, digits_again, digits_in_word}
use Rattle.fab_tokens.proofs.Constants.{constant_cut}
use Rattle.fab_tokens.proofs.Cutting.{one_byte, EndsWord, word_cut, EndsEquals, equals_cut, comment_begins, comment_passed, tail_passed}

-- one of several bytes
one_more : (P : ℕ → Type 0) (others : Bool) (byte k : ℕ) → (others ≡ true → P byte) → P k → (others || (byte == k)) ≡ true → P byte
one_more P true byte k first last holds = first refl
one_more P false byte k first last holds = subst P (sym (eqb-true byte k holds)) last

-- a mark is a token of one byte
mark_cut : (byte : ℕ) (rest : List ℕ) → is_mark byte ≡ true → tokens_from scans.Between (byte ∷ rest) ≡ tokens.Mark byte ∷ tokens_from scans.Between rest
unfolding tokens_from after_byte is_mark
mark_cut byte rest =
    let P : ℕ → Type 0 = λ b. tokens_from scans.Between (b ∷ rest) ≡ tokens.Mark b ∷ tokens_from scans.Between rest in
    one_more P _ byte 126 (one_more P _ byte 42 (one_more P _ byte 64 (one_more P _ byte 46 (one_more P _ byte 63 (one_more P _ byte 58 (one_more P _ byte 59
    (one_more P _ byte 44 (one_more P _ byte 125 (one_more P _ byte 123 (one_more P _ byte 93 (one_more P _ byte 91 (one_more P (byte == 40) byte 41
    (λ first. subst P (sym (eqb-true byte 40 first)) refl) refl) refl) refl) refl) refl) refl) refl) refl) refl) refl) refl) refl) refl

blank_passed : (byte : ℕ) (rest : List ℕ) → is_blank byte ≡ true → tokens_from scans.Between (byte ∷ rest) ≡ tokens_from scans.Between rest
unfolding tokens_from after_byte is_mark
blank_passed byte rest =
    let P : ℕ → Type 0 = λ b. tokens_from scans.Between (b ∷ rest) ≡ tokens_from scans.Between rest in
    one_more P _ byte 9 (one_more P (byte == 32) byte 10 (λ first. subst P (sym (eqb-true byte 32 first)) refl) refl) refl

return_passed : (rest : List ℕ) → tokens_from scans.Between (13 ∷ 10 ∷ rest) ≡ tokens_from scans.Between rest
unfolding tokens_from after_byte is_mark
return_passed rest = refl

operator_cut : (op : Op) (rest : List ℕ) → tokens_from scans.Between (op_bytes op ++ rest) ≡ tokens.Operator op ∷ tokens_from scans.Between rest
unfolding tokens_from after_byte is_mark
operator_cut ops.And rest = refl
operator_cut ops.Or rest = refl
operator_cut ops.Xor rest = refl
operator_cut ops.Equal rest = refl
operator_cut ops.Minus rest = refl

arrow_cut : (rest : List ℕ) → tokens_from scans.Between (60 ∷ 61 ∷ rest) ≡ tokens.Arrow ∷ tokens_from scans.Between rest
unfolding tokens_from after_byte is_mark
arrow_cut rest = refl

token_cut : (t : Token) (rest : List ℕ) → IsToken t → IsApart (token t) rest → tokens_from scans.Between (token_text t ++ rest) ≡ t ∷ tokens_from scans.Between rest
token_cut (tokens.Identifier name) rest made apart =
    word_cut name rest made.some made.bytes (elim rest as (λ r. IsApart (token (tokens.Identifier name)) r → EndsWord r) [ [] ↦ λ _. tt | byte ∷ bytes ↦ λ h. h ] apart)
    ∙ ap (λ t. t ∷ tokens_from scans.Between rest) (name_told name made.first made.free)
token_cut (tokens.Keyword keyword) rest made apart =
    word_cut _ rest (keyword_bytes keyword).0 (keyword_bytes keyword).1
    (elim rest as (λ r. IsApart (token (tokens.Keyword keyword)) r → EndsWord r) [ [] ↦ λ _. tt | byte ∷ bytes ↦ λ h. h ] apart)
    ∙ ap (λ t. t ∷ tokens_from scans.Between rest) (keyword_told keyword)
token_cut (tokens.Number number) rest made apart =
    let small : number < 2 ^ 64 = omega (arith, made) in
    word_cut (decimal number) rest (decimal_nonempty number small) (digits_in_word (decimal number) (digits_again number small))
    (elim rest as (λ r. IsApart (token (tokens.Number number)) r → EndsWord r) [ [] ↦ λ _. tt | byte ∷ bytes ↦ λ h. h ] apart)
    ∙ ap (λ t. t ∷ tokens_from scans.Between rest) (number_told number made)
token_cut (tokens.Constant bits) rest made apart =
    constant_cut bits rest made.0 made.1 (elim rest as (λ r. IsApart (token (tokens.Constant bits)) r → EndsWord r) [ [] ↦ λ _. tt | byte ∷ bytes ↦ λ h. h ] apart)
token_cut (tokens.Operator op) rest made apart = operator_cut op rest
token_cut tokens.Arrow rest made apart = arrow_cut rest
token_cut (tokens.Mark byte) rest made apart =
    let Q : ℕ → Type 0 = λ b. IsApart (token (tokens.Mark b)) rest → tokens_from scans.Between (b ∷ rest) ≡ tokens.Mark b ∷ tokens_from scans.Between rest in
    one_more Q (is_mark byte) byte 61 (λ mark _. mark_cut byte rest mark)
    (λ apart. equals_cut rest (elim rest as (λ r. IsApart (token (tokens.Mark 61)) r → EndsEquals r) [ [] ↦ λ _. tt | b ∷ bs ↦ λ h. h ] apart)) made apart
token_cut tokens.Unknown rest made apart = absurd made

tail_gives : (tail : Tail) → IsTail tail → tokens_from scans.Between (parts_text [] tail) ≡ []
unfolding tokens_from
tail_gives no_tail made = refl
tail_gives (open_comment text) made = tail_passed text made

pub parts_give : (parts : List Part) (tail : Tail) → AreParts parts tail → tokens_from scans.Between (parts_text parts tail) ≡ tokens_in parts
parts_give [] tail made = tail_gives tail made
parts_give (blank byte ∷ parts) tail made = blank_passed byte (parts_text parts tail) made.0 ∙ parts_give parts tail made.2
parts_give (line_end ∷ parts) tail made = return_passed (parts_text parts tail) ∙ parts_give parts tail made.2
parts_give (comment text ∷ parts) tail made =
    ap (λ bs. tokens_from scans.Between (47 ∷ 47 ∷ bs)) (append_assoc text (10 ∷ []) (parts_text parts tail))
    ∙ comment_passed text (parts_text parts tail) made.0 ∙ parts_give parts tail made.2
parts_give (block text ∷ parts) tail made =
    ap (λ bs. tokens_from scans.Between (47 ∷ 42 ∷ bs)) (append_assoc text (42 ∷ 47 ∷ []) (parts_text parts tail))
    ∙ comment_begins text (parts_text parts tail) made.0 ∙ parts_give parts tail made.2
parts_give (token t ∷ parts) tail made = token_cut t (parts_text parts tail) made.0 made.1 ∙ ap (λ ts. t ∷ ts) (parts_give parts tail made.2)

-- what is spelled is told
pub spelled_told : (bytes : List ℕ) (ts : List Token) → Spells bytes ts → tokens_of bytes ≡ ts
spelled_told bytes ts spelled = ap (tokens_from scans.Between) spelled.text ∙ parts_give spelled.parts spelled.tail spelled.cut ∙ sym spelled.told

-- bytes spell at most one list of tokens
pub spelled_once : (bytes : List ℕ) (ts us : List Token) → Spells bytes ts → Spells bytes us → ts ≡ us
spelled_once bytes ts us first second = sym (spelled_told bytes ts first) ∙ spelled_told bytes us second
