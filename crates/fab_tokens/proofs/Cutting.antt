-- What spells tokens gives them, byte after byte.
use Rattle.std.proofs.Common.{◌≡◌, ℕ, ◌<◌, ◌≤◌, Bool, true, false, ◌==◌, ◌&&◌, ◌||◌, List, [], ◌∷◌, ◌++◌, length, map, reverse, decimal, refl, sym, ap, ◌∙◌, subst, append_assoc, append-nil, arith, rules, Option, Some, None, if◌then◌else◌}
use Rattle.std.specs.List.{list_all}
use Rattle.std.specs.Option.{option_to_list}
use Rattle.std.proofs.lemmas.Bool.{false≢true, true≢false, eqb-true}
use Rattle.fab_syntax.specs.declared.tree.Op.{Op}
use Rattle.fab_syntax.specs.declared.tree.Op.TheVariants as ops
use Rattle.fab_tokens.specs.declared.token.Token.{Token}
use Rattle.fab_tokens.specs.declared.token.Token.TheVariants as tokens
use Rattle.fab_tokens.specs.declared.scanner.Scan.{Scan}
use Rattle.fab_tokens.specs.declared.scanner.Scan.TheVariants as scans
use Rattle.fab_tokens.specs.declared.scanner.Step.{Step}
use Rattle.fab_tokens.specs.Literals.{is_word_byte, constant_of, max_number}
use Rattle.fab_tokens.specs.Scanning.{step, going, begun, begun_sign, begun_other, begun_operator, operator_of, after_byte, after_equals, word_token, constant_token}
use Rattle.fab_tokens.specs.Told.{step_tokens, tokens_from}
use Rattle.fab_tokens.specs.Tokens.{is_mark, keyword_text, keyword_of, begins_with_digit}
use Rattle.fab_tokens.specs.Spelled.{joins_words, is_blank, is_no_feed, has_close, begins_with_slash}
use Rattle.fab_tokens.proofs.Words.{both, neither}

-- one byte
pub one_byte : (scan : Scan) (byte : ℕ) (bytes : List ℕ) (s : Step) → after_byte scan byte ≡ s → tokens_from scan (byte ∷ bytes) ≡ step_tokens s (tokens_from s.scan bytes)
unfolding tokens_from
one_byte scan byte bytes s is = ap (λ (r : Step). step_tokens r (tokens_from r.scan bytes)) is

-- ---- a token that ends where something new begins

abbrev behind : Option Token → Step → Step
behind before s = step before s.second s.scan

via_if : (before : Option Token) (c : Bool) (x y u v : Step) → x ≡ behind before u → y ≡ behind before v → (if c then x else y) ≡ behind before (if c then u else v)
via_if before true x y u v first second = first
via_if before false x y u v first second = second

begun_other-behind : (before : Option Token) (byte : ℕ) → begun_other before byte ≡ behind before (begun_other None byte)
begun_other-behind before byte =
    via_if before ((byte == 32) || (byte == 10) || (byte == 9)) _ _ _ _ refl
    (via_if before (byte == 61) _ _ _ _ refl (via_if before (byte == 60) _ _ _ _ refl (via_if before (byte == 47) _ _ _ _ refl (via_if before (byte == 13) _ _ _ _ refl refl))))

begun_operator-behind : (before : Option Token) (byte : ℕ) (op : Option Op) → begun_operator before byte op ≡ behind before (begun_operator None byte op)
begun_operator-behind before byte None = begun_other-behind before byte
begun_operator-behind before byte (Some op) = refl

begun-behind : (before : Option Token) (byte : ℕ) → begun before byte ≡ behind before (begun None byte)
begun-behind before byte =
    via_if before (is_word_byte byte) _ _ _ _ refl (via_if before (is_mark byte) _ _ _ _ refl (begun_operator-behind before byte (operator_of byte)))

-- a byte that begins something new completes the token before it
ends_before : (t : Token) (byte : ℕ) (bytes : List ℕ) →
    step_tokens (begun (Some t) byte) (tokens_from (begun (Some t) byte).scan bytes) ≡ t ∷ tokens_from scans.Between (byte ∷ bytes)
unfolding tokens_from after_byte
ends_before t byte bytes =
    ap (λ (r : Step). step_tokens r (tokens_from r.scan bytes)) (begun-behind (Some t) byte)
    ∙ sym (ap (λ (r : Step). t ∷ step_tokens r (tokens_from r.scan bytes)) (begun-behind None byte))

-- ---- words

abbrev pub EndsWord : List ℕ → Type 0
EndsWord [] = Unit {0}
EndsWord (byte ∷ bytes) = joins_words byte ≡ false

word_grows : (word more rest : List ℕ) → list_all is_word_byte more ≡ true → tokens_from (scans.Word word) (more ++ rest) ≡ tokens_from (scans.Word (word ++ more)) rest
unfolding after_byte
word_grows word [] rest all = ap (λ w. tokens_from (scans.Word w) rest) (sym (append-nil word))
word_grows word (byte ∷ more) rest all =
    let parts = both (is_word_byte byte) (list_all is_word_byte more) all in
    let grown : after_byte (scans.Word word) byte ≡ going (scans.Word (word ++ byte ∷ [])) = (let in_word = parts.0 in rw in_word refl) in
    one_byte (scans.Word word) byte (more ++ rest) (going (scans.Word (word ++ byte ∷ []))) grown
    ∙ word_grows (word ++ byte ∷ []) more rest parts.1
    ∙ ap (λ w. tokens_from (scans.Word w) rest) (append_assoc word (byte ∷ []) more)

word_ends : (word rest : List ℕ) → EndsWord rest → tokens_from (scans.Word word) rest ≡ word_token word ∷ tokens_from scans.Between rest
unfolding after_byte tokens_from
word_ends word [] ends = refl
word_ends word (byte ∷ rest) ends =
    let parts = neither (is_word_byte byte) ((byte == 36) || (byte == 39)) ends in
    let signs = neither (byte == 36) (byte == 39) parts.1 in
    let begins : after_byte (scans.Word word) byte ≡ begun (Some (word_token word)) byte =
    (let no_word = parts.0 in let no_dollar = signs.0 in let no_mark = signs.1 in rw (no_word, no_dollar, no_mark) refl) in
    one_byte (scans.Word word) byte rest (begun (Some (word_token word)) byte) begins ∙ ends_before (word_token word) byte rest

pub word_cut : (word rest : List ℕ) → 0 < length word → list_all is_word_byte word ≡ true → EndsWord rest →
    tokens_from scans.Between (word ++ rest) ≡ word_token word ∷ tokens_from scans.Between rest
unfolding after_byte
word_cut [] rest some all ends = absurd (omega arith)
word_cut (byte ∷ word) rest some all ends =
    let parts = both (is_word_byte byte) (list_all is_word_byte word) all in
    let begins : after_byte scans.Between byte ≡ step None None (scans.Word (byte ∷ [])) = (let in_word = parts.0 in rw in_word refl) in
    one_byte scans.Between byte (word ++ rest) (step None None (scans.Word (byte ∷ []))) begins
    ∙ word_grows (byte ∷ []) word rest parts.1
    ∙ word_ends (byte ∷ word) rest ends

-- ---- comments

no_feed : (c : Bool) → (if c then false else true) ≡ true → (if c then going scans.Between else going scans.LineComment) ≡ going scans.LineComment
no_feed true passes = absurd (false≢true passes)
no_feed false passes = refl

line_passed : (text rest : List ℕ) → list_all is_no_feed text ≡ true → tokens_from scans.LineComment (text ++ rest) ≡ tokens_from scans.LineComment rest
unfolding after_byte
line_passed [] rest all = refl
line_passed (byte ∷ text) rest all =
    let parts = both (is_no_feed byte) (list_all is_no_feed text) all in
    let stays : after_byte scans.LineComment byte ≡ going scans.LineComment = no_feed (byte == 10) parts.0 in
    one_byte scans.LineComment byte (text ++ rest) (going scans.LineComment) stays ∙ line_passed text rest parts.1

pub comment_passed : (text rest : List ℕ) → list_all is_no_feed text ≡ true → tokens_from scans.Between (47 ∷ 47 ∷ text ++ 10 ∷ rest) ≡ tokens_from scans.Between rest
unfolding tokens_from after_byte is_mark
comment_passed text rest all = line_passed text (10 ∷ rest) all

pub tail_passed : (text : List ℕ) → list_all is_no_feed text ≡ true → tokens_from scans.Between (47 ∷ 47 ∷ text) ≡ []
unfolding tokens_from after_byte is_mark
tail_passed text all = ap (λ t. tokens_from scans.LineComment t) (sym (append-nil text)) ∙ line_passed text [] all

-- whether the last byte of a comment is `*`
abbrev comment_scan : Bool → Scan
comment_scan true = scans.BlockStar
comment_scan false = scans.BlockComment

by_star : (c : Bool) → (if c then going scans.BlockStar else going scans.BlockComment) ≡ going (comment_scan c)
by_star true = refl
by_star false = refl

stays : (star : Bool) (byte : ℕ) → (star ≡ true → (byte == 47) ≡ false) → after_byte (comment_scan star) byte ≡ going (comment_scan (byte == 42))
unfolding after_byte
stays true byte apart = (let other : (byte == 47) ≡ false = apart refl in rw other (by_star (byte == 42)))
stays false byte apart = by_star (byte == 42)

block_passed : (text rest : List ℕ) (star : Bool) → (star ≡ true → begins_with_slash text ≡ false) → has_close text ≡ false →
    tokens_from (comment_scan star) (text ++ 42 ∷ 47 ∷ rest) ≡ tokens_from scans.Between rest
unfolding tokens_from after_byte
block_passed [] rest true apart none = refl
block_passed [] rest false apart none = refl
block_passed (byte ∷ text) rest star apart none =
    let parts = neither ((byte == 42) && begins_with_slash text) (has_close text) none in
    one_byte (comment_scan star) byte (text ++ 42 ∷ 47 ∷ rest) (going (comment_scan (byte == 42))) (stays star byte apart)
    ∙ block_passed text rest (byte == 42) (λ is. rw is at parts.0) parts.1

pub comment_begins : (text rest : List ℕ) → has_close text ≡ false → tokens_from scans.Between (47 ∷ 42 ∷ text ++ 42 ∷ 47 ∷ rest) ≡ tokens_from scans.Between rest
unfolding tokens_from after_byte is_mark
comment_begins text rest none = block_passed text rest false (λ is. absurd (false≢true is)) none

-- ---- `=`

abbrev pub EndsEquals : List ℕ → Type 0
EndsEquals [] = Unit {0}
EndsEquals (byte ∷ bytes) = (byte == 61) ≡ false

pub equals_cut : (rest : List ℕ) → EndsEquals rest → tokens_from scans.Between (61 ∷ rest) ≡ tokens.Mark 61 ∷ tokens_from scans.Between rest
unfolding tokens_from after_byte is_mark
equals_cut [] ends = refl
equals_cut (byte ∷ rest) ends =
    let begins : after_byte scans.Equals byte ≡ begun (Some (tokens.Mark 61)) byte = rw ends refl in
    one_byte scans.Equals byte rest (begun (Some (tokens.Mark 61)) byte) begins ∙ ends_before (tokens.Mark 61) byte rest

-- ---- constants

literal_grows : (width more text rest : List ℕ) → list_all is_word_byte text ≡ true →
    tokens_from (scans.Literal width more) (text ++ rest) ≡ tokens_from (scans.Literal width (more ++ text)) rest
unfolding after_byte
literal_grows width more [] rest all = ap (λ w. tokens_from (scans.Literal width w) rest) (sym (append-nil more))
literal_grows width more (byte ∷ text) rest all =
    let parts = both (is_word_byte byte) (list_all is_word_byte text) all in
    let grown : after_byte (scans.Literal width more) byte ≡ going (scans.Literal width (more ++ byte ∷ [])) = (let in_word = parts.0 in rw in_word refl) in
    one_byte (scans.Literal width more) byte (text ++ rest) (going (scans.Literal width (more ++ byte ∷ []))) grown
    ∙ literal_grows width (more ++ byte ∷ []) text rest parts.1
    ∙ ap (λ w. tokens_from (scans.Literal width w) rest) (append_assoc more (byte ∷ []) text)

literal_ends : (width more rest : List ℕ) → EndsWord rest →
    tokens_from (scans.Literal width more) rest ≡ constant_token (constant_of width more) ∷ tokens_from scans.Between rest
unfolding after_byte tokens_from
literal_ends width more [] ends = refl
literal_ends width more (byte ∷ rest) ends =
    let t = constant_token (constant_of width more) in
    let begins : after_byte (scans.Literal width more) byte ≡ begun (Some t) byte = rw ends refl in
    one_byte (scans.Literal width more) byte rest (begun (Some t) byte) begins ∙ ends_before t byte rest

-- a number, an apostrophe and what stands behind it
pub literal_cut : (width text rest : List ℕ) → begins_with_digit width ≡ true → list_all is_word_byte width ≡ true → list_all is_word_byte text ≡ true → EndsWord rest →
    tokens_from scans.Between (width ++ 39 ∷ (text ++ rest)) ≡ constant_token (constant_of width text) ∷ tokens_from scans.Between rest
unfolding after_byte
literal_cut [] text rest none all more ends = absurd (false≢true none)
literal_cut (byte ∷ width) text rest digit all more ends =
    let parts = both (is_word_byte byte) (list_all is_word_byte width) all in
    let begins : after_byte scans.Between byte ≡ step None None (scans.Word (byte ∷ [])) = (let in_word = parts.0 in rw in_word refl) in
    one_byte scans.Between byte (width ++ 39 ∷ (text ++ rest)) (step None None (scans.Word (byte ∷ []))) begins
    ∙ word_grows (byte ∷ []) width (39 ∷ (text ++ rest)) parts.1
    ∙ one_byte (scans.Word (byte ∷ width)) 39 (text ++ rest) (going (scans.Literal (byte ∷ width) [])) (rw digit refl)
    ∙ literal_grows (byte ∷ width) [] text rest more
    ∙ literal_ends (byte ∷ width) text rest ends
