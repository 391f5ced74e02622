-- Bytes that give no unknown token spell the tokens that they give.
use Rattle.std.proofs.Common.{◌≡◌, ℕ, ◌<◌, Bool, true, false, ◌==◌, ◌&&◌, ◌||◌, List, [], ◌∷◌, ◌++◌, length, length-append, refl, ap, ◌∙◌, subst, sym, arith, Option, Some, None, if◌then◌else◌, append_assoc, append-nil}
use Rattle.std.specs.List.{list_all}
use Rattle.std.specs.Option.{option_to_list}
use Rattle.std.proofs.lemmas.Bool.{eqb-true}
use Rattle.std.proofs.lemmas.List.Folds.{list_all-append}
use Rattle.fab_syntax.specs.declared.tree.Op.{Op}
use Rattle.fab_syntax.specs.declared.tree.Op.TheVariants as ops
use Rattle.fab_tokens.specs.declared.token.Token.{Token}
use Rattle.fab_tokens.specs.declared.token.Token.TheVariants as tokens
use Rattle.fab_tokens.specs.declared.scanner.Scan.{Scan}
use Rattle.fab_tokens.specs.declared.scanner.Scan.TheVariants as scans
use Rattle.fab_tokens.specs.declared.scanner.Step.{Step}
use Rattle.fab_tokens.specs.Literals.{is_word_byte, constant_of}
use Rattle.fab_tokens.specs.Tokens.{is_mark, op_bytes, begins_with_digit}
use Rattle.fab_tokens.specs.Scanning.{step, going, begun, begun_sign, begun_operator, begun_other, operator_of, word_token, constant_token, after_byte, at_end}
use Rattle.fab_tokens.specs.Told.{tokens_from, step_tokens, tokens_of}
use Rattle.fab_tokens.specs.Spelled.{Spells, blank, line_end, comment, block, token, no_tail, open_comment, token_text, IsToken, IsApart, joins_words, continues, is_blank, is_no_feed, has_close}
use Rattle.fab_tokens.proofs.Words.{both, neither}
use Rattle.fab_vread.proofs.Telling.{Known, IsSpelledAs, word_spelled, constant_spelled}

abbrev pub AllKnown : List Token → Type 0
AllKnown [] = Unit {0}
AllKnown (t ∷ ts) = Known t × AllKnown ts

-- ---- parts before others

token_before : (t : Token) (text bytes : List ℕ) (ts : List Token) → token_text t ≡ text → IsToken t → IsApart (token t) bytes → Spells bytes ts →
    Spells (text ++ bytes) (t ∷ ts)
token_before t text bytes ts is is_one apart s = record {
  parts = token t ∷ s.parts;
  tail = s.tail;
  text = ap (λ b. b ++ bytes) (sym is) ∙ ap (λ b. token_text t ++ b) s.text;
  cut = (is_one, subst (λ b. IsApart (token t) b) s.text apart, s.cut);
  told = ap (λ us. t ∷ us) s.told;
}

free_apart : (t : Token) → ((byte : ℕ) → continues t byte ≡ false) → (bytes : List ℕ) → IsApart (token t) bytes
free_apart t free [] = tt
free_apart t free (byte ∷ bytes) = free byte

spelled_before : (t : Token) (text : List ℕ) (byte : ℕ) (bytes : List ℕ) (ts : List Token) → IsSpelledAs text t → joins_words byte ≡ false → Spells (byte ∷ bytes) ts →
    Spells (text ++ byte ∷ bytes) (t ∷ ts)
spelled_before t text byte bytes ts w apart s = token_before t text (byte ∷ bytes) ts w.text w.is_one (w.word byte ∙ apart) s

spelled_last : (t : Token) (text : List ℕ) → IsSpelledAs text t → Spells (text ++ []) (t ∷ [])
spelled_last t text w = token_before t text [] [] w.text w.is_one tt (record { parts = []; tail = no_tail; text = refl; cut = tt; told = refl })

blank_before : (byte : ℕ) (bytes : List ℕ) (ts : List Token) → is_blank byte ≡ true → Spells bytes ts → Spells (byte ∷ bytes) ts
blank_before byte bytes ts is s =
    record { parts = blank byte ∷ s.parts; tail = s.tail; text = ap (λ b. byte ∷ b) s.text; cut = (is, tt, s.cut); told = s.told }

end_before : (bytes : List ℕ) (ts : List Token) → Spells bytes ts → Spells (13 ∷ 10 ∷ bytes) ts
end_before bytes ts s = record { parts = line_end ∷ s.parts; tail = s.tail; text = ap (λ b. 13 ∷ 10 ∷ b) s.text; cut = (tt, tt, s.cut); told = s.told }

comment_before : (text bytes : List ℕ) (ts : List Token) → list_all is_no_feed text ≡ true → Spells bytes ts → Spells ((47 ∷ 47 ∷ text) ++ 10 ∷ bytes) ts
comment_before text bytes ts is s = record {
  parts = comment text ∷ s.parts;
  tail = s.tail;
  text = ap (λ b. 47 ∷ 47 ∷ (text ++ 10 ∷ b)) s.text ∙ ap (λ b. 47 ∷ 47 ∷ b) (sym (append_assoc text (10 ∷ []) _));
  cut = (is, tt, s.cut);
  told = s.told;
}

block_before : (text bytes : List ℕ) (ts : List Token) → has_close text ≡ false → Spells bytes ts → Spells ((47 ∷ 42 ∷ text ++ 42 ∷ []) ++ 47 ∷ bytes) ts
block_before text bytes ts is s = record {
  parts = block text ∷ s.parts;
  tail = s.tail;
  text = ap (λ b. 47 ∷ 42 ∷ b) (append_assoc text (42 ∷ []) (47 ∷ bytes)) ∙ ap (λ b. 47 ∷ 42 ∷ (text ++ 42 ∷ 47 ∷ b)) s.text
      ∙ ap (λ b. 47 ∷ 42 ∷ b) (sym (append_assoc text (42 ∷ 47 ∷ []) _));
  cut = (is, tt, s.cut);
  told = s.told;
}

-- ---- bytes since the last token

data Pending : Scan → List ℕ → Type 0 where
  at_rest : Pending scans.Between []
  in_word : (word : List ℕ) → 0 < length word → list_all is_word_byte word ≡ true → Pending (scans.Word word) word
  in_foreign : (word : List ℕ) → Pending scans.ForeignWord word
  in_literal : (width rest : List ℕ) → Pending (scans.Literal width rest) (width ++ 39 ∷ rest)
  at_equals : Pending scans.Equals (61 ∷ [])
  at_less : Pending scans.Less (60 ∷ [])
  at_slash : Pending scans.Slash (47 ∷ [])
  at_return : Pending scans.Return (13 ∷ [])
  in_line : (text : List ℕ) → list_all is_no_feed text ≡ true → Pending scans.LineComment (47 ∷ 47 ∷ text)
  in_block : (text : List ℕ) → ((more : List ℕ) → has_close (text ++ more) ≡ has_close more) → Pending scans.BlockComment (47 ∷ 42 ∷ text)
  in_star : (text : List ℕ) → ((more : List ℕ) → has_close (text ++ 42 ∷ more) ≡ has_close (42 ∷ more)) → Pending scans.BlockStar (47 ∷ 42 ∷ text ++ 42 ∷ [])

-- the rest of the bytes spells its tokens, whatever stands before them
abbrev Rest : List ℕ → Type 0
Rest bytes = (scan : Scan) (p : List ℕ) → Pending scan p → AllKnown (tokens_from scan bytes) → Spells (p ++ bytes) (tokens_from scan bytes)

-- what a byte does behind a token
abbrev After : Option Token → ℕ → List ℕ → Step → Type 0
After before byte bytes s = AllKnown (step_tokens s (tokens_from s.scan bytes)) →
    (us : List Token) × (step_tokens s (tokens_from s.scan bytes) ≡ option_to_list before ++ us) × Spells (byte ∷ bytes) us

after_if : (before : Option Token) (byte : ℕ) (bytes : List ℕ) (b : Bool) (x y : Step) → (b ≡ true → After before byte bytes x) → (b ≡ false → After before byte bytes y) →
    After before byte bytes (if b then x else y)
after_if before byte bytes true x y p q = p refl
after_if before byte bytes false x y p q = q refl

known_behind : (o : Option Token) (ts : List Token) → AllKnown (option_to_list o ++ ts) → AllKnown ts
known_behind None ts h = h
known_behind (Some t) ts h = h.1

-- a byte by which a state begins
begins_state : (before : Option Token) (byte : ℕ) (bytes : List ℕ) (scan : Scan) → Rest bytes → Pending scan (byte ∷ []) →
    After before byte bytes (step before None scan)
begins_state before byte bytes scan rest p = λ known.
    (tokens_from scan bytes, refl, rest scan (byte ∷ []) p (known_behind before (tokens_from scan bytes) known))

at_byte : (P : ℕ → Type 0) (byte k : ℕ) → (byte == k) ≡ true → P k → P byte
at_byte P byte k same h = subst P (sym (eqb-true byte k same)) h

other_after : (before : Option Token) (byte : ℕ) (bytes : List ℕ) → Rest bytes → After before byte bytes (begun_other before byte)
other_after before byte bytes rest =
    after_if before byte bytes ((byte == 32) || (byte == 10) || (byte == 9)) _ _
    (λ is known. (tokens_from scans.Between bytes, refl, blank_before byte bytes _ is (rest scans.Between [] at_rest (known_behind before _ known))))
    (λ is_no. after_if before byte bytes (byte == 61) _ _
    (λ is. at_byte (λ b. After before b bytes (step before None scans.Equals)) byte 61 is (begins_state before 61 bytes scans.Equals rest at_equals))
    (λ is_no. after_if before byte bytes (byte == 60) _ _
    (λ is. at_byte (λ b. After before b bytes (step before None scans.Less)) byte 60 is (begins_state before 60 bytes scans.Less rest at_less))
    (λ is_no. after_if before byte bytes (byte == 47) _ _
    (λ is. at_byte (λ b. After before b bytes (step before None scans.Slash)) byte 47 is (begins_state before 47 bytes scans.Slash rest at_slash))
    (λ is_no. after_if before byte bytes (byte == 13) _ _
    (λ is. at_byte (λ b. After before b bytes (step before None scans.Return)) byte 13 is (begins_state before 13 bytes scans.Return rest at_return))
    (λ is_no known. absurd (known_behind before (tokens.Unknown ∷ tokens_from scans.Between bytes) known).0)))))

abbrev OpIs : ℕ → Option Op → Type 0
OpIs byte None = Unit {0}
OpIs byte (Some op) = op_bytes op ≡ byte ∷ []

op_if : (byte k : ℕ) (op : Op) (other : Option Op) → op_bytes op ≡ k ∷ [] → OpIs byte other → OpIs byte (if byte == k then Some op else other)
op_if byte k op other is h = op_when (byte == k) refl where
  op_when : (b : Bool) → (byte == k) ≡ b → OpIs byte (if b then Some op else other)
  op_when true same = is ∙ ap (λ b. b ∷ []) (sym (eqb-true byte k same))
  op_when false same = h

op_is : (byte : ℕ) → OpIs byte (operator_of byte)
op_is byte = op_if byte 38 ops.And _ refl (op_if byte 124 ops.Or _ refl (op_if byte 94 ops.Xor _ refl (op_if byte 45 ops.Minus _ refl tt)))

operator_after : (before : Option Token) (byte : ℕ) (bytes : List ℕ) (o : Option Op) → OpIs byte o → Rest bytes → After before byte bytes (begun_operator before byte o)
operator_after before byte bytes None is rest = other_after before byte bytes rest
operator_after before byte bytes (Some op) is rest = λ known.
    let ts = tokens_from scans.Between bytes in (
      tokens.Operator op ∷ ts,
      refl,
      token_before (tokens.Operator op) (byte ∷ []) bytes ts is tt (free_apart (tokens.Operator op) (λ b. refl) bytes)
          (rest scans.Between [] at_rest (known_behind before (tokens.Operator op ∷ ts) known).1),
    )

no_equals : (byte : ℕ) → is_mark byte ≡ true → (byte == 61) ≡ false
unfolding is_mark
no_equals byte is = no_equals_by (byte == 61) refl where
  no_equals_by : (b : Bool) → (byte == 61) ≡ b → b ≡ false
  no_equals_by true same = let e : is_mark 61 ≡ true = subst (λ b. is_mark b ≡ true) (eqb-true byte 61 same) is in absurd (cc)
  no_equals_by false same = refl

sign_after : (before : Option Token) (byte : ℕ) (bytes : List ℕ) → Rest bytes → After before byte bytes (begun_sign before byte)
sign_after before byte bytes rest =
    after_if before byte bytes (is_mark byte) _ _
    (λ is known. let ts = tokens_from scans.Between bytes in (
      tokens.Mark byte ∷ ts,
      refl,
      token_before (tokens.Mark byte) (byte ∷ []) bytes ts refl (ap (λ b. b || (byte == 61)) is)
          (free_apart (tokens.Mark byte) (λ b. ap (λ c. c && (b == 61)) (no_equals byte is)) bytes)
          (rest scans.Between [] at_rest (known_behind before (tokens.Mark byte ∷ ts) known).1),
    ))
    (λ is_no. operator_after before byte bytes (operator_of byte) (op_is byte) rest)

one_word : (byte : ℕ) → is_word_byte byte ≡ true → list_all is_word_byte (byte ∷ []) ≡ true
one_word byte is = rw is refl

begun_after : (before : Option Token) (byte : ℕ) (bytes : List ℕ) → Rest bytes → After before byte bytes (begun before byte)
begun_after before byte bytes rest =
    after_if before byte bytes (is_word_byte byte) _ _
    (λ is. begins_state before byte bytes (scans.Word (byte ∷ [])) rest (in_word (byte ∷ []) (omega arith) (one_word byte is)))
    (λ is_no. sign_after before byte bytes rest)

-- ---- the next byte

-- what stands before a byte and it spell the tokens that the step gives
abbrev Steps : List ℕ → ℕ → List ℕ → Step → Type 0
Steps p byte bytes s = AllKnown (step_tokens s (tokens_from s.scan bytes)) → Spells (p ++ byte ∷ bytes) (step_tokens s (tokens_from s.scan bytes))

steps_if : (p : List ℕ) (byte : ℕ) (bytes : List ℕ) (b : Bool) (x y : Step) → (b ≡ true → Steps p byte bytes x) → (b ≡ false → Steps p byte bytes y) →
    Steps p byte bytes (if b then x else y)
steps_if p byte bytes true x y f g = f refl
steps_if p byte bytes false x y f g = g refl

-- a byte that belongs to what stands before it
grows : (p : List ℕ) (byte : ℕ) (bytes : List ℕ) (scan : Scan) (q : List ℕ) → Rest bytes → Pending scan q → q ≡ p ++ byte ∷ [] → Steps p byte bytes (going scan)
grows p byte bytes scan q rest pending is = λ known.
    subst (λ b. Spells b (tokens_from scan bytes)) (ap (λ b. b ++ bytes) is ∙ append_assoc p (byte ∷ []) bytes) (rest scan q pending known)

ends_token : (p : List ℕ) (t : Token) (byte : ℕ) (bytes : List ℕ) (s : Step) → ((us : List Token) → Known t → Spells (byte ∷ bytes) us → Spells (p ++ byte ∷ bytes) (t ∷ us)) →
    After (Some t) byte bytes s → Steps p byte bytes s
ends_token p t byte bytes s made after = λ known.
    let x = after known in
    let k : AllKnown (t ∷ x.0) = subst AllKnown x.1 known in
    subst (λ ts. Spells (p ++ byte ∷ bytes) ts) (sym x.1) (made x.0 k.0 x.2)

unknown_token : (p : List ℕ) (byte : ℕ) (bytes : List ℕ) (s : Step) → After (Some tokens.Unknown) byte bytes s → Steps p byte bytes s
unknown_token p byte bytes s after = ends_token p tokens.Unknown byte bytes s (λ us known spelled. absurd known) after

joins_nothing : (byte : ℕ) → is_word_byte byte ≡ false → (byte == 36) ≡ false → (byte == 39) ≡ false → joins_words byte ≡ false
joins_nothing byte a b c = rw (a, b, c) refl

-- A byte behind a word ends it. An apostrophe that is not behind a number is no token.
word_over : (word : List ℕ) (byte : ℕ) (bytes : List ℕ) → Rest bytes → 0 < length word → list_all is_word_byte word ≡ true →
    is_word_byte byte ≡ false → (byte == 36) ≡ false → (quote : Bool) → (byte == 39) ≡ quote → Steps word byte bytes (begun (Some (word_token word)) byte)
unfolding is_mark
word_over word byte bytes rest some is_word no_word no_dollar true is =
    at_byte (λ b. Steps word b bytes (begun (Some (word_token word)) b)) byte 39 is (λ known. absurd known.1.0)
word_over word byte bytes rest some is_word no_word no_dollar false no_quote =
    ends_token word (word_token word) byte bytes (begun (Some (word_token word)) byte)
    (λ us known s. spelled_before (word_token word) word byte bytes us (word_spelled word some is_word known) (joins_nothing byte no_word no_dollar no_quote) s)
    (begun_after (Some (word_token word)) byte bytes rest)

word_push : (word : List ℕ) (byte : ℕ) → list_all is_word_byte word ≡ true → is_word_byte byte ≡ true → list_all is_word_byte (word ++ byte ∷ []) ≡ true
word_push word byte a b = list_all-append is_word_byte word (byte ∷ []) ∙ rw (a, b) refl

feed_free : (byte : ℕ) → (byte == 10) ≡ false → is_no_feed byte ≡ true
feed_free byte is = rw is refl

line_push : (text : List ℕ) (byte : ℕ) → list_all is_no_feed text ≡ true → (byte == 10) ≡ false → list_all is_no_feed (text ++ byte ∷ []) ≡ true
line_push text byte a b = list_all-append is_no_feed text (byte ∷ []) ∙ rw (a, b) refl

close_front : (text more : List ℕ) → has_close (text ++ more) ≡ false → has_close text ≡ false
close_front [] more h = refl
close_front (byte ∷ []) more h = close_none (byte == 42) where
  close_none : (b : Bool) → ((b && false) || false) ≡ false
  close_none true = refl
  close_none false = refl
close_front (byte ∷ next ∷ text) more h =
    let k = neither ((byte == 42) && (next == 47)) (has_close (next ∷ (text ++ more))) h in
    let front = k.0 in
    let behind : has_close (next ∷ text) ≡ false = close_front (next ∷ text) more k.1 in
    rw (front, behind) refl

-- a byte of a comment that ends nothing
block_push : (text : List ℕ) (byte : ℕ) → ((more : List ℕ) → has_close (text ++ more) ≡ has_close more) → (byte == 42) ≡ false → (more : List ℕ) →
    has_close ((text ++ byte ∷ []) ++ more) ≡ has_close more
block_push text byte inert is more = ap has_close (append_assoc text (byte ∷ []) more) ∙ inert (byte ∷ more) ∙ rw is refl

star_push : (text : List ℕ) (byte : ℕ) → ((more : List ℕ) → has_close (text ++ 42 ∷ more) ≡ has_close (42 ∷ more)) → (byte == 47) ≡ false → (byte == 42) ≡ false →
    (more : List ℕ) → has_close (((text ++ 42 ∷ []) ++ byte ∷ []) ++ more) ≡ has_close more
star_push text byte inert no_slash no_star more =
    ap has_close (append_assoc (text ++ 42 ∷ []) (byte ∷ []) more ∙ append_assoc text (42 ∷ []) (byte ∷ more)) ∙ inert (byte ∷ more) ∙ rw (no_slash, no_star) refl

star_again : (text : List ℕ) → ((more : List ℕ) → has_close (text ++ 42 ∷ more) ≡ has_close (42 ∷ more)) → (more : List ℕ) →
    has_close ((text ++ 42 ∷ []) ++ 42 ∷ more) ≡ has_close (42 ∷ more)
star_again text inert more = ap has_close (append_assoc text (42 ∷ []) (42 ∷ more)) ∙ inert (42 ∷ more)

byte_step : (byte : ℕ) (bytes : List ℕ) → Rest bytes → (scan : Scan) (p : List ℕ) → Pending scan p → Steps p byte bytes (after_byte scan byte)
unfolding after_byte is_mark
byte_step byte bytes rest scan p at_rest = λ known.
    let x = begun_after None byte bytes rest known in subst (λ ts. Spells (byte ∷ bytes) ts) (sym x.1) x.2
byte_step byte bytes rest scan p (in_word word some is_word) =
    steps_if word byte bytes (is_word_byte byte) _ _
    (λ is. grows word byte bytes (scans.Word (word ++ byte ∷ [])) (word ++ byte ∷ []) rest
    (in_word (word ++ byte ∷ []) (let l = length-append word (byte ∷ []) in omega arith) (word_push word byte is_word is)) refl)
    (λ no_word. steps_if word byte bytes (byte == 36) _ _
    (λ is. grows word byte bytes scans.ForeignWord (word ++ byte ∷ []) rest (in_foreign (word ++ byte ∷ [])) refl)
    (λ no_dollar. steps_if word byte bytes ((byte == 39) && begins_with_digit word) _ _
    (λ is. at_byte (λ b. Steps word b bytes (going (scans.Literal word []))) byte 39 (both (byte == 39) (begins_with_digit word) is).0
    (grows word 39 bytes (scans.Literal word []) (word ++ 39 ∷ []) rest (in_literal word []) refl))
    (λ no_width. word_over word byte bytes rest some is_word no_word no_dollar (byte == 39) refl)))
byte_step byte bytes rest scan p (in_foreign word) =
    steps_if word byte bytes (is_word_byte byte || (byte == 36)) _ _
    (λ is. grows word byte bytes scans.ForeignWord (word ++ byte ∷ []) rest (in_foreign (word ++ byte ∷ [])) refl)
    (λ other. unknown_token word byte bytes (begun (Some tokens.Unknown) byte) (begun_after (Some tokens.Unknown) byte bytes rest))
byte_step byte bytes rest scan p (in_literal width text) =
    steps_if (width ++ 39 ∷ text) byte bytes (is_word_byte byte || ((byte == 36) || (byte == 39))) _ _
    (λ is. grows (width ++ 39 ∷ text) byte bytes (scans.Literal width (text ++ byte ∷ [])) (width ++ 39 ∷ (text ++ byte ∷ [])) rest (in_literal width (text ++ byte ∷ []))
    (sym (append_assoc width (39 ∷ text) (byte ∷ []))))
    (λ other. ends_token (width ++ 39 ∷ text) (constant_token (constant_of width text)) byte bytes (begun (Some (constant_token (constant_of width text))) byte)
    (λ us known s. spelled_before (constant_token (constant_of width text)) (width ++ 39 ∷ text) byte bytes us (constant_spelled width text known) other s)
    (begun_after (Some (constant_token (constant_of width text))) byte bytes rest))
byte_step byte bytes rest scan p at_equals =
    steps_if (61 ∷ []) byte bytes (byte == 61) _ _
    (λ is known. at_byte (λ b. Spells (61 ∷ b ∷ bytes) (tokens.Operator ops.Equal ∷ tokens_from scans.Between bytes)) byte 61 is
    (token_before (tokens.Operator ops.Equal) (61 ∷ 61 ∷ []) bytes _ refl tt (free_apart (tokens.Operator ops.Equal) (λ b. refl) bytes) (rest scans.Between [] at_rest known.1)))
    (λ other. ends_token (61 ∷ []) (tokens.Mark 61) byte bytes (begun (Some (tokens.Mark 61)) byte)
    (λ us known s. token_before (tokens.Mark 61) (61 ∷ []) (byte ∷ bytes) us refl refl other s)
    (begun_after (Some (tokens.Mark 61)) byte bytes rest))
byte_step byte bytes rest scan p at_less =
    steps_if (60 ∷ []) byte bytes (byte == 61) _ _
    (λ is known. at_byte (λ b. Spells (60 ∷ b ∷ bytes) (tokens.Arrow ∷ tokens_from scans.Between bytes)) byte 61 is
    (token_before tokens.Arrow (60 ∷ 61 ∷ []) bytes _ refl tt (free_apart tokens.Arrow (λ b. refl) bytes) (rest scans.Between [] at_rest known.1)))
    (λ other. unknown_token (60 ∷ []) byte bytes (begun (Some tokens.Unknown) byte) (begun_after (Some tokens.Unknown) byte bytes rest))
byte_step byte bytes rest scan p at_slash =
    steps_if (47 ∷ []) byte bytes (byte == 47) _ _
    (λ is. at_byte (λ b. Steps (47 ∷ []) b bytes (going scans.LineComment)) byte 47 is
    (grows (47 ∷ []) 47 bytes scans.LineComment (47 ∷ 47 ∷ []) rest (in_line [] refl) refl))
    (λ no_line. steps_if (47 ∷ []) byte bytes (byte == 42) _ _
    (λ is. at_byte (λ b. Steps (47 ∷ []) b bytes (going scans.BlockComment)) byte 42 is
    (grows (47 ∷ []) 42 bytes scans.BlockComment (47 ∷ 42 ∷ []) rest (in_block [] (λ more. refl)) refl))
    (λ other. unknown_token (47 ∷ []) byte bytes (begun (Some tokens.Unknown) byte) (begun_after (Some tokens.Unknown) byte bytes rest)))
byte_step byte bytes rest scan p at_return =
    steps_if (13 ∷ []) byte bytes (byte == 10) _ _
    (λ is known. at_byte (λ b. Spells (13 ∷ b ∷ bytes) (tokens_from scans.Between bytes)) byte 10 is (end_before bytes _ (rest scans.Between [] at_rest known)))
    (λ other. unknown_token (13 ∷ []) byte bytes (begun (Some tokens.Unknown) byte) (begun_after (Some tokens.Unknown) byte bytes rest))
byte_step byte bytes rest scan p (in_line text is_line) =
    steps_if (47 ∷ 47 ∷ text) byte bytes (byte == 10) _ _
    (λ is known. at_byte (λ b. Spells ((47 ∷ 47 ∷ text) ++ b ∷ bytes) (tokens_from scans.Between bytes)) byte 10 is
    (comment_before text bytes _ is_line (rest scans.Between [] at_rest known)))
    (λ other. grows (47 ∷ 47 ∷ text) byte bytes scans.LineComment (47 ∷ 47 ∷ (text ++ byte ∷ [])) rest (in_line (text ++ byte ∷ []) (line_push text byte is_line other)) refl)
byte_step byte bytes rest scan p (in_block text inert) =
    steps_if (47 ∷ 42 ∷ text) byte bytes (byte == 42) _ _
    (λ is. at_byte (λ b. Steps (47 ∷ 42 ∷ text) b bytes (going scans.BlockStar)) byte 42 is
    (grows (47 ∷ 42 ∷ text) 42 bytes scans.BlockStar (47 ∷ 42 ∷ text ++ 42 ∷ []) rest (in_star text (λ more. inert (42 ∷ more))) refl))
    (λ other. grows (47 ∷ 42 ∷ text) byte bytes scans.BlockComment (47 ∷ 42 ∷ (text ++ byte ∷ [])) rest (in_block (text ++ byte ∷ []) (block_push text byte inert other)) refl)
byte_step byte bytes rest scan p (in_star text inert) =
    steps_if (47 ∷ 42 ∷ text ++ 42 ∷ []) byte bytes (byte == 47) _ _
    (λ is known. at_byte (λ b. Spells ((47 ∷ 42 ∷ text ++ 42 ∷ []) ++ b ∷ bytes) (tokens_from scans.Between bytes)) byte 47 is
    (block_before text bytes _ (close_front text (42 ∷ []) (inert [])) (rest scans.Between [] at_rest known)))
    (λ no_slash. steps_if (47 ∷ 42 ∷ text ++ 42 ∷ []) byte bytes (byte == 42) _ _
    (λ is. at_byte (λ b. Steps (47 ∷ 42 ∷ text ++ 42 ∷ []) b bytes (going scans.BlockStar)) byte 42 is
    (grows (47 ∷ 42 ∷ text ++ 42 ∷ []) 42 bytes scans.BlockStar (47 ∷ 42 ∷ (text ++ 42 ∷ []) ++ 42 ∷ []) rest (in_star (text ++ 42 ∷ []) (star_again text inert)) refl))
    (λ no_star. grows (47 ∷ 42 ∷ text ++ 42 ∷ []) byte bytes scans.BlockComment (47 ∷ 42 ∷ ((text ++ 42 ∷ []) ++ byte ∷ [])) rest
    (in_block ((text ++ 42 ∷ []) ++ byte ∷ []) (star_push text byte inert no_slash no_star)) refl))

-- ---- the end

no_parts : Spells [] []
no_parts = record { parts = []; tail = no_tail; text = refl; cut = tt; told = refl }

ends_told : (scan : Scan) (p : List ℕ) → Pending scan p → AllKnown (option_to_list (at_end scan)) → Spells (p ++ []) (option_to_list (at_end scan))
unfolding is_mark
ends_told scan p at_rest known = no_parts
ends_told scan p (in_word word some is_word) known = spelled_last (word_token word) word (word_spelled word some is_word known.0)
ends_told scan p (in_foreign word) known = absurd known.0
ends_told scan p (in_literal width text) known = spelled_last (constant_token (constant_of width text)) (width ++ 39 ∷ text) (constant_spelled width text known.0)
ends_told scan p at_equals known = token_before (tokens.Mark 61) (61 ∷ []) [] [] refl refl tt no_parts
ends_told scan p at_less known = absurd known.0
ends_told scan p at_slash known = absurd known.0
ends_told scan p at_return known = absurd known.0
ends_told scan p (in_line text is_line) known =
    record { parts = []; tail = open_comment text; text = ap (λ b. 47 ∷ 47 ∷ b) (append-nil text); cut = is_line; told = refl }
ends_told scan p (in_block text inert) known = absurd known.0
ends_told scan p (in_star text inert) known = absurd known.0

scanned : (bytes : List ℕ) → Rest bytes
unfolding tokens_from
scanned [] scan p pending known = ends_told scan p pending known
scanned (byte ∷ bytes) scan p pending known = byte_step byte bytes (scanned bytes) scan p pending known

-- bytes that give no unknown token spell what they give
pub told_spelled : (bytes : List ℕ) → AllKnown (tokens_of bytes) → Spells bytes (tokens_of bytes)
told_spelled bytes known = scanned bytes scans.Between [] at_rest known
