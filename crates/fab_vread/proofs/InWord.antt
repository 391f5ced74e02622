-- A word that is taken at once gives what its bytes give one by one.
use Rattle.std.proofs.Common.{◌≡◌, ℕ, ◌+◌, ◌<◌, Bool, true, false, ◌==◌, ◌&&◌, List, [], ◌∷◌, ◌++◌, length, refl, sym, ap, ◌∙◌, append_assoc, append-nil, arith, Ok, if◌then◌else◌}
use Rattle.std.specs.List.{list_all}
use Rattle.std.proofs.lemmas.Bool.{false≢true, true≢false, eqb-true}
use Rattle.fab_tokens.specs.declared.scanner.Scan.TheVariants as scans
use Rattle.fab_tokens.specs.Literals.{is_word_byte}
use Rattle.fab_tokens.specs.Scanning.{after_byte}
use Rattle.fab_vread.specs.Refusals.{next_line}
use Rattle.fab_vread.specs.inner.Machine.{Progress, after_char, read_from}
use Rattle.fab_vread.proofs.Looping.{byte_taken}

-- both of two hold
both : (a b : Bool) → (a && b) ≡ true → (a ≡ true) × (b ≡ true)
both true b h = (refl, h)
both false b h = absurd (false≢true h)

-- a line feed is in no word
same_line : (line byte : ℕ) → is_word_byte byte ≡ true → next_line line byte ≡ line
same_line line byte in_word = at (byte == 10) refl where
  at : (feed : Bool) → (byte == 10) ≡ feed → (if feed then line + 1 else line) ≡ line
  at false is = refl
  at true is = absurd (true≢false (sym in_word ∙ ap is_word_byte (eqb-true byte 10 is)))

-- behind bytes of a word
abbrev in_word : Progress → List ℕ → Progress
in_word p word = record p { scan = scans.Word word; last = p.line }

word_goes : (file : List ℕ) (p : Progress) (word : List ℕ) (byte : ℕ) → is_word_byte byte ≡ true →
    after_char file (in_word p word) byte ≡ Ok (in_word p (word ++ byte ∷ []))
unfolding after_char after_byte
word_goes file p word byte is = rw (is, same_line p.line byte is) refl

word_grows : (file : List ℕ) (p : Progress) (word more rest : List ℕ) → list_all is_word_byte more ≡ true →
    read_from file (in_word p word) (more ++ rest) ≡ read_from file (in_word p (word ++ more)) rest
word_grows file p word [] rest all = ap (λ w. read_from file (in_word p w) rest) (sym (append-nil word))
word_grows file p word (byte ∷ more) rest all =
    let parts = both (is_word_byte byte) (list_all is_word_byte more) all in
    sym (byte_taken file (in_word p word) (in_word p (word ++ byte ∷ [])) byte (more ++ rest) _ (word_goes file p word byte parts.0) refl)
    ∙ word_grows file p (word ++ byte ∷ []) more rest parts.1
    ∙ ap (λ w. read_from file (in_word p w) rest) (append_assoc word (byte ∷ []) more)

word_begins : (file : List ℕ) (p : Progress) (byte : ℕ) → p.scan ≡ scans.Between → is_word_byte byte ≡ true → after_char file p byte ≡ Ok (in_word p (byte ∷ []))
unfolding after_char after_byte
word_begins file p byte between is = rw (between, is, same_line p.line byte is) refl

pub word_taken : (file : List ℕ) (p : Progress) (word rest : List ℕ) → p.scan ≡ scans.Between → 0 < length word → list_all is_word_byte word ≡ true →
    read_from file p (word ++ rest) ≡ read_from file (in_word p word) rest
word_taken file p [] rest between some all = absurd (omega arith)
word_taken file p (byte ∷ word) rest between some all =
    let parts = both (is_word_byte byte) (list_all is_word_byte word) all in
    sym (byte_taken file p (in_word p (byte ∷ [])) byte (word ++ rest) _ (word_begins file p byte between parts.0) refl)
    ∙ word_grows file p (byte ∷ []) word rest parts.1
