-- How a text goes on: its first byte, and blanks in front of it.
use Rattle.std.proofs.Common.{◌≡◌, ℕ, Bool, true, false, cond, not, eqb, Some, None, List, [], ◌∷◌, ◌++◌, ◌||◌, ◌&&◌, refl, ap, ◌∙◌, append-nil, arith}
use Rattle.std.specs.List.{list_all}
use Rattle.std.proofs.lemmas.Bool.{and_parts, not-true, or_left}
use Rattle.std.proofs.lemmas.Bool.Decides.{nat_tests}
use Rattle.fab_lines.specs.Parts.{is_blank}
use Rattle.fab_base.specs.declared.words.Reason.{Reason}
use Rattle.fab_base.specs.declared.words.Reason.TheVariants as reasons
use Rattle.fab_fasm.specs.Parts.{unblanked, after_byte, parted, has_return, is_over, not_over, annotated as annotated_fault, tail_fault, run}
use Rattle.fab_fasm.specs.Spelled.{AreBlanks, IsComment, no_comment, comment, IsTail, bare, annotated, is_annotation}
use Rattle.fab_fasm.proofs.Cutting.{differs, list_all_weaker, no_blank, parted_at, run_stop, run_all}

-- a text is empty, or its first byte passes a test
abbrev pub begins_with : (test : ℕ → Bool) → List ℕ → Bool
begins_with test [] = true
begins_with test (first ∷ rest) = test first

pub begins_weaker : (p q : ℕ → Bool) (text : List ℕ) → ((byte : ℕ) → p byte ≡ true → q byte ≡ true) → begins_with p text ≡ true → begins_with q text ≡ true
begins_weaker p q [] weaker is = refl
begins_weaker p q (first ∷ text) weaker is = weaker first is

-- bytes that pass, in front of a text that begins so
pub begins_behind : (test : ℕ → Bool) (front rest : List ℕ) → list_all test front ≡ true → begins_with test rest ≡ true → begins_with test (front ++ rest) ≡ true
begins_behind test [] rest all is = is
begins_behind test (first ∷ front) rest all is = (and_parts (test first) (list_all test front) all).0

-- ---- blanks

pub blanks_passed : (blanks rest : List ℕ) → AreBlanks blanks → unblanked (blanks ++ rest) ≡ unblanked rest
unfolding unblanked
blanks_passed [] rest all = refl
blanks_passed (first ∷ blanks) rest all =
    let both = and_parts (is_blank first) (list_all is_blank blanks) all in
    let here : is_blank first ≡ true = both.0 in
    let more = blanks_passed blanks rest both.1 in
    rw here more

abbrev pub is_full : ℕ → Bool
is_full byte = not (is_blank byte)

pub full_stays : (text : List ℕ) → begins_with is_full text ≡ true → unblanked text ≡ text
unfolding unblanked
full_stays [] is = refl
full_stays (first ∷ text) is = no_blank first text (not-true (is_blank first) is)

-- ---- bytes that belong together, and single ones

pub run_before : (belongs : ℕ → Bool) (word rest : List ℕ) → list_all belongs word ≡ true → begins_with (λ byte. not (belongs byte)) rest ≡ true → run belongs (word ++ rest) ≡ (word, rest)
run_before belongs word [] all ends = ap (run belongs) (append-nil word) ∙ run_all belongs word all
run_before belongs word (first ∷ rest) all ends = run_stop belongs word first rest all (not-true (belongs first) ends)

pub none_after : (byte : ℕ) (text : List ℕ) → begins_with (differs byte) text ≡ true → after_byte byte text ≡ None
unfolding after_byte
none_after byte [] is = refl
none_after byte (first ∷ text) is = let other : eqb first byte ≡ false = not-true (eqb first byte) is in rw other refl

-- ---- what may follow

pub comment_full : (text : List ℕ) → IsComment text → unblanked text ≡ text
comment_full text no_comment = full_stays [] refl
comment_full text (comment {text = rest}) = full_stays (35 ∷ rest) refl

pub comment_over : (text : List ℕ) → IsComment text → is_over text ≡ true
unfolding is_over
comment_over text no_comment = refl
comment_over text (comment {text = rest}) = refl

-- a blank, a brace, or the sign of a comment
abbrev pub begins_tail : ℕ → Bool
begins_tail byte = is_blank byte || (eqb byte 123 || eqb byte 35)

blank_begins_tail : (byte : ℕ) → is_blank byte ≡ true → begins_tail byte ≡ true
blank_begins_tail byte is = or_left (is_blank byte) (eqb byte 123 || eqb byte 35) is

comment_begins : (text : List ℕ) → IsComment text → begins_with begins_tail text ≡ true
comment_begins text no_comment = refl
comment_begins text (comment {text = rest}) = refl

pub tail_begins : (text : List ℕ) → IsTail text → begins_with begins_tail text ≡ true
tail_begins text (bare blanks {last} all is) = begins_behind begins_tail blanks last (list_all_weaker is_blank begins_tail blanks blank_begins_tail all) (comment_begins last is)
tail_begins text (annotated before annotation behind {last} first inside second is) =
    begins_behind begins_tail before (123 ∷ (annotation ++ 125 ∷ (behind ++ last))) (list_all_weaker is_blank begins_tail before blank_begins_tail first) refl

-- a brace opens an annotation
brace_opens : (reason : Reason) (more : List ℕ) → cond (is_over (123 ∷ more)) None (not_over reason (after_byte 123 (123 ∷ more))) ≡ annotated_fault (parted 125 more)
unfolding is_over after_byte
brace_opens reason more = refl

-- nothing is wrong with it, whatever stands before it
pub tail_right : (reason : Reason) (text : List ℕ) → IsTail text → tail_fault reason text ≡ None
unfolding tail_fault
tail_right reason text (bare blanks {last} all is) =
    let rest : unblanked (blanks ++ last) ≡ last = blanks_passed blanks last all ∙ comment_full last is in
    let over : is_over (unblanked (blanks ++ last)) ≡ true = ap is_over rest ∙ comment_over last is in
    rw over refl
tail_right reason text (annotated before annotation behind {last} first inside second is) =
    let more : List ℕ = annotation ++ 125 ∷ (behind ++ last) in
    let start : unblanked (before ++ 123 ∷ more) ≡ 123 ∷ more = blanks_passed before (123 ∷ more) first ∙ full_stays (123 ∷ more) refl in
    let rest : unblanked (behind ++ last) ≡ last = blanks_passed behind last second ∙ comment_full last is in
    let over : is_over (unblanked (behind ++ last)) ≡ true = ap is_over rest ∙ comment_over last is in
    ap (λ (t : List ℕ). cond (is_over t) None (not_over reason (after_byte 123 t))) start
    ∙ brace_opens reason more
    ∙ ap annotated_fault (parted_at 125 annotation (behind ++ last) inside)
    ∙ ap (λ b. cond b None (Some reasons.Annotation)) over

-- ---- carriage returns

-- a byte that is no carriage return, and begins neither an annotation nor a comment
abbrev pub is_plain : ℕ → Bool
is_plain byte = not (eqb byte 13) && (not (eqb byte 35) && not (eqb byte 123))

pub plain_passed : (front rest : List ℕ) → list_all is_plain front ≡ true → has_return false (front ++ rest) ≡ has_return false rest
unfolding has_return
plain_passed [] rest all = refl
plain_passed (byte ∷ front) rest all =
    let both = and_parts (is_plain byte) (list_all is_plain front) all in
    let first = and_parts (not (eqb byte 13)) (not (eqb byte 35) && not (eqb byte 123)) both.0 in
    let second = and_parts (not (eqb byte 35)) (not (eqb byte 123)) first.1 in
    let no_return : eqb byte 13 ≡ false = not-true (eqb byte 13) first.0 in
    let no_sign : eqb byte 35 ≡ false = not-true (eqb byte 35) second.0 in
    let no_brace : eqb byte 123 ≡ false = not-true (eqb byte 123) second.1 in
    let more = plain_passed front rest both.1 in
    rw (no_return, no_sign, no_brace) more

annotation_passed : (annotation rest : List ℕ) → list_all is_annotation annotation ≡ true → has_return true (annotation ++ 125 ∷ rest) ≡ has_return false rest
unfolding has_return
annotation_passed [] rest all = refl
annotation_passed (byte ∷ annotation) rest all =
    let both = and_parts (is_annotation byte) (list_all is_annotation annotation) all in
    let inside : eqb byte 125 ≡ false = not-true (eqb byte 125) both.0 in
    let more = annotation_passed annotation rest both.1 in
    rw inside more

blank_plain : (byte : ℕ) → is_blank byte ≡ true → is_plain byte ≡ true
blank_plain byte is = grind (arith, nat_tests)

pub blanks_plain : (blanks : List ℕ) → AreBlanks blanks → list_all is_plain blanks ≡ true
blanks_plain blanks all = list_all_weaker is_blank is_plain blanks blank_plain all

comment_unreturned : (text : List ℕ) → IsComment text → has_return false text ≡ false
unfolding has_return
comment_unreturned text no_comment = refl
comment_unreturned text (comment {text = rest}) = refl

brace_returns : (more : List ℕ) → has_return false (123 ∷ more) ≡ has_return true more
unfolding has_return
brace_returns more = refl

pub tail_unreturned : (text : List ℕ) → IsTail text → has_return false text ≡ false
tail_unreturned text (bare blanks {last} all is) = plain_passed blanks last (blanks_plain blanks all) ∙ comment_unreturned last is
tail_unreturned text (annotated before annotation behind {last} first inside second is) =
    plain_passed before (123 ∷ (annotation ++ 125 ∷ (behind ++ last))) (blanks_plain before first)
    ∙ brace_returns (annotation ++ 125 ∷ (behind ++ last))
    ∙ annotation_passed annotation (behind ++ last) inside
    ∙ plain_passed behind last (blanks_plain behind second) ∙ comment_unreturned last is
