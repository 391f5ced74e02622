-- The laws of formats whose lines of words are taken one after the other.
use Rattle.std.proofs.Common.{◌≡◌, List, [], ◌∷◌, ◌++◌, Option, None, Result, Ok, Err, refl, sym, ap, subst, ◌∙◌, append-nil, append_assoc}
use Rattle.std.proofs.lemmas.List.{map_push}
use Rattle.fab_base.specs.declared.problem.Problem.{Problem}
use Rattle.fab_lines.specs.Order.{IsFine, judged, goes_on, read_all}
use Rattle.fab_lines.proofs.Judging.{numbered_fine}
use Rattle.fab_lines.proofs.Wholes.{FollowsFormat}
use Rattle.fab_texts.specs.Rows.{Word, PlainRow, words_of, after_row}
use Rattle.fab_texts.specs.Formats.{refusal_of, text_format}

-- what is known after a line that is taken is what is known of the lines so far with it
pub record Keeps {S : Type 0} (known : List (List Word) → S) (take : S → List Word → Result S Problem) : Type 0 where
  pub more : (front : List (List Word)) (line : List Word) (next : S) → take (known front) line ≡ Ok next → next ≡ known (front ++ line ∷ [])

judged_by : {S : Type 0} (answer : Result S Problem) (whole : S) → ((next : S) → answer ≡ Ok next → next ≡ whole) → answer ≡ judged (refusal_of answer) whole
judged_by (Ok next) whole same = ap (λ s. Ok s) (same next refl)
judged_by (Err problem) whole same = refl

-- the reader follows the format
pub follows : {S X : Type 0} (known : List (List Word) → S) (take : S → List Word → Result S Problem) (ending : S → Option Problem) (made : S → X) → Keeps known take
    → FollowsFormat (text_format known take ending) (after_row take) (λ rows. known (words_of rows)) (λ state. judged (ending state) (made state)) (λ rows. made (known (words_of rows)))
follows {S} {X} known take ending made keeps = record {
  lines = record {
    answers = λ front row fine.
        let whole : words_of (front ++ row ∷ []) ≡ words_of front ++ row.words ∷ [] = map_push (λ (r : PlainRow). r.words) front row in
        judged_by (take (known (words_of front)) row.words) (known (words_of (front ++ row ∷ []))) (λ next so. keeps.more (words_of front) row.words next so ∙ ap known (sym whole));
  };
  end = λ text fine. refl;
}

-- a line that is not refused is taken
line_taken : {S : Type 0} (answer : Result S Problem) → refusal_of answer ≡ None → (next : S) × (answer ≡ Ok next)
line_taken (Ok next) fine = (next, refl)
line_taken (Err problem) fine = absurd cc

-- what each line keeps that is taken holds of lines that are all taken
pub each_line : {S : Type 0} (known : List (List Word) → S) (take : S → List Word → Result S Problem) (ending : S → Option Problem) (P : List (List Word) → Type 0)
    → ((front : List (List Word)) (line : List Word) (next : S) → take (known front) line ≡ Ok next → P front → P (front ++ line ∷ []))
    → P [] → (rows : List PlainRow) → IsFine (text_format known take ending).judge rows → P (words_of rows)
each_line {S} known take ending P more first rows fine = on [] rows fine first
  where
    on : (front rest : List PlainRow) → IsFine (text_format known take ending).judge (front ++ rest) → P (words_of front) → P (words_of (front ++ rest))
    on front [] fine so_far = subst (λ (l : List PlainRow). P (words_of l)) (sym (append-nil front)) so_far
    on front (row ∷ rest) fine so_far =
        let same : (front ++ row ∷ []) ++ rest ≡ front ++ row ∷ rest = append_assoc front (row ∷ []) rest in
        let here = line_taken (take (known (words_of front)) row.words) (fine front row rest refl) in
        let pushed : words_of (front ++ row ∷ []) ≡ words_of front ++ row.words ∷ [] = map_push (λ (r : PlainRow). r.words) front row in
        let now : P (words_of (front ++ row ∷ [])) = subst P (sym pushed) (more (words_of front) row.words here.0 here.1 so_far) in
        subst (λ (l : List PlainRow). P (words_of l)) same (on (front ++ row ∷ []) rest (subst (IsFine (text_format known take ending).judge) (sym same) fine) now)

-- ---- lines that are taken one after the other

abbrev pub on_ok : {S T : Type 0} → (S → Result T Problem) → Result S Problem → Result T Problem
on_ok more (Ok state) = more state
on_ok more (Err problem) = Err problem

unfoldable pub taken : {S : Type 0} → (take : S → List Word → Result S Problem) → S → List (List Word) → Result S Problem
taken take state [] = Ok state
taken take state (line ∷ rest) = on_ok (λ next. taken take next rest) (take state line)

pub taken_none : {S : Type 0} (take : S → List Word → Result S Problem) (state : S) → taken take state [] ≡ Ok state
unfolding taken
taken_none take state = refl

pub taken_one : {S : Type 0} (take : S → List Word → Result S Problem) (state next : S) (line : List Word) (rest : List (List Word)) → take state line ≡ Ok next → taken take state (line ∷ rest) ≡ taken take next rest
unfolding taken
taken_one take state next line rest so = ap (on_ok (λ s. taken take s rest)) so

-- how a first line was taken
first_taken : {S T : Type 0} (more : S → Result T Problem) (answer : Result S Problem) (end : T) → on_ok more answer ≡ Ok end → (next : S) × (answer ≡ Ok next) × (more next ≡ Ok end)
first_taken more (Ok next) end so = (next, refl, so)
first_taken more (Err problem) end so = absurd cc

pub taken_both : {S : Type 0} (take : S → List Word → Result S Problem) (state middle : S) (front rest : List (List Word)) → taken take state front ≡ Ok middle → taken take state (front ++ rest) ≡ taken take middle rest
unfolding taken
taken_both {S} take state middle [] rest so = let same : state ≡ middle = cc in ap (λ (s : S). taken take s rest) same
taken_both take state middle (line ∷ front) rest so =
    let first = first_taken (λ s. taken take s front) (take state line) middle so in
    ap (on_ok (λ s. taken take s (front ++ rest))) first.1 ∙ taken_both take first.0 middle front rest first.2

-- rows of lines that are taken are read
pub rows_taken : {S : Type 0} (take : S → List Word → Result S Problem) (rows : List PlainRow) (state end : S) → taken take state (words_of rows) ≡ Ok end → read_all (after_row take) (λ row. row.line) state rows ≡ Ok end
unfolding taken read_all
rows_taken take [] state end so = cc
rows_taken {S} take (row ∷ rows) state end so =
    let first = first_taken (λ s. taken take s (words_of rows)) (take state row.words) end so in
    ap (goes_on (λ (next : S). read_all (after_row take) (λ r. r.line) next rows) row.line) first.1 ∙ rows_taken take rows first.0 end first.2

-- where all lines are taken from what is known at first, no line is refused, and what is known is where they come to
pub taken_fine : {S : Type 0} (known : List (List Word) → S) (take : S → List Word → Result S Problem) (ending : S → Option Problem) → Keeps known take
    → (rows : List PlainRow) (end : S) → taken take (known []) (words_of rows) ≡ Ok end → IsFine (text_format known take ending).judge rows × (end ≡ known (words_of rows))
taken_fine {S} known take ending keeps rows end so = numbered_fine (follows known take ending (λ (s : S). s) keeps).lines rows end (rows_taken take rows (known []) end so)
