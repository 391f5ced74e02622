-- The laws of a format whose reader takes a text line by line: it reads what is fine, and refuses what is refused first.
use Rattle.std.proofs.Common.{◌≡◌, ◌≢◌, ℕ, ◌+◌, List, [], ◌∷◌, ◌++◌, length, Option, Some, None, Result, Ok, Err, IfOk, IfErr, IsOkUnless, IsErrAnd, refl, sym, ap, subst, ◌∙◌, arith, ◌⊎◌, inl, inr, append_assoc, append-nil, length-append}
use Rattle.fab_base.specs.declared.fault.Fault.{Fault}
use Rattle.fab_base.specs.declared.fault.Fault.TheVariants as faults
use Rattle.fab_base.specs.declared.problem.Problem.{Problem}
use Rattle.fab_base.specs.Reading.{Fails, Gives, IsFaultOr, fault_at}
use Rattle.fab_lines.specs.Order.{IsFine, IsFirst, IsFirstRefusal, IsFirstFault, in_turn, read_from, read_all, judged, goes_on, placed}

-- why a line is refused after those before it, if it is
abbrev pub Judge : Type 0 → Type 0
Judge L = List L → L → Option Problem

-- a reader's state after a line of this number, or why the line is refused
abbrev pub Step : Type 0 → Type 0 → Type 0
Step S L = S → ℕ → L → Result S Problem

-- A step follows a judgement: after a beginning in which no line is refused it refuses the next line for what is judged,
-- and else comes to the summary of the lines.
pub record FollowsBy {S L : Type 0} (number_of : List L → L → ℕ) (judge : Judge L) (step : Step S L) (summary : List L → S) : Type 0 where
  pub answers : (front : List L) (line : L) → IsFine judge front → step (summary front) (number_of front line) line ≡ judged (judge front line) (summary (front ++ line ∷ []))

-- the same of lines that are counted from 1
abbrev pub Follows : {S L : Type 0} → Judge L → Step S L → (List L → S) → Type 0
Follows judge step summary = FollowsBy in_turn judge step summary

-- the same of lines that have numbers of their own
abbrev pub FollowsNumbered : {S L : Type 0} → (number : L → ℕ) → Judge L → (S → L → Result S Problem) → (List L → S) → Type 0
FollowsNumbered number judge step summary = FollowsBy (λ before line. number line) judge (λ state _ line. step state line) summary

-- ---- Which texts are fine, and where the others are refused first.

-- equal lists begin alike
cons_head : {L : Type 0} (x y : L) (xs ys : List L) → x ∷ xs ≡ y ∷ ys → x ≡ y
cons_head x y xs ys same = cc

-- equal lists go on alike
cons_tail : {L : Type 0} (x y : L) (xs ys : List L) → x ∷ xs ≡ y ∷ ys → xs ≡ ys
cons_tail x y xs ys same = cc

-- two places in one list are the same, or one stands before the other
places : {L : Type 0} (a : List L) (x : L) (b c : List L) (y : L) (d : List L) → a ++ x ∷ b ≡ c ++ y ∷ d
    → ((a ≡ c) × (x ≡ y)) ⊎ (((more : List L) × (c ≡ a ++ x ∷ more)) ⊎ ((more : List L) × (a ≡ c ++ y ∷ more)))
places [] x b [] y d same = inl (refl, cons_head x y b d same)
places [] x b (z ∷ c) y d same = inr (inl (c, ap (λ w. w ∷ c) (sym (cons_head x z b (c ++ y ∷ d) same))))
places (w ∷ a) x b [] y d same = inr (inr (a, ap (λ v. v ∷ a) (cons_head w y (a ++ x ∷ b) d same)))
places (w ∷ a) x b (z ∷ c) y d same =
    let head = cons_head w z (a ++ x ∷ b) (c ++ y ∷ d) same in
    elim (places a x b c y d (cons_tail w z (a ++ x ∷ b) (c ++ y ∷ d) same)) [
      | inl here ↦ inl (ap (λ v. v ∷ a) head ∙ ap (λ l. z ∷ l) here.0, here.1)
      | inr (inl more) ↦ inr (inl (more.0, ap (λ v. v ∷ c) (sym head) ∙ ap (λ l. w ∷ l) more.1))
      | inr (inr more) ↦ inr (inr (more.0, ap (λ v. v ∷ a) head ∙ ap (λ l. z ∷ l) more.1))
    ]

-- an empty text is fine
pub fine_none : {L : Type 0} (judge : Judge L) → IsFine judge []
fine_none judge [] line after parts = absurd cc
fine_none judge (x ∷ front) line after parts = absurd cc

-- a fine text with one line more that is not refused is fine
pub fine_more : {L : Type 0} (judge : Judge L) (front : List L) (line : L) → IsFine judge front → judge front line ≡ None → IsFine judge (front ++ line ∷ [])
fine_more {L} judge front line fine taken before here after parts = elim (places front line [] before here after parts) [
  | inl same ↦ subst (λ (l : L). judge before l ≡ None) same.1 (subst (λ (f : List L). judge f line ≡ None) same.0 taken)
  | inr (inl more) ↦
      let whole : length (front ++ line ∷ []) ≡ length (before ++ here ∷ after) = ap length parts in
      let longer : length before ≡ length (front ++ line ∷ more.0) = ap length more.1 in
      absurd (omega (arith, simp length-append at whole, simp length-append at longer))
  | inr (inr more) ↦ fine before here more.0 more.1
]

-- a beginning of a fine text is fine
pub fine_front : {L : Type 0} (judge : Judge L) (front rest : List L) → IsFine judge (front ++ rest) → IsFine judge front
fine_front judge front rest fine before line after parts = fine before line (after ++ rest) (ap (λ l. l ++ rest) parts ∙ append_assoc before (line ∷ after) rest)

-- no line of a fine text is refused
pub fine_at : {L : Type 0} (judge : Judge L) (front : List L) (line : L) (rest : List L) → IsFine judge (front ++ line ∷ rest) → judge front line ≡ None
fine_at judge front line rest fine = fine front line rest refl

-- a line after a fine beginning that is refused is the first
pub first_at : {L : Type 0} (number_of : List L → L → ℕ) (judge : Judge L) (front : List L) (line : L) (rest : List L) (problem : Problem) → IsFine judge front → judge front line ≡ Some problem
    → IsFirst number_of judge (front ++ line ∷ rest) (number_of front line) problem
first_at number_of judge front line rest problem fine refused = record { before = front; line = line; after = rest; parts = refl; counted = refl; fine = fine; refused = refused }

-- what follows a refused line does not matter
pub first_stays : {L : Type 0} {number_of : List L → L → ℕ} {judge : Judge L} {text : List L} {number : ℕ} {problem : Problem} → IsFirst number_of judge text number problem → (more : List L) → IsFirst number_of judge (text ++ more) number problem
first_stays first more =
    record { before = first.before; line = first.line; after = first.after ++ more; parts = ap (λ l. l ++ more) first.parts ∙ append_assoc first.before (first.line ∷ first.after) more; counted = first.counted; fine = first.fine; refused = first.refused }

-- no text is fine and refused
pub fine_not_refused : {L : Type 0} {number_of : List L → L → ℕ} {judge : Judge L} {text : List L} {number : ℕ} {problem : Problem} → IsFine judge text → IsFirst number_of judge text number problem → ⊥
fine_not_refused fine first =
    let taken = fine first.before first.line first.after first.parts in
    let refused = first.refused in
    absurd cc

-- a text has one first refusal
pub refused_once : {L : Type 0} {number_of : List L → L → ℕ} {judge : Judge L} {text : List L} {number other : ℕ} {problem why : Problem}
    → IsFirst number_of judge text number problem → IsFirst number_of judge text other why → (number ≡ other) × (problem ≡ why)
refused_once {L} {number_of} {judge} {text} {number} {other} {problem} {why} first second = elim (places first.before first.line first.after second.before second.line second.after (sym first.parts ∙ second.parts)) [
  | inl same ↦
      let there : judge first.before first.line ≡ Some why = subst (λ (l : L). judge first.before l ≡ Some why) (sym same.1) (subst (λ (f : List L). judge f second.line ≡ Some why) (sym same.0) second.refused) in
      let here = first.refused in
      (first.counted ∙ ap (λ (f : List L). number_of f first.line) same.0 ∙ ap (number_of second.before) same.1 ∙ sym second.counted, cc)
  | inr (inl more) ↦
      let taken = second.fine first.before first.line more.0 more.1 in
      let refused = first.refused in
      absurd cc
  | inr (inr more) ↦
      let taken = first.fine second.before second.line more.0 more.1 in
      let refused = second.refused in
      absurd cc
]

-- a file's text has one first fault
pub fault_once : {L : Type 0} {judge : Judge L} {file : List ℕ} {text : List L} {fault other : Fault} → IsFirstFault judge file text fault → IsFirstFault judge file text other → fault ≡ other
fault_once {L} {judge} {file} first second =
    let once = refused_once first.first second.first in
    first.is ∙ ap (λ n. fault_at file n first.problem) once.0 ∙ ap (λ p. fault_at file second.number p) once.1 ∙ sym second.is

-- ---- What a step that follows a judgement reads.

-- how one line was taken
line_taken : {S P : Type 0} (more : S → Result S (ℕ × P)) (number : ℕ) (answer : Result S P) (end : S) → goes_on more number answer ≡ Ok end → (next : S) × (answer ≡ Ok next) × (more next ≡ Ok end)
line_taken more number (Ok next) end so = (next, refl, so)
line_taken more number (Err problem) end so = absurd cc

-- how one line was taken before the refused one, or was refused
line_refused : {S P : Type 0} (more : S → Result S (ℕ × P)) (number : ℕ) (answer : Result S P) (at : ℕ × P) → goes_on more number answer ≡ Err at
    → ((next : S) × (answer ≡ Ok next) × (more next ≡ Err at)) ⊎ ((problem : P) × (answer ≡ Err problem) × ((number, problem) ≡ at))
line_refused more number (Ok next) at so = inl (next, refl, so)
line_refused more number (Err problem) at so = inr (problem, refl, cc)

-- a line that is taken is not judged to be refused
pub judged_ok : {S : Type 0} (why : Option Problem) (state next : S) → judged why state ≡ Ok next → (why ≡ None) × (next ≡ state)
judged_ok None state next so = (refl, cc)
judged_ok (Some problem) state next so = absurd cc

-- a line is refused for what is judged
pub judged_err : {S : Type 0} (why : Option Problem) (state : S) (problem : Problem) → judged why state ≡ Err problem → why ≡ Some problem
judged_err None state problem so = absurd cc
judged_err (Some other) state problem so = cc

-- both ways of reading are one, in which a line's number comes from the lines before it
unfoldable read_in : {S L : Type 0} → (number_of : List L → L → ℕ) → Step S L → S → (front : List L) → List L → Result S (ℕ × Problem)
read_in number_of step state front [] = Ok state
read_in number_of step state front (line ∷ rest) = goes_on (λ next. read_in number_of step next (front ++ line ∷ []) rest) (number_of front line) (step state (number_of front line) line)

-- what follows a line may be read otherwise where the reading is one
goes_on-same : {S P : Type 0} (more other : S → Result S (ℕ × P)) (number : ℕ) (answer : Result S P) → ((next : S) → more next ≡ other next) → goes_on more number answer ≡ goes_on other number answer
goes_on-same more other number (Ok next) same = same next
goes_on-same more other number (Err problem) same = refl

in_turn-in : {S L : Type 0} (step : Step S L) (state : S) (front : List L) (text : List L) → read_from step state (length front + 1) text ≡ read_in in_turn step state front text
unfolding read_from read_in
in_turn-in step state front [] = refl
in_turn-in step state front (line ∷ text) =
    goes_on-same _ _ (length front + 1) (step state (length front + 1) line) (λ next.
    let number : length front + 1 + 1 ≡ length (front ++ line ∷ []) + 1 = simp length-append (omega arith) in
    ap (λ n. read_from step next n text) number ∙ in_turn-in step next (front ++ line ∷ []) text)

numbered-in : {S L : Type 0} (number : L → ℕ) (step : S → L → Result S Problem) (state : S) (front : List L) (text : List L)
    → read_all step number state text ≡ read_in (λ before line. number line) (λ s _ line. step s line) state front text
unfolding read_all read_in
numbered-in number step state front [] = refl
numbered-in number step state front (line ∷ text) = goes_on-same _ _ (number line) (step state line) (λ next. numbered-in number step next (front ++ line ∷ []) text)

-- the lines after a fine beginning, where all are taken
all_taken : {S L : Type 0} {number_of : List L → L → ℕ} {judge : Judge L} {step : Step S L} {summary : List L → S} → FollowsBy number_of judge step summary
    → (front text : List L) (end : S) → IsFine judge front → read_in number_of step (summary front) front text ≡ Ok end → IsFine judge (front ++ text) × (end ≡ summary (front ++ text))
unfolding read_in
all_taken {S} {L} {number_of} {judge} {step} {summary} follows front [] end fine so =
    let whole : front ≡ front ++ [] = sym (append-nil front) in
    let is : end ≡ summary front = cc in
    subst (λ (l : List L). IsFine judge l × (end ≡ summary l)) whole (fine, is)
all_taken {S} {L} {number_of} {judge} {step} {summary} follows front (line ∷ text) end fine so =
    let taken = line_taken (λ s. read_in number_of step s (front ++ line ∷ []) text) (number_of front line) (step (summary front) (number_of front line) line) end so in
    let next = judged_ok (judge front line) (summary (front ++ line ∷ [])) taken.0 (sym (follows.answers front line fine) ∙ taken.1) in
    let rest : read_in number_of step (summary (front ++ line ∷ [])) (front ++ line ∷ []) text ≡ Ok end =
    subst (λ (s : S). read_in number_of step s (front ++ line ∷ []) text ≡ Ok end) next.1 taken.2 in
    subst (λ (l : List L). IsFine judge l × (end ≡ summary l)) (append_assoc front (line ∷ []) text)
    (all_taken follows (front ++ line ∷ []) text end (fine_more judge front line fine next.0) rest)

-- the lines after a fine beginning, where one is refused
one_refused : {S L : Type 0} {number_of : List L → L → ℕ} {judge : Judge L} {step : Step S L} {summary : List L → S} → FollowsBy number_of judge step summary
    → (front text : List L) (at : ℕ × Problem) → IsFine judge front → read_in number_of step (summary front) front text ≡ Err at → IsFirst number_of judge (front ++ text) at.0 at.1
unfolding read_in
one_refused follows front [] at fine so = absurd cc
one_refused {S} {L} {number_of} {judge} {step} {summary} follows front (line ∷ text) at fine so = elim (line_refused (λ s. read_in number_of step s (front ++ line ∷ []) text) (number_of front line) (step (summary front) (number_of front line) line) at so) [
  | inl taken ↦
      let next = judged_ok (judge front line) (summary (front ++ line ∷ [])) taken.0 (sym (follows.answers front line fine) ∙ taken.1) in
      let rest : read_in number_of step (summary (front ++ line ∷ [])) (front ++ line ∷ []) text ≡ Err at =
      subst (λ (s : S). read_in number_of step s (front ++ line ∷ []) text ≡ Err at) next.1 taken.2 in
      subst (λ (l : List L). IsFirst number_of judge l at.0 at.1) (append_assoc front (line ∷ []) text)
      (one_refused follows (front ++ line ∷ []) text at (fine_more judge front line fine next.0) rest)
  | inr here ↦
      let why = judged_err (judge front line) (summary (front ++ line ∷ [])) here.0 (sym (follows.answers front line fine) ∙ here.1) in
      subst (λ (a : ℕ × Problem). IsFirst number_of judge (front ++ line ∷ text) a.0 a.1) here.2 (first_at number_of judge front line text here.0 fine why)
]

-- where lines have numbers of their own: a text that is read is fine, and the state is its summary
pub numbered_fine : {S L : Type 0} {number : L → ℕ} {judge : Judge L} {step : S → L → Result S Problem} {summary : List L → S} → FollowsNumbered number judge step summary
    → (text : List L) (end : S) → read_all step number (summary []) text ≡ Ok end → IsFine judge text × (end ≡ summary text)
numbered_fine {S} {L} {number} {judge} {step} {summary} follows text end so = all_taken follows [] text end (fine_none judge) (sym (numbered-in number step (summary []) [] text) ∙ so)

-- and the line that is refused is the first
pub numbered_first : {S L : Type 0} {number : L → ℕ} {judge : Judge L} {step : S → L → Result S Problem} {summary : List L → S} → FollowsNumbered number judge step summary
    → (text : List L) (at : ℕ × Problem) → read_all step number (summary []) text ≡ Err at → IsFirst (λ before line. number line) judge text at.0 at.1
numbered_first {S} {L} {number} {judge} {step} {summary} follows text at so = one_refused follows [] text at (fine_none judge) (sym (numbered-in number step (summary []) [] text) ∙ so)

-- a text that is read is fine, and the state is its summary
pub read_fine : {S L : Type 0} {judge : Judge L} {step : Step S L} {summary : List L → S} → Follows judge step summary
    → (text : List L) (end : S) → read_from step (summary []) 1 text ≡ Ok end → IsFine judge text × (end ≡ summary text)
read_fine {S} {L} {judge} {step} {summary} follows text end so = all_taken follows [] text end (fine_none judge) (sym (in_turn-in step (summary []) [] text) ∙ so)

-- the line that is refused is the first
pub read_first : {S L : Type 0} {judge : Judge L} {step : Step S L} {summary : List L → S} → Follows judge step summary
    → (text : List L) (number : ℕ) (problem : Problem) → read_from step (summary []) 1 text ≡ Err (number, problem) → IsFirstRefusal judge text number problem
read_first {S} {L} {judge} {step} {summary} follows text number problem so = one_refused follows [] text (number, problem) (fine_none judge) (sym (in_turn-in step (summary []) [] text) ∙ so)

-- an answer is the one or the other
ok_or_err : {S P : Type 0} (answer : Result S (ℕ × P)) → ((end : S) × (answer ≡ Ok end)) ⊎ ((number : ℕ) × (problem : P) × (answer ≡ Err (number, problem)))
ok_or_err (Ok end) = inl (end, refl)
ok_or_err (Err at) = inr (at.0, at.1, refl)

-- a fine text is read
pub fine_read : {S L : Type 0} {judge : Judge L} {step : Step S L} {summary : List L → S} → Follows judge step summary
    → (text : List L) → IsFine judge text → read_from step (summary []) 1 text ≡ Ok (summary text)
fine_read {S} {L} {judge} {step} {summary} follows text fine = elim (ok_or_err (read_from step (summary []) 1 text)) [
  | inl read ↦ read.1 ∙ ap (λ s. Ok s) (read_fine follows text read.0 read.1).1
  | inr refused ↦ absurd (fine_not_refused fine (read_first follows text refused.0 refused.1 refused.2))
]

-- the first refusal of a text is found
pub first_read : {S L : Type 0} {judge : Judge L} {step : Step S L} {summary : List L → S} → Follows judge step summary
    → (text : List L) (number : ℕ) (problem : Problem) → IsFirstRefusal judge text number problem → read_from step (summary []) 1 text ≡ Err (number, problem)
first_read {S} {L} {judge} {step} {summary} follows text number problem first = elim (ok_or_err (read_from step (summary []) 1 text)) [
  | inl read ↦ absurd (fine_not_refused (read_fine follows text read.0 read.1).0 first)
  | inr refused ↦
      let once = refused_once (read_first follows text refused.0 refused.1 refused.2) first in
      refused.2 ∙ ap (λ n. Err (n, refused.1)) once.0 ∙ ap (λ p. Err (number, p)) once.1
]

-- the step that follows a judgement by all lines so far
lines_so_far : {L : Type 0} → Judge L → Step (List L) L
lines_so_far judge front number line = judged (judge front line) (front ++ line ∷ [])

-- this step follows it
lines_follow : {L : Type 0} (judge : Judge L) → Follows judge (lines_so_far judge) (λ front. front)
unfolding lines_so_far
lines_follow judge = record { answers = λ front line fine. refl }

-- each text is fine or has a first refusal
pub fine_or_refused : {L : Type 0} (judge : Judge L) (text : List L) → IsFine judge text ⊎ ((number : ℕ) × (problem : Problem) × IsFirstRefusal judge text number problem)
fine_or_refused judge text = elim (ok_or_err (read_from (lines_so_far judge) [] 1 text)) [
  | inl read ↦ inl (read_fine (lines_follow judge) text read.0 read.1).0
  | inr refused ↦ inr (refused.0, refused.1, read_first (lines_follow judge) text refused.0 refused.1 refused.2)
]

-- ---- The clauses of a reader, each from what `read_lines` ensures.

-- what the file leaves is what its lines leave
pub placed_ok : {S : Type 0} (file : List ℕ) (answer : Result S (ℕ × Problem)) (end : S) → placed file answer ≡ Ok end → answer ≡ Ok end
placed_ok file (Ok state) end so = cc
placed_ok file (Err at) end so = absurd cc

-- the fault of the file is that of a line
pub placed_err : {S : Type 0} (file : List ℕ) (answer : Result S (ℕ × Problem)) (fault : Fault) → placed file answer ≡ Err fault
    → (number : ℕ) × (problem : Problem) × (answer ≡ Err (number, problem)) × (fault ≡ fault_at file number problem)
placed_err file (Ok state) fault so = absurd cc
placed_err file (Err at) fault so = (at.0, at.1, refl, cc)

-- a fault other than want of memory is the one that is given
pub fails_is : {S : Type 0} (fault : Fault) (given : Result S Fault) → Fails fault given → fault ≢ faults.Memory → given ≡ Err fault
fails_is faults.Memory given fails other = absurd (other refl)
fails_is fault given fails other = fails

-- where a value is given, only memory fails
pub fails_where_ok : {S : Type 0} (fault : Fault) (given : Result S Fault) (end : S) → Fails fault given → given ≡ Ok end → fault ≡ faults.Memory
fails_where_ok faults.Memory given end fails so = refl
fails_where_ok fault given end fails so = absurd cc

-- where a fault is given, that or memory fails
pub fails_where_err : {S : Type 0} (fault : Fault) (given : Result S Fault) (expected : Fault) → Fails fault given → given ≡ Err expected → IsFaultOr fault expected
fails_where_err faults.Memory given expected fails so = inl refl
fails_where_err fault given expected fails so = inr cc

-- where something is read, the text is fine, and it is the summary
pub gives_fine : {X S L : Type 0} {judge : Judge L} {step : Step S L} {summary : List L → S} → Follows judge step summary
    → (view : X → S) (file : List ℕ) (text : List L) (result : Result X Fault) → Gives view result (placed file (read_from step (summary []) 1 text))
    → IfOk result (λ x. IsFine judge text × (view x ≡ summary text))
gives_fine {X} {S} {L} {judge} {step} {summary} follows view file text (Ok x) gives = read_fine follows text (view x) (placed_ok file (read_from step (summary []) 1 text) (view x) gives)
gives_fine follows view file text (Err fault) gives = tt

-- a fault other than want of memory is the first of the text
pub gives_first : {X S L : Type 0} {judge : Judge L} {step : Step S L} {summary : List L → S} → Follows judge step summary
    → (view : X → S) (file : List ℕ) (text : List L) (result : Result X Fault) → Gives view result (placed file (read_from step (summary []) 1 text))
    → IfErr result (λ fault. fault ≢ faults.Memory → IsFirstFault judge file text fault)
gives_first follows view file text (Ok x) gives = tt
gives_first {X} {S} {L} {judge} {step} {summary} follows view file text (Err fault) gives = λ other.
    let given = placed file (read_from step (summary []) 1 text) in
    let at = placed_err file (read_from step (summary []) 1 text) fault (fails_is fault given gives other) in
    record { number = at.0; problem = at.1; first = read_first follows text at.0 at.1 at.2; is = at.3 }

-- a fine text is read, unless memory is refused
pub fine_gives : {X S L : Type 0} {judge : Judge L} {step : Step S L} {summary : List L → S} → Follows judge step summary
    → (view : X → S) (file : List ℕ) (text : List L) (result : Result X Fault) → Gives view result (placed file (read_from step (summary []) 1 text))
    → IsFine judge text → IsOkUnless result faults.Memory
fine_gives follows view file text (Ok x) gives fine = tt
fine_gives {X} {S} {L} {judge} {step} {summary} follows view file text (Err fault) gives fine =
    fails_where_ok fault (placed file (read_from step (summary []) 1 text)) (summary text) gives (ap (placed file) (fine_read follows text fine))

-- the first fault of a text is answered, unless memory is refused
pub first_gives : {X S L : Type 0} {judge : Judge L} {step : Step S L} {summary : List L → S} → Follows judge step summary
    → (view : X → S) (file : List ℕ) (text : List L) (result : Result X Fault) → Gives view result (placed file (read_from step (summary []) 1 text))
    → (fault : Fault) → IsFirstFault judge file text fault → IsErrAnd result (λ given. IsFaultOr given fault)
first_gives {X} {S} {L} {judge} {step} {summary} follows view file text (Ok x) gives fault first =
    let refused = ap (placed file) (first_read follows text first.number first.problem first.first) in
    let both : Ok (view x) ≡ Err (fault_at file first.number first.problem) = sym gives ∙ refused in
    absurd cc
first_gives {X} {S} {L} {judge} {step} {summary} follows view file text (Err given) gives fault first =
    let refused = ap (placed file) (first_read follows text first.number first.problem first.first) in
    fails_where_err given (placed file (read_from step (summary []) 1 text)) fault gives (refused ∙ ap (λ f. Err f) (sym first.is))
