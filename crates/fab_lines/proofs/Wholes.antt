-- The laws of a format whose lines have numbers of their own and whose end is judged too.
use Rattle.std.proofs.Common.{◌≡◌, ◌≢◌, ℕ, List, [], Option, Some, None, Result, Ok, Err, IfOk, IfErr, refl, sym, ap, subst, ◌∙◌, ◌⊎◌, inl, inr}
use Rattle.fab_base.specs.declared.fault.Fault.{Fault}
use Rattle.fab_base.specs.declared.fault.Fault.TheVariants as faults
use Rattle.fab_base.specs.declared.problem.Problem.{Problem}
use Rattle.fab_base.specs.Reading.{Gives, fault_at}
use Rattle.fab_lines.specs.Order.{Format, IsFine, IsFirst, IsWhole, IsEndRefusal, IsRefusal, IsTextFault, read_all, judged, goes_on, placed, ended}
use Rattle.fab_lines.proofs.Judging.{FollowsNumbered, numbered_fine, numbered_first, placed_ok, placed_err, fails_is, judged_ok, judged_err, fine_not_refused, refused_once}

-- A reader follows a format: its step follows the judgement of lines, and its finish that of the end.
pub record FollowsFormat {S X L : Type 0} (format : Format L) (step : S → L → Result S Problem) (summary : List L → S) (finish : S → Result X Problem) (value : List L → X) : Type 0 where
  pub lines : FollowsNumbered format.number format.judge step summary
  pub end : (text : List L) → IsFine format.judge text → finish (summary text) ≡ judged (format.ending text) (value text)

-- ---- No text is whole and refused, and a text has one refusal.

pub whole_not_refused : {L : Type 0} {format : Format L} {text : List L} {last number : ℕ} {problem : Problem} → IsWhole format text → IsRefusal format text last number problem → ⊥
whole_not_refused whole (inl first) = fine_not_refused whole.fine first
whole_not_refused whole (inr at_end) =
    let none = whole.ends in
    let some = at_end.refused in
    absurd cc

pub refusal_once : {L : Type 0} {format : Format L} {text : List L} {last number other : ℕ} {problem why : Problem}
    → IsRefusal format text last number problem → IsRefusal format text last other why → (number ≡ other) × (problem ≡ why)
refusal_once (inl first) (inl second) = refused_once first second
refusal_once (inl first) (inr at_end) = absurd (fine_not_refused at_end.fine first)
refusal_once (inr at_end) (inl first) = absurd (fine_not_refused at_end.fine first)
refusal_once (inr at_end) (inr other) =
    let one = at_end.refused in
    let two = other.refused in
    (at_end.at_last ∙ sym other.at_last, cc)

-- two faults of one text are equal
pub text_fault_once : {L : Type 0} {format : Format L} {file : List ℕ} {text : List L} {last : ℕ} {first second : Fault}
    → IsTextFault format file text last first → IsTextFault format file text last second → first ≡ second
text_fault_once {file = file} a b =
    let same = refusal_once a.refusal b.refusal in
    a.is ∙ (λ j. fault_at file (same.0 j) (same.1 j)) ∙ sym b.is

-- ---- What a reader that follows a format reads.

value_ended : {S X : Type 0} (finish : S → Result X Problem) (last : ℕ) (answer : Result S (ℕ × Problem)) (value : X) → ended finish last answer ≡ Ok value → (state : S) × (answer ≡ Ok state) × (finish state ≡ Ok value)
value_ended finish last (Err at) value so = absurd cc
value_ended {S} {X} finish last (Ok state) value so = (state, refl, at_end (finish state) so)
  where
    at_end : (answer : Result X Problem) → goes_on Ok last answer ≡ Ok value → answer ≡ Ok value
    at_end (Ok other) so = cc
    at_end (Err problem) so = absurd cc

refused_ended : {S X : Type 0} (finish : S → Result X Problem) (last : ℕ) (answer : Result S (ℕ × Problem)) (at : ℕ × Problem) → ended finish last answer ≡ Err at
    → (answer ≡ Err at) ⊎ ((state : S) × (answer ≡ Ok state) × (finish state ≡ Err at.1) × (at.0 ≡ last))
refused_ended finish last (Err here) at so = inl cc
refused_ended {S} {X} finish last (Ok state) at so = inr (state, refl, (at_end (finish state) so).0, (at_end (finish state) so).1)
  where
    at_end : (answer : Result X Problem) → goes_on Ok last answer ≡ Err at → (answer ≡ Err at.1) × (at.0 ≡ last)
    at_end (Ok other) so = absurd cc
    at_end (Err problem) so =
        let pair : (last, problem) ≡ at = cc in
        (sym (ap (λ (p : ℕ × Problem). let r : Result X Problem = Err p.1 in r) (sym pair)), ap (λ (p : ℕ × Problem). p.0) (sym pair))

module _ {S X L : Type 0} {format : Format L} {step : S → L → Result S Problem} {summary : List L → S} {finish : S → Result X Problem} {value : List L → X} (follows : FollowsFormat format step summary finish value) (text : List L) (last : ℕ) where
  -- a text that is read is whole
  pub whole_read : (x : X) → ended finish last (read_all step format.number (summary []) text) ≡ Ok x → IsWhole format text × (x ≡ value text)
  whole_read x so =
      let taken = value_ended finish last (read_all step format.number (summary []) text) x so in
      let lines = numbered_fine follows.lines text taken.0 taken.1 in
      let finished : judged (format.ending text) (value text) ≡ Ok x = sym (follows.end text lines.0) ∙ ap finish (sym lines.1) ∙ taken.2 in
      let end = judged_ok (format.ending text) (value text) x finished in
      (record { fine = lines.0; ends = end.0 }, end.1)

  -- and one that is not has this refusal
  pub refusal_read : (at : ℕ × Problem) → ended finish last (read_all step format.number (summary []) text) ≡ Err at → IsRefusal format text last at.0 at.1
  refusal_read at so = elim (refused_ended finish last (read_all step format.number (summary []) text) at so) [
    | inl refused ↦ inl (numbered_first follows.lines text at refused)
    | inr taken ↦
        let lines = numbered_fine follows.lines text taken.0 taken.1 in
        let finished : judged (format.ending text) (value text) ≡ Err at.1 = sym (follows.end text lines.0) ∙ ap finish (sym lines.1) ∙ taken.2 in
        inr (record { fine = lines.0; refused = judged_err (format.ending text) (value text) at.1 finished; at_last = taken.3 })
  ]

  -- ---- The clauses of a reader.

  -- where something is read, the text is whole, and it is the text's value
  pub gives_whole : {Y : Type 0} (view : Y → X) (file : List ℕ) (result : Result Y Fault) → Gives view result (placed file (ended finish last (read_all step format.number (summary []) text)))
      → IfOk result (λ y. IsWhole format text × (view y ≡ value text))
  gives_whole view file (Ok y) gives = whole_read (view y) (placed_ok file (ended finish last (read_all step format.number (summary []) text)) (view y) gives)
  gives_whole view file (Err fault) gives = tt

  -- a fault other than want of memory is the refusal of the text
  pub gives_fault : {Y : Type 0} (view : Y → X) (file : List ℕ) (result : Result Y Fault) → Gives view result (placed file (ended finish last (read_all step format.number (summary []) text)))
      → IfErr result (λ fault. fault ≢ faults.Memory → IsTextFault format file text last fault)
  gives_fault view file (Ok y) gives = tt
  gives_fault view file (Err fault) gives = λ other.
      let given = placed file (ended finish last (read_all step format.number (summary []) text)) in
      let at = placed_err file (ended finish last (read_all step format.number (summary []) text)) fault (fails_is fault given gives other) in
      record { number = at.0; problem = at.1; refusal = refusal_read (at.0, at.1) at.2; is = at.3 }
