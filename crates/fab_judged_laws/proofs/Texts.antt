-- A text of lines is whole, or it has a first refusal.
use Rattle.std.proofs.Common.{◌≡◌, ◌⊎◌, ℕ, List, Option, Some, None, refl, inl, inr}
use Rattle.fab_base.specs.declared.fault.Fault.{Fault}
use Rattle.fab_base.specs.declared.problem.Problem.{Problem}
use Rattle.fab_base.specs.Reading.{fault_at}
use Rattle.fab_lines.specs.Order.{IsFine, IsFirst, IsFirstRefusal, Format, IsWhole, IsRefusal, IsTextFault}
use Rattle.fab_lines.proofs.Judging.{fine_or_refused}
use Rattle.fab_judged_laws.specs.Judged.{JudgesLines, JudgesTexts}

pub lines_judged : {L : Type 0} (judge : List L → L → Option Problem) → JudgesLines judge
lines_judged judge file text = elim (fine_or_refused judge text) [
  | inl fine ↦ inl fine
  | inr first ↦ inr (fault_at file first.0 first.1, record { number = first.0; problem = first.1; first = first.2; is = refl })
]

module _ {L : Type 0} (format : Format L) (file : List ℕ) (text : List L) (last : ℕ) where
  -- the first line that is refused, by the number that it has
  numbered : (number : ℕ) (problem : Problem) → IsFirstRefusal format.judge text number problem → (fault : Fault) × IsTextFault format file text last fault
  numbered number problem first =
      let at : IsFirst (λ before line. format.number line) format.judge text (format.number first.line) problem = record {
        before = first.before;
        line = first.line;
        after = first.after;
        parts = first.parts;
        counted = refl;
        fine = first.fine;
        refused = first.refused;
      } in
      (fault_at file (format.number first.line) problem, record { number = format.number first.line; problem = problem; refusal = inl at; is = refl })

  ended : IsFine format.judge text → (why : Option Problem) → format.ending text ≡ why → IsWhole format text ⊎ ((fault : Fault) × IsTextFault format file text last fault)
  ended fine None is = inl (record { fine = fine; ends = is })
  ended fine (Some problem) is =
      let refusal : IsRefusal format text last last problem = inr (record { fine = fine; refused = is; at_last = refl }) in
      inr (fault_at file last problem, record { number = last; problem = problem; refusal = refusal; is = refl })

pub texts_judged : {L : Type 0} (format : Format L) → JudgesTexts format
texts_judged format file text last = elim (fine_or_refused format.judge text) [
  | inl fine ↦ ended format file text last fine (format.ending text) refl
  | inr first ↦ inr (numbered format file text last first.0 first.1 first.2)
]
