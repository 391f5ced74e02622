-- A text has one first refusal, and none where nothing in it is refused.
use Rattle.std.specs.Prelude.{◌≡◌, ℕ, List, Option}
use Rattle.fab_base.specs.declared.fault.Fault.{Fault}
use Rattle.fab_base.specs.declared.problem.Problem.{Problem}
use Rattle.fab_lines.specs.Order.{IsFine, IsFirstRefusal, IsFirstFault, Format, IsWhole, IsRefusal, IsTextFault}

-- A format that judges lines alone, which are counted from 1: two refusals of a text name one line and one problem, so two faults
-- of it are equal; and no line is refused of a text that has none.
pub record RefusesLinesOnce {L : Type 0} (judge : List L → L → Option Problem) : Type 0 where
  pub one_refusal : (text : List L) (number other : ℕ) (problem why : Problem)
      → IsFirstRefusal judge text number problem → IsFirstRefusal judge text other why → (number ≡ other) × (problem ≡ why)
  pub one_fault : (file : List ℕ) (text : List L) (first second : Fault)
      → IsFirstFault judge file text first → IsFirstFault judge file text second → first ≡ second
  pub apart : (file : List ℕ) (text : List L) (fault : Fault) → IsFirstFault judge file text fault → ¬ IsFine judge text

-- The same of a format whose lines have numbers of their own, and which judges the end of a text too. `last` is the number of the
-- last line.
pub record RefusesTextsOnce {L : Type 0} (format : Format L) : Type 0 where
  pub one_refusal : (text : List L) (last number other : ℕ) (problem why : Problem)
      → IsRefusal format text last number problem → IsRefusal format text last other why → (number ≡ other) × (problem ≡ why)
  pub one_fault : (file : List ℕ) (text : List L) (last : ℕ) (first second : Fault)
      → IsTextFault format file text last first → IsTextFault format file text last second → first ≡ second
  pub apart : (file : List ℕ) (text : List L) (last : ℕ) (fault : Fault) → IsTextFault format file text last fault → ¬ IsWhole format text
