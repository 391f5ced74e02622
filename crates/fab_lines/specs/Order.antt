-- A text is judged line by line, and the least line that is refused decides.
use Rattle.std.specs.Prelude.{◌≡◌, ◌⊎◌, ℕ, ◌+◌, List, [], ◌∷◌, ◌++◌, length, Option, Some, None, Result, Ok, Err}
use Rattle.fab_base.specs.declared.fault.Fault.{Fault}
use Rattle.fab_base.specs.declared.problem.Problem.{Problem}
use Rattle.fab_base.specs.Reading.{fault_at}

-- A format judges a line by itself and by the lines before it: `judge before line` is why the line is refused, if it is.

-- no line is refused
abbrev pub IsFine : {L : Type 0} → (judge : List L → L → Option Problem) → List L → Type 0
IsFine {L} judge text = (before : List L) (line : L) (after : List L) → text ≡ before ++ line ∷ after → judge before line ≡ None

-- The line of this number is the first that is refused, where `number_of before line` is the number of a line.
pub record IsFirst {L : Type 0} (number_of : List L → L → ℕ) (judge : List L → L → Option Problem) (text : List L) (number : ℕ) (problem : Problem) : Type 0 where
  pub before : List L
  pub line : L
  pub after : List L
  pub parts : text ≡ before ++ line ∷ after
  pub counted : number ≡ number_of before line
  pub fine : IsFine judge before
  pub refused : judge before line ≡ Some problem

-- lines that are all there are counted from 1
abbrev pub in_turn : {L : Type 0} → (before : List L) (line : L) → ℕ
in_turn before line = length before + 1

-- the line of this number, counted from 1, is the first that is refused
abbrev pub IsFirstRefusal : {L : Type 0} → (judge : List L → L → Option Problem) (text : List L) (number : ℕ) (problem : Problem) → Type 0
IsFirstRefusal judge text number problem = IsFirst in_turn judge text number problem

-- the first refusal of a file's text is this fault
pub record IsFirstFault {L : Type 0} (judge : List L → L → Option Problem) (file : List ℕ) (text : List L) (fault : Fault) : Type 0 where
  pub number : ℕ
  pub problem : Problem
  pub first : IsFirstRefusal judge text number problem
  pub is : fault ≡ fault_at file number problem

-- ---- Formats whose lines have numbers of their own, since some lines are passed over or joined, and whose end is judged too.

-- `ending text` is what is wrong with a whole text in which no line is refused
pub record Format (L : Type 0) : Type 0 where
  pub number : L → ℕ
  pub judge : (before : List L) (line : L) → Option Problem
  pub ending : List L → Option Problem

-- no line is refused, and nothing is wrong at the end
pub record IsWhole {L : Type 0} (format : Format L) (text : List L) : Type 0 where
  pub fine : IsFine format.judge text
  pub ends : format.ending text ≡ None

-- no line is refused, and this is wrong at the end, which stands at the last line
pub record IsEndRefusal {L : Type 0} (format : Format L) (text : List L) (last number : ℕ) (problem : Problem) : Type 0 where
  pub fine : IsFine format.judge text
  pub refused : format.ending text ≡ Some problem
  pub at_last : number ≡ last

-- The refusal of a text: that of the first line that is refused, or else that of its end.
abbrev pub IsRefusal : {L : Type 0} → (format : Format L) (text : List L) (last number : ℕ) (problem : Problem) → Type 0
IsRefusal format text last number problem = IsFirst (λ before line. format.number line) format.judge text number problem ⊎ IsEndRefusal format text last number problem

-- the refusal of a file's text, whose last line has this number, is this fault
pub record IsTextFault {L : Type 0} (format : Format L) (file : List ℕ) (text : List L) (last : ℕ) (fault : Fault) : Type 0 where
  pub number : ℕ
  pub problem : Problem
  pub refusal : IsRefusal format text last number problem
  pub is : fault ≡ fault_at file number problem

-- ---- The same as a computation, which a reader follows: `after state number line` is the state after a line, or why it
-- is refused.

-- what a step answers for a line that is judged so, where this is the state after it
abbrev pub judged : {S : Type 0} → Option Problem → S → Result S Problem
judged None state = Ok state
judged (Some problem) state = Err problem

abbrev pub goes_on : {S P : Type 0} → (S → Result S (ℕ × P)) → ℕ → Result S P → Result S (ℕ × P)
goes_on more number (Ok state) = more state
goes_on more number (Err problem) = Err (number, problem)

-- the state that lines leave, of which the first has this number, or the least line that is refused
unfoldable pub read_from : {S P L : Type 0} → (after : S → ℕ → L → Result S P) → S → (number : ℕ) → List L → Result S (ℕ × P)
read_from after state number [] = Ok state
read_from after state number (line ∷ rest) = goes_on (λ next. read_from after next (number + 1) rest) number (after state number line)

-- with the file's name
abbrev pub placed : {S : Type 0} → (file : List ℕ) → Result S (ℕ × Problem) → Result S Fault
placed file (Ok state) = Ok state
placed file (Err at) = Err (fault_at file at.0 at.1)

-- the same where lines have numbers of their own
unfoldable pub read_all : {S P L : Type 0} → (after : S → L → Result S P) → (number : L → ℕ) → S → List L → Result S (ℕ × P)
read_all after number state [] = Ok state
read_all after number state (line ∷ rest) = goes_on (λ next. read_all after number next rest) (number line) (after state line)

-- the value of a text, where its end is judged after its lines
abbrev pub ended : {S X P : Type 0} → (finish : S → Result X P) (last : ℕ) → Result S (ℕ × P) → Result X (ℕ × P)
ended finish last (Ok state) = goes_on Ok last (finish state)
ended finish last (Err at) = Err at
