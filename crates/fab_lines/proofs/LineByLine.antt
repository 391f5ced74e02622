-- One line more of a text that is read line by line.
use Rattle.std.proofs.Common.{◌≡◌, ℕ, ◌+◌, List, [], ◌∷◌, Result, Ok, Err, refl, sym, ap, subst, ◌∙◌, ◌⊎◌, inl, inr}
use Rattle.fab_base.specs.declared.fault.Fault.{Fault}
use Rattle.fab_base.specs.declared.fault.Fault.TheVariants as faults
use Rattle.fab_base.specs.declared.problem.Problem.{Problem}
use Rattle.fab_base.specs.declared.problem.Problem.TheVariants as problems
use Rattle.fab_base.specs.Reading.{Fails, Refuses, IsFaultOr, fault_at}
use Rattle.fab_lines.specs.Order.{read_from, read_all, goes_on, placed}

-- a line that is taken
pub read_more : {S P L : Type 0} (after : S → ℕ → L → Result S P) (state next : S) (number : ℕ) (text : List L) (line : L) (rest : List L) (whole : Result S (ℕ × P))
    → text ≡ line ∷ rest → after state number line ≡ Ok next → read_from after state number text ≡ whole → read_from after next (number + 1) rest ≡ whole
unfolding read_from
read_more after state next number text line rest whole cut taken so_far =
    let one : read_from after state number (line ∷ rest) ≡ read_from after next (number + 1) rest = ap (goes_on (λ s. read_from after s (number + 1) rest) number) taken in
    sym one ∙ ap (read_from after state number) (sym cut) ∙ so_far

-- a line that is refused
pub read_refused : {S P L : Type 0} (after : S → ℕ → L → Result S P) (state : S) (number : ℕ) (text : List L) (line : L) (rest : List L) (whole : Result S (ℕ × P)) (problem : P)
    → text ≡ line ∷ rest → after state number line ≡ Err problem → read_from after state number text ≡ whole → whole ≡ Err (number, problem)
unfolding read_from
read_refused after state number text line rest whole problem cut refused so_far =
    let one : read_from after state number (line ∷ rest) ≡ Err (number, problem) = ap (goes_on (λ s. read_from after s (number + 1) rest) number) refused in
    sym so_far ∙ ap (read_from after state number) cut ∙ one

-- no line more
pub read_end : {S P L : Type 0} (after : S → ℕ → L → Result S P) (state : S) (number : ℕ) (whole : Result S (ℕ × P)) → read_from after state number [] ≡ whole → whole ≡ Ok state
unfolding read_from
read_end after state number whole so_far = sym so_far

-- a text is refused for what its definition gives
fails_so : {S : Type 0} (fault : Fault) (given : Result S Fault) → given ≡ Err fault → Fails fault given
fails_so faults.Memory given so = tt
fails_so fault given so = so

-- a text is refused for this fault, or memory was refused
fails_or : {S : Type 0} (fault expected : Fault) (given : Result S Fault) → IsFaultOr fault expected → given ≡ Err expected → Fails fault given
fails_or {S} fault expected given which so = elim which [
  | inl memory ↦ subst (λ (f : Fault). Fails f given) (sym memory) tt
  | inr same ↦ fails_so fault given (so ∙ ap (λ (f : Fault). let r : Result S Fault = Err f in r) (sym same))
]

-- where the text is refused for want of memory, that is the fault
only_memory : {S : Type 0} (fault : Fault) (given : Result S Fault) → IsFaultOr fault faults.Memory → Fails fault given
only_memory fault given which = elim which [
  | inl memory ↦ subst (λ (f : Fault). Fails f given) (sym memory) tt
  | inr memory ↦ subst (λ (f : Fault). Fails f given) (sym memory) tt
]

-- a line is refused for this problem, or memory was refused
refuses_or : {S : Type 0} (problem : Problem) (given : Result S Problem) → Refuses problem given → (given ≡ Err problem) ⊎ (problem ≡ problems.Memory)
refuses_or problems.Memory given so = inr refl
refuses_or problem given so = inl so

-- the fault of a line that is refused is that of the text
fails_given : {S : Type 0} (file : List ℕ) (number : ℕ) (problem : Problem) (fault : Fault) (given : Result S Problem) (whole : Result S (ℕ × Problem)) → (given ≡ Err problem → whole ≡ Err (number, problem))
    → Refuses problem given → IsFaultOr fault (fault_at file number problem) → Fails fault (placed file whole)
fails_given file number problem fault given whole is refused which = elim (refuses_or problem given refused) [
  | inl so ↦ fails_or fault (fault_at file number problem) (placed file whole) which (ap (placed file) (is so))
  | inr memory ↦ only_memory fault (placed file whole) (subst (λ (p : Problem). IsFaultOr fault (fault_at file number p)) memory which)
]

pub fails_at : {S L : Type 0} (after : S → ℕ → L → Result S Problem) (state : S) (number : ℕ) (text : List L) (line : L) (rest : List L) (whole : Result S (ℕ × Problem)) (file : List ℕ) (problem : Problem) (fault : Fault)
    → text ≡ line ∷ rest → Refuses problem (after state number line) → IsFaultOr fault (fault_at file number problem) → read_from after state number text ≡ whole → Fails fault (placed file whole)
fails_at after state number text line rest whole file problem fault cut refused which so_far =
    fails_given file number problem fault (after state number line) whole (λ so. read_refused after state number text line rest whole problem cut so so_far) refused which

-- ---- The same where lines have numbers of their own.

-- a line that is taken
pub all_more : {S P L : Type 0} (after : S → L → Result S P) (number : L → ℕ) (state next : S) (text : List L) (line : L) (rest : List L) (whole : Result S (ℕ × P))
    → text ≡ line ∷ rest → after state line ≡ Ok next → read_all after number state text ≡ whole → read_all after number next rest ≡ whole
unfolding read_all
all_more after number state next text line rest whole cut taken so_far =
    let one : read_all after number state (line ∷ rest) ≡ read_all after number next rest = ap (goes_on (λ s. read_all after number s rest) (number line)) taken in
    sym one ∙ ap (read_all after number state) (sym cut) ∙ so_far

-- a line that is refused
all_refused : {S P L : Type 0} (after : S → L → Result S P) (number : L → ℕ) (state : S) (text : List L) (line : L) (rest : List L) (whole : Result S (ℕ × P)) (problem : P)
    → text ≡ line ∷ rest → after state line ≡ Err problem → read_all after number state text ≡ whole → whole ≡ Err (number line, problem)
unfolding read_all
all_refused after number state text line rest whole problem cut refused so_far =
    let one : read_all after number state (line ∷ rest) ≡ Err (number line, problem) = ap (goes_on (λ s. read_all after number s rest) (number line)) refused in
    sym so_far ∙ ap (read_all after number state) cut ∙ one

-- no line more
pub all_end : {S P L : Type 0} (after : S → L → Result S P) (number : L → ℕ) (state : S) (whole : Result S (ℕ × P)) → read_all after number state [] ≡ whole → whole ≡ Ok state
unfolding read_all
all_end after number state whole so_far = sym so_far

-- the fault of a line that is refused is that of the text
pub all_fails_at : {S L : Type 0} (after : S → L → Result S Problem) (number : L → ℕ) (state : S) (text : List L) (line : L) (rest : List L) (whole : Result S (ℕ × Problem)) (file : List ℕ) (problem : Problem) (fault : Fault)
    → text ≡ line ∷ rest → Refuses problem (after state line) → IsFaultOr fault (fault_at file (number line) problem) → read_all after number state text ≡ whole → Fails fault (placed file whole)
all_fails_at after number state text line rest whole file problem fault cut refused which so_far =
    fails_given file (number line) problem fault (after state line) whole (λ so. all_refused after number state text line rest whole problem cut so so_far) refused which
