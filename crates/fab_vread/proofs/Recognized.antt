-- What the machine takes begins a text, and where it ends as a text does it is one.
use Rattle.std.proofs.Common.{◌≡◌, ℕ, ◌≤◌, ◌+◌, Bool, true, false, ◌&&◌, List, [], ◌∷◌, ◌++◌, length, refl, ap, ◌∙◌, subst, sym, arith, Option, Some, None, Result, Ok, Err, append-nil, nat_lt, if◌then◌else◌}
use Rattle.std.proofs.lemmas.Bool.Decides.{nat_tests}
use Rattle.fab_base.specs.declared.problem.Problem.{Problem}
use Rattle.fab_syntax.specs.Plain.{PlainModule}
use Rattle.fab_tokens.specs.declared.token.Token.{Token}
use Rattle.fab_tokens.specs.declared.token.Token.TheVariants.{Identifier, Keyword, Number, Constant, Operator, Arrow, Mark, Unknown}
use Rattle.fab_grammar_defs.specs.Grammar.{Modules}
use Rattle.fab_vread.specs.declared.places.Header.TheVariants as headers
use Rattle.fab_vread.specs.declared.places.Place.TheVariants as places
use Rattle.fab_vread.specs.declared.expressions.Over.{Over}
use Rattle.fab_vread.specs.declared.expressions.Over.TheVariants as overs
use Rattle.fab_vread.specs.inner.Expressions.{with_bits}
use Rattle.fab_vread.specs.inner.Machine.{Machine, PlainState, outside, inside, first_machine, after_token, is_done, at_start}
use Rattle.fab_vread.proofs.Running.{run, and_next}
use Rattle.fab_vread.proofs.Rests.{IsNarrow}
use Rattle.fab_vread.proofs.Following.{AtState, Ended, no_more, more_modules, RestOf, BehindValue, depth_at}
use Rattle.fab_vread.proofs.Continuing.{token_step}
use Rattle.fab_vread.proofs.Runs.{both, IsShallow}
use Rattle.fab_vread.proofs.Bounds.{FineMachine, told_by, token_fine}
use Rattle.fab_vread.proofs.Placing.{text_accepted}

-- the bits of a constant
abbrev pub bits_in : Token → ℕ
bits_in (Constant bits) = length bits
bits_in _ = 0

pub narrow_in : (D W : ℕ) (K : List Token → Type 0) (t : Token) → bits_in t ≤ W → IsNarrow D W K t
narrow_in D W K (Constant bits) h = h
narrow_in D W K (Identifier n) h = tt
narrow_in D W K (Keyword keyword) h = tt
narrow_in D W K (Number number) h = tt
narrow_in D W K (Operator op) h = tt
narrow_in D W K Arrow h = tt
narrow_in D W K (Mark byte) h = tt
narrow_in D W K Unknown h = tt

bits_before : (over : Option Over) (bits : ℕ) → with_bits over bits ≡ None → (over ≡ None) × (bits ≤ 128)
bits_before (Some over) bits h = absurd (cc)
bits_before None bits h = (refl, few (nat_lt 128 bits) refl h) where
  few : (b : Bool) → nat_lt 128 bits ≡ b → (if b then Some (overs.Bits bits) else None) ≡ None → bits ≤ 128
  few true e h = absurd (cc)
  few false e h = grind (arith, nat_tests)

none_before : (over : Option Over) (t : Token) → told_by over t ≡ None → (over ≡ None) × (bits_in t ≤ 128)
none_before over (Constant bits) h = bits_before over (length bits) h
none_before over (Identifier n) h = (h, omega arith)
none_before over (Keyword keyword) h = (h, omega arith)
none_before over (Number number) h = (h, omega arith)
none_before over (Operator op) h = (h, omega arith)
none_before over Arrow h = (h, omega arith)
none_before over (Mark byte) h = (h, omega arith)
none_before over Unknown h = (h, omega arith)

none_shallow : (over : Option Over) → over ≡ None → IsShallow over
none_shallow over none = subst IsShallow (sym none) tt

abbrev pub taken_to : Machine → Result Machine Problem
taken_to m = Ok m

pub same_machine : (m n : Machine) → taken_to m ≡ Ok n → m ≡ n
same_machine m n e = cc

-- what is above its bound stays so
pub run_shallow : (ts : List Token) (m final : Machine) → run m ts ≡ Ok final → IsShallow final.over → IsShallow m.over
unfolding run
run_shallow [] m final e fine = subst (λ (n : Machine). IsShallow n.over) (sym (same_machine m final e)) fine
run_shallow (t ∷ ts) m final e fine =
    step_shallow (after_token m t) (token_fine (300 + depth_at m.state) (omega arith) m t (omega arith)) (λ n h. run_shallow ts n final h fine) e where
      step_shallow : (given : Result Machine Problem) → FineMachine (300 + depth_at m.state) (omega arith) m.over t given →
          ((n : Machine) → run n ts ≡ Ok final → IsShallow n.over) → and_next given (λ n. run n ts) ≡ Ok final → IsShallow m.over
      step_shallow (Ok n) fine back e = (fine (back n e)).0
      step_shallow (Err problem) fine back e = absurd (cc)

pub run_over : (ts : List Token) (m final : Machine) → run m ts ≡ Ok final → final.over ≡ None → m.over ≡ None
unfolding run
run_over [] m final e none = subst (λ (n : Machine). n.over ≡ None) (sym (same_machine m final e)) none
run_over (t ∷ ts) m final e none =
    step_over (after_token m t) (token_fine (300 + depth_at m.state) (omega arith) m t (omega arith)) (λ n h. run_over ts n final h none) e where
      step_over : (given : Result Machine Problem) → FineMachine (300 + depth_at m.state) (omega arith) m.over t given →
          ((n : Machine) → run n ts ≡ Ok final → n.over ≡ None) → and_next given (λ n. run n ts) ≡ Ok final → m.over ≡ None
      step_over (Ok n) fine back e =
          let none = back n e in
          let x = fine (none_shallow n.over none) in
          (none_before m.over t (sym x.2 ∙ none)).0
      step_over (Err problem) fine back e = absurd (cc)

-- Tokens that the machine takes, with nothing above its bound, may stand before what may follow.
pub front_taken : (ts us : List Token) (m final : Machine) → depth_at m.state ≤ 300 → run m ts ≡ Ok final → final.over ≡ None →
    AtState 300 128 final.state us → AtState 300 128 m.state (ts ++ us)
unfolding run
front_taken [] us m final few e none rest = subst (λ (n : Machine). AtState 300 128 n.state us) (sym (same_machine m final e)) rest
front_taken (t ∷ ts) us m final few e none rest =
    step_taken (after_token m t) refl (token_fine 300 (omega arith) m t few) (λ n shallow h. front_taken ts us n final shallow h none rest) e where
      step_taken : (given : Result Machine Problem) → after_token m t ≡ given → FineMachine 300 (omega arith) m.over t given →
          ((n : Machine) → depth_at n.state ≤ 300 → run n ts ≡ Ok final → AtState 300 128 n.state (ts ++ us)) →
          and_next given (λ n. run n ts) ≡ Ok final → AtState 300 128 m.state (t ∷ (ts ++ us))
      step_taken (Ok n) is fine further e =
          let over = run_over ts n final e none in
          let x = fine (none_shallow n.over over) in
          token_step 300 128 m t (ts ++ us) few (λ purpose. narrow_in 300 128 (BehindValue 300 128 purpose) t (none_before m.over t (sym x.2 ∙ over)).1)
          (subst (λ given. RestOf 300 128 given (ts ++ us)) (sym is) (further n x.1 e))
      step_taken (Err problem) is fine further e = absurd (cc)

pub at_end : (deepest widest : ℕ) (s : PlainState) → at_start s ≡ true → AtState deepest widest s []
at_end deepest widest (outside (places.Header headers.Start)) start = no_more
at_end deepest widest (outside (places.Header headers.Name)) start = absurd (cc)
at_end deepest widest (outside (places.Header headers.Open)) start = absurd (cc)
at_end deepest widest (outside (places.Header headers.FirstPort)) start = absurd (cc)
at_end deepest widest (outside (places.Header headers.NextPort)) start = absurd (cc)
at_end deepest widest (outside (places.Header headers.PortEnd)) start = absurd (cc)
at_end deepest widest (outside (places.Header headers.Semicolon)) start = absurd (cc)
at_end deepest widest (outside places.Item) start = absurd (cc)
at_end deepest widest (outside places.Semicolon) start = absurd (cc)
at_end deepest widest (outside (places.Declaration kind declaration)) start = absurd (cc)
at_end deepest widest (outside (places.Process process)) start = absurd (cc)
at_end deepest widest (outside (places.InstanceName of)) start = absurd (cc)
at_end deepest widest (outside (places.InstanceOpen of name)) start = absurd (cc)
at_end deepest widest (outside (places.Joins of name joins)) start = absurd (cc)
at_end deepest widest (inside purpose ls spot) start = absurd (cc)

pub and_left : (a b : Bool) → (a && b) ≡ true → a ≡ true
and_left true b h = refl
and_left false b h = absurd (cc)

some_ended : (t : Token) (ts : List Token) → Ended 300 128 (t ∷ ts) → (modules : List PlainModule) × Modules 300 128 (t ∷ ts) modules
some_ended t ts (more_modules {ms = ms} p) = (ms, p)

empty_not_done : (final : Machine) → run first_machine [] ≡ Ok final → is_done final ≡ true → ⊥
unfolding run first_machine
empty_not_done final e done =
    let d : is_done first_machine ≡ true = subst (λ (n : Machine). is_done n ≡ true) (sym (same_machine first_machine final e)) done in
    absurd (cc)

-- Where the machine ends as a text does, with nothing above its bound, the tokens are those of a text.
pub recognized : (ts : List Token) (final : Machine) → run first_machine ts ≡ Ok final → is_done final ≡ true → final.over ≡ None →
    (modules : List PlainModule) × Modules 300 128 ts modules
unfolding first_machine
recognized [] final e done none = absurd (empty_not_done final e done)
recognized (t ∷ ts) final e done none =
    let x = front_taken (t ∷ ts) [] first_machine final (omega arith) e none (at_end 300 128 final.state (and_left _ _ done)) in
    some_ended t ts (subst (λ us. Ended 300 128 (t ∷ us)) (append-nil ts) x)

-- the machine then has its tree
pub recognized_tree : (ts : List Token) (final : Machine) → run first_machine ts ≡ Ok final → is_done final ≡ true → final.over ≡ None →
    Modules 300 128 ts final.modules
recognized_tree ts final e done none =
    let x = recognized ts final e done none in
    let a = text_accepted both 300 128 x.1 in
    let same : final ≡ a.final = same_machine final a.final (sym e ∙ a.runs) in
    let tree = (a.exact (omega arith) (omega arith)).0 in
    subst (λ ms. Modules 300 128 ts ms) (sym tree ∙ sym (ap (λ (m : Machine). m.modules) same)) x.1

-- tokens have at most one tree within the bounds
pub text_once : (ts : List Token) (these those : List PlainModule) → Modules 300 128 ts these → Modules 300 128 ts those → these ≡ those
text_once ts these those p q =
    let a = text_accepted both 300 128 p in
    let b = text_accepted both 300 128 q in
    let same : a.final ≡ b.final = same_machine a.final b.final (sym a.runs ∙ b.runs) in
    sym (a.exact (omega arith) (omega arith)).0 ∙ ap (λ (m : Machine). m.modules) same ∙ (b.exact (omega arith) (omega arith)).0
