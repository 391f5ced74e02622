-- The machine takes exactly the tokens with which a text can begin.
use Rattle.std.proofs.Common.{◌≡◌, ℕ, ◌≤◌, ◌+◌, Bool, true, false, List, [], ◌∷◌, ◌++◌, length, refl, ap, ◌∙◌, subst, sym, arith, Option, Some, None, Result, Ok, Err, append-nil, nat_lt, if◌then◌else◌}
use Rattle.fab_base.specs.declared.problem.Problem.{Problem}
use Rattle.fab_syntax.specs.Plain.{PlainModule}
use Rattle.fab_tokens.specs.declared.token.Token.{Token}
use Rattle.fab_tokens.specs.declared.token.Token.TheVariants.{Identifier, Keyword, Number, Constant, Operator, Arrow, Mark, Unknown}
use Rattle.fab_grammar_defs.specs.Grammar.{Modules}
use Rattle.fab_vread.specs.declared.expressions.Over.{Over}
use Rattle.fab_vread.specs.declared.expressions.Over.TheVariants as overs
use Rattle.fab_vread.specs.inner.Machine.{Machine, limit, first_machine, after_token, is_done, at_start}
use Rattle.fab_vread.proofs.Running.{run, and_next, and_take}
use Rattle.fab_vread.specs.Refusals.{BeginsWithin, BeginsText, AreText, IsAbove, deep, wide, first_wide}
use Rattle.fab_vread.proofs.Runs.{both, depth_alone, IsShallow, run_on}
use Rattle.fab_vread.proofs.Following.{AtState, Ended, more_modules, RestOf, BehindValue, depth_at}
use Rattle.fab_vread.proofs.Continuing.{token_step}
use Rattle.fab_vread.proofs.Bounds.{FineMachine, told_by, token_fine}
use Rattle.fab_vread.proofs.Recognized.{same_machine, bits_in, narrow_in, run_over, run_shallow, front_taken, at_end, and_left}
use Rattle.fab_vread.proofs.Placing.{text_accepted}
use Rattle.fab_vread.proofs.Ending.{Ends, ends}

-- ---- bounds with room for a run

abbrev HasRoom : (D W : ℕ) → Machine → List Token → Type 0
HasRoom D W m [] = Unit {0}
HasRoom D W m (t ∷ ts) = (depth_at m.state ≤ D) × (bits_in t ≤ W) × ((n : Machine) → after_token m t ≡ Ok n → HasRoom D W n ts)

record Room (m : Machine) (ts : List Token) : Type 0 where
  deepest : ℕ
  widest : ℕ
  enough : (D W : ℕ) → deepest ≤ D → widest ≤ W → HasRoom D W m ts

abbrev ok_machine : Machine → Result Machine Problem
ok_machine m = Ok m

same_ok : (m n : Machine) → ok_machine m ≡ Ok n → m ≡ n
same_ok m n e = cc

room_for : (ts : List Token) (m final : Machine) → run m ts ≡ Ok final → Room m ts
unfolding run
room_for [] m final e = record { deepest = 0; widest = 0; enough = λ D W p q. tt }
room_for (t ∷ ts) m final e = next_room (λ n h. room_for ts n final h) (after_token m t) refl e where
  next_room : ((n : Machine) → run n ts ≡ Ok final → Room n ts) → (given : Result Machine Problem) → after_token m t ≡ given →
      and_next given (λ n. run n ts) ≡ Ok final → Room m (t ∷ ts)
  next_room rest (Ok n) is e =
      let r = rest n e in
      record {
        deepest = r.deepest + depth_at m.state;
        widest = r.widest + bits_in t;
        enough = λ D W p q. (
          omega arith,
          omega arith,
          λ k also. subst (λ (x : Machine). HasRoom D W x ts) (same_ok n k (sym is ∙ also)) (r.enough D W (omega arith) (omega arith)),
        );
      }
  next_room rest (Err problem) is e = absurd (cc)

front_general : (D W : ℕ) (ts us : List Token) (m final : Machine) → run m ts ≡ Ok final → HasRoom D W m ts → AtState D W final.state us →
    AtState D W m.state (ts ++ us)
unfolding run
front_general D W [] us m final e room rest = subst (λ (n : Machine). AtState D W n.state us) (sym (same_machine m final e)) rest
front_general D W (t ∷ ts) us m final e room rest = step_taken (λ n h r. front_general D W ts us n final h r rest) (after_token m t) refl e where
  step_taken : ((n : Machine) → run n ts ≡ Ok final → HasRoom D W n ts → AtState D W n.state (ts ++ us)) → (given : Result Machine Problem) → after_token m t ≡ given → and_next given (λ n. run n ts) ≡ Ok final → AtState D W m.state (t ∷ (ts ++ us))
  step_taken further (Ok n) is e =
      token_step D W m t (ts ++ us) room.0 (λ purpose. narrow_in D W (BehindValue D W purpose) t room.1)
      (subst (λ given. RestOf D W given (ts ++ us)) (sym is) (further n e (room.2 n is)))
  step_taken further (Err problem) is e = absurd (cc)

-- ---- whole texts

record TextWithin (D W : ℕ) (ts : List Token) : Type 0 where
  modules : List PlainModule
  made : Modules D W ts modules

ended_text : (D W : ℕ) (t : Token) (ts : List Token) → Ended D W (t ∷ ts) → TextWithin D W (t ∷ ts)
ended_text D W t ts (more_modules {ms = ms} p) = record { modules = ms; made = p }

ended_behind : (D W : ℕ) (ts : List Token) (t : Token) (us : List Token) → Ended D W (ts ++ t ∷ us) → TextWithin D W (ts ++ t ∷ us)
ended_behind D W [] t us h = ended_text D W t us h
ended_behind D W (u ∷ ts) t us h = ended_text D W u (ts ++ t ∷ us) h

ended_first : (D W : ℕ) (ts : List Token) → AtState D W first_machine.state ts → Ended D W ts
unfolding first_machine
ended_first D W ts h = h

shallow_first : depth_at first_machine.state ≤ 300
unfolding first_machine
shallow_first = let x : 0 ≤ 300 = omega arith in x

-- tokens that lead to the end of a text, without bounds and within them
ended_run : (ts : List Token) (final : Machine) → run first_machine ts ≡ Ok final → at_start final.state ≡ true → (D : ℕ) × (W : ℕ) × Ended D W ts
ended_run ts final e start =
    let r = room_for ts first_machine final e in
    let x = front_general r.deepest r.widest ts [] first_machine final e (r.enough r.deepest r.widest (omega arith) (omega arith))
    (at_end r.deepest r.widest final.state start) in
    (r.deepest, r.widest, ended_first r.deepest r.widest ts (subst (λ us. AtState r.deepest r.widest first_machine.state us) (append-nil ts) x))

ended_within : (ts : List Token) (final : Machine) → run first_machine ts ≡ Ok final → at_start final.state ≡ true → final.over ≡ None → Ended 300 128 ts
ended_within ts final e start none =
    let x = front_taken ts [] first_machine final shallow_first e none (at_end 300 128 final.state start) in
    ended_first 300 128 ts (subst (λ us. AtState 300 128 first_machine.state us) (append-nil ts) x)

runs_to_end : (ts : List Token) (m : Machine) (x : Ends m) → run first_machine ts ≡ Ok m → run first_machine (ts ++ x.first ∷ x.rest) ≡ Ok x.final
runs_to_end ts m x e = run_on ts (x.first ∷ x.rest) first_machine ∙ ap (λ given. and_take given (x.first ∷ x.rest)) e ∙ x.runs

-- what the machine takes begins a text
pub taken_begins : (ts : List Token) (m : Machine) → run first_machine ts ≡ Ok m → BeginsText ts
taken_begins ts m e =
    let x = ends m in
    let y = ended_run (ts ++ x.first ∷ x.rest) x.final (runs_to_end ts m x e) x.start in
    let z = ended_behind y.0 y.1 ts x.first x.rest y.2 in
    record { deepest = y.0; widest = y.1; begins = record { more = x.first ∷ x.rest; modules = z.modules; made = z.made } }

-- within the limits where nothing is above them
pub taken_within : (ts : List Token) (m : Machine) → run first_machine ts ≡ Ok m → m.over ≡ None → BeginsWithin 300 128 ts
taken_within ts m e none =
    let x = ends m in
    let y = ended_within (ts ++ x.first ∷ x.rest) x.final (runs_to_end ts m x e) x.start (x.same ∙ none) in
    let z = ended_behind 300 128 ts x.first x.rest y in
    record { more = x.first ∷ x.rest; modules = z.modules; made = z.made }

-- what begins a text is taken
record Taken (ts more : List Token) (final : Machine) : Type 0 where
  machine : Machine
  runs : run first_machine ts ≡ Ok machine
  goes_on : run machine more ≡ Ok final

part_taken : (ts more : List Token) (final : Machine) → run first_machine (ts ++ more) ≡ Ok final → Taken ts more final
part_taken ts more final e = parted (run first_machine ts) refl (sym (run_on ts more first_machine) ∙ e) where
  parted : (given : Result Machine Problem) → run first_machine ts ≡ given → and_take given more ≡ Ok final → Taken ts more final
  parted (Ok m) is e = record { machine = m; runs = is; goes_on = e }
  parted (Err problem) is e = absurd (cc)

refused_run : (ts : List Token) (problem : Problem) (m : Machine) → run first_machine ts ≡ Err problem → run first_machine ts ≡ Ok m → ⊥
refused_run ts problem m a b = cc

-- what is refused begins none
pub refused_begins : (ts : List Token) (problem : Problem) → run first_machine ts ≡ Err problem → BeginsText ts → ⊥
refused_begins ts problem refused b =
    let a = text_accepted both b.deepest b.widest b.begins.made in
    let x = part_taken ts b.begins.more a.final a.runs in
    refused_run ts problem x.machine refused x.runs

pub begins_taken : (ts : List Token) → BeginsText ts → (m : Machine) × (run first_machine ts ≡ Ok m)
begins_taken ts b =
    let a = text_accepted both b.deepest b.widest b.begins.made in
    let x = part_taken ts b.begins.more a.final a.runs in
    (x.machine, x.runs)

-- what begins a text within the limits leaves nothing above them
pub within_fine : (ts : List Token) (m : Machine) → run first_machine ts ≡ Ok m → BeginsWithin 300 128 ts → m.over ≡ None
within_fine ts m e b =
    let a = text_accepted both 300 128 b.made in
    let x = part_taken ts b.more a.final a.runs in
    let none = run_over b.more x.machine a.final x.goes_on (a.exact (omega arith) (omega arith)).1 in
    subst (λ (n : Machine). n.over ≡ None) (same_ok x.machine m (sym x.runs ∙ e)) none

-- a text ends where the machine says so
pub text_done : (ts : List Token) (m : Machine) → run first_machine ts ≡ Ok m → AreText ts → is_done m ≡ true
text_done ts m e b =
    let a = text_accepted both b.deepest b.widest b.made in
    subst (λ (n : Machine). is_done n ≡ true) (same_ok a.final m (sym a.runs ∙ e)) a.done

pub done_text : (ts : List Token) (m : Machine) → run first_machine ts ≡ Ok m → is_done m ≡ true → AreText ts
unfolding run first_machine
done_text [] m e done =
    let d : is_done first_machine ≡ true = subst (λ (n : Machine). is_done n ≡ true) (sym (same_machine first_machine m e)) done in
    absurd (cc)
done_text (t ∷ ts) m e done =
    let y = ended_run (t ∷ ts) m e (and_left _ _ done) in
    let z = ended_text y.0 y.1 t ts y.2 in
    record { deepest = y.0; widest = y.1; modules = z.modules; made = z.made }

-- ---- brackets alone

-- the bits of all constants
abbrev widest_in : List Token → ℕ
widest_in [] = 0
widest_in (t ∷ ts) = bits_in t + widest_in ts

shallow_room : (W : ℕ) (ts : List Token) (m final : Machine) → run m ts ≡ Ok final → IsShallow final.over → depth_at m.state ≤ 300 → widest_in ts ≤ W → HasRoom 300 W m ts
unfolding run
shallow_room W [] m final e fine few room = tt
shallow_room W (t ∷ ts) m final e fine few room =
    (few, omega arith, next_room (λ n h shallow. shallow_room W ts n final h fine shallow (omega arith)) (after_token m t) (token_fine 300 (omega arith) m t few) e) where
      next_room : ((n : Machine) → run n ts ≡ Ok final → depth_at n.state ≤ 300 → HasRoom 300 W n ts) → (given : Result Machine Problem) →
          FineMachine 300 (omega arith) m.over t given → and_next given (λ n. run n ts) ≡ Ok final → (n : Machine) → given ≡ Ok n → HasRoom 300 W n ts
      next_room further (Ok k) led e n is =
          let x = led (run_shallow ts k final e fine) in
          subst (λ (k : Machine). HasRoom 300 W k ts) (same_ok k n is) (further k e x.1)
      next_room further (Err problem) led e n is = absurd (cc)

-- where no bracket is above its bound, brackets within it suffice
pub taken_shallow : (ts : List Token) (m : Machine) → run first_machine ts ≡ Ok m → IsShallow m.over → (widest : ℕ) × BeginsWithin 300 widest ts
taken_shallow ts m e fine =
    let x = ends m in
    let us = ts ++ x.first ∷ x.rest in
    let whole = runs_to_end ts m x e in
    let room = shallow_room (widest_in us) us first_machine x.final whole (subst IsShallow (sym x.same) fine) shallow_first (omega arith) in
    let y = front_general 300 (widest_in us) us [] first_machine x.final whole room (at_end 300 (widest_in us) x.final.state x.start) in
    let z = ended_behind 300 (widest_in us) ts x.first x.rest
    (ended_first 300 (widest_in us) us (subst (λ vs. AtState 300 (widest_in us) first_machine.state vs) (append-nil us) y)) in
    (widest_in us, record { more = x.first ∷ x.rest; modules = z.modules; made = z.made })

-- and none is above it, where they do
pub within_shallow : (widest : ℕ) (ts : List Token) (m : Machine) → run first_machine ts ≡ Ok m → BeginsWithin 300 widest ts → IsShallow m.over
within_shallow widest ts m e b =
    let a = text_accepted depth_alone 300 widest b.made in
    let x = part_taken ts b.more a.final a.runs in
    let fine = run_shallow b.more x.machine a.final x.goes_on (a.exact (omega arith) tt).1 in
    subst (λ (n : Machine). IsShallow n.over) (same_ok x.machine m (sym x.runs ∙ e)) fine

-- ---- the first constant that is too wide

abbrev told_all : Option Over → List Token → Option Over
told_all over [] = over
told_all over (t ∷ ts) = told_all (told_by over t) ts

run_told : (ts : List Token) (m final : Machine) → run m ts ≡ Ok final → IsShallow final.over → final.over ≡ told_all m.over ts
unfolding run
run_told [] m final e fine = ap (λ (n : Machine). n.over) (sym (same_machine m final e))
run_told (t ∷ ts) m final e fine =
    next_told (λ n h. run_told ts n final h fine) (after_token m t) (token_fine (300 + depth_at m.state) (omega arith) m t (omega arith)) e where
      next_told : ((n : Machine) → run n ts ≡ Ok final → final.over ≡ told_all n.over ts) → (given : Result Machine Problem) →
          FineMachine (300 + depth_at m.state) (omega arith) m.over t given → and_next given (λ n. run n ts) ≡ Ok final → final.over ≡ told_all (told_by m.over t) ts
      next_told further (Ok n) led e =
          let x = led (run_shallow ts n final e fine) in
          further n e ∙ ap (λ over. told_all over ts) x.2
      next_told further (Err problem) led e = absurd (cc)

some_stays : (over : Over) (t : Token) → told_by (Some over) t ≡ Some over
some_stays over (Constant bits) = refl
some_stays over (Identifier n) = refl
some_stays over (Keyword keyword) = refl
some_stays over (Number number) = refl
some_stays over (Operator op) = refl
some_stays over Arrow = refl
some_stays over (Mark byte) = refl
some_stays over Unknown = refl

told_some : (over : Over) (ts : List Token) → told_all (Some over) ts ≡ Some over
told_some over [] = refl
told_some over (t ∷ ts) = ap (λ o. told_all o ts) (some_stays over t) ∙ told_some over ts

abbrev over_bits : Option ℕ → Option Over
over_bits None = None
over_bits (Some bits) = Some (overs.Bits bits)

told_first : (ts : List Token) → told_all None ts ≡ over_bits (first_wide ts)
told_first [] = refl
told_first (Constant bits ∷ ts) = by_test (told_first ts) (nat_lt 128 (length bits)) where
  by_test : told_all None ts ≡ over_bits (first_wide ts) → (b : Bool) →
      told_all (if b then Some (overs.Bits (length bits)) else None) ts ≡ over_bits (if b then Some (length bits) else first_wide ts)
  by_test rest true = told_some (overs.Bits (length bits)) ts
  by_test rest false = rest
told_first (Identifier n ∷ ts) = told_first ts
told_first (Keyword keyword ∷ ts) = told_first ts
told_first (Number number ∷ ts) = told_first ts
told_first (Operator op ∷ ts) = told_first ts
told_first (Arrow ∷ ts) = told_first ts
told_first (Mark byte ∷ ts) = told_first ts
told_first (Unknown ∷ ts) = told_first ts

bits_told : (first : Option ℕ) (bits : ℕ) → over_bits first ≡ Some (overs.Bits bits) → first ≡ Some bits
bits_told None bits e = absurd (cc)
bits_told (Some n) bits e = cc

-- what is above its bound behind these tokens
pub over_above : (ts : List Token) (m : Machine) (over : Over) → run first_machine ts ≡ Ok m → m.over ≡ Some over → IsAbove ts (limit over)
unfolding first_machine
over_above ts m overs.Depth e above = deep (λ widest b. subst IsShallow above (within_shallow widest ts m e b))
over_above ts m (overs.Bits bits) e above =
    let fine : IsShallow m.over = subst IsShallow (sym above) tt in
    let x = taken_shallow ts m e fine in
    wide bits x.0 x.1 (bits_told (first_wide ts) bits (sym (told_first ts) ∙ sym (run_told ts first_machine m e fine) ∙ above))
