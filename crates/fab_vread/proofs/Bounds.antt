-- What is above its bound, where no bracket is: the first constant that is too wide.
use Rattle.std.proofs.Common.{◌≡◌, ℕ, suc, ◌<◌, ◌≤◌, ◌+◌, Bool, true, false, ◌==◌, ◌&&◌, List, [], ◌∷◌, ◌++◌, length, refl, ap, ◌∙◌, subst, arith, Option, Some, None, Result, Ok, Err, if◌then◌else◌, nat_lt}
use Rattle.std.proofs.lemmas.Bool.Decides.{nat_tests}
use Rattle.fab_base.specs.declared.problem.Problem.{Problem}
use Rattle.fab_syntax.specs.Plain as trees
use Rattle.fab_syntax.specs.Plain.{PlainExpr, plain_exprs}
use Rattle.fab_tokens.specs.declared.token.Keyword.TheVariants.{Module, Endmodule, Input, Output, Wire, Reg, Assign, Always, If, Posedge}
use Rattle.fab_tokens.specs.declared.token.Token.{Token}
use Rattle.fab_tokens.specs.declared.token.Token.TheVariants.{Identifier, Keyword, Number, Constant, Operator, Arrow, Mark, Unknown}
use Rattle.fab_grammar_defs.specs.Words.{is_foreign}
use Rattle.fab_vread.specs.declared.expressions.Over.{Over}
use Rattle.fab_vread.specs.declared.expressions.Over.TheVariants as overs
use Rattle.fab_vread.specs.declared.places.Kind.{Kind}
use Rattle.fab_vread.specs.declared.places.Kind.TheVariants as kinds
use Rattle.fab_vread.specs.declared.places.Header.TheVariants as headers
use Rattle.fab_vread.specs.declared.places.Declaration.TheVariants as declarations
use Rattle.fab_vread.specs.declared.places.Process.TheVariants as processes
use Rattle.fab_vread.specs.declared.places.Joins.TheVariants as joinings
use Rattle.fab_vread.specs.declared.places.Purpose.{Purpose}
use Rattle.fab_vread.specs.declared.places.Purpose.TheVariants as purposes
use Rattle.fab_vread.specs.declared.places.Move.{Move}
use Rattle.fab_vread.specs.declared.places.Move.TheVariants as moves
use Rattle.fab_vread.specs.declared.places.Place.{Place}
use Rattle.fab_vread.specs.declared.places.Place.TheVariants as places
use Rattle.fab_vread.specs.inner.Expressions as steps
use Rattle.fab_vread.specs.inner.Expressions.{PlainLevel, Spot, Before, Opened, Behind, level, nothing, negation, left, test, choice, parenthesis, brace, index, wanting, named, select, high, colon, low, after, operand, branch, whole, going, ended, completed, kept, Stepped, Shown, Effect, is_this_mark, taken, after_behind, after_single, after_whole, with_over, after_wanting, with_depth, with_bits, close_by, refused}
use Rattle.fab_vread.specs.inner.Places as moving
use Rattle.fab_vread.specs.inner.Places.{move_of, on_mark, begin_on, name_of, header_move, declaration_move, process_move, joins_move, item_move, port_start, to, foreign_or}
use Rattle.fab_vread.specs.inner.Machine.{Machine, PlainState, outside, inside, with_stepped, with_effect, with_value, valued, made, after_token, after_token_at}
use Rattle.fab_vread.proofs.Runs.{IsShallow}
use Rattle.fab_vread.proofs.Rests.{depth}
use Rattle.fab_vread.proofs.Following.{depth_at}

-- the token is no constant
abbrev pub IsNarrowToken : Token → Type 0
IsNarrowToken (Constant bits) = ⊥
IsNarrowToken _ = Unit {0}

-- what is above its bound behind a token that opens no bracket
abbrev pub told_by : Option Over → Token → Option Over
told_by over (Constant bits) = with_bits over (length bits)
told_by over _ = over

told_none : (over : Option Over) (t : Token) → IsNarrowToken t → over ≡ told_by over t
told_none over (Constant bits) h = absurd h
told_none over (Identifier n) h = refl
told_none over (Keyword keyword) h = refl
told_none over (Number number) h = refl
told_none over (Operator op) h = refl
told_none over Arrow h = refl
told_none over (Mark byte) h = refl
told_none over Unknown h = refl

record Opens (over : Option Over) (count : ℕ) : Type 0 where
  before : IsShallow over
  few : count < 300
  same : with_depth over count ≡ over

depth_fine : (over : Option Over) (count : ℕ) → IsShallow (with_depth over count) → Opens over count
depth_fine over count h = fine (nat_lt count 300) refl h where
  fine : (b : Bool) → nat_lt count 300 ≡ b → IsShallow (if b then over else Some overs.Depth) → Opens over count
  fine true e h = record { before = h; few = grind (arith, nat_tests); same = ap (λ (b : Bool). if b then over else Some overs.Depth) e }
  fine false e h = absurd h

bits_back : (over : Option Over) (bits : ℕ) → IsShallow (with_bits over bits) → IsShallow over
bits_back None bits h = tt
bits_back (Some overs.Depth) bits h = h
bits_back (Some (overs.Bits n)) bits h = tt

module _ (bound : ℕ) (enough : 300 ≤ bound) where
  -- ---- expressions

  abbrev IsLow : Token → List PlainLevel → Effect → Type 0
  IsLow t ls (going spot) = (depth ls spot ≤ bound) × IsNarrowToken t
  IsLow t ls (ended e token) = token ≡ t

  abbrev FineShown : Token → Result Shown Problem → Type 0
  FineShown t (Ok given) = IsLow t given.levels given.effect
  FineShown t (Err problem) = Unit {0}

  -- the same, with what is above its bound behind the token
  abbrev IsLed : (over next : Option Over) → Token → List PlainLevel → Effect → Type 0
  IsLed over next t ls (going spot) = (depth ls spot ≤ bound) × (next ≡ told_by over t)
  IsLed over next t ls (ended e token) = (token ≡ t) × (next ≡ over)

  abbrev Fine : Option Over → Token → Result Stepped Problem → Type 0
  Fine over t (Ok given) = IsShallow given.over → IsShallow over × IsLed over given.over t given.levels given.effect
  Fine over t (Err problem) = Unit {0}

  shown_if : (t : Token) (b : Bool) (x y : Result Shown Problem) → FineShown t x → FineShown t y → FineShown t (if b then x else y)
  shown_if t true x y p q = p
  shown_if t false x y p q = q

  fine_if : (over : Option Over) (t : Token) (b : Bool) (x y : Result Stepped Problem) → Fine over t x → Fine over t y → Fine over t (if b then x else y)
  fine_if over t true x y p q = p
  fine_if over t false x y p q = q

  led_of : (over : Option Over) (t : Token) (ls : List PlainLevel) (effect : Effect) → IsLow t ls effect → IsLed over over t ls effect
  led_of over t ls (going spot) h = (h.0, told_none over t h.1)
  led_of over t ls (ended e token) h = (h, refl)

  of_shown : (over : Option Over) (t : Token) (given : Result Shown Problem) → FineShown t given → Fine over t (with_over over given)
  of_shown over t (Ok given) h = λ fine. (fine, led_of over t given.levels given.effect h)
  of_shown over t (Err problem) h = tt

  completed_shallow : (ls : List PlainLevel) (before : Before) (e : PlainExpr) → length ls ≤ bound → depth ls (after (completed before e)) ≤ bound
  completed_shallow ls nothing e few = omega arith
  completed_shallow ls negation e few = omega arith
  completed_shallow ls (left op a) e few = omega arith
  completed_shallow ls (test c) e few = omega arith
  completed_shallow ls (choice c a) e few = omega arith

  close_fine : (ls : List PlainLevel) (before : Before) (bracket : Opened) (e : PlainExpr) (byte : ℕ) → suc (length ls) ≤ bound → FineShown (Mark byte) (close_by ls before bracket e byte)
  close_fine ls before parenthesis e byte few = shown_if (Mark byte) (byte == 41) _ _ (completed_shallow ls before e (omega arith), tt) tt
  close_fine ls before (index n) e byte few = shown_if (Mark byte) (byte == 93) _ _ (completed_shallow ls before (trees.pick n e) (omega arith), tt) tt
  close_fine ls before (brace parts) e byte few =
      shown_if (Mark byte) (byte == 44) _ _ (omega arith, tt) (shown_if (Mark byte) (byte == 125) _ _ (completed_shallow ls before (trees.concatenation (plain_exprs (parts ++ e ∷ []))) (omega arith), tt) tt)

  whole_fine : (ls : List PlainLevel) (e : PlainExpr) (t : Token) → length ls ≤ bound → FineShown t (after_whole ls e t)
  whole_fine [] e t few = refl
  whole_fine (l ∷ ls) e (Mark byte) few = close_fine ls l.before l.bracket (kept (length ls) e) byte few
  whole_fine (l ∷ ls) e (Identifier n) few = tt
  whole_fine (l ∷ ls) e (Keyword keyword) few = tt
  whole_fine (l ∷ ls) e (Number number) few = tt
  whole_fine (l ∷ ls) e (Constant bits) few = tt
  whole_fine (l ∷ ls) e (Operator op) few = tt
  whole_fine (l ∷ ls) e Arrow few = tt
  whole_fine (l ∷ ls) e Unknown few = tt

  single_fine : (ls : List PlainLevel) (e : PlainExpr) (t : Token) → length ls ≤ bound → FineShown t (after_single ls e t)
  single_fine ls e (Operator op) few = (omega arith, tt)
  single_fine ls e (Mark byte) few = shown_if (Mark byte) (byte == 63) _ _ (omega arith, tt) (whole_fine ls e (Mark byte) few)
  single_fine ls e (Identifier n) few = whole_fine ls e (Identifier n) few
  single_fine ls e (Keyword keyword) few = whole_fine ls e (Keyword keyword) few
  single_fine ls e (Number number) few = whole_fine ls e (Number number) few
  single_fine ls e (Constant bits) few = whole_fine ls e (Constant bits) few
  single_fine ls e Arrow few = whole_fine ls e Arrow few
  single_fine ls e Unknown few = whole_fine ls e Unknown few

  -- a mark is no constant
  mark_short : (mark : ℕ) (t : Token) → is_this_mark mark t ≡ true → IsNarrowToken t
  mark_short mark (Mark byte) h = tt
  mark_short mark (Identifier n) h = tt
  mark_short mark (Keyword keyword) h = tt
  mark_short mark (Number number) h = tt
  mark_short mark (Constant bits) h = absurd (cc)
  mark_short mark (Operator op) h = tt
  mark_short mark Arrow h = tt
  mark_short mark Unknown h = tt

  branch_fine : (ls : List PlainLevel) (c a : PlainExpr) (t : Token) (b : Bool) → is_this_mark 58 t ≡ b → length ls ≤ bound →
      FineShown t (if b then Ok (steps.shown ls (going (wanting (choice c a)))) else refused)
  branch_fine ls c a t true e few = (omega arith, mark_short 58 t e)
  branch_fine ls c a t false e few = tt

  behind_fine : (ls : List PlainLevel) (behind : Behind) (t : Token) → length ls ≤ bound → FineShown t (after_behind ls behind t)
  behind_fine ls (operand e) t few = single_fine ls e t few
  behind_fine ls (branch c a) t few = branch_fine ls c a t (is_this_mark 58 t) refl few
  behind_fine ls (whole e) t few = whole_fine ls e t few

  wanting_fine : (over : Option Over) (ls : List PlainLevel) (before : Before) (t : Token) → length ls ≤ bound → Fine over t (after_wanting ls over before t)
  wanting_fine over ls before (Identifier n) few = λ fine. (fine, (omega arith, refl))
  wanting_fine over ls before (Constant bits) few = λ fine.
      (bits_back over (length bits) fine, (completed_shallow ls before (trees.constant bits) few, refl))
  wanting_fine over ls before (Mark byte) few =
      fine_if over (Mark byte) (byte == 40) _ _ (λ fine. let x = depth_fine over (length ls) fine in let y = x.few in (x.before, (omega arith, x.same)))
      (fine_if over (Mark byte) (byte == 123) _ _ (λ fine. let x = depth_fine over (length ls) fine in let y = x.few in (x.before, (omega arith, x.same)))
      (fine_if over (Mark byte) ((byte == 126) && steps.is_nothing before) _ _ (λ fine. (fine, (omega arith, refl))) tt))
  wanting_fine over ls before (Keyword keyword) few = tt
  wanting_fine over ls before (Number number) few = tt
  wanting_fine over ls before (Operator op) few = tt
  wanting_fine over ls before Arrow few = tt
  wanting_fine over ls before Unknown few = tt

  name_fine : (over : Option Over) (ls : List PlainLevel) (before : Before) (n : List ℕ) (t : Token) (b : Bool) → is_this_mark 91 t ≡ b → length ls ≤ bound →
      Fine over t (if b then Ok (steps.stepped ls (with_depth over (length ls)) (going (select before n)))
      else with_over over (after_behind ls (completed before (trees.variable n)) t))
  name_fine over ls before n t true e few = λ fine.
      let x = depth_fine over (length ls) fine in let y = x.few in (x.before, (omega arith, x.same ∙ told_none over t (mark_short 91 t e)))
  name_fine over ls before n t false e few = of_shown over t _ (behind_fine ls (completed before (trees.variable n)) t few)

  low_fine : (over : Option Over) (ls : List PlainLevel) (before : Before) (n : List ℕ) (h l : ℕ) (t : Token) (b : Bool) → is_this_mark 93 t ≡ b → length ls ≤ bound →
      Fine over t (steps.inside ls over (if b then Ok (steps.after_operand before (trees.part n h l)) else refused))
  low_fine over ls before n h l t true e few = λ fine. (fine, (completed_shallow ls before (trees.part n h l) few, told_none over t (mark_short 93 t e)))
  low_fine over ls before n h l t false e few = tt

  high_fine : (over : Option Over) (ls : List PlainLevel) (before : Before) (n : List ℕ) (number byte : ℕ) (b c : Bool) → suc (length ls) ≤ bound →
      Fine over (Mark byte) (steps.inside ls over (if b then Ok (steps.after_operand before (trees.part n number number)) else if c then Ok (going (colon before n number)) else refused))
  high_fine over ls before n number byte true c few = λ fine. (fine, (completed_shallow ls before (trees.part n number number) (omega arith), refl))
  high_fine over ls before n number byte false true few = λ fine. (fine, (omega arith, refl))
  high_fine over ls before n number byte false false few = tt

  taken_fine : (over : Option Over) (ls : List PlainLevel) (spot : Spot) (t : Token) → depth ls spot ≤ bound → Fine over t (taken ls over spot t)
  unfolding taken
  taken_fine over ls (wanting before) t few = wanting_fine over ls before t (omega arith)
  taken_fine over ls (named before n) t few = name_fine over ls before n t (is_this_mark 91 t) refl (omega arith)
  taken_fine over ls (select before n) (Number number) few = λ fine. (fine, (omega arith, refl))
  taken_fine over ls (select before n) (Mark byte) few = wanting_fine over (steps.kept_level (length ls) before (index n) ∷ ls) nothing (Mark byte) (omega arith)
  taken_fine over ls (select before n) (Identifier name) few = wanting_fine over (steps.kept_level (length ls) before (index n) ∷ ls) nothing (Identifier name) (omega arith)
  taken_fine over ls (select before n) (Constant bits) few = wanting_fine over (steps.kept_level (length ls) before (index n) ∷ ls) nothing (Constant bits) (omega arith)
  taken_fine over ls (select before n) (Keyword keyword) few = tt
  taken_fine over ls (select before n) (Operator op) few = tt
  taken_fine over ls (select before n) Arrow few = tt
  taken_fine over ls (select before n) Unknown few = tt
  taken_fine over ls (high before n number) (Mark byte) few = high_fine over ls before n number byte (byte == 93) (byte == 58) (omega arith)
  taken_fine over ls (high before n number) (Identifier name) few = tt
  taken_fine over ls (high before n number) (Keyword keyword) few = tt
  taken_fine over ls (high before n number) (Number k) few = tt
  taken_fine over ls (high before n number) (Constant bits) few = tt
  taken_fine over ls (high before n number) (Operator op) few = tt
  taken_fine over ls (high before n number) Arrow few = tt
  taken_fine over ls (high before n number) Unknown few = tt
  taken_fine over ls (colon before n number) (Number l) few = λ fine. (fine, (omega arith, refl))
  taken_fine over ls (colon before n number) (Mark byte) few = tt
  taken_fine over ls (colon before n number) (Identifier name) few = tt
  taken_fine over ls (colon before n number) (Keyword keyword) few = tt
  taken_fine over ls (colon before n number) (Constant bits) few = tt
  taken_fine over ls (colon before n number) (Operator op) few = tt
  taken_fine over ls (colon before n number) Arrow few = tt
  taken_fine over ls (colon before n number) Unknown few = tt
  taken_fine over ls (low before n h l) t few = low_fine over ls before n h l t (is_this_mark 93 t) refl (omega arith)
  taken_fine over ls (after behind) t few = of_shown over t _ (behind_fine ls behind t (omega arith))

  -- ---- the machine

  abbrev pub FineMachine : Option Over → Token → Result Machine Problem → Type 0
  FineMachine over t (Ok m) = IsShallow m.over → IsShallow over × (depth_at m.state ≤ bound) × (m.over ≡ told_by over t)
  FineMachine over t (Err problem) = Unit {0}

  machine_if : (over : Option Over) (t : Token) (b : Bool) (x y : Result Machine Problem) → (b ≡ true → FineMachine over t x) → FineMachine over t y →
      FineMachine over t (if b then x else y)
  machine_if over t true x y p q = p refl
  machine_if over t false x y p q = q

  ended_fine : (m : Machine) (purpose : Purpose) (e : PlainExpr) (t : Token) → FineMachine m.over t (with_value m purpose e t)
  ended_fine m (purposes.Assign target) e t = machine_if m.over t (is_this_mark 59 t) _ _ (λ is fine. (fine, omega arith, told_none m.over t (mark_short 59 t is))) tt
  ended_fine m purposes.Gate e t = machine_if m.over t (is_this_mark 41 t) _ _ (λ is fine. (fine, omega arith, told_none m.over t (mark_short 41 t is))) tt
  ended_fine m (purposes.Latch target) e t = machine_if m.over t (is_this_mark 59 t) _ _ (λ is fine. (fine, omega arith, told_none m.over t (mark_short 59 t is))) tt
  ended_fine m (purposes.Clocked clock target) e t = machine_if m.over t (is_this_mark 59 t) _ _ (λ is fine. (fine, omega arith, told_none m.over t (mark_short 59 t is))) tt
  ended_fine m (purposes.Join of name port) e t = machine_if m.over t (is_this_mark 41 t) _ _ (λ is fine. (fine, omega arith, told_none m.over t (mark_short 41 t is))) tt

  same_token : (over next : Option Over) (u t : Token) (given : Result Machine Problem) → FineMachine next u given →
      (IsShallow next → IsShallow over × ((u ≡ t) × (next ≡ over))) → FineMachine over t given
  same_token over next u t (Ok m) f same = λ fine.
      let x = f fine in
      let y = same x.0 in
      (y.0, x.1, x.2 ∙ ap (λ o. told_by o u) y.1.1 ∙ ap (told_by over) y.1.0)
  same_token over next u t (Err problem) f same = tt

  effect_fine : (m : Machine) (purpose : Purpose) (over next : Option Over) (ls : List PlainLevel) (effect : Effect) (t : Token) →
      (IsShallow next → IsShallow over × IsLed over next t ls effect) → FineMachine over t (with_effect (record m { over = next }) purpose ls effect)
  effect_fine m purpose over next ls (going spot) t h = λ fine. let x = h fine in (x.0, x.1.0, x.1.1)
  effect_fine m purpose over next ls (ended e u) t h =
      same_token over next u t (with_value (record m { over = next }) purpose e u) (ended_fine (record m { over = next }) purpose e u) h

  stepped_fine : (m : Machine) (purpose : Purpose) (t : Token) (given : Result Stepped Problem) → Fine m.over t given → FineMachine m.over t (with_stepped m purpose given)
  stepped_fine m purpose t (Err problem) f = tt
  stepped_fine m purpose t (Ok x) f = effect_fine m purpose m.over x.over x.levels x.effect t f

  valued_fine : (m : Machine) (purpose : Purpose) (ls : List PlainLevel) (spot : Spot) (t : Token) → depth ls spot ≤ bound → FineMachine m.over t (valued m purpose ls spot t)
  valued_fine m purpose ls spot t few = stepped_fine m purpose t (taken ls m.over spot t) (taken_fine m.over ls spot t few)

  -- ---- outside expressions

  -- the move begins no expression, or one by this token
  abbrev Carries : Token → Result Move Problem → Type 0
  Carries t (Ok (moves.First purpose u)) = u ≡ t
  Carries t (Ok move) = IsNarrowToken t
  Carries t (Err problem) = Unit {0}

  carried : (m : Machine) (t : Token) (given : Result Move Problem) → Carries t given → FineMachine m.over t (made m given)
  carried m t (Ok (moves.To place)) h = λ fine. (fine, omega arith, told_none m.over t h)
  carried m t (Ok (moves.Begin name)) h = λ fine. (fine, omega arith, told_none m.over t h)
  carried m t (Ok (moves.Declare kinds.Input shape name)) h = λ fine. (fine, omega arith, told_none m.over t h)
  carried m t (Ok (moves.Declare kinds.Output shape name)) h = λ fine. (fine, omega arith, told_none m.over t h)
  carried m t (Ok (moves.Declare kinds.Wire shape name)) h = λ fine. (fine, omega arith, told_none m.over t h)
  carried m t (Ok (moves.Declare kinds.Reg shape name)) h = λ fine. (fine, omega arith, told_none m.over t h)
  carried m t (Ok moves.End) h = λ fine. (fine, omega arith, told_none m.over t h)
  carried m t (Ok (moves.Unjoined of name port)) h = λ fine. (fine, omega arith, told_none m.over t h)
  carried m t (Ok (moves.Instance of name)) h = λ fine. (fine, omega arith, told_none m.over t h)
  carried m t (Ok (moves.Expression purpose)) h = λ fine. (fine, (let x : 0 + 0 ≤ bound = omega arith in x), told_none m.over t h)
  carried m t (Ok (moves.First purpose u)) h =
      subst (λ (v : Token). FineMachine m.over v (valued m purpose [] (wanting nothing) u)) h
      (valued_fine m purpose [] (wanting nothing) u (let x : 0 + 0 ≤ bound = omega arith in x))
  carried m t (Err problem) h = tt

  carries_if : (t : Token) (b : Bool) (x y : Result Move Problem) → (b ≡ true → Carries t x) → Carries t y → Carries t (if b then x else y)
  carries_if t true x y p q = p refl
  carries_if t false x y p q = q

  mark_carries : (t : Token) (mark : ℕ) (place : Place) → Carries t (on_mark t mark place)
  mark_carries t mark place = carries_if t (is_this_mark mark t) _ _ (mark_short mark t) tt

  begin_carries : (t : Token) (mark : ℕ) (purpose : Purpose) → Carries t (begin_on t mark purpose)
  begin_carries t mark purpose = carries_if t (is_this_mark mark t) _ _ (mark_short mark t) tt

  name_carries : (t : Token) (f : List ℕ → Move) → ((n : List ℕ) → Carries (Identifier n) (Ok (f n))) → Carries t (moving.named (name_of t) f)
  name_carries (Identifier n) f p = p n
  name_carries (Keyword keyword) f p = tt
  name_carries (Number number) f p = tt
  name_carries (Constant bits) f p = tt
  name_carries (Operator op) f p = tt
  name_carries Arrow f p = tt
  name_carries (Mark byte) f p = tt
  name_carries Unknown f p = tt

  high_carries : (kind : Kind) (t : Token) → Carries t (moving.high_token kind t)
  high_carries kind (Number number) = carries_if (Number number) (nat_lt number 4294967295) _ _ (λ e. tt) tt
  high_carries kind (Identifier n) = tt
  high_carries kind (Keyword keyword) = tt
  high_carries kind (Constant bits) = tt
  high_carries kind (Operator op) = tt
  high_carries kind Arrow = tt
  high_carries kind (Mark byte) = tt
  high_carries kind Unknown = tt

  zero_carries : (kind : Kind) (width : ℕ) (t : Token) → Carries t (moving.zero_token kind width t)
  zero_carries kind width (Number number) = carries_if (Number number) (number == 0) _ _ (λ e. tt) tt
  zero_carries kind width (Identifier n) = tt
  zero_carries kind width (Keyword keyword) = tt
  zero_carries kind width (Constant bits) = tt
  zero_carries kind width (Operator op) = tt
  zero_carries kind width Arrow = tt
  zero_carries kind width (Mark byte) = tt
  zero_carries kind width Unknown = tt

  start_carries : (t : Token) → Carries t (moving.module_start t)
  start_carries (Keyword Module) = tt
  start_carries (Keyword Endmodule) = tt
  start_carries (Keyword Input) = tt
  start_carries (Keyword Output) = tt
  start_carries (Keyword Wire) = tt
  start_carries (Keyword Reg) = tt
  start_carries (Keyword Assign) = tt
  start_carries (Keyword Always) = tt
  start_carries (Keyword If) = tt
  start_carries (Keyword Posedge) = tt
  start_carries (Identifier n) = tt
  start_carries (Number number) = tt
  start_carries (Constant bits) = tt
  start_carries (Operator op) = tt
  start_carries Arrow = tt
  start_carries (Mark byte) = tt
  start_carries Unknown = tt

  if_carries : (t : Token) → Carries t (moving.if_move t)
  if_carries (Keyword If) = tt
  if_carries (Keyword Module) = tt
  if_carries (Keyword Endmodule) = tt
  if_carries (Keyword Input) = tt
  if_carries (Keyword Output) = tt
  if_carries (Keyword Wire) = tt
  if_carries (Keyword Reg) = tt
  if_carries (Keyword Assign) = tt
  if_carries (Keyword Always) = tt
  if_carries (Keyword Posedge) = tt
  if_carries (Identifier n) = tt
  if_carries (Number number) = tt
  if_carries (Constant bits) = tt
  if_carries (Operator op) = tt
  if_carries Arrow = tt
  if_carries (Mark byte) = tt
  if_carries Unknown = tt

  arrow_carries : (clock target : List ℕ) (t : Token) → Carries t (moving.arrow_move clock target t)
  arrow_carries clock target Arrow = tt
  arrow_carries clock target (Identifier n) = tt
  arrow_carries clock target (Keyword keyword) = tt
  arrow_carries clock target (Number number) = tt
  arrow_carries clock target (Constant bits) = tt
  arrow_carries clock target (Operator op) = tt
  arrow_carries clock target (Mark byte) = tt
  arrow_carries clock target Unknown = tt

  port_carries : (t : Token) → Carries t (port_start t)
  port_carries (Keyword Input) = tt
  port_carries (Keyword Output) = tt
  port_carries (Keyword Module) = tt
  port_carries (Keyword Endmodule) = tt
  port_carries (Keyword Wire) = tt
  port_carries (Keyword Reg) = tt
  port_carries (Keyword Assign) = tt
  port_carries (Keyword Always) = tt
  port_carries (Keyword If) = tt
  port_carries (Keyword Posedge) = tt
  port_carries (Identifier n) = carries_if (Identifier n) (is_foreign n) _ _ (λ e. tt) tt
  port_carries (Number number) = tt
  port_carries (Constant bits) = tt
  port_carries (Operator op) = tt
  port_carries Arrow = tt
  port_carries (Mark byte) = tt
  port_carries Unknown = tt

  item_carries : (t : Token) → Carries t (item_move t)
  item_carries (Keyword Wire) = tt
  item_carries (Keyword Reg) = tt
  item_carries (Keyword Assign) = tt
  item_carries (Keyword Always) = tt
  item_carries (Keyword Endmodule) = tt
  item_carries (Keyword Module) = tt
  item_carries (Keyword Input) = tt
  item_carries (Keyword Output) = tt
  item_carries (Keyword If) = tt
  item_carries (Keyword Posedge) = tt
  item_carries (Identifier n) = carries_if (Identifier n) (is_foreign n) _ _ (λ e. tt) tt
  item_carries (Number number) = tt
  item_carries (Constant bits) = tt
  item_carries (Operator op) = tt
  item_carries Arrow = tt
  item_carries (Mark byte) = tt
  item_carries Unknown = tt

  edge_carries : (t : Token) → Carries t (moving.edge_move t)
  edge_carries (Keyword Posedge) = tt
  edge_carries (Keyword Module) = tt
  edge_carries (Keyword Endmodule) = tt
  edge_carries (Keyword Input) = tt
  edge_carries (Keyword Output) = tt
  edge_carries (Keyword Wire) = tt
  edge_carries (Keyword Reg) = tt
  edge_carries (Keyword Assign) = tt
  edge_carries (Keyword Always) = tt
  edge_carries (Keyword If) = tt
  edge_carries (Identifier n) = carries_if (Identifier n) (is_foreign n) _ _ (λ e. tt) tt
  edge_carries (Number number) = tt
  edge_carries (Constant bits) = tt
  edge_carries (Operator op) = tt
  edge_carries Arrow = tt
  edge_carries (Mark byte) = tt
  edge_carries Unknown = tt

  place_carries : (place : Place) (t : Token) → Carries t (move_of place t)
  unfolding move_of
  place_carries (places.Header headers.Start) t = start_carries t
  place_carries (places.Header headers.Name) t = name_carries t _ (λ n. tt)
  place_carries (places.Header headers.Open) t = mark_carries t 40 _
  place_carries (places.Header headers.FirstPort) t = carries_if t (is_this_mark 41 t) _ _ (mark_short 41 t) (port_carries t)
  place_carries (places.Header headers.NextPort) t = port_carries t
  place_carries (places.Header headers.PortEnd) t = carries_if t (is_this_mark 44 t) _ _ (mark_short 44 t) (mark_carries t 41 _)
  place_carries (places.Header headers.Semicolon) t = mark_carries t 59 _
  place_carries places.Item t = item_carries t
  place_carries places.Semicolon t = mark_carries t 59 _
  place_carries (places.Declaration kind declarations.RangeOrName) t = carries_if t (is_this_mark 91 t) _ _ (mark_short 91 t) (name_carries t _ (λ n. tt))
  place_carries (places.Declaration kind declarations.High) t = high_carries kind t
  place_carries (places.Declaration kind (declarations.Colon width)) t = mark_carries t 58 _
  place_carries (places.Declaration kind (declarations.Zero width)) t = zero_carries kind width t
  place_carries (places.Declaration kind (declarations.Close width)) t = mark_carries t 93 _
  place_carries (places.Declaration kind (declarations.Name width)) t = name_carries t _ (λ n. tt)
  place_carries (places.Process processes.AssignTarget) t = name_carries t _ (λ n. tt)
  place_carries (places.Process (processes.AssignSign target)) t = begin_carries t 61 _
  place_carries (places.Process processes.At) t = mark_carries t 64 _
  place_carries (places.Process processes.Event) t = carries_if t (is_this_mark 42 t) _ _ (mark_short 42 t) (mark_carries t 40 _)
  place_carries (places.Process processes.If) t = if_carries t
  place_carries (places.Process processes.GateOpen) t = begin_carries t 40 _
  place_carries (places.Process processes.LatchTarget) t = name_carries t _ (λ n. tt)
  place_carries (places.Process (processes.LatchSign target)) t = begin_carries t 61 _
  place_carries (places.Process processes.Edge) t = edge_carries t
  place_carries (places.Process processes.Clock) t = name_carries t _ (λ n. tt)
  place_carries (places.Process (processes.ClockClose clock)) t = mark_carries t 41 _
  place_carries (places.Process (processes.ClockedTarget clock)) t = name_carries t _ (λ n. tt)
  place_carries (places.Process (processes.ClockedArrow clock target)) t = arrow_carries clock target t
  place_carries (places.InstanceName of) t = name_carries t _ (λ n. tt)
  place_carries (places.InstanceOpen of name) t = mark_carries t 40 _
  place_carries (places.Joins of name joinings.First) t = carries_if t (is_this_mark 41 t) _ _ (mark_short 41 t) (mark_carries t 46 _)
  place_carries (places.Joins of name joinings.Next) t = mark_carries t 46 _
  place_carries (places.Joins of name joinings.Port) t = name_carries t _ (λ n. tt)
  place_carries (places.Joins of name (joinings.Open port)) t = mark_carries t 40 _
  place_carries (places.Joins of name (joinings.Value port)) t = carries_if t (is_this_mark 41 t) _ _ (mark_short 41 t) refl
  place_carries (places.Joins of name joinings.End) t =
      carries_if t (is_this_mark 44 t) _ _ (mark_short 44 t) (carries_if t (is_this_mark 41 t) _ _ (mark_short 41 t) tt)

  pub token_fine : (m : Machine) (t : Token) → depth_at m.state ≤ bound → FineMachine m.over t (after_token m t)
  unfolding after_token
  token_fine m t few = state_fine m.state few where
    state_fine : (s : PlainState) → depth_at s ≤ bound → FineMachine m.over t (after_token_at m s t)
    state_fine (outside place) few = carried m t (move_of place t) (place_carries place t)
    state_fine (inside purpose ls spot) few = valued_fine m purpose ls spot t few
