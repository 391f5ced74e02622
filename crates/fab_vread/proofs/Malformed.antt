-- Where the machine can refuse a token only as malformed.
use Rattle.std.proofs.Common.{◌≡◌, ℕ, Bool, true, false, ◌==◌, ◌&&◌, List, [], ◌∷◌, length, refl, Option, Result, Ok, Err, if◌then◌else◌, nat_lt}
use Rattle.fab_base.specs.declared.problem.Problem.{Problem}
use Rattle.fab_base.specs.declared.problem.Problem.TheVariants as problems
use Rattle.fab_base.specs.declared.words.Reason.TheVariants as reasons
use Rattle.fab_syntax.specs.Plain as trees
use Rattle.fab_syntax.specs.Plain.{PlainExpr}
use Rattle.fab_tokens.specs.declared.token.Keyword.TheVariants.{Module, Endmodule, Input, Output, Wire, Reg, Assign, Always, If, Posedge}
use Rattle.fab_tokens.specs.declared.token.Token.{Token}
use Rattle.fab_tokens.specs.declared.token.Token.TheVariants.{Identifier, Keyword, Number, Constant, Operator, Arrow, Mark, Unknown}
use Rattle.fab_vread.specs.declared.expressions.Over.{Over}
use Rattle.fab_vread.specs.declared.places.Kind.{Kind}
use Rattle.fab_vread.specs.declared.places.Purpose.{Purpose}
use Rattle.fab_vread.specs.declared.places.Purpose.TheVariants as purposes
use Rattle.fab_vread.specs.declared.places.Move.{Move}
use Rattle.fab_vread.specs.declared.places.Place.{Place}
use Rattle.fab_vread.specs.inner.Expressions as steps
use Rattle.fab_vread.specs.inner.Expressions.{PlainLevel, Spot, Before, Behind, Opened, Effect, going, ended, level, nothing, parenthesis, brace, index, wanting, named, select, high, colon, low, after, operand, branch, whole, completed, kept, Stepped, Shown, is_this_mark, taken, after_wanting, after_behind, after_single, after_whole, with_over, close_by, inside as held}
use Rattle.fab_vread.specs.inner.Places as moving
use Rattle.fab_vread.specs.inner.Places.{on_mark, begin_on, name_of}
use Rattle.fab_vread.specs.inner.Machine.{Machine, with_stepped, with_effect, with_value, valued, made, moved}

abbrev pub malformed : Problem
malformed = problems.Malformed reasons.Token

-- what is refused is a malformed token
abbrev pub Plainly : {X : Type 0} → Result X Problem → Type 0
Plainly (Ok x) = Unit {0}
Plainly (Err problem) = problem ≡ malformed

plainly_if : {X : Type 0} (b : Bool) (x y : Result X Problem) → Plainly x → Plainly y → Plainly (if b then x else y)
plainly_if true x y p q = p
plainly_if false x y p q = q

-- ---- expressions

whole_plain : (ls : List PlainLevel) (e : PlainExpr) (t : Token) → Plainly (after_whole ls e t)
whole_plain [] e t = tt
whole_plain (l ∷ ls) e (Mark byte) = closed_plain l.bracket where
  closed_plain : (bracket : Opened) → Plainly (close_by ls l.before bracket (kept (length ls) e) byte)
  closed_plain parenthesis = plainly_if (byte == 41) _ _ tt refl
  closed_plain (index n) = plainly_if (byte == 93) _ _ tt refl
  closed_plain (brace parts) = plainly_if (byte == 44) _ _ tt (plainly_if (byte == 125) _ _ tt refl)
whole_plain (l ∷ ls) e (Identifier n) = refl
whole_plain (l ∷ ls) e (Keyword keyword) = refl
whole_plain (l ∷ ls) e (Number number) = refl
whole_plain (l ∷ ls) e (Constant bits) = refl
whole_plain (l ∷ ls) e (Operator op) = refl
whole_plain (l ∷ ls) e Arrow = refl
whole_plain (l ∷ ls) e Unknown = refl

single_plain : (ls : List PlainLevel) (e : PlainExpr) (t : Token) → Plainly (after_single ls e t)
single_plain ls e (Operator op) = tt
single_plain ls e (Mark byte) = plainly_if (byte == 63) _ _ tt (whole_plain ls e (Mark byte))
single_plain ls e (Identifier n) = whole_plain ls e (Identifier n)
single_plain ls e (Keyword keyword) = whole_plain ls e (Keyword keyword)
single_plain ls e (Number number) = whole_plain ls e (Number number)
single_plain ls e (Constant bits) = whole_plain ls e (Constant bits)
single_plain ls e Arrow = whole_plain ls e Arrow
single_plain ls e Unknown = whole_plain ls e Unknown

behind_plain : (ls : List PlainLevel) (behind : Behind) (t : Token) → Plainly (after_behind ls behind t)
behind_plain ls (operand e) t = single_plain ls e t
behind_plain ls (branch c a) t = plainly_if (is_this_mark 58 t) _ _ tt refl
behind_plain ls (whole e) t = whole_plain ls e t

over_plain : (over : Option Over) (given : Result Shown Problem) → Plainly given → Plainly (with_over over given)
over_plain over (Ok given) p = tt
over_plain over (Err problem) p = p

held_plain : (ls : List PlainLevel) (over : Option Over) (given : Result Effect Problem) → Plainly given → Plainly (held ls over given)
held_plain ls over (Ok given) p = tt
held_plain ls over (Err problem) p = p

wanting_plain : (ls : List PlainLevel) (over : Option Over) (before : Before) (t : Token) → Plainly (after_wanting ls over before t)
wanting_plain ls over before (Identifier n) = tt
wanting_plain ls over before (Constant bits) = tt
wanting_plain ls over before (Mark byte) =
    plainly_if (byte == 40) _ _ tt (plainly_if (byte == 123) _ _ tt (plainly_if ((byte == 126) && steps.is_nothing before) _ _ tt refl))
wanting_plain ls over before (Keyword keyword) = refl
wanting_plain ls over before (Number number) = refl
wanting_plain ls over before (Operator op) = refl
wanting_plain ls over before Arrow = refl
wanting_plain ls over before Unknown = refl

select_plain : (ls : List PlainLevel) (over : Option Over) (before : Before) (n : List ℕ) (t : Token) → Plainly (steps.after_select ls over before n t)
select_plain ls over before n (Number number) = tt
select_plain ls over before n (Mark byte) = wanting_plain (steps.kept_level (length ls) before (index n) ∷ ls) over nothing (Mark byte)
select_plain ls over before n (Identifier name) = wanting_plain (steps.kept_level (length ls) before (index n) ∷ ls) over nothing (Identifier name)
select_plain ls over before n (Constant bits) = wanting_plain (steps.kept_level (length ls) before (index n) ∷ ls) over nothing (Constant bits)
select_plain ls over before n (Keyword keyword) = refl
select_plain ls over before n (Operator op) = refl
select_plain ls over before n Arrow = refl
select_plain ls over before n Unknown = refl

high_plain : (before : Before) (n : List ℕ) (h : ℕ) (t : Token) → Plainly (steps.after_high before n h t)
high_plain before n h (Mark byte) = plainly_if (byte == 93) _ _ tt (plainly_if (byte == 58) _ _ tt refl)
high_plain before n h (Identifier name) = refl
high_plain before n h (Keyword keyword) = refl
high_plain before n h (Number number) = refl
high_plain before n h (Constant bits) = refl
high_plain before n h (Operator op) = refl
high_plain before n h Arrow = refl
high_plain before n h Unknown = refl

colon_plain : (before : Before) (n : List ℕ) (h : ℕ) (t : Token) → Plainly (steps.after_colon before n h t)
colon_plain before n h (Number number) = tt
colon_plain before n h (Mark byte) = refl
colon_plain before n h (Identifier name) = refl
colon_plain before n h (Keyword keyword) = refl
colon_plain before n h (Constant bits) = refl
colon_plain before n h (Operator op) = refl
colon_plain before n h Arrow = refl
colon_plain before n h Unknown = refl

taken_plain : (ls : List PlainLevel) (over : Option Over) (spot : Spot) (t : Token) → Plainly (taken ls over spot t)
unfolding taken
taken_plain ls over (wanting before) t = wanting_plain ls over before t
taken_plain ls over (named before n) t =
    plainly_if (is_this_mark 91 t) _ _ tt (over_plain over _ (behind_plain ls (completed before (trees.variable n)) t))
taken_plain ls over (select before n) t = select_plain ls over before n t
taken_plain ls over (high before n h) t = held_plain ls over _ (high_plain before n h t)
taken_plain ls over (colon before n h) t = held_plain ls over _ (colon_plain before n h t)
taken_plain ls over (low before n h l) t = held_plain ls over _ (plainly_if (is_this_mark 93 t) _ _ tt refl)
taken_plain ls over (after behind) t = over_plain over _ (behind_plain ls behind t)

value_plain : (m : Machine) (purpose : Purpose) (e : PlainExpr) (t : Token) → Plainly (with_value m purpose e t)
value_plain m (purposes.Assign target) e t = plainly_if (is_this_mark 59 t) _ _ tt refl
value_plain m purposes.Gate e t = plainly_if (is_this_mark 41 t) _ _ tt refl
value_plain m (purposes.Latch target) e t = plainly_if (is_this_mark 59 t) _ _ tt refl
value_plain m (purposes.Clocked clock target) e t = plainly_if (is_this_mark 59 t) _ _ tt refl
value_plain m (purposes.Join of name port) e t = plainly_if (is_this_mark 41 t) _ _ tt refl

effect_plain : (m : Machine) (purpose : Purpose) (ls : List PlainLevel) (effect : Effect) → Plainly (with_effect m purpose ls effect)
effect_plain m purpose ls (going spot) = tt
effect_plain m purpose ls (ended e t) = value_plain m purpose e t

stepped_plain : (m : Machine) (purpose : Purpose) (given : Result Stepped Problem) → Plainly given → Plainly (with_stepped m purpose given)
stepped_plain m purpose (Ok x) p = effect_plain (record m { over = x.over }) purpose x.levels x.effect
stepped_plain m purpose (Err problem) p = p

pub valued_plain : (m : Machine) (purpose : Purpose) (ls : List PlainLevel) (spot : Spot) (t : Token) → Plainly (valued m purpose ls spot t)
valued_plain m purpose ls spot t = stepped_plain m purpose (taken ls m.over spot t) (taken_plain ls m.over spot t)

-- ---- outside expressions

abbrev pub Moved : Machine → Result Move Problem → Type 0
Moved m given = Plainly (made m given)

pub moved_if : (m : Machine) (b : Bool) (x y : Result Move Problem) → Moved m x → Moved m y → Moved m (if b then x else y)
moved_if m true x y p q = p
moved_if m false x y p q = q

pub name_plain : (m : Machine) (t : Token) (f : List ℕ → Move) → ((n : List ℕ) → Plainly (moved m (f n))) → Moved m (moving.named (name_of t) f)
name_plain m (Identifier n) f p = p n
name_plain m (Keyword keyword) f p = refl
name_plain m (Number number) f p = refl
name_plain m (Constant bits) f p = refl
name_plain m (Operator op) f p = refl
name_plain m Arrow f p = refl
name_plain m (Mark byte) f p = refl
name_plain m Unknown f p = refl

pub mark_plain : (m : Machine) (t : Token) (mark : ℕ) (place : Place) → Moved m (on_mark t mark place)
mark_plain m t mark place = moved_if m (is_this_mark mark t) _ _ tt refl

pub begin_plain : (m : Machine) (t : Token) (mark : ℕ) (purpose : Purpose) → Moved m (begin_on t mark purpose)
begin_plain m t mark purpose = moved_if m (is_this_mark mark t) _ _ tt refl

pub high_number : (m : Machine) (kind : Kind) (t : Token) → Moved m (moving.high_token kind t)
high_number m kind (Number number) = moved_if m (nat_lt number 4294967295) _ _ tt refl
high_number m kind (Identifier n) = refl
high_number m kind (Keyword keyword) = refl
high_number m kind (Constant bits) = refl
high_number m kind (Operator op) = refl
high_number m kind Arrow = refl
high_number m kind (Mark byte) = refl
high_number m kind Unknown = refl

pub zero_plain : (m : Machine) (kind : Kind) (width : ℕ) (t : Token) → Moved m (moving.zero_token kind width t)
zero_plain m kind width (Number number) = moved_if m (number == 0) _ _ tt refl
zero_plain m kind width (Identifier n) = refl
zero_plain m kind width (Keyword keyword) = refl
zero_plain m kind width (Constant bits) = refl
zero_plain m kind width (Operator op) = refl
zero_plain m kind width Arrow = refl
zero_plain m kind width (Mark byte) = refl
zero_plain m kind width Unknown = refl

pub start_plain : (m : Machine) (t : Token) → Moved m (moving.module_start t)
start_plain m (Keyword Module) = tt
start_plain m (Keyword Endmodule) = refl
start_plain m (Keyword Input) = refl
start_plain m (Keyword Output) = refl
start_plain m (Keyword Wire) = refl
start_plain m (Keyword Reg) = refl
start_plain m (Keyword Assign) = refl
start_plain m (Keyword Always) = refl
start_plain m (Keyword If) = refl
start_plain m (Keyword Posedge) = refl
start_plain m (Identifier n) = refl
start_plain m (Number number) = refl
start_plain m (Constant bits) = refl
start_plain m (Operator op) = refl
start_plain m Arrow = refl
start_plain m (Mark byte) = refl
start_plain m Unknown = refl

pub if_plain : (m : Machine) (t : Token) → Moved m (moving.if_move t)
if_plain m (Keyword If) = tt
if_plain m (Keyword Module) = refl
if_plain m (Keyword Endmodule) = refl
if_plain m (Keyword Input) = refl
if_plain m (Keyword Output) = refl
if_plain m (Keyword Wire) = refl
if_plain m (Keyword Reg) = refl
if_plain m (Keyword Assign) = refl
if_plain m (Keyword Always) = refl
if_plain m (Keyword Posedge) = refl
if_plain m (Identifier n) = refl
if_plain m (Number number) = refl
if_plain m (Constant bits) = refl
if_plain m (Operator op) = refl
if_plain m Arrow = refl
if_plain m (Mark byte) = refl
if_plain m Unknown = refl

pub arrow_plain : (m : Machine) (clock target : List ℕ) (t : Token) → Moved m (moving.arrow_move clock target t)
arrow_plain m clock target Arrow = tt
arrow_plain m clock target (Identifier n) = refl
arrow_plain m clock target (Keyword keyword) = refl
arrow_plain m clock target (Number number) = refl
arrow_plain m clock target (Constant bits) = refl
arrow_plain m clock target (Operator op) = refl
arrow_plain m clock target (Mark byte) = refl
arrow_plain m clock target Unknown = refl
