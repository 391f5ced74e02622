-- What is wrong with a token that the machine refuses.
use Rattle.std.proofs.Common.{◌≡◌, ℕ, Bool, true, false, List, [], ◌∷◌, ◌++◌, refl, ap, ◌∙◌, subst, sym, Option, Result, Ok, Err, if◌then◌else◌}
use Rattle.fab_base.specs.declared.problem.Problem.{Problem}
use Rattle.fab_base.specs.declared.problem.Problem.TheVariants as problems
use Rattle.fab_syntax.specs.Plain as trees
use Rattle.fab_syntax.specs.Plain.{PlainExpr}
use Rattle.fab_tokens.specs.declared.token.Keyword.{Keyword as Word}
use Rattle.fab_tokens.specs.declared.token.Keyword.TheVariants.{Module, Endmodule, Input, Output, Wire, Reg, Assign, Always, If, Posedge}
use Rattle.fab_tokens.specs.declared.token.Token.{Token}
use Rattle.fab_tokens.specs.declared.token.Token.TheVariants.{Identifier, Keyword, Number, Constant, Operator, Arrow, Mark, Unknown}
use Rattle.fab_grammar_defs.specs.Words.{is_foreign}
use Rattle.fab_vread.specs.declared.expressions.Over.{Over}
use Rattle.fab_vread.specs.declared.places.Kind.TheVariants as kinds
use Rattle.fab_vread.specs.declared.places.Header.TheVariants as headers
use Rattle.fab_vread.specs.declared.places.Declaration.TheVariants as declarations
use Rattle.fab_vread.specs.declared.places.Process.TheVariants as processes
use Rattle.fab_vread.specs.declared.places.Joins.TheVariants as joinings
use Rattle.fab_vread.specs.declared.places.Purpose.{Purpose}
use Rattle.fab_vread.specs.declared.places.Purpose.TheVariants as purposes
use Rattle.fab_vread.specs.declared.places.Move.{Move}
use Rattle.fab_vread.specs.declared.places.Place.TheVariants as places
use Rattle.fab_vread.specs.inner.Expressions.{PlainLevel, Spot, Behind, nothing, wanting, named, select, high, colon, low, after, operand, branch, whole, completed, is_this_mark, taken, after_behind, after_whole, with_over}
use Rattle.fab_vread.specs.inner.Places as moving
use Rattle.fab_vread.specs.inner.Places.{move_of, to, item_move, edge_move, port_start}
use Rattle.fab_vread.specs.inner.Machine.{Machine, PlainState, outside, inside, first_machine, after_token, after_token_at, with_stepped, with_value, valued, made}
use Rattle.fab_vread.proofs.Running.{run, and_next, and_take}
use Rattle.fab_vread.specs.Refusals.{BeginsText, BeginsItem, an_item, a_port, an_edge, IsLacking, IsWrong, lacking, unfit}
use Rattle.fab_vread.proofs.Runs.{run_on}
use Rattle.fab_vread.proofs.Viable.{taken_begins, refused_begins}
use Rattle.fab_vread.proofs.Malformed.{valued_plain, moved_if, name_plain, mark_plain, begin_plain, high_number, zero_plain, start_plain, if_plain, arrow_plain, malformed, Plainly}

-- ---- the places of words that the profile lacks

-- what is wrong with a token in such a place
abbrev told : Token → Problem
told (Identifier word) = if is_foreign word then problems.Unsupported word else malformed
told _ = malformed

abbrev Told : Token → Result Machine Problem → Type 0
Told t (Ok m) = Unit {0}
Told t (Err problem) = problem ≡ told t

foreign_told : (m : Machine) (b : Bool) (word : List ℕ) (other : Result Move Problem) → is_foreign word ≡ b → Told (Identifier word) (made m other) →
    Told (Identifier word) (made m (if b then Err (problems.Unsupported word) else other))
foreign_told m true word other e p = sym (ap (λ (b : Bool). if b then problems.Unsupported word else malformed) e)
foreign_told m false word other e p = p

foreign_refused : (m : Machine) (b : Bool) (word : List ℕ) → is_foreign word ≡ b →
    Told (Identifier word) (made m (if b then Err (problems.Unsupported word) else Err malformed))
foreign_refused m true word e = sym (ap (λ (b : Bool). if b then problems.Unsupported word else malformed) e)
foreign_refused m false word e = sym (ap (λ (b : Bool). if b then problems.Unsupported word else malformed) e)

port_told : (m : Machine) (t : Token) → Told t (made m (port_start t))
port_told m (Keyword Input) = tt
port_told m (Keyword Output) = tt
port_told m (Keyword Module) = refl
port_told m (Keyword Endmodule) = refl
port_told m (Keyword Wire) = refl
port_told m (Keyword Reg) = refl
port_told m (Keyword Assign) = refl
port_told m (Keyword Always) = refl
port_told m (Keyword If) = refl
port_told m (Keyword Posedge) = refl
port_told m (Identifier word) = foreign_refused m (is_foreign word) word refl
port_told m (Number number) = refl
port_told m (Constant bits) = refl
port_told m (Operator op) = refl
port_told m Arrow = refl
port_told m (Mark byte) = refl
port_told m Unknown = refl

first_port_told : (m : Machine) (t : Token) (b : Bool) → Told t (made m (if b then to (places.Header headers.Semicolon) else port_start t))
first_port_told m t true = tt
first_port_told m t false = port_told m t

item_told : (m : Machine) (t : Token) → Told t (made m (item_move t))
item_told m (Keyword Wire) = tt
item_told m (Keyword Reg) = tt
item_told m (Keyword Assign) = tt
item_told m (Keyword Always) = tt
item_told m (Keyword Endmodule) = tt
item_told m (Keyword Module) = refl
item_told m (Keyword Input) = refl
item_told m (Keyword Output) = refl
item_told m (Keyword If) = refl
item_told m (Keyword Posedge) = refl
item_told m (Identifier word) = foreign_told m (is_foreign word) word (to (places.InstanceName word)) refl tt
item_told m (Number number) = refl
item_told m (Constant bits) = refl
item_told m (Operator op) = refl
item_told m Arrow = refl
item_told m (Mark byte) = refl
item_told m Unknown = refl

edge_told : (m : Machine) (t : Token) → Told t (made m (edge_move t))
edge_told m (Keyword Posedge) = tt
edge_told m (Keyword Module) = refl
edge_told m (Keyword Endmodule) = refl
edge_told m (Keyword Input) = refl
edge_told m (Keyword Output) = refl
edge_told m (Keyword Wire) = refl
edge_told m (Keyword Reg) = refl
edge_told m (Keyword Assign) = refl
edge_told m (Keyword Always) = refl
edge_told m (Keyword If) = refl
edge_told m (Identifier word) = foreign_refused m (is_foreign word) word refl
edge_told m (Number number) = refl
edge_told m (Constant bits) = refl
edge_told m (Operator op) = refl
edge_told m Arrow = refl
edge_told m (Mark byte) = refl
edge_told m Unknown = refl

-- ---- where the words of such a place cannot stand

-- a word with which an item, a port or an edge begins
data IsFirst : Word → Type 0 where
  wire_first : IsFirst Wire
  input_first : IsFirst Input
  posedge_first : IsFirst Posedge

abbrev Refused : Result Machine Problem → Type 0
Refused (Ok m) = ⊥
Refused (Err problem) = Unit {0}

start_refuses : (m : Machine) (k : Word) → IsFirst k → Refused (made m (moving.module_start (Keyword k)))
start_refuses m k wire_first = tt
start_refuses m k input_first = tt
start_refuses m k posedge_first = tt

if_refuses : (m : Machine) (k : Word) → IsFirst k → Refused (made m (moving.if_move (Keyword k)))
if_refuses m k wire_first = tt
if_refuses m k input_first = tt
if_refuses m k posedge_first = tt

ended_refuses : (m : Machine) (purpose : Purpose) (e : PlainExpr) (k : Word) → Refused (with_value m purpose e (Keyword k))
ended_refuses m (purposes.Assign target) e k = tt
ended_refuses m purposes.Gate e k = tt
ended_refuses m (purposes.Latch target) e k = tt
ended_refuses m (purposes.Clocked clock target) e k = tt
ended_refuses m (purposes.Join of name port) e k = tt

whole_refuses : (m : Machine) (purpose : Purpose) (over : Option Over) (ls : List PlainLevel) (e : PlainExpr) (k : Word) →
    Refused (with_stepped m purpose (with_over over (after_whole ls e (Keyword k))))
whole_refuses m purpose over [] e k = ended_refuses (record m { over = over }) purpose e k
whole_refuses m purpose over (l ∷ ls) e k = tt

behind_refuses : (m : Machine) (purpose : Purpose) (over : Option Over) (ls : List PlainLevel) (behind : Behind) (k : Word) →
    Refused (with_stepped m purpose (with_over over (after_behind ls behind (Keyword k))))
behind_refuses m purpose over ls (operand e) k = whole_refuses m purpose over ls e k
behind_refuses m purpose over ls (branch c a) k = tt
behind_refuses m purpose over ls (whole e) k = whole_refuses m purpose over ls e k

spot_refuses : (m : Machine) (purpose : Purpose) (ls : List PlainLevel) (spot : Spot) (k : Word) → Refused (valued m purpose ls spot (Keyword k))
unfolding taken
spot_refuses m purpose ls (wanting before) k = tt
spot_refuses m purpose ls (named before n) k = behind_refuses m purpose m.over ls (completed before (trees.variable n)) k
spot_refuses m purpose ls (select before n) k = tt
spot_refuses m purpose ls (high before n number) k = tt
spot_refuses m purpose ls (colon before n number) k = tt
spot_refuses m purpose ls (low before n h l) k = tt
spot_refuses m purpose ls (after behind) k = behind_refuses m purpose m.over ls behind k

-- ---- wherever the machine stands

-- A first word can stand here, and what is refused is told by whether it is a word that the profile lacks; or none can, and it is a malformed token.
data Judged (m : Machine) (s : PlainState) (t : Token) : Type 0 where
  first_place : (k : Word) → IsFirst k → (n : Machine) → after_token_at m s (Keyword k) ≡ Ok n → Told t (after_token_at m s t) → Judged m s t
  other_place : Plainly (after_token_at m s t) → ((k : Word) → IsFirst k → Refused (after_token_at m s (Keyword k))) → Judged m s t

judged : (m : Machine) (s : PlainState) (t : Token) → Judged m s t
unfolding move_of taken
judged m (outside (places.Header headers.Start)) t = other_place (start_plain m t) (start_refuses m)
judged m (outside (places.Header headers.Name)) t = other_place (name_plain m t _ (λ n. tt)) (λ k f. tt)
judged m (outside (places.Header headers.Open)) t = other_place (mark_plain m t 40 _) (λ k f. tt)
judged m (outside (places.Header headers.FirstPort)) t =
    first_place Input input_first (record m { state = outside (places.Declaration kinds.Input declarations.RangeOrName) }) refl (first_port_told m t (is_this_mark 41 t))
judged m (outside (places.Header headers.NextPort)) t =
    first_place Input input_first (record m { state = outside (places.Declaration kinds.Input declarations.RangeOrName) }) refl (port_told m t)
judged m (outside (places.Header headers.PortEnd)) t = other_place (moved_if m (is_this_mark 44 t) _ _ tt (mark_plain m t 41 _)) (λ k f. tt)
judged m (outside (places.Header headers.Semicolon)) t = other_place (mark_plain m t 59 _) (λ k f. tt)
judged m (outside places.Item) t =
    first_place Wire wire_first (record m { state = outside (places.Declaration kinds.Wire declarations.RangeOrName) }) refl (item_told m t)
judged m (outside places.Semicolon) t = other_place (mark_plain m t 59 _) (λ k f. tt)
judged m (outside (places.Declaration kind declarations.RangeOrName)) t =
    other_place (moved_if m (is_this_mark 91 t) _ _ tt (name_plain m t _ (λ n. tt))) (λ k f. tt)
judged m (outside (places.Declaration kind declarations.High)) t = other_place (high_number m kind t) (λ k f. tt)
judged m (outside (places.Declaration kind (declarations.Colon width))) t = other_place (mark_plain m t 58 _) (λ k f. tt)
judged m (outside (places.Declaration kind (declarations.Zero width))) t = other_place (zero_plain m kind width t) (λ k f. tt)
judged m (outside (places.Declaration kind (declarations.Close width))) t = other_place (mark_plain m t 93 _) (λ k f. tt)
judged m (outside (places.Declaration kind (declarations.Name width))) t = other_place (name_plain m t _ (λ n. tt)) (λ k f. tt)
judged m (outside (places.Process processes.AssignTarget)) t = other_place (name_plain m t _ (λ n. tt)) (λ k f. tt)
judged m (outside (places.Process (processes.AssignSign target))) t = other_place (begin_plain m t 61 _) (λ k f. tt)
judged m (outside (places.Process processes.At)) t = other_place (mark_plain m t 64 _) (λ k f. tt)
judged m (outside (places.Process processes.Event)) t = other_place (moved_if m (is_this_mark 42 t) _ _ tt (mark_plain m t 40 _)) (λ k f. tt)
judged m (outside (places.Process processes.If)) t = other_place (if_plain m t) (if_refuses m)
judged m (outside (places.Process processes.GateOpen)) t = other_place (begin_plain m t 40 _) (λ k f. tt)
judged m (outside (places.Process processes.LatchTarget)) t = other_place (name_plain m t _ (λ n. tt)) (λ k f. tt)
judged m (outside (places.Process (processes.LatchSign target))) t = other_place (begin_plain m t 61 _) (λ k f. tt)
judged m (outside (places.Process processes.Edge)) t =
    first_place Posedge posedge_first (record m { state = outside (places.Process processes.Clock) }) refl (edge_told m t)
judged m (outside (places.Process processes.Clock)) t = other_place (name_plain m t _ (λ n. tt)) (λ k f. tt)
judged m (outside (places.Process (processes.ClockClose clock))) t = other_place (mark_plain m t 41 _) (λ k f. tt)
judged m (outside (places.Process (processes.ClockedTarget clock))) t = other_place (name_plain m t _ (λ n. tt)) (λ k f. tt)
judged m (outside (places.Process (processes.ClockedArrow clock target))) t = other_place (arrow_plain m clock target t) (λ k f. tt)
judged m (outside (places.InstanceName of)) t = other_place (name_plain m t _ (λ n. tt)) (λ k f. tt)
judged m (outside (places.InstanceOpen of name)) t = other_place (mark_plain m t 40 _) (λ k f. tt)
judged m (outside (places.Joins of name joinings.First)) t = other_place (moved_if m (is_this_mark 41 t) _ _ tt (mark_plain m t 46 _)) (λ k f. tt)
judged m (outside (places.Joins of name joinings.Next)) t = other_place (mark_plain m t 46 _) (λ k f. tt)
judged m (outside (places.Joins of name joinings.Port)) t = other_place (name_plain m t _ (λ n. tt)) (λ k f. tt)
judged m (outside (places.Joins of name (joinings.Open port))) t = other_place (mark_plain m t 40 _) (λ k f. tt)
judged m (outside (places.Joins of name (joinings.Value port))) t =
    other_place (moved_if m (is_this_mark 41 t) _ _ tt (valued_plain m (purposes.Join of name port) [] (wanting nothing) t)) (λ k f. tt)
judged m (outside (places.Joins of name joinings.End)) t =
    other_place (moved_if m (is_this_mark 44 t) _ _ tt (moved_if m (is_this_mark 41 t) _ _ tt refl)) (λ k f. tt)
judged m (inside purpose ls spot) t = other_place (valued_plain m purpose ls spot t) (λ k f. spot_refuses m purpose ls spot k)

-- ---- behind tokens that are taken

after_one : (ts : List Token) (m : Machine) (t : Token) (given : Result Machine Problem) → run first_machine ts ≡ Ok m → after_token m t ≡ given →
    run first_machine (ts ++ t ∷ []) ≡ and_next given (λ n. Ok n)
unfolding run
after_one ts m t given e is =
    run_on ts (t ∷ []) first_machine ∙ ap (λ given. and_take given (t ∷ [])) e ∙ ap (λ given. and_next given (λ n. Ok n)) is

leads_by : (ts : List Token) (k : Word) → IsFirst k → BeginsText (ts ++ Keyword k ∷ []) → BeginsItem ts
leads_by ts k wire_first b = an_item b
leads_by ts k input_first b = a_port b
leads_by ts k posedge_first b = an_edge b

leads_no : (ts : List Token) → ((k : Word) → IsFirst k → BeginsText (ts ++ Keyword k ∷ []) → ⊥) → BeginsItem ts → ⊥
leads_no ts never (an_item b) = never Wire wire_first b
leads_no ts never (a_port b) = never Input input_first b
leads_no ts never (an_edge b) = never Posedge posedge_first b

none_lacks : (ts : List Token) (t : Token) → (BeginsItem ts → ⊥) → IsLacking ts t → ⊥
none_lacks ts (Identifier word) never h = never h.1
none_lacks ts (Keyword keyword) never h = h
none_lacks ts (Number number) never h = h
none_lacks ts (Constant bits) never h = h
none_lacks ts (Operator op) never h = h
none_lacks ts Arrow never h = h
none_lacks ts (Mark byte) never h = h
none_lacks ts Unknown never h = h

wrong_here : (ts : List Token) (t : Token) → BeginsItem ts → IsWrong ts t (told t)
wrong_here ts (Identifier word) leads = by_word (is_foreign word) refl where
  by_word : (b : Bool) → is_foreign word ≡ b → IsWrong ts (Identifier word) (if b then problems.Unsupported word else malformed)
  by_word true e = lacking word (e, leads)
  by_word false e = unfit (Identifier word) (λ h. let is = h.0 in absurd (cc))
wrong_here ts (Keyword keyword) leads = unfit (Keyword keyword) (λ h. h)
wrong_here ts (Number number) leads = unfit (Number number) (λ h. h)
wrong_here ts (Constant bits) leads = unfit (Constant bits) (λ h. h)
wrong_here ts (Operator op) leads = unfit (Operator op) (λ h. h)
wrong_here ts Arrow leads = unfit Arrow (λ h. h)
wrong_here ts (Mark byte) leads = unfit (Mark byte) (λ h. h)
wrong_here ts Unknown leads = unfit Unknown (λ h. h)

told_problem : (t : Token) (given : Result Machine Problem) (problem : Problem) → given ≡ Err problem → Told t given → problem ≡ told t
told_problem t (Ok m) problem e h = absurd (cc)
told_problem t (Err other) problem e h = cc

plain_problem : (given : Result Machine Problem) (problem : Problem) → given ≡ Err problem → Plainly given → problem ≡ malformed
plain_problem (Ok m) problem e h = absurd (cc)
plain_problem (Err other) problem e h = cc

refused_begin : (ts : List Token) (m : Machine) (t : Token) (given : Result Machine Problem) → run first_machine ts ≡ Ok m → after_token m t ≡ given → Refused given →
    BeginsText (ts ++ t ∷ []) → ⊥
refused_begin ts m t (Ok n) e is refused b = refused
refused_begin ts m t (Err problem) e is refused b = refused_begins (ts ++ t ∷ []) problem (after_one ts m t (Err problem) e is) b

-- a token that the machine refuses begins no text behind these, and this is wrong with it
pub token_wrong : (ts : List Token) (m : Machine) (t : Token) (problem : Problem) → run first_machine ts ≡ Ok m → after_token m t ≡ Err problem → IsWrong ts t problem
unfolding after_token
token_wrong ts m t problem e is = wrong_at (judged m m.state t) where
  wrong_at : Judged m m.state t → IsWrong ts t problem
  wrong_at (first_place k f n taken_so so) =
      subst (λ p. IsWrong ts t p) (sym (told_problem t (after_token_at m m.state t) problem is so))
      (wrong_here ts t (leads_by ts k f (taken_begins (ts ++ Keyword k ∷ []) n (after_one ts m (Keyword k) (Ok n) e taken_so))))
  wrong_at (other_place so never) =
      subst (λ p. IsWrong ts t p) (sym (plain_problem (after_token_at m m.state t) problem is so))
      (unfit t (none_lacks ts t (leads_no ts (λ k f b. refused_begin ts m (Keyword k) (after_token_at m m.state (Keyword k)) e refl (never k f) b))))

pub token_unfit : (ts : List Token) (m : Machine) (t : Token) (problem : Problem) → run first_machine ts ≡ Ok m → after_token m t ≡ Err problem →
    BeginsText (ts ++ t ∷ []) → ⊥
token_unfit ts m t problem e is b = refused_begins (ts ++ t ∷ []) problem (after_one ts m t (Err problem) e is) b

pub token_behind : (ts : List Token) (m n : Machine) (t : Token) → run first_machine ts ≡ Ok m → after_token m t ≡ Ok n → run first_machine (ts ++ t ∷ []) ≡ Ok n
token_behind ts m n t e is = after_one ts m t (Ok n) e is
