-- What the machine takes next leads on to what may follow.
use Rattle.std.proofs.Common.{◌≡◌, inl, inr, ℕ, ◌<◌, ◌≤◌, Bool, true, false, ◌==◌, List, [], ◌∷◌, refl, subst, sym, arith, Option, Result, Ok, Err, if◌then◌else◌, nat_lt}
use Rattle.std.proofs.lemmas.Bool.{eqb-true}
use Rattle.std.proofs.lemmas.Bool.Decides.{nat_tests}
use Rattle.fab_base.specs.declared.problem.Problem.{Problem}
use Rattle.fab_base.specs.declared.problem.Problem.TheVariants as problems
use Rattle.fab_syntax.specs.declared.tree.Shape.{Shape}
use Rattle.fab_syntax.specs.declared.tree.Port.{Port}
use Rattle.fab_syntax.specs.Plain.{PlainExpr, PlainItem}
use Rattle.fab_tokens.specs.declared.token.Keyword.TheVariants.{Module, Endmodule, Input, Output, Wire, Reg, Assign, Always, If, Posedge}
use Rattle.fab_tokens.specs.declared.token.Token.{Token}
use Rattle.fab_tokens.specs.declared.token.Token.TheVariants.{Identifier, Keyword, Number, Constant, Operator, Arrow, Mark, Unknown}
use Rattle.fab_grammar_defs.specs.Words.{is_foreign}
use Rattle.fab_grammar_defs.specs.Grammar as grammar
use Rattle.fab_grammar_defs.specs.Grammar.{APort, AnItem}
use Rattle.fab_vread.specs.declared.expressions.Over.{Over}
use Rattle.fab_vread.specs.declared.places.Kind.{Kind}
use Rattle.fab_vread.specs.declared.places.Kind.TheVariants as kinds
use Rattle.fab_vread.specs.declared.places.Header.{Header}
use Rattle.fab_vread.specs.declared.places.Header.TheVariants as headers
use Rattle.fab_vread.specs.declared.places.Declaration.{Declaration}
use Rattle.fab_vread.specs.declared.places.Declaration.TheVariants as declarations
use Rattle.fab_vread.specs.declared.places.Process.{Process}
use Rattle.fab_vread.specs.declared.places.Process.TheVariants as processes
use Rattle.fab_vread.specs.declared.places.Joins.TheVariants as joinings
use Rattle.fab_vread.specs.declared.places.Joins.{Joins as JoinPlace}
use Rattle.fab_vread.specs.declared.places.Purpose.{Purpose}
use Rattle.fab_vread.specs.declared.places.Purpose.TheVariants as purposes
use Rattle.fab_vread.specs.declared.places.Move.{Move}
use Rattle.fab_vread.specs.declared.places.Move.TheVariants as moves
use Rattle.fab_vread.specs.declared.places.Place.{Place}
use Rattle.fab_vread.specs.declared.places.Place.TheVariants as places
use Rattle.fab_vread.specs.inner.Expressions.{PlainLevel, Spot, Stepped, Effect, going, ended, nothing, wanting, taken, is_this_mark, refused}
use Rattle.fab_vread.specs.inner.Places.{move_of, on_mark, begin_on, named, name_of, header_move, declaration_move, process_move, joins_move, item_move, port_start, to, foreign_or}
use Rattle.fab_vread.specs.inner.Machine.{Machine, PlainState, outside, inside, with_stepped, with_effect, with_value, valued, moved, made, after_token, after_token_at}
use Rattle.fab_vread.proofs.Rests.{if_either, mark_told, depth, Inside, AfterStep, AfterEffect, IsNarrow, spot_step, begun_whole}
use Rattle.fab_vread.proofs.Following.{Next, next, NextName, next_name, depth_at, Ended, BehindItem, AtSemicolon, AtPortEnd, AtPort, AtPorts, AtHeader, BehindName, AtZero, AtHigh, AtRange, AtDeclaration, Valued, AtUpdate, AtGateEnd, AtGate, AtArrow, AtClockClose, AtEdge, AtEvent, AtProcess, AtJoinEnd, AtJoin, AtJoins, AtJoined, AtJoinPlace, AtPlace, BehindValue, AtState, RestOf, no_more, more_modules, items_left, ports_end, ports_more, ports_left, port_list, its_high, ranged, value, star, edge, joins_end, joins_more, joins_left, join_list, none_joined, one_joined}

module _ (deepest widest : ℕ) where
  -- ---- the next token, form by form

  marked : (m : Machine) (t : Token) (mark : ℕ) (place : Place) (ts : List Token) (P : List Token → Type 0) → (AtPlace deepest widest place ts → P (Mark mark ∷ ts)) →
      RestOf deepest widest (made m (on_mark t mark place)) ts → P (t ∷ ts)
  marked m t mark place ts P then_so h =
      elim (if_either (λ r. RestOf deepest widest (made m r) ts) (is_this_mark mark t) _ _ h) [
        | inl x ↦ mark_told deepest widest (λ _. Unit {0}) (λ u. P (u ∷ ts)) mark t x.0 (then_so x.1)
        | inr n ↦ absurd n
      ]

  name_next : (m : Machine) (t : Token) (f : List ℕ → Move) (ts : List Token) (P : List Token → Type 0) → ((n : List ℕ) → RestOf deepest widest (moved m (f n)) ts → P (Identifier n ∷ ts)) →
      RestOf deepest widest (made m (named (name_of t) f)) ts → P (t ∷ ts)
  name_next m (Identifier n) f ts P then_so h = then_so n h
  name_next m (Keyword keyword) f ts P then_so h = absurd h
  name_next m (Number number) f ts P then_so h = absurd h
  name_next m (Constant bits) f ts P then_so h = absurd h
  name_next m (Operator op) f ts P then_so h = absurd h
  name_next m Arrow f ts P then_so h = absurd h
  name_next m (Mark byte) f ts P then_so h = absurd h
  name_next m Unknown f ts P then_so h = absurd h

  -- ---- expressions

  value_begun : (M : List Token → Type 0) (ts : List Token) → Inside deepest widest M [] (wanting nothing) ts → Valued deepest widest M ts
  value_begun M ts i = let b = begun_whole deepest widest M ts i in value b.made b.behind

  begin_marked : (m : Machine) (t : Token) (mark : ℕ) (purpose : Purpose) (ts : List Token) (P : List Token → Type 0) →
      (Valued deepest widest (BehindValue deepest widest purpose) ts → P (Mark mark ∷ ts)) → RestOf deepest widest (made m (begin_on t mark purpose)) ts → P (t ∷ ts)
  begin_marked m t mark purpose ts P then_so h =
      elim (if_either (λ r. RestOf deepest widest (made m r) ts) (is_this_mark mark t) _ _ h) [
        | inl x ↦ mark_told deepest widest (λ _. Unit {0}) (λ u. P (u ∷ ts)) mark t x.0 (then_so (value_begun (BehindValue deepest widest purpose) ts x.1))
        | inr n ↦ absurd n
      ]

  ended_value : (m : Machine) (purpose : Purpose) (e : PlainExpr) (t : Token) (ts : List Token) → RestOf deepest widest (with_value m purpose e t) ts → BehindValue deepest widest purpose (t ∷ ts)
  ended_value m (purposes.Assign target) e t ts h =
      elim (if_either (λ r. RestOf deepest widest r ts) (is_this_mark 59 t) _ _ h) [ inl x ↦ mark_told deepest widest (λ _. Unit {0}) (λ u. AtSemicolon deepest widest (u ∷ ts)) 59 t x.0 (next x.1) | inr n ↦ absurd n ]
  ended_value m purposes.Gate e t ts h =
      elim (if_either (λ r. RestOf deepest widest r ts) (is_this_mark 41 t) _ _ h) [ inl x ↦ mark_told deepest widest (λ _. Unit {0}) (λ u. AtGateEnd deepest widest (u ∷ ts)) 41 t x.0 (next x.1) | inr n ↦ absurd n ]
  ended_value m (purposes.Latch target) e t ts h =
      elim (if_either (λ r. RestOf deepest widest r ts) (is_this_mark 59 t) _ _ h) [ inl x ↦ mark_told deepest widest (λ _. Unit {0}) (λ u. AtSemicolon deepest widest (u ∷ ts)) 59 t x.0 (next x.1) | inr n ↦ absurd n ]
  ended_value m (purposes.Clocked clock target) e t ts h =
      elim (if_either (λ r. RestOf deepest widest r ts) (is_this_mark 59 t) _ _ h) [ inl x ↦ mark_told deepest widest (λ _. Unit {0}) (λ u. AtSemicolon deepest widest (u ∷ ts)) 59 t x.0 (next x.1) | inr n ↦ absurd n ]
  ended_value m (purposes.Join of name port) e t ts h =
      elim (if_either (λ r. RestOf deepest widest r ts) (is_this_mark 41 t) _ _ h) [ inl x ↦ mark_told deepest widest (λ _. Unit {0}) (λ u. Next (Mark 41) (AtJoinEnd deepest widest) (u ∷ ts)) 41 t x.0 (next x.1) | inr n ↦ absurd n ]

  stepped_value : (m : Machine) (purpose : Purpose) (given : Result Stepped Problem) (ts : List Token) → RestOf deepest widest (with_stepped m purpose given) ts →
      AfterStep deepest widest (BehindValue deepest widest purpose) given ts
  stepped_value m purpose (Err problem) ts h = absurd h
  stepped_value m purpose (Ok x) ts h = effect_value m purpose x.over x.levels x.effect ts h where
    effect_value : (m : Machine) (purpose : Purpose) (over : Option Over) (ls : List PlainLevel) (effect : Effect) (ts : List Token) →
        RestOf deepest widest (with_effect (record m { over = over }) purpose ls effect) ts → AfterEffect deepest widest (BehindValue deepest widest purpose) ls effect ts
    effect_value m purpose over ls (going spot) ts h = h
    effect_value m purpose over ls (ended e t) ts h = ended_value (record m { over = over }) purpose e t ts h

  value_step : (m : Machine) (purpose : Purpose) (ls : List PlainLevel) (spot : Spot) (t : Token) (ts : List Token) → depth ls spot ≤ deepest →
      IsNarrow deepest widest (BehindValue deepest widest purpose) t → RestOf deepest widest (valued m purpose ls spot t) ts → Inside deepest widest (BehindValue deepest widest purpose) ls spot (t ∷ ts)
  value_step m purpose ls spot t ts few narrow h =
      spot_step deepest widest (BehindValue deepest widest purpose) m.over ls spot t ts few narrow (stepped_value m purpose (taken ls m.over spot t) ts h)

  -- ---- declarations

  bracket_range : (kind : Kind) {ts : List Token} → AtHigh deepest widest kind ts → AtRange deepest widest kind (Mark 91 ∷ ts)
  bracket_range kind (its_high high few (next (next (next (next_name n k))))) = ranged n (grammar.vector high few) k

  plain_range : (kind : Kind) (n : List ℕ) (ts : List Token) → BehindName deepest widest kind ts → AtRange deepest widest kind (Identifier n ∷ ts)
  plain_range kind n ts k = ranged n grammar.scalar k

  declared_name : (m : Machine) (kind : Kind) (shape : Shape) (n : List ℕ) (ts : List Token) → RestOf deepest widest (moved m (moves.Declare kind shape n)) ts → BehindName deepest widest kind ts
  declared_name m kinds.Input shape n ts h = h
  declared_name m kinds.Output shape n ts h = h
  declared_name m kinds.Wire shape n ts h = h
  declared_name m kinds.Reg shape n ts h = h

  below_high : (high : ℕ) → nat_lt high 4294967295 ≡ true → high < 4294967295
  below_high high h = grind (arith, nat_tests)

  declaration_step : (m : Machine) (kind : Kind) (declaration : Declaration) (t : Token) (ts : List Token) → RestOf deepest widest (made m (declaration_move kind declaration t)) ts →
      AtDeclaration deepest widest kind declaration (t ∷ ts)
  declaration_step m kind declarations.RangeOrName t ts h =
      elim (if_either (λ r. RestOf deepest widest (made m r) ts) (is_this_mark 91 t) _ _ h) [
        | inl x ↦ mark_told deepest widest (λ _. Unit {0}) (λ u. AtRange deepest widest kind (u ∷ ts)) 91 t x.0 (bracket_range kind x.1)
        | inr h2 ↦ name_next m t _ ts (λ us. AtRange deepest widest kind us) (λ n k. plain_range kind n ts (declared_name m kind _ n ts k)) h2
      ]
  declaration_step m kind declarations.High (Number high) ts h =
      elim (if_either (λ r. RestOf deepest widest (made m r) ts) (nat_lt high 4294967295) _ _ h) [ inl x ↦ its_high high (below_high high x.0) x.1 | inr n ↦ absurd n ]
  declaration_step m kind declarations.High (Identifier n) ts h = absurd h
  declaration_step m kind declarations.High (Keyword keyword) ts h = absurd h
  declaration_step m kind declarations.High (Constant bits) ts h = absurd h
  declaration_step m kind declarations.High (Operator op) ts h = absurd h
  declaration_step m kind declarations.High Arrow ts h = absurd h
  declaration_step m kind declarations.High (Mark byte) ts h = absurd h
  declaration_step m kind declarations.High Unknown ts h = absurd h
  declaration_step m kind (declarations.Colon width) t ts h = marked m t 58 (places.Declaration kind (declarations.Zero width)) ts (Next (Mark 58) (AtZero deepest widest kind)) (λ k. next k) h
  declaration_step m kind (declarations.Zero width) (Number number) ts h =
      elim (if_either (λ r. RestOf deepest widest (made m r) ts) (number == 0) _ _ h) [
        | inl x ↦ subst (λ k. AtZero deepest widest kind (Number k ∷ ts)) (sym (eqb-true number 0 x.0)) (next x.1)
        | inr n ↦ absurd n
      ]
  declaration_step m kind (declarations.Zero width) (Identifier n) ts h = absurd h
  declaration_step m kind (declarations.Zero width) (Keyword keyword) ts h = absurd h
  declaration_step m kind (declarations.Zero width) (Constant bits) ts h = absurd h
  declaration_step m kind (declarations.Zero width) (Operator op) ts h = absurd h
  declaration_step m kind (declarations.Zero width) Arrow ts h = absurd h
  declaration_step m kind (declarations.Zero width) (Mark byte) ts h = absurd h
  declaration_step m kind (declarations.Zero width) Unknown ts h = absurd h
  declaration_step m kind (declarations.Close width) t ts h =
      marked m t 93 (places.Declaration kind (declarations.Name width)) ts (λ us. AtDeclaration deepest widest kind (declarations.Close width) us) (λ k. next k) h
  declaration_step m kind (declarations.Name width) t ts h =
      name_next m t _ ts (NextName (BehindName deepest widest kind)) (λ n k. next_name n (declared_name m kind _ n ts k)) h

  -- ---- ports

  port_of : (port : Port) {ts rest : List Token} → APort ts port rest → AtPortEnd deepest widest rest → AtPort deepest widest ts
  port_of port p (ports_end k) = ports_left (grammar.last_port p) k
  port_of port p (ports_more ps k) = ports_left (grammar.next_port p ps) k

  input_port : {ts : List Token} → AtRange deepest widest kinds.Input ts → AtPort deepest widest (Keyword Input ∷ ts)
  input_port (ranged {shape = shape} n r k) = port_of (record { input = true; shape = shape; name = n }) (grammar.input n r) k

  output_port : {ts : List Token} → AtRange deepest widest kinds.Output ts → AtPort deepest widest (Keyword Output ∷ ts)
  output_port (ranged {shape = shape} n r k) = port_of (record { input = false; shape = shape; name = n }) (grammar.output n r) k

  foreign_none : (m : Machine) (n : List ℕ) (ts : List Token) → RestOf deepest widest (made m (foreign_or refused n)) ts → ⊥
  foreign_none m n ts h = elim (if_either (λ r. RestOf deepest widest (made m r) ts) (is_foreign n) _ _ h) [ inl x ↦ x.1 | inr n ↦ n ]

  port_step : (m : Machine) (t : Token) (ts : List Token) → RestOf deepest widest (made m (port_start t)) ts → AtPort deepest widest (t ∷ ts)
  port_step m (Keyword Input) ts h = input_port h
  port_step m (Keyword Output) ts h = output_port h
  port_step m (Keyword Module) ts h = absurd h
  port_step m (Keyword Endmodule) ts h = absurd h
  port_step m (Keyword Wire) ts h = absurd h
  port_step m (Keyword Reg) ts h = absurd h
  port_step m (Keyword Assign) ts h = absurd h
  port_step m (Keyword Always) ts h = absurd h
  port_step m (Keyword If) ts h = absurd h
  port_step m (Keyword Posedge) ts h = absurd h
  port_step m (Identifier n) ts h = absurd (foreign_none m n ts h)
  port_step m (Number number) ts h = absurd h
  port_step m (Constant bits) ts h = absurd h
  port_step m (Operator op) ts h = absurd h
  port_step m Arrow ts h = absurd h
  port_step m (Mark byte) ts h = absurd h
  port_step m Unknown ts h = absurd h

  some_port : {ts : List Token} → AtPort deepest widest ts → AtPorts deepest widest ts
  some_port (ports_left ps k) = port_list (grammar.some_ports ps) k

  port_comma : {ts : List Token} → AtPort deepest widest ts → AtPortEnd deepest widest (Mark 44 ∷ ts)
  port_comma (ports_left ps k) = ports_more ps k

  whole_module : {ts : List Token} → NextName (Next (Mark 40) (AtPorts deepest widest)) ts → Ended deepest widest (Keyword Module ∷ ts)
  whole_module (next_name n (next (port_list ps (next (items_left is no_more))))) = more_modules (grammar.last_module (grammar.whole n ps is))
  whole_module (next_name n (next (port_list ps (next (items_left is (more_modules ms)))))) = more_modules (grammar.next_module (grammar.whole n ps is) ms)

  start_step : (m : Machine) (t : Token) (ts : List Token) → RestOf deepest widest (made m (header_move headers.Start t)) ts → Ended deepest widest (t ∷ ts)
  start_step m (Keyword Module) ts h = whole_module h
  start_step m (Keyword Input) ts h = absurd h
  start_step m (Keyword Output) ts h = absurd h
  start_step m (Keyword Endmodule) ts h = absurd h
  start_step m (Keyword Wire) ts h = absurd h
  start_step m (Keyword Reg) ts h = absurd h
  start_step m (Keyword Assign) ts h = absurd h
  start_step m (Keyword Always) ts h = absurd h
  start_step m (Keyword If) ts h = absurd h
  start_step m (Keyword Posedge) ts h = absurd h
  start_step m (Identifier n) ts h = absurd h
  start_step m (Number number) ts h = absurd h
  start_step m (Constant bits) ts h = absurd h
  start_step m (Operator op) ts h = absurd h
  start_step m Arrow ts h = absurd h
  start_step m (Mark byte) ts h = absurd h
  start_step m Unknown ts h = absurd h

  header_step : (m : Machine) (header : Header) (t : Token) (ts : List Token) → RestOf deepest widest (made m (header_move header t)) ts → AtHeader deepest widest header (t ∷ ts)
  header_step m headers.Start t ts h = start_step m t ts h
  header_step m headers.Name t ts h = name_next m t _ ts (NextName (Next (Mark 40) (AtPorts deepest widest))) (λ n k. next_name n k) h
  header_step m headers.Open t ts h = marked m t 40 (places.Header headers.FirstPort) ts (Next (Mark 40) (AtPorts deepest widest)) (λ k. next k) h
  header_step m headers.FirstPort t ts h =
      elim (if_either (λ r. RestOf deepest widest (made m r) ts) (is_this_mark 41 t) _ _ h) [
        | inl x ↦ mark_told deepest widest (λ _. Unit {0}) (λ u. AtPorts deepest widest (u ∷ ts)) 41 t x.0 (port_list grammar.no_ports x.1)
        | inr h2 ↦ some_port (port_step m t ts h2)
      ]
  header_step m headers.NextPort t ts h = port_step m t ts h
  header_step m headers.PortEnd t ts h =
      elim (if_either (λ r. RestOf deepest widest (made m r) ts) (is_this_mark 44 t) _ _ h) [
        | inl x ↦ mark_told deepest widest (λ _. Unit {0}) (λ u. AtPortEnd deepest widest (u ∷ ts)) 44 t x.0 (port_comma x.1)
        | inr h2 ↦ marked m t 41 (places.Header headers.Semicolon) ts (AtPortEnd deepest widest) (λ k. ports_end k) h2
      ]
  header_step m headers.Semicolon t ts h = marked m t 59 places.Item ts (AtSemicolon deepest widest) (λ k. next k) h

  -- ---- joins

  joined_port : (port : List ℕ) {ts : List Token} → AtJoined deepest widest ts → AtJoin deepest widest (Mark 46 ∷ Identifier port ∷ Mark 40 ∷ ts)
  joined_port port (none_joined (joins_end k)) = joins_left (grammar.last_join (grammar.unjoined port)) k
  joined_port port (none_joined (joins_more js k)) = joins_left (grammar.next_join (grammar.unjoined port) js) k
  joined_port port (one_joined (value p (next (joins_end k)))) = joins_left (grammar.last_join (grammar.joined port p)) k
  joined_port port (one_joined (value p (next (joins_more js k)))) = joins_left (grammar.next_join (grammar.joined port p) js) k

  join_dot : {ts : List Token} → NextName (Next (Mark 40) (AtJoined deepest widest)) ts → AtJoin deepest widest (Mark 46 ∷ ts)
  join_dot (next_name port (next h)) = joined_port port h

  some_join : {ts : List Token} → AtJoin deepest widest ts → AtJoins deepest widest ts
  some_join (joins_left js k) = join_list (grammar.some_joins js) k

  join_comma : {ts : List Token} → AtJoin deepest widest ts → AtJoinEnd deepest widest (Mark 44 ∷ ts)
  join_comma (joins_left js k) = joins_more js k

  joins_step : (m : Machine) (of name : List ℕ) (place : JoinPlace) (t : Token) (ts : List Token) →
      ((purpose : Purpose) → IsNarrow deepest widest (BehindValue deepest widest purpose) t) →
      RestOf deepest widest (made m (joins_move of name place t)) ts → AtJoinPlace deepest widest place (t ∷ ts)
  joins_step m of name joinings.First t ts narrow h =
      elim (if_either (λ r. RestOf deepest widest (made m r) ts) (is_this_mark 41 t) _ _ h) [
        | inl x ↦ mark_told deepest widest (λ _. Unit {0}) (λ u. AtJoins deepest widest (u ∷ ts)) 41 t x.0 (join_list grammar.no_joins x.1)
        | inr h2 ↦ marked m t 46 (places.Joins of name joinings.Port) ts (AtJoins deepest widest) (λ k. some_join (join_dot k)) h2
      ]
  joins_step m of name joinings.Next t ts narrow h = marked m t 46 (places.Joins of name joinings.Port) ts (AtJoin deepest widest) (λ k. join_dot k) h
  joins_step m of name joinings.Port t ts narrow h = name_next m t _ ts (NextName (Next (Mark 40) (AtJoined deepest widest))) (λ n k. next_name n k) h
  joins_step m of name (joinings.Open port) t ts narrow h = marked m t 40 (places.Joins of name (joinings.Value port)) ts (Next (Mark 40) (AtJoined deepest widest)) (λ k. next k) h
  joins_step m of name (joinings.Value port) t ts narrow h =
      elim (if_either (λ r. RestOf deepest widest (made m r) ts) (is_this_mark 41 t) _ _ h) [
        | inl x ↦ mark_told deepest widest (λ _. Unit {0}) (λ u. AtJoined deepest widest (u ∷ ts)) 41 t x.0 (none_joined x.1)
        | inr h2 ↦ one_joined (value_begun (BehindValue deepest widest (purposes.Join of name port)) (t ∷ ts)
            (value_step m (purposes.Join of name port) [] (wanting nothing) t ts (omega arith) (narrow (purposes.Join of name port)) h2))
      ]
  joins_step m of name joinings.End t ts narrow h =
      elim (if_either (λ r. RestOf deepest widest (made m r) ts) (is_this_mark 44 t) _ _ h) [
        | inl x ↦ mark_told deepest widest (λ _. Unit {0}) (λ u. AtJoinEnd deepest widest (u ∷ ts)) 44 t x.0 (join_comma x.1)
        | inr h2 ↦ elim (if_either (λ r. RestOf deepest widest (made m r) ts) (is_this_mark 41 t) _ _ h2) [
          | inl x ↦ mark_told deepest widest (λ _. Unit {0}) (λ u. AtJoinEnd deepest widest (u ∷ ts)) 41 t x.0 (joins_end x.1)
          | inr n ↦ absurd n
        ]
      ]

  -- ---- processes

  if_step : (m : Machine) (t : Token) (ts : List Token) → RestOf deepest widest (made m (process_move processes.If t)) ts → Next (Keyword If) (AtGate deepest widest) (t ∷ ts)
  if_step m (Keyword If) ts h = next h
  if_step m (Keyword Input) ts h = absurd h
  if_step m (Keyword Output) ts h = absurd h
  if_step m (Keyword Module) ts h = absurd h
  if_step m (Keyword Endmodule) ts h = absurd h
  if_step m (Keyword Wire) ts h = absurd h
  if_step m (Keyword Reg) ts h = absurd h
  if_step m (Keyword Assign) ts h = absurd h
  if_step m (Keyword Always) ts h = absurd h
  if_step m (Keyword Posedge) ts h = absurd h
  if_step m (Identifier n) ts h = absurd h
  if_step m (Number number) ts h = absurd h
  if_step m (Constant bits) ts h = absurd h
  if_step m (Operator op) ts h = absurd h
  if_step m Arrow ts h = absurd h
  if_step m (Mark byte) ts h = absurd h
  if_step m Unknown ts h = absurd h

  edge_step : (m : Machine) (t : Token) (ts : List Token) → RestOf deepest widest (made m (process_move processes.Edge t)) ts → AtEdge deepest widest (t ∷ ts)
  edge_step m (Keyword Posedge) ts h = next h
  edge_step m (Keyword If) ts h = absurd h
  edge_step m (Keyword Input) ts h = absurd h
  edge_step m (Keyword Output) ts h = absurd h
  edge_step m (Keyword Module) ts h = absurd h
  edge_step m (Keyword Endmodule) ts h = absurd h
  edge_step m (Keyword Wire) ts h = absurd h
  edge_step m (Keyword Reg) ts h = absurd h
  edge_step m (Keyword Assign) ts h = absurd h
  edge_step m (Keyword Always) ts h = absurd h
  edge_step m (Identifier n) ts h = absurd (foreign_none m n ts h)
  edge_step m (Number number) ts h = absurd h
  edge_step m (Constant bits) ts h = absurd h
  edge_step m (Operator op) ts h = absurd h
  edge_step m Arrow ts h = absurd h
  edge_step m (Mark byte) ts h = absurd h
  edge_step m Unknown ts h = absurd h

  arrow_step : (m : Machine) (clock target : List ℕ) (t : Token) (ts : List Token) → RestOf deepest widest (made m (process_move (processes.ClockedArrow clock target) t)) ts → AtArrow deepest widest (t ∷ ts)
  arrow_step m clock target Arrow ts h = next (value_begun (AtSemicolon deepest widest) ts h)
  arrow_step m clock target (Identifier n) ts h = absurd h
  arrow_step m clock target (Keyword keyword) ts h = absurd h
  arrow_step m clock target (Number number) ts h = absurd h
  arrow_step m clock target (Constant bits) ts h = absurd h
  arrow_step m clock target (Operator op) ts h = absurd h
  arrow_step m clock target (Mark byte) ts h = absurd h
  arrow_step m clock target Unknown ts h = absurd h

  process_step : (m : Machine) (process : Process) (t : Token) (ts : List Token) → RestOf deepest widest (made m (process_move process t)) ts → AtProcess deepest widest process (t ∷ ts)
  process_step m processes.AssignTarget t ts h = name_next m t _ ts (NextName (AtUpdate deepest widest)) (λ n k. next_name n k) h
  process_step m (processes.AssignSign target) t ts h = begin_marked m t 61 (purposes.Assign target) ts (AtUpdate deepest widest) (λ k. next k) h
  process_step m processes.At t ts h = marked m t 64 (places.Process processes.Event) ts (Next (Mark 64) (AtEvent deepest widest)) (λ k. next k) h
  process_step m processes.Event t ts h =
      elim (if_either (λ r. RestOf deepest widest (made m r) ts) (is_this_mark 42 t) _ _ h) [
        | inl x ↦ mark_told deepest widest (λ _. Unit {0}) (λ u. AtEvent deepest widest (u ∷ ts)) 42 t x.0 (star x.1)
        | inr h2 ↦ marked m t 40 (places.Process processes.Edge) ts (AtEvent deepest widest) (λ k. edge k) h2
      ]
  process_step m processes.If t ts h = if_step m t ts h
  process_step m processes.GateOpen t ts h = begin_marked m t 40 purposes.Gate ts (AtGate deepest widest) (λ k. next k) h
  process_step m processes.LatchTarget t ts h = name_next m t _ ts (NextName (AtUpdate deepest widest)) (λ n k. next_name n k) h
  process_step m (processes.LatchSign target) t ts h = begin_marked m t 61 (purposes.Latch target) ts (AtUpdate deepest widest) (λ k. next k) h
  process_step m processes.Edge t ts h = edge_step m t ts h
  process_step m processes.Clock t ts h = name_next m t _ ts (NextName (AtClockClose deepest widest)) (λ n k. next_name n k) h
  process_step m (processes.ClockClose clock) t ts h = marked m t 41 (places.Process (processes.ClockedTarget clock)) ts (AtClockClose deepest widest) (λ k. next k) h
  process_step m (processes.ClockedTarget clock) t ts h = name_next m t _ ts (NextName (AtArrow deepest widest)) (λ n k. next_name n k) h
  process_step m (processes.ClockedArrow clock target) t ts h = arrow_step m clock target t ts h

  -- ---- items

  an_item : (item : PlainItem) {ts rest : List Token} → AnItem deepest widest ts item rest → BehindItem deepest widest rest → BehindItem deepest widest ts
  an_item item p (items_left is k) = items_left (grammar.next_item p is) k

  wire_item : {ts : List Token} → AtRange deepest widest kinds.Wire ts → BehindItem deepest widest (Keyword Wire ∷ ts)
  wire_item (ranged {shape = shape} n r (next k)) = an_item _ (grammar.wire n r) k

  reg_item : {ts : List Token} → AtRange deepest widest kinds.Reg ts → BehindItem deepest widest (Keyword Reg ∷ ts)
  reg_item (ranged {shape = shape} n r (next k)) = an_item _ (grammar.reg n r) k

  assign_item : {ts : List Token} → NextName (AtUpdate deepest widest) ts → BehindItem deepest widest (Keyword Assign ∷ ts)
  assign_item (next_name n (next (value p (next k)))) = an_item _ (grammar.assign n p) k

  always_item : {ts : List Token} → Next (Mark 64) (AtEvent deepest widest) ts → BehindItem deepest widest (Keyword Always ∷ ts)
  always_item (next (star (next (next (value p (next (next_name n (next (value q (next k)))))))))) = an_item _ (grammar.latch n p q) k
  always_item (next (edge (next (next_name clock (next (next_name target (next (value p (next k))))))))) = an_item _ (grammar.clocked clock target p) k

  instance_item : (of : List ℕ) → is_foreign of ≡ false → {ts : List Token} → NextName (Next (Mark 40) (AtJoins deepest widest)) ts → BehindItem deepest widest (Identifier of ∷ ts)
  instance_item of known (next_name n (next (join_list js (next k)))) = an_item _ (grammar.instance of n known js) k

  not_foreign : (b : Bool) (m : Machine) (of : List ℕ) (ts : List Token) → RestOf deepest widest (made m (if b then Err (problems.Unsupported of) else to (places.InstanceName of))) ts →
      (b ≡ false) × NextName (Next (Mark 40) (AtJoins deepest widest)) ts
  not_foreign true m of ts h = absurd h
  not_foreign false m of ts h = (refl, h)

  item_step : (m : Machine) (t : Token) (ts : List Token) → RestOf deepest widest (made m (item_move t)) ts → BehindItem deepest widest (t ∷ ts)
  item_step m (Keyword Wire) ts h = wire_item h
  item_step m (Keyword Reg) ts h = reg_item h
  item_step m (Keyword Assign) ts h = assign_item h
  item_step m (Keyword Always) ts h = always_item h
  item_step m (Keyword Endmodule) ts h = items_left grammar.no_items h
  item_step m (Keyword Posedge) ts h = absurd h
  item_step m (Keyword If) ts h = absurd h
  item_step m (Keyword Input) ts h = absurd h
  item_step m (Keyword Output) ts h = absurd h
  item_step m (Keyword Module) ts h = absurd h
  item_step m (Identifier of) ts h = let x = not_foreign (is_foreign of) m of ts h in instance_item of x.0 x.1
  item_step m (Number number) ts h = absurd h
  item_step m (Constant bits) ts h = absurd h
  item_step m (Operator op) ts h = absurd h
  item_step m Arrow ts h = absurd h
  item_step m (Mark byte) ts h = absurd h
  item_step m Unknown ts h = absurd h

  -- ---- the next token

  place_step : (m : Machine) (place : Place) (t : Token) (ts : List Token) → ((purpose : Purpose) → IsNarrow deepest widest (BehindValue deepest widest purpose) t) →
      RestOf deepest widest (made m (move_of place t)) ts → AtPlace deepest widest place (t ∷ ts)
  unfolding move_of
  place_step m (places.Header header) t ts narrow h = header_step m header t ts h
  place_step m places.Item t ts narrow h = item_step m t ts h
  place_step m places.Semicolon t ts narrow h = marked m t 59 places.Item ts (AtSemicolon deepest widest) (λ k. next k) h
  place_step m (places.Declaration kind declaration) t ts narrow h = declaration_step m kind declaration t ts h
  place_step m (places.Process process) t ts narrow h = process_step m process t ts h
  place_step m (places.InstanceName of) t ts narrow h = name_next m t _ ts (NextName (Next (Mark 40) (AtJoins deepest widest))) (λ n k. next_name n k) h
  place_step m (places.InstanceOpen of name) t ts narrow h = marked m t 40 (places.Joins of name joinings.First) ts (Next (Mark 40) (AtJoins deepest widest)) (λ k. next k) h
  place_step m (places.Joins of name place) t ts narrow h = joins_step m of name place t ts narrow h

  pub token_step : (m : Machine) (t : Token) (ts : List Token) → depth_at m.state ≤ deepest → ((purpose : Purpose) → IsNarrow deepest widest (BehindValue deepest widest purpose) t) →
      RestOf deepest widest (after_token m t) ts → AtState deepest widest m.state (t ∷ ts)
  unfolding after_token
  token_step m t ts few narrow h = state_step m m.state t ts few narrow h where
    state_step : (m : Machine) (s : PlainState) (t : Token) (ts : List Token) → depth_at s ≤ deepest → ((purpose : Purpose) → IsNarrow deepest widest (BehindValue deepest widest purpose) t) →
        RestOf deepest widest (after_token_at m s t) ts → AtState deepest widest s (t ∷ ts)
    state_step m (outside place) t ts few narrow h = place_step m place t ts narrow h
    state_step m (inside purpose ls spot) t ts few narrow h = value_step m purpose ls spot t ts few (narrow purpose) h
