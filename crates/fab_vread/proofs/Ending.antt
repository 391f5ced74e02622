-- Wherever the machine stands in a text, tokens bring it to the end of one.
use Rattle.std.proofs.Common.{◌≡◌, ℕ, Bool, true, false, ◌==◌, List, [], ◌∷◌, ◌++◌, length, refl, ap, ◌∙◌, Option, Some, None, Ok, if◌then◌else◌}
use Rattle.fab_syntax.specs.declared.tree.Shape.{Shape}
use Rattle.fab_syntax.specs.declared.tree.Shape.TheVariants.{Scalar, Vector}
use Rattle.fab_syntax.specs.Plain as trees
use Rattle.fab_syntax.specs.Plain.{PlainExpr, plain_exprs}
use Rattle.fab_tokens.specs.declared.token.Keyword.TheVariants.{Module, Endmodule, Input, If, Posedge}
use Rattle.fab_tokens.specs.declared.token.Token.{Token}
use Rattle.fab_tokens.specs.declared.token.Token.TheVariants.{Identifier, Keyword, Number, Constant, Arrow, Mark}
use Rattle.fab_vread.specs.declared.expressions.Over.{Over}
use Rattle.fab_vread.specs.declared.places.Kind.{Kind}
use Rattle.fab_vread.specs.declared.places.Kind.TheVariants as kinds
use Rattle.fab_vread.specs.declared.places.Header.TheVariants as headers
use Rattle.fab_vread.specs.declared.places.Declaration.TheVariants as declarations
use Rattle.fab_vread.specs.declared.places.Process.TheVariants as processes
use Rattle.fab_vread.specs.declared.places.Joins.TheVariants as joinings
use Rattle.fab_vread.specs.declared.places.Purpose.{Purpose}
use Rattle.fab_vread.specs.declared.places.Purpose.TheVariants as purposes
use Rattle.fab_vread.specs.declared.places.Place.{Place}
use Rattle.fab_vread.specs.declared.places.Place.TheVariants as places
use Rattle.fab_vread.specs.inner.Expressions as steps
use Rattle.fab_vread.specs.inner.Expressions.{PlainLevel, Spot, Before, Behind, Opened, parenthesis, brace, index, nothing, negation, left, test, choice, wanting, named, select, high, colon, low, after, operand, branch, whole, completed, kept, with_bits, is_this_mark, after_behind, after_whole, with_over, taken}
use Rattle.fab_vread.specs.inner.Places.{move_of}
use Rattle.fab_vread.specs.inner.Machine.{Machine, PlainState, outside, inside, after_token, at_start, begun, closed, declared, instanced, with_join, with_item, with_gate, with_latch, with_stepped}
use Rattle.fab_vread.proofs.Running.{run, and_next}

-- some name
abbrev some_name : List ℕ
some_name = 97 ∷ []

-- tokens that bring the machine to the end of a text, with nothing further above its bound
pub record Ends (m : Machine) : Type 0 where
  pub first : Token
  pub rest : List Token
  pub final : Machine
  pub runs : run m (first ∷ rest) ≡ Ok final
  pub start : at_start final.state ≡ true
  pub same : final.over ≡ m.over

last_step : (m n : Machine) (t : Token) → after_token m t ≡ Ok n → at_start n.state ≡ true → n.over ≡ m.over → Ends m
unfolding run
last_step m n t is start same =
    record { first = t; rest = []; final = n; runs = ap (λ given. and_next given (λ k. run k [])) is; start = start; same = same }

step : (m n : Machine) (t : Token) → after_token m t ≡ Ok n → n.over ≡ m.over → Ends n → Ends m
unfolding run
step m n t is over e = record {
  first = t;
  rest = e.first ∷ e.rest;
  final = e.final;
  runs = ap (λ given. and_next given (λ k. run k (e.first ∷ e.rest))) is ∙ e.runs;
  start = e.start;
  same = e.same ∙ over;
}

abbrev at : Machine → Place → Machine
at m place = record m { state = outside place }

-- ---- outside expressions

ends_item : (m : Machine) → Ends (at m places.Item)
unfolding after_token move_of
ends_item m = last_step _ (closed (at m places.Item)) (Keyword Endmodule) refl refl refl

ends_semicolon : (m : Machine) → Ends (at m places.Semicolon)
unfolding after_token move_of
ends_semicolon m = step _ (at m places.Item) (Mark 59) refl refl (ends_item m)

ends_header : (m : Machine) → Ends (at m (places.Header headers.Semicolon))
unfolding after_token move_of
ends_header m = step _ (at m places.Item) (Mark 59) refl refl (ends_item m)

ends_first_port : (m : Machine) → Ends (at m (places.Header headers.FirstPort))
unfolding after_token move_of
ends_first_port m = step _ (at m (places.Header headers.Semicolon)) (Mark 41) refl refl (ends_header m)

ends_port_end : (m : Machine) → Ends (at m (places.Header headers.PortEnd))
unfolding after_token move_of
ends_port_end m = step _ (at m (places.Header headers.Semicolon)) (Mark 41) refl refl (ends_header m)

ends_open : (m : Machine) → Ends (at m (places.Header headers.Open))
unfolding after_token move_of
ends_open m = step _ (at m (places.Header headers.FirstPort)) (Mark 40) refl refl (ends_first_port m)

ends_name : (m : Machine) → Ends (at m (places.Header headers.Name))
unfolding after_token move_of
ends_name m = step _ (at (record m { name = some_name }) (places.Header headers.Open)) (Identifier some_name) refl refl (ends_open (record m { name = some_name }))

ends_start : (m : Machine) → Ends (at m (places.Header headers.Start))
unfolding after_token move_of
ends_start m = step _ (at m (places.Header headers.Name)) (Keyword Module) refl refl (ends_name m)

-- ---- declarations

same_declared : (m : Machine) (kind : Kind) (shape : Shape) (n : List ℕ) → (declared m kind shape n).over ≡ m.over
same_declared m kinds.Input shape n = refl
same_declared m kinds.Output shape n = refl
same_declared m kinds.Wire shape n = refl
same_declared m kinds.Reg shape n = refl

ends_declared : (m : Machine) (kind : Kind) (shape : Shape) (n : List ℕ) → Ends (declared m kind shape n)
ends_declared m kinds.Input shape n = ends_port_end (declared m kinds.Input shape n)
ends_declared m kinds.Output shape n = ends_port_end (declared m kinds.Output shape n)
ends_declared m kinds.Wire shape n = ends_semicolon (declared m kinds.Wire shape n)
ends_declared m kinds.Reg shape n = ends_semicolon (declared m kinds.Reg shape n)

ends_plain : (m : Machine) (kind : Kind) → Ends (at m (places.Declaration kind declarations.RangeOrName))
unfolding after_token move_of
ends_plain m kind =
    let at_here = at m (places.Declaration kind declarations.RangeOrName) in
    step _ (declared at_here kind Scalar some_name) (Identifier some_name) refl (same_declared at_here kind Scalar some_name) (ends_declared at_here kind Scalar some_name)

ends_vector : (m : Machine) (kind : Kind) (width : ℕ) → Ends (at m (places.Declaration kind (declarations.Name width)))
unfolding after_token move_of
ends_vector m kind width =
    let at_here = at m (places.Declaration kind (declarations.Name width)) in
    step _ (declared at_here kind (Vector width) some_name) (Identifier some_name) refl (same_declared at_here kind (Vector width) some_name)
    (ends_declared at_here kind (Vector width) some_name)

ends_close : (m : Machine) (kind : Kind) (width : ℕ) → Ends (at m (places.Declaration kind (declarations.Close width)))
unfolding after_token move_of
ends_close m kind width = step _ (at m (places.Declaration kind (declarations.Name width))) (Mark 93) refl refl (ends_vector m kind width)

ends_zero : (m : Machine) (kind : Kind) (width : ℕ) → Ends (at m (places.Declaration kind (declarations.Zero width)))
unfolding after_token move_of
ends_zero m kind width = step _ (at m (places.Declaration kind (declarations.Close width))) (Number 0) refl refl (ends_close m kind width)

ends_colon : (m : Machine) (kind : Kind) (width : ℕ) → Ends (at m (places.Declaration kind (declarations.Colon width)))
unfolding after_token move_of
ends_colon m kind width = step _ (at m (places.Declaration kind (declarations.Zero width))) (Mark 58) refl refl (ends_zero m kind width)

ends_high : (m : Machine) (kind : Kind) → Ends (at m (places.Declaration kind declarations.High))
unfolding after_token move_of
ends_high m kind = step _ (at m (places.Declaration kind (declarations.Colon 1))) (Number 0) refl refl (ends_colon m kind 1)

-- ---- joins

ends_join : (m : Machine) (of name : List ℕ) → Ends (at m (places.Joins of name joinings.End))
unfolding after_token move_of
ends_join m of name =
    let at_here = at m (places.Joins of name joinings.End) in
    step _ (instanced at_here of name) (Mark 41) refl refl (ends_semicolon (instanced at_here of name))

ends_first_join : (m : Machine) (of name : List ℕ) → Ends (at m (places.Joins of name joinings.First))
unfolding after_token move_of
ends_first_join m of name =
    let at_here = at m (places.Joins of name joinings.First) in
    step _ (instanced at_here of name) (Mark 41) refl refl (ends_semicolon (instanced at_here of name))

ends_join_value : (m : Machine) (of name port : List ℕ) → Ends (at m (places.Joins of name (joinings.Value port)))
unfolding after_token move_of
ends_join_value m of name port =
    let n = with_join (at m (places.Joins of name (joinings.Value port))) of name port None in
    step _ n (Mark 41) refl refl (ends_join n of name)

ends_join_open : (m : Machine) (of name port : List ℕ) → Ends (at m (places.Joins of name (joinings.Open port)))
unfolding after_token move_of
ends_join_open m of name port = step _ (at m (places.Joins of name (joinings.Value port))) (Mark 40) refl refl (ends_join_value m of name port)

ends_join_port : (m : Machine) (of name : List ℕ) → Ends (at m (places.Joins of name joinings.Port))
unfolding after_token move_of
ends_join_port m of name = step _ (at m (places.Joins of name (joinings.Open some_name))) (Identifier some_name) refl refl (ends_join_open m of name some_name)

ends_next_join : (m : Machine) (of name : List ℕ) → Ends (at m (places.Joins of name joinings.Next))
unfolding after_token move_of
ends_next_join m of name = step _ (at m (places.Joins of name joinings.Port)) (Mark 46) refl refl (ends_join_port m of name)

ends_instance_open : (m : Machine) (of name : List ℕ) → Ends (at m (places.InstanceOpen of name))
unfolding after_token move_of
ends_instance_open m of name = step _ (at m (places.Joins of name joinings.First)) (Mark 40) refl refl (ends_first_join m of name)

ends_instance_name : (m : Machine) (of : List ℕ) → Ends (at m (places.InstanceName of))
unfolding after_token move_of
ends_instance_name m of = step _ (at m (places.InstanceOpen of some_name)) (Identifier some_name) refl refl (ends_instance_open m of some_name)

-- ---- expressions

-- a constant of one bit
abbrev one_bit : List Bool
one_bit = true ∷ []

bit_fits : (over : Option Over) → with_bits over 1 ≡ over
bit_fits None = refl
bit_fits (Some over) = refl

module _ (purpose : Purpose) where
  abbrev here : Machine → List PlainLevel → Spot → Machine
  here m ls spot = record m { state = inside purpose ls spot }

  -- a mark behind what has been read, which leads to the end of a text
  record Follows (m : Machine) (ls : List PlainLevel) (behind : Behind) : Type 0 where
    mark : ℕ
    no_select : (mark == 91) ≡ false
    no_test : (mark == 63) ≡ false
    then_at : Machine
    is : with_stepped m purpose (with_over m.over (after_behind ls behind (Mark mark))) ≡ Ok then_at
    same : then_at.over ≡ m.over
    ends : Ends then_at

  ends_after : (m : Machine) (ls : List PlainLevel) (behind : Behind) → Follows (here m ls (after behind)) ls behind → Ends (here m ls (after behind))
  unfolding after_token taken
  ends_after m ls behind f = step _ f.then_at (Mark f.mark) f.is f.same f.ends

  -- behind one operand, what closes an expression closes it as well
  as_operand : (m : Machine) (ls : List PlainLevel) (e : PlainExpr) → Follows m ls (whole e) → Follows m ls (operand e)
  as_operand m ls e f = record {
    mark = f.mark;
    no_select = f.no_select;
    no_test = f.no_test;
    then_at = f.then_at;
    is = ap (λ (b : Bool). with_stepped m purpose (with_over m.over (if b then Ok (steps.shown ls (steps.going (wanting (test e)))) else after_whole ls e (Mark f.mark)))) f.no_test ∙ f.is;
    same = f.same;
    ends = f.ends;
  }

  -- an operand is to come: a constant
  ends_wanting : (m : Machine) (ls : List PlainLevel) (before : Before) → ((n : Machine) → Ends (here n ls (after (completed before (trees.constant one_bit))))) →
      Ends (here m ls (wanting before))
  unfolding after_token taken
  ends_wanting m ls before next =
      let n = record m { over = with_bits m.over 1 } in
      step _ (here n ls (after (completed before (trees.constant one_bit)))) (Constant one_bit) refl (bit_fits m.over) (next n)

  -- all that can stand behind, where an expression that is whole can
  follows_all : (ls : List PlainLevel) → ((m : Machine) (e : PlainExpr) → Follows m ls (whole e)) → (m : Machine) (behind : Behind) → Follows m ls behind
  follows_all ls closes m (whole e) = closes m e
  follows_all ls closes m (operand e) = as_operand m ls e (closes m e)
  follows_all ls closes m (branch c a) = record {
    mark = 58;
    no_select = refl;
    no_test = refl;
    then_at = here m ls (wanting (choice c a));
    is = refl;
    same = refl;
    ends = ends_wanting m ls (choice c a) (λ n. ends_after n ls (whole (trees.conditional c a (trees.constant one_bit))) (closes (here n ls (after (whole (trees.conditional c a (trees.constant one_bit))))) (trees.conditional c a (trees.constant one_bit))));
  }

  module _ (at_end : (m : Machine) (e : PlainExpr) → Follows m [] (whole e)) where
    closes_all : (ls : List PlainLevel) (m : Machine) (e : PlainExpr) → Follows m ls (whole e)
    closes_all [] m e = at_end m e
    closes_all (l ∷ ls) m e = close_one (λ n x. closes_all ls n x) l.bracket where
      go_on : ((n : Machine) (x : PlainExpr) → Follows n ls (whole x)) → (x : PlainExpr) → Ends (here m ls (after (completed l.before x)))
      go_on closes x =
          ends_after m ls (completed l.before x)
          (follows_all ls closes (here m ls (after (completed l.before x))) (completed l.before x))

      close_one : ((n : Machine) (x : PlainExpr) → Follows n ls (whole x)) → (bracket : Opened) → Follows m (record { before = l.before; bracket = bracket } ∷ ls) (whole e)
      close_one closes parenthesis = record {
        mark = 41;
        no_select = refl;
        no_test = refl;
        then_at = here m ls (after (completed l.before (kept (length ls) e)));
        is = refl;
        same = refl;
        ends = go_on closes (kept (length ls) e);
      }
      close_one closes (index n) = record {
        mark = 93;
        no_select = refl;
        no_test = refl;
        then_at = here m ls (after (completed l.before (trees.pick n (kept (length ls) e))));
        is = refl;
        same = refl;
        ends = go_on closes (trees.pick n (kept (length ls) e));
      }
      close_one closes (brace parts) = record {
        mark = 125;
        no_select = refl;
        no_test = refl;
        then_at = here m ls (after (completed l.before (trees.concatenation (plain_exprs (parts ++ kept (length ls) e ∷ [])))));
        is = refl;
        same = refl;
        ends = go_on closes (trees.concatenation (plain_exprs (parts ++ kept (length ls) e ∷ [])));
      }

    follows : (m : Machine) (ls : List PlainLevel) (behind : Behind) → Follows m ls behind
    follows m ls behind = follows_all ls (λ n e. closes_all ls n e) m behind

    behind_ends : (m : Machine) (ls : List PlainLevel) (behind : Behind) → Ends (here m ls (after behind))
    behind_ends m ls behind = ends_after m ls behind (follows (here m ls (after behind)) ls behind)

    ends_spot : (m : Machine) (ls : List PlainLevel) (spot : Spot) → Ends (here m ls spot)
    unfolding after_token taken
    ends_spot m ls (wanting before) = ends_wanting m ls before (λ n. behind_ends n ls (completed before (trees.constant one_bit)))
    ends_spot m ls (named before n) =
        let f = follows (here m ls (named before n)) ls (completed before (trees.variable n)) in
        step _ f.then_at (Mark f.mark)
        (ap (λ (b : Bool). with_stepped (here m ls (named before n)) purpose (if b then Ok (steps.stepped ls (steps.with_depth m.over (length ls)) (steps.going (select before n)))
        else with_over m.over (after_behind ls (completed before (trees.variable n)) (Mark f.mark)))) f.no_select ∙ f.is)
        f.same f.ends
    ends_spot m ls (select before n) =
        step _ (here m ls (high before n 0)) (Number 0) refl refl
        (step _ (here m ls (after (completed before (trees.part n 0 0)))) (Mark 93) refl refl (behind_ends m ls (completed before (trees.part n 0 0))))
    ends_spot m ls (high before n h) =
        step _ (here m ls (after (completed before (trees.part n h h)))) (Mark 93) refl refl (behind_ends m ls (completed before (trees.part n h h)))
    ends_spot m ls (colon before n h) =
        step _ (here m ls (low before n h 0)) (Number 0) refl refl
        (step _ (here m ls (after (completed before (trees.part n h 0)))) (Mark 93) refl refl (behind_ends m ls (completed before (trees.part n h 0))))
    ends_spot m ls (low before n h l) =
        step _ (here m ls (after (completed before (trees.part n h l)))) (Mark 93) refl refl (behind_ends m ls (completed before (trees.part n h l)))
    ends_spot m ls (after behind) = behind_ends m ls behind

-- ---- what an expression is for

assign_ends : (target : List ℕ) (m : Machine) (e : PlainExpr) → Follows (purposes.Assign target) m [] (whole e)
assign_ends target m e =
    let n = with_item m (trees.assign target e) in
    record { mark = 59; no_select = refl; no_test = refl; then_at = n; is = refl; same = refl; ends = ends_item n }

latch_ends : (target : List ℕ) (m : Machine) (e : PlainExpr) → Follows (purposes.Latch target) m [] (whole e)
latch_ends target m e =
    let n = with_latch m target e in
    record { mark = 59; no_select = refl; no_test = refl; then_at = n; is = refl; same = refl; ends = ends_item n }

clocked_ends : (clock target : List ℕ) (m : Machine) (e : PlainExpr) → Follows (purposes.Clocked clock target) m [] (whole e)
clocked_ends clock target m e =
    let n = with_item m (trees.clocked clock target e) in
    record { mark = 59; no_select = refl; no_test = refl; then_at = n; is = refl; same = refl; ends = ends_item n }

join_ends : (of name port : List ℕ) (m : Machine) (e : PlainExpr) → Follows (purposes.Join of name port) m [] (whole e)
join_ends of name port m e =
    let n = with_join m of name port (Some e) in
    record { mark = 41; no_select = refl; no_test = refl; then_at = n; is = refl; same = refl; ends = ends_join n of name }

ends_latch_sign : (m : Machine) (target : List ℕ) → Ends (at m (places.Process (processes.LatchSign target)))
unfolding after_token move_of
ends_latch_sign m target =
    let n = begun (at m (places.Process (processes.LatchSign target))) (purposes.Latch target) in
    step _ n (Mark 61) refl refl (ends_spot (purposes.Latch target) (latch_ends target) n [] (wanting nothing))

ends_latch_target : (m : Machine) → Ends (at m (places.Process processes.LatchTarget))
unfolding after_token move_of
ends_latch_target m = step _ (at m (places.Process (processes.LatchSign some_name))) (Identifier some_name) refl refl (ends_latch_sign m some_name)

gate_ends : (m : Machine) (e : PlainExpr) → Follows purposes.Gate m [] (whole e)
gate_ends m e =
    let n = with_gate m e in
    record { mark = 41; no_select = refl; no_test = refl; then_at = n; is = refl; same = refl; ends = ends_latch_target n }

ends_inside : (m : Machine) (purpose : Purpose) (ls : List PlainLevel) (spot : Spot) → Ends (record m { state = inside purpose ls spot })
ends_inside m (purposes.Assign target) ls spot = ends_spot (purposes.Assign target) (assign_ends target) m ls spot
ends_inside m purposes.Gate ls spot = ends_spot purposes.Gate gate_ends m ls spot
ends_inside m (purposes.Latch target) ls spot = ends_spot (purposes.Latch target) (latch_ends target) m ls spot
ends_inside m (purposes.Clocked clock target) ls spot = ends_spot (purposes.Clocked clock target) (clocked_ends clock target) m ls spot
ends_inside m (purposes.Join of name port) ls spot = ends_spot (purposes.Join of name port) (join_ends of name port) m ls spot

-- ---- processes

ends_gate_open : (m : Machine) → Ends (at m (places.Process processes.GateOpen))
unfolding after_token move_of
ends_gate_open m =
    let n = begun (at m (places.Process processes.GateOpen)) purposes.Gate in
    step _ n (Mark 40) refl refl (ends_inside n purposes.Gate [] (wanting nothing))

ends_if : (m : Machine) → Ends (at m (places.Process processes.If))
unfolding after_token move_of
ends_if m = step _ (at m (places.Process processes.GateOpen)) (Keyword If) refl refl (ends_gate_open m)

ends_event : (m : Machine) → Ends (at m (places.Process processes.Event))
unfolding after_token move_of
ends_event m = step _ (at m (places.Process processes.If)) (Mark 42) refl refl (ends_if m)

ends_at : (m : Machine) → Ends (at m (places.Process processes.At))
unfolding after_token move_of
ends_at m = step _ (at m (places.Process processes.Event)) (Mark 64) refl refl (ends_event m)

ends_assign_sign : (m : Machine) (target : List ℕ) → Ends (at m (places.Process (processes.AssignSign target)))
unfolding after_token move_of
ends_assign_sign m target =
    let n = begun (at m (places.Process (processes.AssignSign target))) (purposes.Assign target) in
    step _ n (Mark 61) refl refl (ends_inside n (purposes.Assign target) [] (wanting nothing))

ends_assign_target : (m : Machine) → Ends (at m (places.Process processes.AssignTarget))
unfolding after_token move_of
ends_assign_target m = step _ (at m (places.Process (processes.AssignSign some_name))) (Identifier some_name) refl refl (ends_assign_sign m some_name)

ends_arrow : (m : Machine) (clock target : List ℕ) → Ends (at m (places.Process (processes.ClockedArrow clock target)))
unfolding after_token move_of
ends_arrow m clock target =
    let n = begun (at m (places.Process (processes.ClockedArrow clock target))) (purposes.Clocked clock target) in
    step _ n Arrow refl refl (ends_inside n (purposes.Clocked clock target) [] (wanting nothing))

ends_clocked : (m : Machine) (clock : List ℕ) → Ends (at m (places.Process (processes.ClockedTarget clock)))
unfolding after_token move_of
ends_clocked m clock = step _ (at m (places.Process (processes.ClockedArrow clock some_name))) (Identifier some_name) refl refl (ends_arrow m clock some_name)

ends_clock_close : (m : Machine) (clock : List ℕ) → Ends (at m (places.Process (processes.ClockClose clock)))
unfolding after_token move_of
ends_clock_close m clock = step _ (at m (places.Process (processes.ClockedTarget clock))) (Mark 41) refl refl (ends_clocked m clock)

ends_clock : (m : Machine) → Ends (at m (places.Process processes.Clock))
unfolding after_token move_of
ends_clock m = step _ (at m (places.Process (processes.ClockClose some_name))) (Identifier some_name) refl refl (ends_clock_close m some_name)

ends_edge : (m : Machine) → Ends (at m (places.Process processes.Edge))
unfolding after_token move_of
ends_edge m = step _ (at m (places.Process processes.Clock)) (Keyword Posedge) refl refl (ends_clock m)

ends_next_port : (m : Machine) → Ends (at m (places.Header headers.NextPort))
unfolding after_token move_of
ends_next_port m = step _ (at m (places.Declaration kinds.Input declarations.RangeOrName)) (Keyword Input) refl refl (ends_plain m kinds.Input)

-- ---- wherever the machine stands

ends_place : (m : Machine) (place : Place) → Ends (at m place)
ends_place m (places.Header headers.Start) = ends_start m
ends_place m (places.Header headers.Name) = ends_name m
ends_place m (places.Header headers.Open) = ends_open m
ends_place m (places.Header headers.FirstPort) = ends_first_port m
ends_place m (places.Header headers.NextPort) = ends_next_port m
ends_place m (places.Header headers.PortEnd) = ends_port_end m
ends_place m (places.Header headers.Semicolon) = ends_header m
ends_place m places.Item = ends_item m
ends_place m places.Semicolon = ends_semicolon m
ends_place m (places.Declaration kind declarations.RangeOrName) = ends_plain m kind
ends_place m (places.Declaration kind declarations.High) = ends_high m kind
ends_place m (places.Declaration kind (declarations.Colon width)) = ends_colon m kind width
ends_place m (places.Declaration kind (declarations.Zero width)) = ends_zero m kind width
ends_place m (places.Declaration kind (declarations.Close width)) = ends_close m kind width
ends_place m (places.Declaration kind (declarations.Name width)) = ends_vector m kind width
ends_place m (places.Process processes.AssignTarget) = ends_assign_target m
ends_place m (places.Process (processes.AssignSign target)) = ends_assign_sign m target
ends_place m (places.Process processes.At) = ends_at m
ends_place m (places.Process processes.Event) = ends_event m
ends_place m (places.Process processes.If) = ends_if m
ends_place m (places.Process processes.GateOpen) = ends_gate_open m
ends_place m (places.Process processes.LatchTarget) = ends_latch_target m
ends_place m (places.Process (processes.LatchSign target)) = ends_latch_sign m target
ends_place m (places.Process processes.Edge) = ends_edge m
ends_place m (places.Process processes.Clock) = ends_clock m
ends_place m (places.Process (processes.ClockClose clock)) = ends_clock_close m clock
ends_place m (places.Process (processes.ClockedTarget clock)) = ends_clocked m clock
ends_place m (places.Process (processes.ClockedArrow clock target)) = ends_arrow m clock target
ends_place m (places.InstanceName of) = ends_instance_name m of
ends_place m (places.InstanceOpen of name) = ends_instance_open m of name
ends_place m (places.Joins of name joinings.First) = ends_first_join m of name
ends_place m (places.Joins of name joinings.Next) = ends_next_join m of name
ends_place m (places.Joins of name joinings.Port) = ends_join_port m of name
ends_place m (places.Joins of name (joinings.Open port)) = ends_join_open m of name port
ends_place m (places.Joins of name (joinings.Value port)) = ends_join_value m of name port
ends_place m (places.Joins of name joinings.End) = ends_join m of name

ends_state : (m : Machine) (s : PlainState) → Ends (record m { state = s })
ends_state m (outside place) = ends_place m place
ends_state m (inside purpose ls spot) = ends_inside m purpose ls spot

pub ends : (m : Machine) → Ends m
ends m = ends_state m m.state
