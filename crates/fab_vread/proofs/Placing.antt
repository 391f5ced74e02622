-- The machine takes the tokens of whole texts, and builds their trees.
use Rattle.std.proofs.Common.{◌≡◌, ℕ, ◌<◌, ◌≤◌, ◌+◌, suc, Bool, true, false, List, [], ◌∷◌, ◌++◌, length, refl, ap, ◌∙◌, sym, arith, Option, Some, None, Result, Ok, Err, if◌then◌else◌, append_assoc, append-nil, nat_lt}
use Rattle.std.proofs.lemmas.Bool.Decides.{nat_tests}
use Rattle.fab_base.specs.declared.problem.Problem.{Problem}
use Rattle.fab_base.specs.declared.problem.Problem.TheVariants as problems
use Rattle.fab_syntax.specs.declared.tree.Shape.{Shape}
use Rattle.fab_syntax.specs.declared.tree.Shape.TheVariants.{Scalar, Vector}
use Rattle.fab_syntax.specs.declared.tree.Port.{Port}
use Rattle.fab_syntax.specs.Plain as trees
use Rattle.fab_syntax.specs.Plain.{PlainExpr, PlainJoin, PlainItem, PlainModule}
use Rattle.fab_tokens.specs.declared.token.Token.{Token}
use Rattle.fab_tokens.specs.declared.token.Token.TheVariants.{Identifier, Number, Mark}
use Rattle.fab_grammar_defs.specs.Grammar as grammar
use Rattle.fab_grammar_defs.specs.Grammar.{Expression, Range, APort, Ports, PortList, AJoin, Joins, JoinList, AnItem, Items, AModule, Modules}
use Rattle.fab_vread.specs.declared.expressions.Over.{Over}
use Rattle.fab_vread.specs.declared.places.Kind.{Kind}
use Rattle.fab_vread.specs.declared.places.Kind.TheVariants as kinds
use Rattle.fab_vread.specs.declared.places.Header.TheVariants as headers
use Rattle.fab_vread.specs.declared.places.Declaration.TheVariants as declarations
use Rattle.fab_vread.specs.declared.places.Joins.TheVariants as joinings
use Rattle.fab_vread.specs.declared.places.Purpose.{Purpose}
use Rattle.fab_vread.specs.declared.places.Purpose.TheVariants as purposes
use Rattle.fab_vread.specs.declared.places.Move.TheVariants as moves
use Rattle.fab_vread.specs.declared.places.Place.{Place}
use Rattle.fab_vread.specs.declared.places.Place.TheVariants as places
use Rattle.fab_vread.specs.inner.Expressions.{Stepped, Effect, going, ended, nothing, wanting, taken, refused}
use Rattle.fab_vread.specs.inner.Places.{move_of, to}
use Rattle.fab_vread.specs.inner.Machine.{Machine, PlainState, outside, inside, first_machine, after_token, with_stepped, with_effect, declared, made, is_done}
use Rattle.fab_vread.proofs.Running.{run, and_take}
use Rattle.fab_vread.proofs.Runs.{Watched, both, depth_alone, IsFine, AreFew, within, behind, Within, Reads}
use Rattle.fab_vread.proofs.Expressing.{Begins, expression_begins, expression_read}

-- ---- ranges

abbrev behind_range : Kind → Shape → Place
behind_range kind Scalar = places.Declaration kind declarations.RangeOrName
behind_range kind (Vector width) = places.Declaration kind (declarations.Name width)

fits_32 : (high : ℕ) → high < 4294967295 → nat_lt high 4294967295 ≡ true
fits_32 high h = grind (arith, nat_tests)

range_read : (m : Machine) (over : Option Over) (kind : Kind) {ts rest : List Token} {shape : Shape} → Range ts shape rest →
    behind m over (places.Declaration kind declarations.RangeOrName) ts ≡ behind m over (behind_range kind shape) rest
unfolding run after_token move_of
range_read m over kind grammar.scalar = refl
range_read m over kind {rest = rest} (grammar.vector high few) =
    ap (λ (b : Bool). and_take (made (record m { state = outside (places.Declaration kind declarations.High); over = over })
    (if b then to (places.Declaration kind (declarations.Colon (high + 1))) else refused))
    (Mark 58 ∷ Number 0 ∷ Mark 93 ∷ rest)) (fits_32 high few)

name_read : (m : Machine) (over : Option Over) (kind : Kind) (shape : Shape) (n : List ℕ) (ts : List Token) →
    behind m over (behind_range kind shape) (Identifier n ∷ ts) ≡ run (declared (record m { over = over }) kind shape n) ts
unfolding run after_token move_of
name_read m over kinds.Input Scalar n ts = refl
name_read m over kinds.Output Scalar n ts = refl
name_read m over kinds.Wire Scalar n ts = refl
name_read m over kinds.Reg Scalar n ts = refl
name_read m over kinds.Input (Vector width) n ts = refl
name_read m over kinds.Output (Vector width) n ts = refl
name_read m over kinds.Wire (Vector width) n ts = refl
name_read m over kinds.Reg (Vector width) n ts = refl

-- ---- ports

abbrev port_place : (first : Bool) → Place
port_place true = places.Header headers.FirstPort
port_place false = places.Header headers.NextPort

abbrev with_ports : Machine → List Port → Machine
with_ports m ports = record m { ports = m.ports ++ ports }

port_read : (m : Machine) (over : Option Over) (first : Bool) {ts rest : List Token} {port : Port} → APort ts port rest →
    behind m over (port_place first) ts ≡ behind (with_ports m (port ∷ [])) over (places.Header headers.PortEnd) rest
unfolding run after_token move_of
port_read m over true {rest = rest} (grammar.input {shape = shape} n r) = range_read m over kinds.Input r ∙ name_read m over kinds.Input shape n rest
port_read m over false {rest = rest} (grammar.input {shape = shape} n r) = range_read m over kinds.Input r ∙ name_read m over kinds.Input shape n rest
port_read m over true {rest = rest} (grammar.output {shape = shape} n r) = range_read m over kinds.Output r ∙ name_read m over kinds.Output shape n rest
port_read m over false {rest = rest} (grammar.output {shape = shape} n r) = range_read m over kinds.Output r ∙ name_read m over kinds.Output shape n rest

ports_read : (m : Machine) (over : Option Over) (first : Bool) {ts rest : List Token} {ports : List Port} → Ports ts ports rest →
    behind m over (port_place first) ts ≡ behind (with_ports m ports) over (places.Header headers.PortEnd) rest
unfolding run after_token move_of
ports_read m over first (grammar.last_port p) = port_read m over first p
ports_read m over first {rest = rest} (grammar.next_port {port = port} {ports = ports} p ps) =
    port_read m over first p ∙ ports_read (with_ports m (port ∷ [])) over false ps
    ∙ ap (λ (xs : List Port). behind (record m { ports = xs }) over (places.Header headers.PortEnd) rest) (append_assoc m.ports (port ∷ []) ports)

abbrev ports_end : List Port → Place
ports_end [] = places.Header headers.FirstPort
ports_end (port ∷ ports) = places.Header headers.PortEnd

port_list_read : (m : Machine) (over : Option Over) {ts rest : List Token} {ports : List Port} → PortList ts ports rest →
    behind m over (places.Header headers.FirstPort) ts ≡ behind (with_ports m ports) over (ports_end ports) rest
port_list_read m over {rest = rest} grammar.no_ports =
    ap (λ (xs : List Port). behind (record m { ports = xs }) over (places.Header headers.FirstPort) rest) (sym (append-nil m.ports))
port_list_read m over (grammar.some_ports (grammar.last_port p)) = ports_read m over true (grammar.last_port p)
port_list_read m over (grammar.some_ports (grammar.next_port p ps)) = ports_read m over true (grammar.next_port p ps)

ports_close : (m : Machine) (over : Option Over) (ports : List Port) (ts : List Token) →
    behind m over (ports_end ports) (Mark 41 ∷ Mark 59 ∷ ts) ≡ behind m over places.Item ts
unfolding run after_token move_of
ports_close m over [] ts = refl
ports_close m over (port ∷ ports) ts = refl

-- ---- joins

-- what an expression leaves does not depend on where it began
state_is_free : (m : Machine) (s t : PlainState) (purpose : Purpose) (given : Result Stepped Problem) →
    with_stepped (record m { state = s }) purpose given ≡ with_stepped (record m { state = t }) purpose given
state_is_free m s t purpose (Err problem) = refl
state_is_free m s t purpose (Ok x) = effect_is_free m s t x.over purpose x.levels x.effect where
  effect_is_free : (m : Machine) (s t : PlainState) (over : Option Over) (purpose : Purpose) (levels : _) (effect : Effect) →
      with_effect (record m { state = s; over = over }) purpose levels effect ≡ with_effect (record m { state = t; over = over }) purpose levels effect
  effect_is_free m s t over purpose levels (going spot) = refl
  effect_is_free m s t over (purposes.Assign target) levels (ended e token) = refl
  effect_is_free m s t over purposes.Gate levels (ended e token) = refl
  effect_is_free m s t over (purposes.Latch target) levels (ended e token) = refl
  effect_is_free m s t over (purposes.Clocked clock target) levels (ended e token) = refl
  effect_is_free m s t over (purposes.Join of name port) levels (ended e token) = refl

join_begins : (m : Machine) (over : Option Over) (of name port : List ℕ) (ts : List Token) → Begins ts →
    behind m over (places.Joins of name (joinings.Value port)) ts ≡ within m (purposes.Join of name port) over [] (wanting nothing) ts
unfolding run after_token move_of
join_begins m over of name port [] begins = absurd begins
join_begins m over of name port (t ∷ ts) begins =
    ap (λ (b : Bool). and_take (made (record m { state = outside (places.Joins of name (joinings.Value port)); over = over })
    (if b then Ok (moves.Unjoined of name port) else Ok (moves.First (purposes.Join of name port) t))) ts) begins.1
    ∙ ap (λ given. and_take given ts)
    (state_is_free (record m { over = over }) (outside (places.Joins of name (joinings.Value port)))
    (inside (purposes.Join of name port) [] (wanting nothing)) (purposes.Join of name port) (taken [] over (wanting nothing) t))

abbrev join_place : (of name : List ℕ) (first : Bool) → Place
join_place of name true = places.Joins of name joinings.First
join_place of name false = places.Joins of name joinings.Next

abbrev with_joins : Machine → List PlainJoin → Machine
with_joins m joins = record m { joins = m.joins ++ joins }

-- inside an expression in which no bracket is open
at_outer : (watched : Watched) (widest deepest : ℕ) (over : Option Over) → Within watched widest deepest over → Within watched widest (0 + deepest) over
at_outer watched widest deepest over w = let shallow = w.shallow in record { few = w.few; shallow = omega arith; none = w.none }

latch_same : (target : List ℕ) (c a x y : PlainExpr) → c ≡ x → a ≡ y → trees.latch target c a ≡ trees.latch target x y
latch_same target c a x y p q = cc

cons_same : {X : Type 0} (x : X) (xs : List X) (y : X) (ys : List X) → x ≡ y → xs ≡ ys → x ∷ xs ≡ y ∷ ys
cons_same x xs y ys p q = cc

some_test : (n : ℕ) → nat_lt 0 (suc n) ≡ true
some_test n = grind (arith, nat_tests)

none_fine : (watched : Watched) → IsFine watched None
none_fine both = refl
none_fine depth_alone = tt

module _ (watched : Watched) (deepest widest : ℕ) where
  join_read : (m : Machine) (of name : List ℕ) (over : Option Over) (first : Bool) {ts rest : List Token} {join : PlainJoin} →
      AJoin deepest widest ts join rest → Reads watched (Within watched widest deepest over) (behind m over (join_place of name first) ts)
      (λ got over'. behind (with_joins m (got ∷ [])) over' (places.Joins of name joinings.End) rest) join
  unfolding run after_token move_of taken
  join_read m of name over true (grammar.unjoined port) =
      record { got = record { port = port; to = None }; over = over; reads = refl; exact = λ w. (refl, w.none) }
  join_read m of name over false (grammar.unjoined port) =
      record { got = record { port = port; to = None }; over = over; reads = refl; exact = λ w. (refl, w.none) }
  join_read m of name over true (grammar.joined port p) =
      let x = expression_read watched m (purposes.Join of name port) p over [] (refl, refl) in
      record {
        got = record { port = port; to = Some x.got };
        over = x.over;
        reads = join_begins m over of name port _ (expression_begins p) ∙ x.reads;
        exact = λ w. let y = x.exact (at_outer watched widest deepest over w) in (ap (λ e. record { port = port; to = Some e }) y.0, y.1);
      }
  join_read m of name over false (grammar.joined port p) =
      let x = expression_read watched m (purposes.Join of name port) p over [] (refl, refl) in
      record {
        got = record { port = port; to = Some x.got };
        over = x.over;
        reads = join_begins m over of name port _ (expression_begins p) ∙ x.reads;
        exact = λ w. let y = x.exact (at_outer watched widest deepest over w) in (ap (λ e. record { port = port; to = Some e }) y.0, y.1);
      }

  joins_read : (m : Machine) (of name : List ℕ) (over : Option Over) (first : Bool) {ts rest : List Token} {joins : List PlainJoin} →
      Joins deepest widest ts joins rest → Reads watched (Within watched widest deepest over) (behind m over (join_place of name first) ts)
      (λ got over'. behind (with_joins m got) over' (places.Joins of name joinings.End) rest) joins
  unfolding run after_token move_of
  joins_read m of name over first (grammar.last_join p) =
      let x = join_read m of name over first p in
      record { got = x.got ∷ []; over = x.over; reads = x.reads; exact = λ w. let y = x.exact w in (ap (λ join. join ∷ []) y.0, y.1) }
  joins_read m of name over first {rest = rest} (grammar.next_join p ps) =
      let x = join_read m of name over first p in
      let y = joins_read (with_joins m (x.got ∷ [])) of name x.over false ps in
      record {
        got = x.got ∷ y.got;
        over = y.over;
        reads = x.reads ∙ y.reads ∙ ap (λ (xs : List PlainJoin). behind (record m { joins = xs }) y.over (places.Joins of name joinings.End) rest)
            (append_assoc m.joins (x.got ∷ []) y.got);
        exact = λ w. let a = x.exact w in
            let b = y.exact (record { few = w.few; shallow = w.shallow; none = a.1 }) in
            (cons_same x.got y.got _ _ a.0 b.0, b.1);
      }

  abbrev joins_end : (of name : List ℕ) → List PlainJoin → Place
  joins_end of name [] = places.Joins of name joinings.First
  joins_end of name (join ∷ joins) = places.Joins of name joinings.End

  -- the joins of an instance that stands in the machine, and what follows them
  join_list_read : (m : Machine) (of name : List ℕ) (over : Option Over) {ts rest : List Token} {joins : List PlainJoin} →
      JoinList deepest widest ts joins (Mark 41 ∷ Mark 59 ∷ rest) → m.joins ≡ [] →
      Reads watched (Within watched widest deepest over) (behind m over (places.Joins of name joinings.First) ts)
      (λ got over'. behind (record m { items = m.items ++ trees.instance of name got ∷ []; joins = [] }) over' places.Item rest) joins
  unfolding run after_token move_of
  join_list_read m of name over {rest = rest} grammar.no_joins free = record {
    got = [];
    over = over;
    reads = ap (λ (js : List PlainJoin). behind (record m { items = m.items ++ trees.instance of name js ∷ []; joins = [] }) over places.Item rest) free;
    exact = λ w. (refl, w.none);
  }
  join_list_read m of name over {rest = rest} (grammar.some_joins ps) free =
      let x = joins_read m of name over true ps in
      record {
        got = x.got;
        over = x.over;
        reads = x.reads ∙ ap (λ (js : List PlainJoin). behind (record m { items = m.items ++ trees.instance of name (js ++ x.got) ∷ []; joins = [] }) x.over places.Item rest) free;
        exact = x.exact;
      }

  -- ---- items

  -- between items, with these items so far
  abbrev base : List PlainModule → (name : List ℕ) → List Port → List PlainItem → Machine
  base ms name ports items = record first_machine { modules = ms; name = name; ports = ports; items = items }

  item_read : (ms : List PlainModule) (name : List ℕ) (ports : List Port) (items : List PlainItem) (over : Option Over)
      {ts rest : List Token} {item : PlainItem} → AnItem deepest widest ts item rest →
      Reads watched (Within watched widest deepest over) (behind (base ms name ports items) over places.Item ts)
      (λ got over'. behind (base ms name ports (items ++ got ∷ [])) over' places.Item rest) item
  unfolding run after_token move_of taken first_machine
  item_read ms name ports items over {rest = rest} (grammar.wire {shape = shape} n r) = record {
    got = trees.wire shape n;
    over = over;
    reads = range_read (base ms name ports items) over kinds.Wire r ∙ name_read (base ms name ports items) over kinds.Wire shape n (Mark 59 ∷ rest);
    exact = λ w. (refl, w.none);
  }
  item_read ms name ports items over {rest = rest} (grammar.reg {shape = shape} n r) = record {
    got = trees.reg shape n;
    over = over;
    reads = range_read (base ms name ports items) over kinds.Reg r ∙ name_read (base ms name ports items) over kinds.Reg shape n (Mark 59 ∷ rest);
    exact = λ w. (refl, w.none);
  }
  item_read ms name ports items over (grammar.assign target p) =
      let x = expression_read watched (base ms name ports items) (purposes.Assign target) p over [] (refl, refl) in
      record {
        got = trees.assign target x.got;
        over = x.over;
        reads = x.reads;
        exact = λ w. let y = x.exact (at_outer watched widest deepest over w) in (ap (trees.assign target) y.0, y.1);
      }
  item_read ms name ports items over (grammar.latch target p q) =
      let m = base ms name ports items in
      let x = expression_read watched m purposes.Gate p over [] (refl, refl) in
      let y = expression_read watched (record m { gate = x.got }) (purposes.Latch target) q x.over [] (refl, refl) in
      record {
        got = trees.latch target x.got y.got;
        over = y.over;
        reads = x.reads ∙ y.reads;
        exact = λ w. let a = x.exact (at_outer watched widest deepest over w) in
            let b = y.exact (at_outer watched widest deepest x.over (record { few = w.few; shallow = w.shallow; none = a.1 })) in
            (latch_same target x.got y.got _ _ a.0 b.0, b.1);
      }
  item_read ms name ports items over (grammar.clocked clock target p) =
      let x = expression_read watched (base ms name ports items) (purposes.Clocked clock target) p over [] (refl, refl) in
      record {
        got = trees.clocked clock target x.got;
        over = x.over;
        reads = x.reads;
        exact = λ w. let y = x.exact (at_outer watched widest deepest over w) in (ap (trees.clocked clock target) y.0, y.1);
      }
  item_read ms name ports items over {rest = rest} (grammar.instance {ts = ts} of n known js) =
      let m = base ms name ports items in
      let x = join_list_read m of n over js refl in
      record {
        got = trees.instance of n x.got;
        over = x.over;
        reads = ap (λ (b : Bool). and_take (made (record m { over = over }) (if b then Err (problems.Unsupported of) else to (places.InstanceName of)))
            (Identifier n ∷ Mark 40 ∷ ts)) known ∙ x.reads;
        exact = λ w. let y = x.exact w in (ap (trees.instance of n) y.0, y.1);
      }

  items_read : (ms : List PlainModule) (name : List ℕ) (ports : List Port) (items : List PlainItem) (over : Option Over)
      {ts rest : List Token} {more : List PlainItem} → Items deepest widest ts more rest →
      Reads watched (Within watched widest deepest over) (behind (base ms name ports items) over places.Item ts)
      (λ got over'. behind (base ms name ports (items ++ got)) over' places.Item rest) more
  items_read ms name ports items over {rest = rest} grammar.no_items = record {
    got = [];
    over = over;
    reads = ap (λ (xs : List PlainItem). behind (base ms name ports xs) over places.Item rest) (sym (append-nil items));
    exact = λ w. (refl, w.none);
  }
  items_read ms name ports items over {rest = rest} (grammar.next_item p ps) =
      let x = item_read ms name ports items over p in
      let y = items_read ms name ports (items ++ x.got ∷ []) x.over ps in
      record {
        got = x.got ∷ y.got;
        over = y.over;
        reads = x.reads ∙ y.reads ∙ ap (λ (xs : List PlainItem). behind (base ms name ports xs) y.over places.Item rest) (append_assoc items (x.got ∷ []) y.got);
        exact = λ w. let a = x.exact w in
            let b = y.exact (record { few = w.few; shallow = w.shallow; none = a.1 }) in
            (cons_same x.got y.got _ _ a.0 b.0, b.1);
      }

  -- ---- modules

  -- before a module, behind these
  abbrev start : List PlainModule → Option Over → List Token → Result Machine Problem
  start ms over ts = behind (base ms [] [] []) over (places.Header headers.Start) ts

  module_read : (ms : List PlainModule) (over : Option Over) {ts rest : List Token} {m : PlainModule} → AModule deepest widest ts m rest →
      Reads watched (Within watched widest deepest over) (start ms over ts) (λ got over'. start (ms ++ got ∷ []) over' rest) m
  unfolding run after_token move_of first_machine
  module_read ms over (grammar.whole {mid = mid} {ports = ports} n ps is) =
      let x = items_read ms n ports [] over is in
      record {
        got = record { name = n; ports = ports; items = x.got };
        over = x.over;
        reads = port_list_read (base ms n [] []) over ps ∙ ports_close (base ms n ports []) over ports mid ∙ x.reads;
        exact = λ w. let y = x.exact w in (ap (λ items. record { name = n; ports = ports; items = items }) y.0, y.1);
      }

  modules_read : (ms : List PlainModule) (over : Option Over) {ts : List Token} {more : List PlainModule} → Modules deepest widest ts more →
      Reads watched (Within watched widest deepest over) (start ms over ts) (λ got over'. start (ms ++ got) over' []) more
  modules_read ms over (grammar.last_module p) =
      let x = module_read ms over p in
      record { got = x.got ∷ []; over = x.over; reads = x.reads; exact = λ w. let y = x.exact w in (ap (λ m. m ∷ []) y.0, y.1) }
  modules_read ms over (grammar.next_module p ps) =
      let x = module_read ms over p in
      let y = modules_read (ms ++ x.got ∷ []) x.over ps in
      record {
        got = x.got ∷ y.got;
        over = y.over;
        reads = x.reads ∙ y.reads ∙ ap (λ (xs : List PlainModule). start xs y.over []) (append_assoc ms (x.got ∷ []) y.got);
        exact = λ w. let a = x.exact w in
            let b = y.exact (record { few = w.few; shallow = w.shallow; none = a.1 }) in
            (cons_same x.got y.got _ _ a.0 b.0, b.1);
      }

  -- The tokens of a text bring the machine to the end of a text. Within the bounds it then has its tree, and nothing is above a bound.
  pub record Accepts (ts : List Token) (more : List PlainModule) : Type 0 where
    pub final : Machine
    pub runs : run first_machine ts ≡ Ok final
    pub done : is_done final ≡ true
    pub exact : deepest ≤ 300 → AreFew watched widest → (final.modules ≡ more) × IsFine watched final.over

  pub text_accepted : {ts : List Token} {more : List PlainModule} → Modules deepest widest ts more → Accepts ts more
  unfolding run first_machine
  text_accepted (grammar.last_module p) =
      let x = module_read [] None p in
      record {
        final = record (base (x.got ∷ []) [] [] []) { over = x.over };
        runs = x.reads;
        done = some_test 0;
        exact = λ shallow few. let y = x.exact (record { few = few; shallow = shallow; none = none_fine watched }) in (ap (λ m. m ∷ []) y.0, y.1);
      }
  text_accepted (grammar.next_module p ps) =
      let x = module_read [] None p in
      let y = modules_read (x.got ∷ []) x.over ps in
      record {
        final = record (base (x.got ∷ y.got) [] [] []) { over = y.over };
        runs = x.reads ∙ y.reads;
        done = some_test (length y.got);
        exact = λ shallow few. let a = x.exact (record { few = few; shallow = shallow; none = none_fine watched }) in
            let b = y.exact (record { few = few; shallow = shallow; none = a.1 }) in
            (cons_same x.got y.got _ _ a.0 b.0, b.1);
      }
