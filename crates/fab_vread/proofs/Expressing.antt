-- The machine takes the tokens of expressions, and builds their trees.
use Rattle.std.proofs.Common.{◌≡◌, ℕ, ◌+◌, ◌<◌, suc, Bool, true, false, ◌==◌, List, [], ◌∷◌, ◌++◌, length, refl, sym, ap, ◌∙◌, arith, Option, Result, Ok, nat_lt, if◌then◌else◌}
use Rattle.fab_base.specs.declared.problem.Problem.{Problem}
use Rattle.fab_syntax.specs.declared.tree.Op.{Op}
use Rattle.fab_syntax.specs.Plain as trees
use Rattle.fab_syntax.specs.Plain.{PlainExpr, PlainExprs, plain_exprs}
use Rattle.fab_tokens.specs.declared.token.Token.{Token}
use Rattle.fab_tokens.specs.declared.token.Token.TheVariants.{Identifier, Keyword, Number, Constant, Operator, Arrow, Mark, Unknown}
use Rattle.fab_grammar_defs.specs.Grammar as grammar
use Rattle.fab_grammar_defs.specs.Grammar.{Operand, Expression, Expressions}
use Rattle.fab_vread.specs.declared.expressions.Over.{Over}
use Rattle.fab_vread.specs.declared.places.Purpose.{Purpose}
use Rattle.fab_vread.specs.inner.Expressions as steps
use Rattle.fab_vread.specs.inner.Expressions.{PlainLevel, Spot, Before, level, nothing, negation, left, parenthesis, brace, index, wanting, named, select, after, completed, kept, kept_before, kept_level, with_depth, with_bits, is_this_mark, taken, after_behind, with_over, after_wanting}
use Rattle.fab_vread.specs.inner.Machine.{Machine, inside, after_token, with_stepped}
use Rattle.fab_vread.proofs.Running.{run, and_take}
use Rattle.fab_vread.proofs.Innermost.{kept_before_is}
use Rattle.fab_vread.proofs.Runs.{Watched, IsFine, within, Within, Reads, kept_is, depth_fine, bits_fine, below_bound, deeper, outer}

-- what follows an operand is no select
abbrev pub Follows : List Token → Type 0
Follows [] = ⊥
Follows (t ∷ ts) = is_this_mark 91 t ≡ false

-- what follows an expression is a mark that does not make it longer
abbrev pub Closes : List Token → Type 0
Closes [] = ⊥
Closes (Mark byte ∷ ts) = ((byte == 91) ≡ false) × ((byte == 63) ≡ false)
Closes (t ∷ ts) = ⊥

closes_follows : (ts : List Token) → Closes ts → Follows ts
closes_follows [] closes = closes
closes_follows (Mark byte ∷ ts) closes = closes.0
closes_follows (Identifier name ∷ ts) closes = absurd closes
closes_follows (Keyword keyword ∷ ts) closes = absurd closes
closes_follows (Number number ∷ ts) closes = absurd closes
closes_follows (Constant bits ∷ ts) closes = absurd closes
closes_follows (Operator op ∷ ts) closes = absurd closes
closes_follows (Arrow ∷ ts) closes = absurd closes
closes_follows (Unknown ∷ ts) closes = absurd closes

-- no expression begins with a number or a parenthesis that closes
abbrev is_number : Token → Bool
is_number (Number number) = true
is_number _ = false

abbrev pub Begins : List Token → Type 0
Begins [] = ⊥
Begins (t ∷ ts) = (is_number t ≡ false) × (is_this_mark 41 t ≡ false)

operand_begins : {widest room : ℕ} {ts rest : List Token} {e : PlainExpr} → Operand widest room ts e rest → Begins ts
operand_begins (grammar.name n) = (refl, refl)
operand_begins (grammar.pick n p) = (refl, refl)
operand_begins (grammar.bit n number) = (refl, refl)
operand_begins (grammar.part n high low) = (refl, refl)
operand_begins (grammar.constant bits few) = (refl, refl)
operand_begins (grammar.concatenation ps) = (refl, refl)
operand_begins (grammar.parentheses p) = (refl, refl)

pub expression_begins : {widest room : ℕ} {ts rest : List Token} {e : PlainExpr} → Expression widest room ts e rest → Begins ts
expression_begins (grammar.alone p) = operand_begins p
expression_begins (grammar.complement p) = (refl, refl)
expression_begins (grammar.operation op p q) = operand_begins p
expression_begins (grammar.conditional p q r) = operand_begins p

-- the parts of a concatenation so far, before further ones
abbrev before_trees : List PlainExpr → PlainExprs → PlainExprs
before_trees [] es = es
before_trees (e ∷ parts) es = trees.more e (before_trees parts es)

trees-push : (parts : List PlainExpr) (e : PlainExpr) (es : PlainExprs) → before_trees (parts ++ e ∷ []) es ≡ before_trees parts (trees.more e es)
trees-push [] e es = refl
trees-push (first ∷ parts) e es = ap (trees.more first) (trees-push parts e es)

trees-last : (parts : List PlainExpr) (e : PlainExpr) → plain_exprs (parts ++ e ∷ []) ≡ before_trees parts (trees.more e trees.none)
trees-last [] e = refl
trees-last (first ∷ parts) e = ap (trees.more first) (trees-last parts e)

operation_same : (op : Op) (a b x y : PlainExpr) → a ≡ x → b ≡ y → trees.operation op a b ≡ trees.operation op x y
operation_same op a b x y p q = cc

conditional_same : (c a b z x y : PlainExpr) → c ≡ z → a ≡ x → b ≡ y → trees.conditional c a b ≡ trees.conditional z x y
conditional_same c a b z x y o p q = cc

-- what stands before an operand, with other expressions
abbrev replaced : Before → (first second : PlainExpr) → Before
replaced nothing x y = nothing
replaced negation x y = negation
replaced (left op e) x y = left op x
replaced (steps.test c) x y = steps.test x
replaced (steps.choice c a) x y = steps.choice x y

abbrev first_of : Before → PlainExpr
first_of nothing = trees.constant []
first_of negation = trees.constant []
first_of (left op e) = e
first_of (steps.test c) = c
first_of (steps.choice c a) = c

abbrev second_of : Before → PlainExpr
second_of nothing = trees.constant []
second_of negation = trees.constant []
second_of (left op e) = trees.constant []
second_of (steps.test c) = trees.constant []
second_of (steps.choice c a) = a

replaced_same : (before : Before) → replaced before (first_of before) (second_of before) ≡ before
replaced_same nothing = refl
replaced_same negation = refl
replaced_same (left op e) = refl
replaced_same (steps.test c) = refl
replaced_same (steps.choice c a) = refl

kept_replaced : (count : ℕ) (before : Before) → kept_before count before ≡ replaced before (kept count (first_of before)) (kept count (second_of before))
kept_replaced count nothing = refl
kept_replaced count negation = refl
kept_replaced count (left op e) = refl
kept_replaced count (steps.test c) = refl
kept_replaced count (steps.choice c a) = refl

replaced_kept : (count : ℕ) (before : Before) (x y : PlainExpr) → replaced (kept_before count before) x y ≡ replaced before x y
replaced_kept count nothing x y = refl
replaced_kept count negation x y = refl
replaced_kept count (left op e) x y = refl
replaced_kept count (steps.test c) x y = refl
replaced_kept count (steps.choice c a) x y = refl

same_left : (op : Op) (x y : PlainExpr) → left op x ≡ left op y → x ≡ y
same_left op x y e = cc

same_test : (x y : PlainExpr) → steps.test x ≡ steps.test y → x ≡ y
same_test x y e = cc

same_first : (x y a b : PlainExpr) → steps.choice x a ≡ steps.choice y b → x ≡ y
same_first x y a b e = cc

same_second : (x y a b : PlainExpr) → steps.choice x a ≡ steps.choice y b → a ≡ b
same_second x y a b e = cc

-- what is kept of the parts of a concatenation, and of a name
abbrev kept_parts : ℕ → List PlainExpr → List PlainExpr
kept_parts count parts = if nat_lt count 300 then parts else []

kept_parts_is : (count : ℕ) (parts : List PlainExpr) → count < 300 → kept_parts count parts ≡ parts
kept_parts_is count parts h = rw (below_bound count h) refl

abbrev kept_name : ℕ → List ℕ → List ℕ
kept_name count name = if nat_lt count 300 then name else []

kept_name_is : (count : ℕ) (name : List ℕ) → count < 300 → kept_name count name ≡ name
kept_name_is count name h = rw (below_bound count h) refl

pick_same : (n k : List ℕ) (e f : PlainExpr) → n ≡ k → e ≡ f → trees.pick n e ≡ trees.pick k f
pick_same n k e f p q = cc

module _ (watched : Watched) (m : Machine) (purpose : Purpose) where
  -- a name without a select
  name_ends : (over : Option Over) (ls : List PlainLevel) (before : Before) (name : List ℕ) (ts : List Token) → Follows ts →
      within m purpose over ls (named before name) ts ≡ within m purpose over ls (after (completed before (trees.variable name))) ts
  unfolding run after_token taken
  name_ends over ls before name [] follows = absurd follows
  name_ends over ls before name (t ∷ ts) follows =
      ap (λ (b : Bool). and_take (with_stepped (record m { state = inside purpose ls (named before name); over = over }) purpose
      (if b then Ok (steps.stepped ls (with_depth over (length ls)) (steps.going (select before name)))
      else with_over over (after_behind ls (completed before (trees.variable name)) t))) ts) follows

  -- an expression in a select
  select_as : (over : Option Over) (ls : List PlainLevel) (before : Before) (name : List ℕ) (ts : List Token) → Begins ts →
      within m purpose over ls (select before name) ts ≡ within m purpose over (kept_level (length ls) before (index name) ∷ ls) (wanting nothing) ts
  unfolding run after_token taken
  select_as over ls before name [] begins = absurd begins
  select_as over ls before name (Mark byte ∷ ts) begins = refl
  select_as over ls before name (Identifier n ∷ ts) begins = refl
  select_as over ls before name (Keyword keyword ∷ ts) begins = refl
  select_as over ls before name (Number number ∷ ts) begins = absurd (cc begins.0)
  select_as over ls before name (Constant bits ∷ ts) begins = refl
  select_as over ls before name (Operator op ∷ ts) begins = refl
  select_as over ls before name (Arrow ∷ ts) begins = refl
  select_as over ls before name (Unknown ∷ ts) begins = refl

  -- an operand to which nothing is added
  whole_ends : (over : Option Over) (ls : List PlainLevel) (e : PlainExpr) (ts : List Token) → Closes ts →
      within m purpose over ls (after (steps.operand e)) ts ≡ within m purpose over ls (after (steps.whole e)) ts
  unfolding run after_token taken
  whole_ends over ls e [] closes = absurd closes
  whole_ends over ls e (Mark byte ∷ ts) closes =
      ap (λ (b : Bool). and_take (with_stepped (record m { state = inside purpose ls (after (steps.operand e)); over = over }) purpose
      (with_over over (if b then Ok (steps.shown ls (steps.going (wanting (steps.test e)))) else steps.after_whole ls e (Mark byte)))) ts) closes.1
  whole_ends over ls e (Identifier name ∷ ts) closes = absurd closes
  whole_ends over ls e (Keyword keyword ∷ ts) closes = absurd closes
  whole_ends over ls e (Number number ∷ ts) closes = absurd closes
  whole_ends over ls e (Constant bits ∷ ts) closes = absurd closes
  whole_ends over ls e (Operator op ∷ ts) closes = absurd closes
  whole_ends over ls e (Arrow ∷ ts) closes = absurd closes
  whole_ends over ls e (Unknown ∷ ts) closes = absurd closes

  -- An operand has been read; what stood before it may not have been kept.
  record ReadsOperand (fits : Type 0) (from : Result Machine Problem) (before : Before) (ls : List PlainLevel) (rest : List Token) (e : PlainExpr) : Type 0 where
    got : PlainExpr
    over : Option Over
    first : PlainExpr
    second : PlainExpr
    reads : from ≡ within m purpose over ls (after (completed (replaced before first second) got)) rest
    exact : fits → (got ≡ e) × (replaced before first second ≡ before) × IsFine watched over

  -- What has been read of a concatenation before its last part is whole.
  record ReadsParts (fits : Type 0) (from : Result Machine Problem) (before : Before) (ls : List PlainLevel) (parts : List PlainExpr) (es : PlainExprs)
      (rest : List Token) : Type 0 where
    earlier : List PlainExpr
    got : PlainExpr
    over : Option Over
    first : PlainExpr
    second : PlainExpr
    reads : from ≡ within m purpose over (level (replaced before first second) (brace earlier) ∷ ls) (after (steps.whole got)) rest
    exact : fits → (plain_exprs (earlier ++ got ∷ []) ≡ before_trees parts es) × (replaced before first second ≡ before) × IsFine watched over

  -- an operand in no bracket
  plainly : (fits : Type 0) (from : Result Machine Problem) (before : Before) (ls : List PlainLevel) (rest : List Token) (e : PlainExpr) (over : Option Over) →
      from ≡ within m purpose over ls (after (completed before e)) rest → (fits → IsFine watched over) → ReadsOperand fits from before ls rest e
  plainly fits from before ls rest e over reads fine = record {
    got = e;
    over = over;
    first = first_of before;
    second = second_of before;
    reads = reads ∙ ap (λ (b : Before). within m purpose over ls (after (completed b e)) rest) (sym (replaced_same before));
    exact = λ w. (refl, replaced_same before, fine w);
  }

  -- an operand behind a bracket that closes
  bracketed : (fits : Type 0) (from : Result Machine Problem) (before : Before) (ls : List PlainLevel) (rest : List Token) (e got : PlainExpr) (over : Option Over) →
      from ≡ within m purpose over ls (after (completed (kept_before (length ls) before) got)) rest → (fits → length ls < 300) →
      (fits → (got ≡ e) × IsFine watched over) → ReadsOperand fits from before ls rest e
  bracketed fits from before ls rest e got over reads few exact = record {
    got = got;
    over = over;
    first = kept (length ls) (first_of before);
    second = kept (length ls) (second_of before);
    reads = reads ∙ ap (λ (b : Before). within m purpose over ls (after (completed b got)) rest) (kept_replaced (length ls) before);
    exact = λ w. ((exact w).0, sym (kept_replaced (length ls) before) ∙ kept_before_is (length ls) before (few w), (exact w).1);
  }

  mutual
    unfolding run after_token taken

    operand_read : {widest room : ℕ} {ts rest : List Token} {e : PlainExpr} → Operand widest room ts e rest →
        (over : Option Over) (ls : List PlainLevel) (before : Before) → Follows rest →
        ReadsOperand (Within watched widest (length ls + room) over) (within m purpose over ls (wanting before) ts) before ls rest e
    operand_read {rest = rest} (grammar.name n) over ls before follows =
        plainly _ _ before ls rest (trees.variable n) over (name_ends over ls before n rest follows) (λ w. w.none)
    operand_read {widest} {room = suc room} {rest = rest} (grammar.pick n p) over ls before follows =
        let inner = expression_read p (with_depth over (length ls)) (kept_level (length ls) before (index n) ∷ ls) (refl, refl) in
        bracketed _ _ before ls rest (trees.pick n _) (trees.pick (kept_name (length ls) n) (kept (length ls) inner.got)) inner.over
        (select_as (with_depth over (length ls)) ls before n _ (expression_begins p) ∙ inner.reads)
        (λ w. outer watched widest room over ls w)
        (λ w. let x = inner.exact (deeper watched widest room over (kept_level (length ls) before (index n)) ls w) in
        let few = outer watched widest room over ls w in
        (pick_same _ n _ _ (kept_name_is (length ls) n few) (kept_is (length ls) inner.got few ∙ x.0), x.1))
    operand_read {widest} {room = suc room} {rest = rest} (grammar.bit n number) over ls before follows =
        plainly _ _ before ls rest (trees.part n number number) (with_depth over (length ls)) refl
        (λ w. depth_fine watched over (length ls) (outer watched widest room over ls w) w.none)
    operand_read {widest} {room = suc room} {rest = rest} (grammar.part n high low) over ls before follows =
        plainly _ _ before ls rest (trees.part n high low) (with_depth over (length ls)) refl
        (λ w. depth_fine watched over (length ls) (outer watched widest room over ls w) w.none)
    operand_read {widest} {rest = rest} (grammar.constant bits few) over ls before follows =
        plainly _ _ before ls rest (trees.constant bits) (with_bits over (length bits)) refl
        (λ w. bits_fine watched over (length bits) widest w.few few w.none)
    operand_read {widest} {room = suc room} {rest = rest} (grammar.concatenation ps) over ls before follows =
        let inner = parts_read ps (with_depth over (length ls)) ls before [] (refl, refl) in
        record {
          got = trees.concatenation (plain_exprs (inner.earlier ++ kept (length ls) inner.got ∷ []));
          over = inner.over;
          first = inner.first;
          second = inner.second;
          reads = inner.reads;
          exact = λ w. let x = inner.exact (deeper watched widest room over (level before (brace [])) ls w) in
              (ap trees.concatenation (ap (λ (e : PlainExpr). plain_exprs (inner.earlier ++ e ∷ [])) (kept_is (length ls) inner.got (outer watched widest room over ls w)) ∙ x.0), x.1, x.2);
        }
    operand_read {widest} {room = suc room} {rest = rest} {e = e} (grammar.parentheses p) over ls before follows =
        let inner = expression_read p (with_depth over (length ls)) (kept_level (length ls) before parenthesis ∷ ls) (refl, refl) in
        bracketed _ _ before ls rest e (kept (length ls) inner.got) inner.over inner.reads
        (λ w. outer watched widest room over ls w)
        (λ w. let x = inner.exact (deeper watched widest room over (kept_level (length ls) before parenthesis) ls w) in
        (kept_is (length ls) inner.got (outer watched widest room over ls w) ∙ x.0, x.1))

    pub expression_read : {widest room : ℕ} {ts rest : List Token} {e : PlainExpr} → Expression widest room ts e rest →
        (over : Option Over) (ls : List PlainLevel) → Closes rest →
        Reads watched (Within watched widest (length ls + room) over) (within m purpose over ls (wanting nothing) ts)
        (λ got over'. within m purpose over' ls (after (steps.whole got)) rest) e
    expression_read {rest = rest} (grammar.alone p) over ls closes =
        let x = operand_read p over ls nothing (closes_follows rest closes) in
        record {
          got = x.got;
          over = x.over;
          reads = x.reads ∙ whole_ends x.over ls x.got rest closes;
          exact = λ w. let a = x.exact w in (a.0, a.2);
        }
    expression_read {rest = rest} (grammar.complement p) over ls closes =
        let x = operand_read p over ls negation (closes_follows rest closes) in
        record {
          got = trees.complement x.got;
          over = x.over;
          reads = x.reads;
          exact = λ w. let a = x.exact w in (ap trees.complement a.0, a.2);
        }
    expression_read {rest = rest} (grammar.operation op p q) over ls closes =
        let x = operand_read p over ls nothing refl in
        let y = operand_read q x.over ls (left op x.got) (closes_follows rest closes) in
        record {
          got = trees.operation op y.first y.got;
          over = y.over;
          reads = x.reads ∙ y.reads;
          exact = λ w. let a = x.exact w in
              let b = y.exact (record { few = w.few; shallow = w.shallow; none = a.2 }) in
              (operation_same op y.first y.got _ _ (same_left op y.first x.got b.1 ∙ a.0) b.0, b.2);
        }
    expression_read {rest = rest} (grammar.conditional p q r) over ls closes =
        let x = operand_read p over ls nothing refl in
        let y = operand_read q x.over ls (steps.test x.got) refl in
        let z = operand_read r y.over ls (steps.choice y.first y.got) (closes_follows rest closes) in
        record {
          got = trees.conditional z.first z.second z.got;
          over = z.over;
          reads = x.reads ∙ y.reads ∙ z.reads;
          exact = λ w. let a = x.exact w in
              let b = y.exact (record { few = w.few; shallow = w.shallow; none = a.2 }) in
              let c = z.exact (record { few = w.few; shallow = w.shallow; none = b.2 }) in (
                conditional_same z.first z.second z.got _ _ _ (same_first z.first y.first z.second y.got c.1 ∙ same_test y.first x.got b.1 ∙ a.0)
                    (same_second z.first y.first z.second y.got c.1 ∙ b.0) c.0,
                c.2,
              );
        }

    parts_read : {widest room : ℕ} {ts rest : List Token} {es : PlainExprs} → Expressions widest room ts es rest →
        (over : Option Over) (ls : List PlainLevel) (before : Before) (parts : List PlainExpr) → Closes rest →
        ReadsParts (Within watched widest (suc (length ls) + room) over)
        (within m purpose over (kept_level (length ls) before (brace parts) ∷ ls) (wanting nothing) ts) before ls parts es rest
    parts_read {rest = rest} (grammar.last {e = e} p) over ls before parts closes =
        let x = expression_read p over (kept_level (length ls) before (brace parts) ∷ ls) closes in
        record {
          earlier = kept_parts (length ls) parts;
          got = x.got;
          over = x.over;
          first = kept (length ls) (first_of before);
          second = kept (length ls) (second_of before);
          reads = x.reads ∙ ap (λ (b : Before). within m purpose x.over (level b (brace (kept_parts (length ls) parts)) ∷ ls) (after (steps.whole x.got)) rest)
              (kept_replaced (length ls) before);
          exact = λ w. let shallow = w.shallow in
              let few : length ls < 300 = omega arith in
              let a = x.exact w in (
                ap (λ (ps : List PlainExpr). plain_exprs (ps ++ x.got ∷ [])) (kept_parts_is (length ls) parts few) ∙ trees-last parts x.got
                    ∙ ap (λ (t : PlainExpr). before_trees parts (trees.more t trees.none)) a.0,
                sym (kept_replaced (length ls) before) ∙ kept_before_is (length ls) before few,
                a.1,
              );
        }
    parts_read {widest} {room} {rest = rest} (grammar.next {e = e} {es = es} p ps) over ls before parts closes =
        let x = expression_read p over (kept_level (length ls) before (brace parts) ∷ ls) (refl, refl) in
        let so_far = kept_parts (length ls) parts ++ kept (length ls) x.got ∷ [] in
        let y = parts_read ps x.over ls (kept_before (length ls) before) so_far closes in
        record {
          earlier = y.earlier;
          got = y.got;
          over = y.over;
          first = y.first;
          second = y.second;
          reads = x.reads ∙ y.reads
              ∙ ap (λ (b : Before). within m purpose y.over (level b (brace y.earlier) ∷ ls) (after (steps.whole y.got)) rest)
              (replaced_kept (length ls) before y.first y.second);
          exact = λ w. let shallow = w.shallow in
              let few : length ls < 300 = omega arith in
              let a = x.exact w in
              let b = y.exact (record { few = w.few; shallow = w.shallow; none = a.1 }) in (
                b.0 ∙ ap (λ (qs : List PlainExpr). before_trees (qs ++ kept (length ls) x.got ∷ []) es) (kept_parts_is (length ls) parts few)
                    ∙ trees-push parts (kept (length ls) x.got) es
                    ∙ ap (λ (t : PlainExpr). before_trees parts (trees.more t es)) (kept_is (length ls) x.got few ∙ a.0),
                sym (replaced_kept (length ls) before y.first y.second) ∙ b.1 ∙ kept_before_is (length ls) before few,
                b.2,
              );
        }
