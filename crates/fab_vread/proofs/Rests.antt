-- What may follow in an expression. `K` is what may follow behind the whole expression.
use Rattle.std.proofs.Common.{◌≡◌, ◌⊎◌, inl, inr, ℕ, zero, suc, ◌≤◌, ◌+◌, Bool, true, false, ◌==◌, ◌&&◌, List, [], ◌∷◌, ◌++◌, length, refl, subst, sym, arith, Option, Result, Ok, Err, if◌then◌else◌}
use Rattle.std.proofs.lemmas.Bool.{eqb-true}
use Rattle.fab_base.specs.declared.problem.Problem.{Problem}
use Rattle.fab_syntax.specs.declared.tree.Op.{Op}
use Rattle.fab_syntax.specs.Plain as trees
use Rattle.fab_syntax.specs.Plain.{PlainExpr, PlainExprs, plain_exprs}
use Rattle.fab_tokens.specs.declared.token.Token.{Token}
use Rattle.fab_tokens.specs.declared.token.Token.TheVariants.{Identifier, Keyword, Number, Constant, Operator, Arrow, Mark, Unknown}
use Rattle.fab_grammar_defs.specs.Grammar as grammar
use Rattle.fab_grammar_defs.specs.Grammar.{Operand, Expression, Expressions}
use Rattle.fab_vread.specs.declared.expressions.Over.{Over}
use Rattle.fab_vread.specs.inner.Expressions as steps
use Rattle.fab_vread.specs.inner.Expressions.{PlainLevel, Spot, Before, Opened, Behind, level, nothing, negation, left, test, choice, parenthesis, brace, index, wanting, named, select, high, colon, low, after, operand, branch, whole, going, ended, completed, kept, Stepped, Shown, Effect, is_this_mark, taken, after_behind, after_single, after_whole, with_over, after_wanting, after_operand, wanting_mark, close, close_by, close_brace}

pub if_either : {X : Type 0} (P : X → Type 0) (b : Bool) (x y : X) → P (if b then x else y) → ((b ≡ true) × P x) ⊎ P y
if_either P true x y h = inl (refl, h)
if_either P false x y h = inr h

module _ (widest : ℕ) where
  -- behind an operand that stands alone so far
  pub data Single (K : List Token → Type 0) (room : ℕ) : List Token → Type 0 where
    ends : {ts : List Token} → K ts → Single K room ts
    operated : {ts rest : List Token} {e : PlainExpr} → (op : Op) → Operand widest room ts e rest → K rest → Single K room (Operator op ∷ ts)
    tested : {ts mid rest : List Token} {a b : PlainExpr} → Operand widest room ts a (Mark 58 ∷ mid) → Operand widest room mid b rest → K rest →
        Single K room (Mark 63 ∷ ts)

  -- behind a test and the first branch
  pub data Branch (K : List Token → Type 0) (room : ℕ) : List Token → Type 0 where
    last : {ts rest : List Token} {e : PlainExpr} → Operand widest room ts e rest → K rest → Branch K room (Mark 58 ∷ ts)

  -- behind an operand, before which this stands
  abbrev pub After : (K : List Token → Type 0) → ℕ → Before → List Token → Type 0
  After K room nothing ts = Single K room ts
  After K room negation ts = K ts
  After K room (left op e) ts = K ts
  After K room (test c) ts = Branch K room ts
  After K room (choice c a) ts = K ts

  abbrev pub Done : (K : List Token → Type 0) → ℕ → Behind → List Token → Type 0
  Done K room (operand e) ts = Single K room ts
  Done K room (branch c a) ts = Branch K room ts
  Done K room (whole e) ts = K ts

  -- the bracket closes
  pub data Closing (K : List Token → Type 0) (room : ℕ) : Opened → List Token → Type 0 where
    by_parenthesis : {rest : List Token} → K rest → Closing K room parenthesis (Mark 41 ∷ rest)
    by_bracket : {rest : List Token} {n : List ℕ} → K rest → Closing K room (index n) (Mark 93 ∷ rest)
    by_brace : {rest : List Token} {parts : List PlainExpr} → K rest → Closing K room (brace parts) (Mark 125 ∷ rest)
    by_comma : {ts rest : List Token} {parts : List PlainExpr} {es : PlainExprs} → Expressions widest room ts es (Mark 125 ∷ rest) → K rest →
        Closing K room (brace parts) (Mark 44 ∷ ts)

  -- behind an expression inside these brackets
  abbrev pub Whole : (K : List Token → Type 0) → ℕ → List PlainLevel → List Token → Type 0
  Whole K room [] ts = K ts
  Whole K room (l ∷ ls) ts = Closing (λ us. After (Whole K (suc room) ls) (suc room) l.before us) room l.bracket ts

  -- an operand is to come
  pub data Wanting (K : List Token → Type 0) (room : ℕ) : Before → List Token → Type 0 where
    begins : {before : Before} {ts rest : List Token} {e : PlainExpr} → Operand widest room ts e rest → After K room before rest →
        Wanting K room before ts
    negates : {ts rest : List Token} {e : PlainExpr} → Operand widest room ts e rest → K rest → Wanting K room nothing (Mark 126 ∷ ts)

  -- behind a name
  pub data Named (K : List Token → Type 0) : ℕ → Before → List Token → Type 0 where
    plain : {room : ℕ} {before : Before} {ts : List Token} → After K room before ts → Named K room before ts
    picked : {room : ℕ} {before : Before} {ts rest : List Token} {e : PlainExpr} → Expression widest room ts e (Mark 93 ∷ rest) →
        After K (suc room) before rest → Named K (suc room) before (Mark 91 ∷ ts)
    bit : {room : ℕ} {before : Before} {rest : List Token} → (number : ℕ) → After K (suc room) before rest →
        Named K (suc room) before (Mark 91 ∷ Number number ∷ Mark 93 ∷ rest)
    part : {room : ℕ} {before : Before} {rest : List Token} → (h l : ℕ) → After K (suc room) before rest →
        Named K (suc room) before (Mark 91 ∷ Number h ∷ Mark 58 ∷ Number l ∷ Mark 93 ∷ rest)

  -- behind a name and `[`, with so much room in the bracket
  pub data Selects (K : List Token → Type 0) (room : ℕ) (before : Before) : List Token → Type 0 where
    picks : {ts rest : List Token} {e : PlainExpr} → Expression widest room ts e (Mark 93 ∷ rest) → After K (suc room) before rest →
        Selects K room before ts
    one : {rest : List Token} → (number : ℕ) → After K (suc room) before rest → Selects K room before (Number number ∷ Mark 93 ∷ rest)
    several : {rest : List Token} → (h l : ℕ) → After K (suc room) before rest →
        Selects K room before (Number h ∷ Mark 58 ∷ Number l ∷ Mark 93 ∷ rest)

  pub data Highs (K : List Token → Type 0) (room : ℕ) (before : Before) : List Token → Type 0 where
    one_high : {rest : List Token} → After K (suc room) before rest → Highs K room before (Mark 93 ∷ rest)
    with_low : {rest : List Token} → (l : ℕ) → After K (suc room) before rest → Highs K room before (Mark 58 ∷ Number l ∷ Mark 93 ∷ rest)

  pub data Colons (K : List Token → Type 0) (room : ℕ) (before : Before) : List Token → Type 0 where
    its_low : {rest : List Token} → (l : ℕ) → After K (suc room) before rest → Colons K room before (Number l ∷ Mark 93 ∷ rest)

  pub data Lows (K : List Token → Type 0) (room : ℕ) (before : Before) : List Token → Type 0 where
    its_end : {rest : List Token} → After K (suc room) before rest → Lows K room before (Mark 93 ∷ rest)

  abbrev pub AtSpot : (K : List Token → Type 0) → ℕ → Spot → List Token → Type 0
  AtSpot K room (wanting before) ts = Wanting K room before ts
  AtSpot K room (named before n) ts = Named K room before ts
  AtSpot K room (select before n) ts = Selects K room before ts
  AtSpot K room (high before n h) ts = Highs K room before ts
  AtSpot K room (colon before n h) ts = Colons K room before ts
  AtSpot K room (low before n h l) ts = Lows K room before ts
  AtSpot K room (after behind) ts = Done K room behind ts

-- the bracket of a select by a number stands in no list
abbrev pub inner : Spot → ℕ
inner (wanting before) = 0
inner (named before n) = 0
inner (select before n) = 1
inner (high before n h) = 1
inner (colon before n h) = 1
inner (low before n h l) = 1
inner (after behind) = 0

-- how many brackets are open
abbrev pub depth : List PlainLevel → Spot → ℕ
depth ls spot = inner spot + length ls

-- for a spot in a select the room outside the bracket is one more: `K` stands there
abbrev pub around : (widest : ℕ) → (List Token → Type 0) → ℕ → List PlainLevel → Spot → (List Token → Type 0)
around widest K room ls (select before n) ts = Whole widest K (suc room) ls ts
around widest K room ls (high before n h) ts = Whole widest K (suc room) ls ts
around widest K room ls (colon before n h) ts = Whole widest K (suc room) ls ts
around widest K room ls (low before n h l) ts = Whole widest K (suc room) ls ts
around widest K room ls (wanting before) ts = Whole widest K room ls ts
around widest K room ls (named before n) ts = Whole widest K room ls ts
around widest K room ls (after behind) ts = Whole widest K room ls ts

module _ (deepest widest : ℕ) (K : List Token → Type 0) where
  -- What may follow where these brackets are open, at this spot.
  pub record Inside (ls : List PlainLevel) (spot : Spot) (ts : List Token) : Type 0 where
    pub room : ℕ
    pub opened : depth ls spot + room ≡ deepest
    pub follows : AtSpot widest (around widest K room ls spot) room spot ts

  abbrev pub AfterEffect : List PlainLevel → Effect → List Token → Type 0
  AfterEffect ls (going spot) ts = Inside ls spot ts
  AfterEffect ls (ended e token) ts = K (token ∷ ts)

  abbrev pub AfterStep : Result Stepped Problem → List Token → Type 0
  AfterStep (Ok given) ts = AfterEffect given.levels given.effect ts
  AfterStep (Err problem) ts = ⊥

  abbrev AfterShown : Result Shown Problem → List Token → Type 0
  AfterShown (Ok given) ts = AfterEffect given.levels given.effect ts
  AfterShown (Err problem) ts = ⊥

  unshown : (over : Option Over) (given : Result Shown Problem) (ts : List Token) → AfterStep (with_over over given) ts → AfterShown given ts
  unshown over (Ok given) ts h = h
  unshown over (Err problem) ts h = h

  -- what may follow does not depend on what is kept of expressions
  after_kept : (count : ℕ) (M : List Token → Type 0) (room : ℕ) (before : Before) (ts : List Token) → After widest M room (steps.kept_before count before) ts →
      After widest M room before ts
  after_kept count M room nothing ts h = h
  after_kept count M room negation ts h = h
  after_kept count M room (left op e) ts h = h
  after_kept count M room (test c) ts h = h
  after_kept count M room (choice c a) ts h = h

  -- behind an operand the spot is the one behind it
  after_is : (ls : List PlainLevel) (before : Before) (e : PlainExpr) (ts : List Token) → Inside ls (after (completed before e)) ts →
      (room : ℕ) × (length ls + room ≡ deepest) × After widest (Whole widest K room ls) room before ts
  after_is ls nothing e ts h = (h.room, (let o = h.opened in omega arith), h.follows)
  after_is ls negation e ts h = (h.room, (let o = h.opened in omega arith), h.follows)
  after_is ls (left op a) e ts h = (h.room, (let o = h.opened in omega arith), h.follows)
  after_is ls (test c) e ts h = (h.room, (let o = h.opened in omega arith), h.follows)
  after_is ls (choice c a) e ts h = (h.room, (let o = h.opened in omega arith), h.follows)

  -- an expression, and what follows it
  pub record Begun (room : ℕ) (M : List Token → Type 0) (ts : List Token) : Type 0 where
    pub tree : PlainExpr
    pub rest : List Token
    pub made : Expression widest room ts tree rest
    pub behind : M rest

  begun_alone : (room : ℕ) (M : List Token → Type 0) {ts rest : List Token} {e : PlainExpr} → Operand widest room ts e rest → Single widest M room rest →
      Begun room M ts
  begun_alone room M {rest = rest} {e = e} p (ends k) = record { tree = e; rest = rest; made = grammar.alone p; behind = k }
  begun_alone room M {e = e} p (operated {rest = rest} {e = b} op q k) =
      record { tree = trees.operation op e b; rest = rest; made = grammar.operation op p q; behind = k }
  begun_alone room M {e = e} p (tested {rest = rest} {a = a} {b = b} q r k) =
      record { tree = trees.conditional e a b; rest = rest; made = grammar.conditional p q r; behind = k }

  begun_of : (room : ℕ) (M : List Token → Type 0) (ts : List Token) → Wanting widest M room nothing ts → Begun room M ts
  begun_of room M ts (begins p h) = begun_alone room M p h
  begun_of room M ts (negates {rest = rest} {e = e} p k) = record { tree = trees.complement e; rest = rest; made = grammar.complement p; behind = k }

  -- ---- brackets that close

  parenthesized : (room : ℕ) (M : List Token → Type 0) {ts rest : List Token} {e : PlainExpr} → Expression widest room ts e rest →
      Closing widest M room parenthesis rest → (f : PlainExpr) × (us : List Token) × Operand widest (suc room) (Mark 40 ∷ ts) f us × M us
  parenthesized room M {e = e} p (by_parenthesis {rest = us} k) = (e, us, grammar.parentheses p, k)

  indexed : (room : ℕ) (M : List Token → Type 0) (n : List ℕ) {ts rest : List Token} {e : PlainExpr} → Expression widest room ts e rest →
      Closing widest M room (index n) rest → (us : List Token) × Expression widest room ts e (Mark 93 ∷ us) × M us
  indexed room M n p (by_bracket {rest = us} k) = (us, p, k)

  -- the parts of a concatenation that are left
  parted : (room : ℕ) (M : List Token → Type 0) (parts : List PlainExpr) {ts rest : List Token} {e : PlainExpr} → Expression widest room ts e rest →
      Closing widest M room (brace parts) rest → (es : PlainExprs) × (us : List Token) × Expressions widest room ts es (Mark 125 ∷ us) × M us
  parted room M parts {e = e} p (by_brace {rest = us} k) = (trees.more e trees.none, us, grammar.last p, k)
  parted room M parts {e = e} p (by_comma {rest = us} {es = es} ps k) = (trees.more e es, us, grammar.next p ps, k)

  -- ---- the next token

  -- constants of a text have no more bits than this
  abbrev pub IsNarrow : Token → Type 0
  IsNarrow (Constant bits) = length bits ≤ widest
  IsNarrow _ = Unit {0}

  -- a number of brackets below the bound leaves room
  lower : (n room : ℕ) (P : ℕ → Type 0) → n + room ≡ deepest → suc n ≤ deepest → P room → (r : ℕ) × (suc n + r ≡ deepest) × P (suc r)
  lower n zero P e h k = absurd (omega arith)
  lower n (suc r) P e h k = (r, omega arith, k)

  outer_after : (ls : List PlainLevel) (before : Before) (e : PlainExpr) (ts : List Token) → suc (length ls) ≤ deepest →
      Inside ls (after (completed before e)) ts →
      (r : ℕ) × (suc (length ls) + r ≡ deepest) × After widest (Whole widest K (suc r) ls) (suc r) before ts
  outer_after ls before e ts few h =
      let x = after_is ls before e ts h in
      lower (length ls) x.0 (λ room. After widest (Whole widest K room ls) room before ts) x.1 few x.2

  at_mark : (P : Token → Type 0) (byte mark : ℕ) → (byte == mark) ≡ true → P (Mark mark) → P (Mark byte)
  at_mark P byte mark same h = subst (λ b. P (Mark b)) (sym (eqb-true byte mark same)) h

  pub mark_told : (P : Token → Type 0) (mark : ℕ) (t : Token) → is_this_mark mark t ≡ true → P (Mark mark) → P t
  mark_told P mark (Mark byte) same h = at_mark P byte mark same h
  mark_told P mark (Identifier name) same h = absurd (cc)
  mark_told P mark (Keyword keyword) same h = absurd (cc)
  mark_told P mark (Number number) same h = absurd (cc)
  mark_told P mark (Constant bits) same h = absurd (cc)
  mark_told P mark (Operator op) same h = absurd (cc)
  mark_told P mark Arrow same h = absurd (cc)
  mark_told P mark Unknown same h = absurd (cc)

  Closes : List PlainLevel → Before → Opened → List Token → Type 0
  Closes ls before bracket ts =
      (r : ℕ) × (suc (length ls) + r ≡ deepest) × Closing widest (λ us. After widest (Whole widest K (suc r) ls) (suc r) before us) r bracket ts

  close_step : (ls : List PlainLevel) (before : Before) (bracket : Opened) (e : PlainExpr) (byte : ℕ) (ts : List Token) → suc (length ls) ≤ deepest →
      AfterShown (close_by ls before bracket e byte) ts → Closes ls before bracket (Mark byte ∷ ts)
  unfolding Closes
  close_step ls before parenthesis e byte ts few h =
      elim (if_either (λ r. AfterShown r ts) (byte == 41) _ _ h) [
        | inl x ↦ (let y = outer_after ls before e ts few x.1 in
            (y.0, y.1, at_mark (λ t. Closing widest (λ us. After widest (Whole widest K (suc y.0) ls) (suc y.0) before us) y.0 parenthesis (t ∷ ts)) byte 41 x.0 (by_parenthesis y.2)))
        | inr n ↦ absurd n
      ]
  close_step ls before (index n) e byte ts few h =
      elim (if_either (λ r. AfterShown r ts) (byte == 93) _ _ h) [
        | inl x ↦ (let y = outer_after ls before (trees.pick n e) ts few x.1 in
            (y.0, y.1, at_mark (λ t. Closing widest (λ us. After widest (Whole widest K (suc y.0) ls) (suc y.0) before us) y.0 (index n) (t ∷ ts)) byte 93 x.0 (by_bracket y.2)))
        | inr n ↦ absurd n
      ]
  close_step ls before (brace parts) e byte ts few h =
      elim (if_either (λ r. AfterShown r ts) (byte == 44) _ _ h) [
        | inl x ↦ (let i = x.1 in
            let o = i.opened in
            let b = begun_of i.room _ ts i.follows in
            let y = parted i.room (λ us. After widest (Whole widest K (suc i.room) ls) (suc i.room) (steps.kept_before (length ls) before) us) _ b.made b.behind in (
              i.room,
              omega arith,
              at_mark (λ t. Closing widest (λ us. After widest (Whole widest K (suc i.room) ls) (suc i.room) before us) i.room (brace parts) (t ∷ ts)) byte 44 x.0
                  (by_comma y.2 (after_kept (length ls) (Whole widest K (suc i.room) ls) (suc i.room) before _ y.3)),
            ))
        | inr h2 ↦ elim (if_either (λ r. AfterShown r ts) (byte == 125) _ _ h2) [
          | inl x ↦ (let y = outer_after ls before (trees.concatenation (plain_exprs (parts ++ e ∷ []))) ts few x.1 in
              (y.0, y.1, at_mark (λ t. Closing widest (λ us. After widest (Whole widest K (suc y.0) ls) (suc y.0) before us) y.0 (brace parts) (t ∷ ts)) byte 125 x.0 (by_brace y.2)))
          | inr n ↦ absurd n
        ]
      ]

  Ending : List PlainLevel → List Token → Type 0
  Ending ls ts = (room : ℕ) × (length ls + room ≡ deepest) × Whole widest K room ls ts

  whole_step : (ls : List PlainLevel) (e : PlainExpr) (t : Token) (ts : List Token) → length ls ≤ deepest → AfterShown (after_whole ls e t) ts →
      Ending ls (t ∷ ts)
  unfolding Closes Ending
  whole_step [] e t ts few h = (deepest, omega arith, h)
  whole_step (l ∷ ls) e (Mark byte) ts few h = close_step ls l.before l.bracket (kept (length ls) e) byte ts few h
  whole_step (l ∷ ls) e (Identifier name) ts few h = absurd h
  whole_step (l ∷ ls) e (Keyword keyword) ts few h = absurd h
  whole_step (l ∷ ls) e (Number number) ts few h = absurd h
  whole_step (l ∷ ls) e (Constant bits) ts few h = absurd h
  whole_step (l ∷ ls) e (Operator op) ts few h = absurd h
  whole_step (l ∷ ls) e Arrow ts few h = absurd h
  whole_step (l ∷ ls) e Unknown ts few h = absurd h

  Alone : List PlainLevel → List Token → Type 0
  Alone ls ts = (room : ℕ) × (length ls + room ≡ deepest) × Single widest (Whole widest K room ls) room ts

  then_ends : (ls : List PlainLevel) (ts : List Token) → Ending ls ts → Alone ls ts
  unfolding Ending Alone
  then_ends ls ts h = (h.0, h.1, ends h.2)

  left_begun : (M : List Token → Type 0) (room : ℕ) (op : Op) (e : PlainExpr) {ts : List Token} → Wanting widest M room (left op e) ts → Single widest M room (Operator op ∷ ts)
  left_begun M room op e (begins p k) = operated op p k

  test_then : (M : List Token → Type 0) (room : ℕ) {ts rest : List Token} {e : PlainExpr} → Operand widest room ts e rest → Branch widest M room rest →
      Single widest M room (Mark 63 ∷ ts)
  test_then M room p (last q k) = tested p q k

  test_begun : (M : List Token → Type 0) (room : ℕ) (e : PlainExpr) {ts : List Token} → Wanting widest M room (test e) ts → Single widest M room (Mark 63 ∷ ts)
  test_begun M room e (begins p k) = test_then M room p k

  choice_begun : (M : List Token → Type 0) (room : ℕ) (c a : PlainExpr) {ts : List Token} → Wanting widest M room (choice c a) ts → Branch widest M room (Mark 58 ∷ ts)
  choice_begun M room c a (begins p k) = last p k

  single_step : (ls : List PlainLevel) (e : PlainExpr) (t : Token) (ts : List Token) → length ls ≤ deepest → AfterShown (after_single ls e t) ts → Alone ls (t ∷ ts)
  unfolding Alone
  single_step ls e (Operator op) ts few h =
      let o = h.opened in (h.room, omega arith, left_begun (Whole widest K h.room ls) h.room op e h.follows)
  single_step ls e (Mark byte) ts few h =
      elim (if_either (λ r. AfterShown r ts) (byte == 63) _ _ h) [
        | inl x ↦ (let i = x.1 in
            let o = i.opened in
            (i.room, omega arith, at_mark (λ t. Single widest (Whole widest K i.room ls) i.room (t ∷ ts)) byte 63 x.0 (test_begun (Whole widest K i.room ls) i.room e i.follows)))
        | inr h2 ↦ then_ends ls (Mark byte ∷ ts) (whole_step ls e (Mark byte) ts few h2)
      ]
  single_step ls e (Identifier name) ts few h = then_ends ls (Identifier name ∷ ts) (whole_step ls e (Identifier name) ts few h)
  single_step ls e (Keyword keyword) ts few h = then_ends ls (Keyword keyword ∷ ts) (whole_step ls e (Keyword keyword) ts few h)
  single_step ls e (Number number) ts few h = then_ends ls (Number number ∷ ts) (whole_step ls e (Number number) ts few h)
  single_step ls e (Constant bits) ts few h = then_ends ls (Constant bits ∷ ts) (whole_step ls e (Constant bits) ts few h)
  single_step ls e Arrow ts few h = then_ends ls (Arrow ∷ ts) (whole_step ls e Arrow ts few h)
  single_step ls e Unknown ts few h = then_ends ls (Unknown ∷ ts) (whole_step ls e Unknown ts few h)

  behind_step : (ls : List PlainLevel) (behind : Behind) (t : Token) (ts : List Token) → length ls ≤ deepest → AfterShown (after_behind ls behind t) ts →
      Inside ls (after behind) (t ∷ ts)
  unfolding Alone Ending
  behind_step ls (operand e) t ts few h = let x = single_step ls e t ts few h in let o = x.1 in record { room = x.0; opened = omega arith; follows = x.2 }
  behind_step ls (branch c a) t ts few h =
      elim (if_either (λ r. AfterShown r ts) (is_this_mark 58 t) _ _ h) [
        | inl x ↦ (let i = x.1 in
            let o = i.opened in
            record {
              room = i.room;
              opened = omega arith;
              follows = mark_told (λ t. Branch widest (Whole widest K i.room ls) i.room (t ∷ ts)) 58 t x.0 (choice_begun (Whole widest K i.room ls) i.room c a i.follows);
            })
        | inr n ↦ absurd n
      ]
  behind_step ls (whole e) t ts few h = let x = whole_step ls e t ts few h in let o = x.1 in record { room = x.0; opened = omega arith; follows = x.2 }

  -- ---- where an operand is to come

  name_begins : (M : List Token → Type 0) (n : List ℕ) {room : ℕ} {before : Before} {ts : List Token} → Named widest M room before ts →
      Wanting widest M room before (Identifier n ∷ ts)
  name_begins M n (plain k) = begins (grammar.name n) k
  name_begins M n (picked p k) = begins (grammar.pick n p) k
  name_begins M n (bit number k) = begins (grammar.bit n number) k
  name_begins M n (part h l k) = begins (grammar.part n h l) k

  negation_begins : (M : List Token → Type 0) (room : ℕ) {ts : List Token} → Wanting widest M room negation ts → Wanting widest M room nothing (Mark 126 ∷ ts)
  negation_begins M room (begins p k) = negates p k

  Wants : List PlainLevel → Before → List Token → Type 0
  Wants ls before ts = (room : ℕ) × (length ls + room ≡ deepest) × Wanting widest (Whole widest K room ls) room before ts

  both_true : (a b : Bool) → (a && b) ≡ true → (a ≡ true) × (b ≡ true)
  both_true true b h = (refl, h)
  both_true false b h = absurd (cc)

  negation_step : (over : Option Over) (ls : List PlainLevel) (before : Before) (byte : ℕ) (ts : List Token) →
      (byte == 126) ≡ true → steps.is_nothing before ≡ true → Inside ls (wanting negation) ts → Wants ls before (Mark byte ∷ ts)
  unfolding Wants
  negation_step over ls nothing byte ts same is i =
      let o = i.opened in
      (i.room, omega arith, at_mark (λ t. Wanting widest (Whole widest K i.room ls) i.room nothing (t ∷ ts)) byte 126 same (negation_begins (Whole widest K i.room ls) i.room i.follows))
  negation_step over ls negation byte ts same is i = absurd (cc)
  negation_step over ls (left op e) byte ts same is i = absurd (cc)
  negation_step over ls (test c) byte ts same is i = absurd (cc)
  negation_step over ls (choice c a) byte ts same is i = absurd (cc)

  wanting_step : (over : Option Over) (ls : List PlainLevel) (before : Before) (t : Token) (ts : List Token) → IsNarrow t →
      AfterStep (after_wanting ls over before t) ts → Wants ls before (t ∷ ts)
  unfolding Wants
  wanting_step over ls before (Identifier n) ts narrow h =
      let o = h.opened in (h.room, omega arith, name_begins (Whole widest K h.room ls) n h.follows)
  wanting_step over ls before (Constant bits) ts narrow h =
      let x = after_is ls before (trees.constant bits) ts h in (x.0, x.1, begins (grammar.constant bits narrow) x.2)
  wanting_step over ls before (Mark byte) ts narrow h =
      elim (if_either (λ r. AfterStep r ts) (byte == 40) _ _ h) [
        | inl x ↦ (let i = x.1 in
            let o = i.opened in
            let b = begun_of i.room _ ts i.follows in
            let y = parenthesized i.room (λ us. After widest (Whole widest K (suc i.room) ls) (suc i.room) (steps.kept_before (length ls) before) us) b.made b.behind in (
              suc i.room,
              omega arith,
              at_mark (λ t. Wanting widest (Whole widest K (suc i.room) ls) (suc i.room) before (t ∷ ts)) byte 40 x.0
                  (begins y.2 (after_kept (length ls) (Whole widest K (suc i.room) ls) (suc i.room) before _ y.3)),
            ))
        | inr h2 ↦ elim (if_either (λ r. AfterStep r ts) (byte == 123) _ _ h2) [
          | inl x ↦ (let i = x.1 in
              let o = i.opened in
              let b = begun_of i.room _ ts i.follows in
              let y = parted i.room (λ us. After widest (Whole widest K (suc i.room) ls) (suc i.room) (steps.kept_before (length ls) before) us) _ b.made b.behind in (
                suc i.room,
                omega arith,
                at_mark (λ t. Wanting widest (Whole widest K (suc i.room) ls) (suc i.room) before (t ∷ ts)) byte 123 x.0
                    (begins (grammar.concatenation y.2) (after_kept (length ls) (Whole widest K (suc i.room) ls) (suc i.room) before _ y.3)),
              ))
          | inr h3 ↦ elim (if_either (λ r. AfterStep r ts) ((byte == 126) && steps.is_nothing before) _ _ h3) [
            | inl x ↦ (let b = both_true (byte == 126) (steps.is_nothing before) x.0 in negation_step over ls before byte ts b.0 b.1 x.1)
            | inr n ↦ absurd n
          ]
        ]
      ]
  wanting_step over ls before (Keyword keyword) ts narrow h = absurd h
  wanting_step over ls before (Number number) ts narrow h = absurd h
  wanting_step over ls before (Operator op) ts narrow h = absurd h
  wanting_step over ls before Arrow ts narrow h = absurd h
  wanting_step over ls before Unknown ts narrow h = absurd h

  -- ---- selects

  select_named : (M : List Token → Type 0) {room : ℕ} {before : Before} {ts : List Token} → Selects widest M room before ts → Named widest M (suc room) before (Mark 91 ∷ ts)
  select_named M (picks p k) = picked p k
  select_named M (one number k) = bit number k
  select_named M (several h l k) = part h l k

  high_selected : (M : List Token → Type 0) (number : ℕ) {room : ℕ} {before : Before} {ts : List Token} → Highs widest M room before ts → Selects widest M room before (Number number ∷ ts)
  high_selected M number (one_high k) = one number k
  high_selected M number (with_low l k) = several number l k

  colon_high : (M : List Token → Type 0) {room : ℕ} {before : Before} {ts : List Token} → Colons widest M room before ts → Highs widest M room before (Mark 58 ∷ ts)
  colon_high M (its_low l k) = with_low l k

  low_colon : (M : List Token → Type 0) (l : ℕ) {room : ℕ} {before : Before} {ts : List Token} → Lows widest M room before ts → Colons widest M room before (Number l ∷ ts)
  low_colon M l (its_end k) = its_low l k

  select_step : (over : Option Over) (ls : List PlainLevel) (before : Before) (n : List ℕ) (t : Token) (ts : List Token) → IsNarrow t →
      AfterStep (after_wanting (steps.kept_level (length ls) before (index n) ∷ ls) over nothing t) ts → Inside ls (select before n) (t ∷ ts)
  unfolding Wants
  select_step over ls before n t ts narrow h =
      let x = wanting_step over (steps.kept_level (length ls) before (index n) ∷ ls) nothing t ts narrow h in
      let o = x.1 in
      let b = begun_of x.0 _ (t ∷ ts) x.2 in
      let y = indexed x.0 (λ us. After widest (Whole widest K (suc x.0) ls) (suc x.0) (steps.kept_before (length ls) before) us) _ b.made b.behind in
      record { room = x.0; opened = omega arith; follows = picks y.1 (after_kept (length ls) (Whole widest K (suc x.0) ls) (suc x.0) before _ y.2) }

  high_step : (over : Option Over) (ls : List PlainLevel) (before : Before) (n : List ℕ) (number byte : ℕ) (ts : List Token) → suc (length ls) ≤ deepest →
      AfterStep (steps.inside ls over (steps.after_high before n number (Mark byte))) ts → Inside ls (high before n number) (Mark byte ∷ ts)
  high_step over ls before n number byte ts few h =
      elim (if_either (λ r. AfterStep (steps.inside ls over r) ts) (byte == 93) _ _ h) [
        | inl x ↦ (let y = outer_after ls before (trees.part n number number) ts few x.1 in
            let o = y.1 in
            record { room = y.0; opened = omega arith; follows = at_mark (λ t. Highs widest (Whole widest K (suc y.0) ls) y.0 before (t ∷ ts)) byte 93 x.0 (one_high y.2) })
        | inr h2 ↦ elim (if_either (λ r. AfterStep (steps.inside ls over r) ts) (byte == 58) _ _ h2) [
          | inl x ↦ (let i = x.1 in
              record { room = i.room; opened = i.opened; follows = at_mark (λ t. Highs widest (Whole widest K (suc i.room) ls) i.room before (t ∷ ts)) byte 58 x.0 (colon_high (Whole widest K (suc i.room) ls) i.follows) })
          | inr n ↦ absurd n
        ]
      ]

  pub spot_step : (over : Option Over) (ls : List PlainLevel) (spot : Spot) (t : Token) (ts : List Token) → depth ls spot ≤ deepest → IsNarrow t →
      AfterStep (taken ls over spot t) ts → Inside ls spot (t ∷ ts)
  unfolding taken Wants
  spot_step over ls (wanting before) t ts few narrow h =
      let x = wanting_step over ls before t ts narrow h in let o = x.1 in record { room = x.0; opened = omega arith; follows = x.2 }
  spot_step over ls (named before n) t ts few narrow h =
      elim (if_either (λ r. AfterStep r ts) (is_this_mark 91 t) _ _ h) [
        | inl x ↦ (let i = x.1 in
            let o = i.opened in
            record {
              room = suc i.room;
              opened = omega arith;
              follows = mark_told (λ t. Named widest (Whole widest K (suc i.room) ls) (suc i.room) before (t ∷ ts)) 91 t x.0 (select_named (Whole widest K (suc i.room) ls) i.follows);
            })
        | inr h2 ↦ (let i = behind_step ls (completed before (trees.variable n)) t ts (omega arith) (unshown over _ ts h2) in
            let x = after_is ls before (trees.variable n) (t ∷ ts) i in
            let o = x.1 in
            record { room = x.0; opened = omega arith; follows = plain x.2 })
      ]
  spot_step over ls (select before n) (Number number) ts few narrow h =
      record { room = h.room; opened = h.opened; follows = high_selected (Whole widest K (suc h.room) ls) number h.follows }
  spot_step over ls (select before n) (Identifier name) ts few narrow h = select_step over ls before n (Identifier name) ts narrow h
  spot_step over ls (select before n) (Keyword keyword) ts few narrow h = absurd h
  spot_step over ls (select before n) (Constant bits) ts few narrow h = select_step over ls before n (Constant bits) ts narrow h
  spot_step over ls (select before n) (Operator op) ts few narrow h = absurd h
  spot_step over ls (select before n) Arrow ts few narrow h = absurd h
  spot_step over ls (select before n) (Mark byte) ts few narrow h = select_step over ls before n (Mark byte) ts narrow h
  spot_step over ls (select before n) Unknown ts few narrow h = absurd h
  spot_step over ls (high before n number) (Mark byte) ts few narrow h = high_step over ls before n number byte ts (omega arith) h
  spot_step over ls (high before n number) (Identifier name) ts few narrow h = absurd h
  spot_step over ls (high before n number) (Keyword keyword) ts few narrow h = absurd h
  spot_step over ls (high before n number) (Number k) ts few narrow h = absurd h
  spot_step over ls (high before n number) (Constant bits) ts few narrow h = absurd h
  spot_step over ls (high before n number) (Operator op) ts few narrow h = absurd h
  spot_step over ls (high before n number) Arrow ts few narrow h = absurd h
  spot_step over ls (high before n number) Unknown ts few narrow h = absurd h
  spot_step over ls (colon before n number) (Number l) ts few narrow h =
      record { room = h.room; opened = h.opened; follows = low_colon (Whole widest K (suc h.room) ls) l h.follows }
  spot_step over ls (colon before n number) (Mark byte) ts few narrow h = absurd h
  spot_step over ls (colon before n number) (Identifier name) ts few narrow h = absurd h
  spot_step over ls (colon before n number) (Keyword keyword) ts few narrow h = absurd h
  spot_step over ls (colon before n number) (Constant bits) ts few narrow h = absurd h
  spot_step over ls (colon before n number) (Operator op) ts few narrow h = absurd h
  spot_step over ls (colon before n number) Arrow ts few narrow h = absurd h
  spot_step over ls (colon before n number) Unknown ts few narrow h = absurd h
  spot_step over ls (low before n number l) t ts few narrow h =
      elim (if_either (λ r. AfterStep (steps.inside ls over r) ts) (is_this_mark 93 t) _ _ h) [
        | inl x ↦ (let y = outer_after ls before (trees.part n number l) ts (omega arith) x.1 in
            let o = y.1 in
            record { room = y.0; opened = omega arith; follows = mark_told (λ t. Lows widest (Whole widest K (suc y.0) ls) y.0 before (t ∷ ts)) 93 t x.0 (its_end y.2) })
        | inr n ↦ absurd n
      ]
  spot_step over ls (after behind) t ts few narrow h = behind_step ls behind t ts (omega arith) (unshown over _ ts h)

  -- a whole expression
  pub begun_whole : (ts : List Token) → Inside [] (wanting nothing) ts → Begun deepest K ts
  begun_whole ts i =
      let o = i.opened in
      let e : i.room ≡ deepest = omega arith in
      subst (λ room. Begun room K ts) e (begun_of i.room K ts i.follows)
