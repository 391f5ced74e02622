-- Tokens are those of at most one tree.
use Rattle.std.proofs.Common.{◌≡◌, ℕ, zero, suc, ◌+◌, Bool, true, false, ◌==◌, List, [], ◌∷◌, refl, sym, ap, ◌∙◌, subst, Option, Some, None}
use Rattle.fab_tokens.specs.fab_syntax.specs.declared.tree.Op.{Op}
use Rattle.fab_tokens.specs.fab_syntax.specs.declared.tree.Shape.{Shape}
use Rattle.fab_tokens.specs.fab_syntax.specs.declared.tree.Port.{Port}
use Rattle.fab_tokens.specs.fab_syntax.specs.Plain as trees
use Rattle.fab_tokens.specs.fab_syntax.specs.Plain.{PlainExpr, PlainExprs, PlainJoin, PlainItem, PlainModule}
use Rattle.fab_tokens.specs.declared.token.Token.{Token}
use Rattle.fab_tokens.specs.declared.token.Token.TheVariants.{Identifier, Keyword, Number, Constant, Operator, Arrow, Mark, Unknown}
use Rattle.fab_tokens.specs.declared.token.Keyword.TheVariants as keywords
use Rattle.fab_tokens.proofs.Cut.{spelled_once}
use Rattle.fab_grammar_defs.specs.Grammar as grammar
use Rattle.fab_grammar_defs.specs.Grammar.{Operand, Expression, Expressions, Range, APort, Ports, PortList, AJoin, Joins, JoinList, AnItem, Items, AModule, Modules, SpellsText}

abbrev is_open : Token → Bool
is_open (Mark byte) = byte == 91
is_open _ = false

-- what follows an operand is no select
abbrev Follows : List Token → Type 0
Follows [] = ⊥
Follows (t ∷ ts) = is_open t ≡ false

-- what follows an expression makes it no longer
abbrev Closes : List Token → Type 0
Closes [] = ⊥
Closes (Mark byte ∷ ts) = ((byte == 91) ≡ false) × ((byte == 63) ≡ false)
Closes (t ∷ ts) = ⊥

closes_follows : (ts : List Token) → Closes ts → Follows ts
closes_follows [] closes = closes
closes_follows (Mark byte ∷ ts) closes = closes.0
closes_follows (Identifier name ∷ ts) closes = absurd closes
closes_follows (Keyword keyword ∷ ts) closes = absurd closes
closes_follows (Number number ∷ ts) closes = absurd closes
closes_follows (Constant bits ∷ ts) closes = absurd closes
closes_follows (Operator op ∷ ts) closes = absurd closes
closes_follows (Arrow ∷ ts) closes = absurd closes
closes_follows (Unknown ∷ ts) closes = absurd closes

-- an operator or `?` closes nothing
not_closed_op : (op : Op) (ts us : List Token) → us ≡ Operator op ∷ ts → Closes us → ⊥
not_closed_op op ts us e closes = subst Closes e closes

not_closed_test : (ts us : List Token) → us ≡ Mark 63 ∷ ts → Closes us → ⊥
not_closed_test ts us e closes = let c : Closes (Mark 63 ∷ ts) = subst Closes e closes in absurd (cc c.1)

no_number : {widest room : ℕ} {rest ts : List Token} {e : PlainExpr} {k : ℕ} → Operand widest room (Number k ∷ ts) e rest → ⊥
no_number p = elim p [ ]

no_number_first : {widest room : ℕ} {rest ts : List Token} {e : PlainExpr} {k : ℕ} → Expression widest room (Number k ∷ ts) e rest → ⊥
no_number_first (grammar.alone p) = no_number p
no_number_first (grammar.operation op p q) = no_number p
no_number_first (grammar.conditional p q r) = no_number p

no_tilde : {widest room : ℕ} {rest ts : List Token} {e : PlainExpr} → Operand widest room (Mark 126 ∷ ts) e rest → ⊥
no_tilde p = elim p [ ]

-- what follows the parts of a concatenation
abbrev Ends : List Token → Type 0
Ends [] = ⊥
Ends (Mark byte ∷ ts) = ((byte == 91) ≡ false) × ((byte == 63) ≡ false) × ((byte == 44) ≡ false)
Ends (t ∷ ts) = ⊥

ends_closes : (ts : List Token) → Ends ts → Closes ts
ends_closes [] ends = ends
ends_closes (Mark byte ∷ ts) ends = (ends.0, ends.1)
ends_closes (Identifier name ∷ ts) ends = absurd ends
ends_closes (Keyword keyword ∷ ts) ends = absurd ends
ends_closes (Number number ∷ ts) ends = absurd ends
ends_closes (Constant bits ∷ ts) ends = absurd ends
ends_closes (Operator op ∷ ts) ends = absurd ends
ends_closes (Arrow ∷ ts) ends = absurd ends
ends_closes (Unknown ∷ ts) ends = absurd ends

no_comma : (ts us : List Token) → us ≡ Mark 44 ∷ ts → Ends us → ⊥
no_comma ts us e ends = let c : Ends (Mark 44 ∷ ts) = subst Ends e ends in absurd (cc c.2)

same_tail : (t : Token) (ts us : List Token) → t ∷ ts ≡ t ∷ us → ts ≡ us
same_tail t ts us e = cc

same_behind : (a b : Op) (ts us : List Token) → Operator a ∷ ts ≡ Operator b ∷ us → ts ≡ us
same_behind a b ts us e = cc

same_op : (a b : Op) (ts us : List Token) → Operator a ∷ ts ≡ Operator b ∷ us → a ≡ b
same_op a b ts us e = cc

operation_same : (op op2 : Op) (a b x y : PlainExpr) → op ≡ op2 → a ≡ x → b ≡ y → trees.operation op a b ≡ trees.operation op2 x y
operation_same op op2 a b x y o p q = cc

conditional_same : (c a b z x y : PlainExpr) → c ≡ z → a ≡ x → b ≡ y → trees.conditional c a b ≡ trees.conditional z x y
conditional_same c a b z x y o p q = cc

more_same : (e : PlainExpr) (es : PlainExprs) (f : PlainExpr) (fs : PlainExprs) → e ≡ f → es ≡ fs → trees.more e es ≡ trees.more f fs
more_same e es f fs p q = cc

mutual
  operand_once : {widest room wide more : ℕ} {ts rest other : List Token} {e f : PlainExpr} → Operand widest room ts e rest → Operand wide more ts f other →
      Follows rest → Follows other → (e ≡ f) × (rest ≡ other)
  operand_once (grammar.name n) (grammar.name k) follows also = (refl, refl)
  operand_once (grammar.name n) (grammar.pick k q) follows also = absurd (cc follows)
  operand_once (grammar.name n) (grammar.bit k number) follows also = absurd (cc follows)
  operand_once (grammar.name n) (grammar.part k high low) follows also = absurd (cc follows)
  operand_once (grammar.pick n p) (grammar.name k) follows also = absurd (cc also)
  operand_once (grammar.pick n p) (grammar.pick k q) follows also =
      let x = expression_once p q (refl, refl) (refl, refl) in
      (ap (trees.pick n) x.0, (let same = x.1 in cc))
  operand_once (grammar.pick n p) (grammar.bit k number) follows also = absurd (no_number_first p)
  operand_once (grammar.pick n p) (grammar.part k high low) follows also = absurd (no_number_first p)
  operand_once (grammar.bit n number) (grammar.name k) follows also = absurd (cc also)
  operand_once (grammar.bit n number) (grammar.pick k q) follows also = absurd (no_number_first q)
  operand_once (grammar.bit n number) (grammar.bit k m) follows also = (refl, refl)
  operand_once (grammar.part n high low) (grammar.name k) follows also = absurd (cc also)
  operand_once (grammar.part n high low) (grammar.pick k q) follows also = absurd (no_number_first q)
  operand_once (grammar.part n high low) (grammar.part k h l) follows also = (refl, refl)
  operand_once (grammar.constant bits few) (grammar.constant others less) follows also = (refl, refl)
  operand_once (grammar.concatenation ps) (grammar.concatenation qs) follows also =
      let x = parts_once ps qs (refl, refl, refl) (refl, refl, refl) in
      (ap trees.concatenation x.0, (let same = x.1 in cc))
  operand_once (grammar.parentheses p) (grammar.parentheses q) follows also =
      let x = expression_once p q (refl, refl) (refl, refl) in
      (x.0, (let same = x.1 in cc))

  expression_once : {widest room wide more : ℕ} {ts rest other : List Token} {e f : PlainExpr} → Expression widest room ts e rest → Expression wide more ts f other →
      Closes rest → Closes other → (e ≡ f) × (rest ≡ other)
  expression_once {rest = rest} {other = other} (grammar.alone p) (grammar.alone q) closes also = operand_once p q (closes_follows rest closes) (closes_follows other also)
  expression_once (grammar.alone p) (grammar.complement q) closes also = absurd (no_tilde p)
  expression_once {rest = rest} (grammar.alone p) (grammar.operation {mid = mid} op q r) closes also =
      let x = operand_once p q (closes_follows rest closes) refl in absurd (not_closed_op op mid rest x.1 closes)
  expression_once {rest = rest} (grammar.alone p) (grammar.conditional {mid = mid} q r s) closes also =
      let x = operand_once p q (closes_follows rest closes) refl in absurd (not_closed_test mid rest x.1 closes)
  expression_once (grammar.complement p) (grammar.alone q) closes also = absurd (no_tilde q)
  expression_once {rest = rest} {other = other} (grammar.complement p) (grammar.complement q) closes also =
      let x = operand_once p q (closes_follows rest closes) (closes_follows other also) in (ap trees.complement x.0, x.1)
  expression_once (grammar.complement p) (grammar.operation op q r) closes also = absurd (no_tilde q)
  expression_once (grammar.complement p) (grammar.conditional q r s) closes also = absurd (no_tilde q)
  expression_once {other = other} (grammar.operation {mid = mid} op p q) (grammar.alone r) closes also =
      let x = operand_once p r refl (closes_follows other also) in absurd (not_closed_op op mid other (sym x.1) also)
  expression_once (grammar.operation op p q) (grammar.complement r) closes also = absurd (no_tilde p)
  expression_once {wide = wide} {more = more} {rest = rest} {other = other} (grammar.operation {mid = mid} {a = a} {b = b} op p q) (grammar.operation {mid = mid2} {a = c} {b = d} op2 r s) closes also =
      let x = operand_once p r refl refl in
      let y = operand_once q (subst (λ vs. Operand wide more vs d other) (sym (same_behind op op2 mid mid2 x.1)) s) (closes_follows rest closes) (closes_follows other also) in
      (operation_same op op2 a b c d (same_op op op2 mid mid2 x.1) x.0 y.0, y.1)
  expression_once (grammar.operation {mid = mid} op p q) (grammar.conditional {mid = mid2} r s t) closes also =
      let x = operand_once p r refl refl in let e = x.1 in absurd (cc)
  expression_once {other = other} (grammar.conditional {mid = mid} p q r) (grammar.alone s) closes also =
      let x = operand_once p s refl (closes_follows other also) in absurd (not_closed_test mid other (sym x.1) also)
  expression_once (grammar.conditional p q r) (grammar.complement s) closes also = absurd (no_tilde p)
  expression_once (grammar.conditional p q r) (grammar.operation op s t) closes also =
      let x = operand_once p s refl refl in let e = x.1 in absurd (cc)
  expression_once {wide = wide} {more = more} {rest = rest} {other = other} (grammar.conditional {mid = mid} {end = end} {c = c} {a = a} {b = b} p q r)
      (grammar.conditional {mid = mid2} {end = end2} {c = c2} {a = a2} {b = b2} s t u) closes also =
      let x = operand_once p s refl refl in
      let y = operand_once q (subst (λ vs. Operand wide more vs a2 (Mark 58 ∷ end2)) (sym (same_tail (Mark 63) mid mid2 x.1)) t) refl refl in
      let z = operand_once r (subst (λ vs. Operand wide more vs b2 other) (sym (same_tail (Mark 58) end end2 y.1)) u) (closes_follows rest closes) (closes_follows other also) in
      (conditional_same c a b c2 a2 b2 x.0 y.0 z.0, z.1)

  parts_once : {widest room wide more : ℕ} {ts rest other : List Token} {es fs : PlainExprs} → Expressions widest room ts es rest → Expressions wide more ts fs other →
      Ends rest → Ends other → (es ≡ fs) × (rest ≡ other)
  parts_once {rest = rest} {other = other} (grammar.last p) (grammar.last q) closes also =
      let x = expression_once p q (ends_closes rest closes) (ends_closes other also) in (ap (λ e. trees.more e trees.none) x.0, x.1)
  parts_once {rest = rest} (grammar.last p) (grammar.next {mid = mid} q qs) closes also =
      let x = expression_once p q (ends_closes rest closes) (refl, refl) in absurd (no_comma mid rest x.1 closes)
  parts_once {other = other} (grammar.next {mid = mid} p ps) (grammar.last q) closes also =
      let x = expression_once p q (refl, refl) (ends_closes other also) in absurd (no_comma mid other (sym x.1) also)
  parts_once {wide = wide} {more = more} {other = other} (grammar.next {mid = mid} {e = e} {es = es} p ps) (grammar.next {mid = mid2} {e = f} {es = fs} q qs) closes also =
      let x = expression_once p q (refl, refl) (refl, refl) in
      let y = parts_once ps (subst (λ vs. Expressions wide more vs fs other) (sym (same_tail (Mark 44) mid mid2 x.1)) qs) closes also in
      (more_same e es f fs x.0 y.0, y.1)

-- ---- declarations

range_once : {ts : List Token} {shape form : Shape} {n k : List ℕ} {rest other : List Token} → Range ts shape (Identifier n ∷ rest) → Range ts form (Identifier k ∷ other) →
    (shape ≡ form) × (n ≡ k) × (rest ≡ other)
range_once grammar.scalar grammar.scalar = (refl, refl, refl)
range_once (grammar.vector high few) (grammar.vector low less) = (refl, refl, refl)

abbrev a_port : Bool → Shape → List ℕ → Port
a_port input shape name = record { input = input; shape = shape; name = name }

port_same : (b : Bool) (s t : Shape) (n k : List ℕ) → s ≡ t → n ≡ k → a_port b s n ≡ a_port b t k
port_same b s t n k p q = cc

port_once : {ts rest other : List Token} {p q : Port} → APort ts p rest → APort ts q other → (p ≡ q) × (rest ≡ other)
port_once (grammar.input {shape = s} n r) (grammar.input {shape = t} k u) = let x = range_once r u in (port_same true s t n k x.0 x.1, x.2)
port_once (grammar.output {shape = s} n r) (grammar.output {shape = t} k u) = let x = range_once r u in (port_same false s t n k x.0 x.1, x.2)

cons_same : {X : Type 0} (x : X) (xs : List X) (y : X) (ys : List X) → x ≡ y → xs ≡ ys → x ∷ xs ≡ y ∷ ys
cons_same x xs y ys p q = cc

not_listed : (ts us : List Token) → Mark 41 ∷ ts ≡ Mark 44 ∷ us → ⊥
not_listed ts us e = cc

ports_once : {ts rest other : List Token} {ps qs : List Port} → Ports ts ps (Mark 41 ∷ rest) → Ports ts qs (Mark 41 ∷ other) → (ps ≡ qs) × (rest ≡ other)
ports_once {rest = rest} {other = other} (grammar.last_port p) (grammar.last_port q) = let x = port_once p q in (ap (λ port. port ∷ []) x.0, same_tail (Mark 41) rest other x.1)
ports_once {rest = rest} (grammar.last_port p) (grammar.next_port {mid = mid} q qs) = let x = port_once p q in absurd (not_listed rest mid x.1)
ports_once {other = other} (grammar.next_port {mid = mid} p ps) (grammar.last_port q) = let x = port_once p q in absurd (not_listed other mid (sym x.1))
ports_once {other = other} (grammar.next_port {mid = mid} {port = a} {ports = as'} p ps) (grammar.next_port {mid = mid2} {port = b} {ports = bs} q qs) =
    let x = port_once p q in
    let y = ports_once ps (subst (λ vs. Ports vs bs (Mark 41 ∷ other)) (sym (same_tail (Mark 44) mid mid2 x.1)) qs) in
    (cons_same a as' b bs x.0 y.0, y.1)

no_port : {ts rest : List Token} {ps : List Port} → Ports (Mark 41 ∷ ts) ps rest → ⊥
no_port (grammar.last_port p) = elim p [ ]
no_port (grammar.next_port p ps) = elim p [ ]

port_list_once : {ts rest other : List Token} {ps qs : List Port} → PortList ts ps (Mark 41 ∷ rest) → PortList ts qs (Mark 41 ∷ other) → (ps ≡ qs) × (rest ≡ other)
port_list_once grammar.no_ports grammar.no_ports = (refl, refl)
port_list_once grammar.no_ports (grammar.some_ports q) = absurd (no_port q)
port_list_once (grammar.some_ports p) grammar.no_ports = absurd (no_port p)
port_list_once (grammar.some_ports p) (grammar.some_ports q) = ports_once p q

-- ---- joins and items

no_end : {widest room : ℕ} {ts rest : List Token} {e : PlainExpr} → Operand widest room (Mark 41 ∷ ts) e rest → ⊥
no_end p = elim p [ ]

no_end_first : {widest room : ℕ} {ts rest : List Token} {e : PlainExpr} → Expression widest room (Mark 41 ∷ ts) e rest → ⊥
no_end_first (grammar.alone p) = no_end p
no_end_first (grammar.operation op p q) = no_end p
no_end_first (grammar.conditional p q r) = no_end p

abbrev a_join : List ℕ → Option PlainExpr → PlainJoin
a_join port to = record { port = port; to = to }

join_once : {d w c v : ℕ} {ts rest other : List Token} {p q : PlainJoin} → AJoin d w ts p rest → AJoin c v ts q other → (p ≡ q) × (rest ≡ other)
join_once (grammar.unjoined port) (grammar.unjoined port2) = (refl, refl)
join_once (grammar.unjoined port) (grammar.joined port2 q) = absurd (no_end_first q)
join_once (grammar.joined port p) (grammar.unjoined port2) = absurd (no_end_first p)
join_once {rest = rest} {other = other} (grammar.joined port p) (grammar.joined port2 q) =
    let x = expression_once p q (refl, refl) (refl, refl) in (ap (λ e. a_join port (Some e)) x.0, same_tail (Mark 41) rest other x.1)

joins_once : {d w c v : ℕ} {ts rest other : List Token} {ps qs : List PlainJoin} → Joins d w ts ps (Mark 41 ∷ rest) → Joins c v ts qs (Mark 41 ∷ other) → (ps ≡ qs) × (rest ≡ other)
joins_once {rest = rest} {other = other} (grammar.last_join p) (grammar.last_join q) = let x = join_once p q in (ap (λ join. join ∷ []) x.0, same_tail (Mark 41) rest other x.1)
joins_once {rest = rest} (grammar.last_join p) (grammar.next_join {mid = mid} q qs) = let x = join_once p q in absurd (not_listed rest mid x.1)
joins_once {other = other} (grammar.next_join {mid = mid} p ps) (grammar.last_join q) = let x = join_once p q in absurd (not_listed other mid (sym x.1))
joins_once {c = c} {v = v} {other = other} (grammar.next_join {mid = mid} {join = a} {joins = as'} p ps) (grammar.next_join {mid = mid2} {join = b} {joins = bs} q qs) =
    let x = join_once p q in
    let y = joins_once ps (subst (λ vs. Joins c v vs bs (Mark 41 ∷ other)) (sym (same_tail (Mark 44) mid mid2 x.1)) qs) in
    (cons_same a as' b bs x.0 y.0, y.1)

no_join : {d w : ℕ} {ts rest : List Token} {ps : List PlainJoin} → Joins d w (Mark 41 ∷ ts) ps rest → ⊥
no_join (grammar.last_join p) = elim p [ ]
no_join (grammar.next_join p ps) = elim p [ ]

join_list_once : {d w c v : ℕ} {ts rest other : List Token} {ps qs : List PlainJoin} → JoinList d w ts ps (Mark 41 ∷ rest) → JoinList c v ts qs (Mark 41 ∷ other) → (ps ≡ qs) × (rest ≡ other)
join_list_once grammar.no_joins grammar.no_joins = (refl, refl)
join_list_once grammar.no_joins (grammar.some_joins q) = absurd (no_join q)
join_list_once (grammar.some_joins p) grammar.no_joins = absurd (no_join p)
join_list_once (grammar.some_joins p) (grammar.some_joins q) = joins_once p q

shaped_same : (s t : Shape) (n k : List ℕ) → s ≡ t → n ≡ k → (trees.wire s n ≡ trees.wire t k) × (trees.reg s n ≡ trees.reg t k)
shaped_same s t n k p q = (cc, cc)

latch_same : (n k : List ℕ) (g h a b : PlainExpr) → n ≡ k → g ≡ h → a ≡ b → trees.latch n g a ≡ trees.latch k h b
latch_same n k g h a b o p q = cc

gate_tail : (n k : List ℕ) (ts us : List Token) → Mark 41 ∷ Identifier n ∷ Mark 61 ∷ ts ≡ Mark 41 ∷ Identifier k ∷ Mark 61 ∷ us → (n ≡ k) × (ts ≡ us)
gate_tail n k ts us e = (cc, cc)

semicolon_tail : (ts us : List Token) → Mark 59 ∷ ts ≡ Mark 59 ∷ us → ts ≡ us
semicolon_tail ts us e = cc

item_once : {d w c v : ℕ} {ts rest other : List Token} {p q : PlainItem} → AnItem d w ts p rest → AnItem c v ts q other → (p ≡ q) × (rest ≡ other)
item_once {rest = rest} {other = other} (grammar.wire {shape = s} n r) (grammar.wire {shape = t} k u) =
    let x = range_once r u in ((shaped_same s t n k x.0 x.1).0, semicolon_tail rest other x.2)
item_once {rest = rest} {other = other} (grammar.reg {shape = s} n r) (grammar.reg {shape = t} k u) =
    let x = range_once r u in ((shaped_same s t n k x.0 x.1).1, semicolon_tail rest other x.2)
item_once {rest = rest} {other = other} (grammar.assign target p) (grammar.assign target2 q) =
    let x = expression_once p q (refl, refl) (refl, refl) in (ap (trees.assign target) x.0, semicolon_tail rest other x.1)
item_once {c = c} {v = v} {rest = rest} {other = other} (grammar.latch {mid = mid} {gate = g} {e = a} n p q) (grammar.latch {mid = mid2} {gate = h} {e = b} k r s) =
    let x = expression_once p r (refl, refl) (refl, refl) in
    let t = gate_tail n k mid mid2 x.1 in
    let y = expression_once q (subst (λ vs. Expression v c vs b (Mark 59 ∷ other)) (sym t.1) s) (refl, refl) (refl, refl) in
    (latch_same n k g h a b t.0 x.0 y.0, semicolon_tail rest other y.1)
item_once {rest = rest} {other = other} (grammar.clocked clock target p) (grammar.clocked clock2 target2 q) =
    let x = expression_once p q (refl, refl) (refl, refl) in (ap (trees.clocked clock target) x.0, semicolon_tail rest other x.1)
item_once {rest = rest} {other = other} (grammar.instance of n known js) (grammar.instance of2 n2 known2 ks) =
    let x = join_list_once js ks in (ap (trees.instance of n) x.0, semicolon_tail rest other x.1)

no_item : {d w : ℕ} {ts rest : List Token} {item : PlainItem} → AnItem d w (Keyword keywords.Endmodule ∷ ts) item rest → ⊥
no_item p = elim p [ ]

end_tail : (ts us : List Token) → Keyword keywords.Endmodule ∷ ts ≡ Keyword keywords.Endmodule ∷ us → ts ≡ us
end_tail ts us e = cc

items_once : {d w c v : ℕ} {ts rest other : List Token} {ps qs : List PlainItem} → Items d w ts ps (Keyword keywords.Endmodule ∷ rest) →
    Items c v ts qs (Keyword keywords.Endmodule ∷ other) → (ps ≡ qs) × (rest ≡ other)
items_once grammar.no_items grammar.no_items = (refl, refl)
items_once grammar.no_items (grammar.next_item q qs) = absurd (no_item q)
items_once (grammar.next_item p ps) grammar.no_items = absurd (no_item p)
items_once {c = c} {v = v} {other = other} (grammar.next_item {item = a} {items = as'} p ps) (grammar.next_item {item = b} {items = bs} q qs) =
    let x = item_once p q in
    let y = items_once ps (subst (λ vs. Items c v vs bs (Keyword keywords.Endmodule ∷ other)) (sym x.1) qs) in
    (cons_same a as' b bs x.0 y.0, y.1)

-- ---- modules

abbrev a_module : List ℕ → List Port → List PlainItem → PlainModule
a_module name ports items = record { name = name; ports = ports; items = items }

module_same : (n : List ℕ) (ps qs : List Port) (is js : List PlainItem) → ps ≡ qs → is ≡ js → a_module n ps is ≡ a_module n qs js
module_same n ps qs is js p q = cc

module_once : {d w c v : ℕ} {ts rest other : List Token} {p q : PlainModule} → AModule d w ts p rest → AModule c v ts q other → (p ≡ q) × (rest ≡ other)
module_once {c = c} {v = v} {other = other} (grammar.whole {mid = mid} {ports = ps} {items = is} n p i) (grammar.whole {mid = mid2} {ports = qs} {items = js} k q j) =
    let x = port_list_once p q in
    let y = items_once i (subst (λ vs. Items c v vs js (Keyword keywords.Endmodule ∷ other)) (sym (semicolon_tail mid mid2 x.1)) j) in
    (module_same n ps qs is js x.0 y.0, y.1)

no_module : {d w : ℕ} {ms : List PlainModule} → Modules d w [] ms → ⊥
no_module (grammar.last_module p) = elim p [ ]
no_module (grammar.next_module p ps) = elim p [ ]

modules_once : {d w c v : ℕ} {ts : List Token} {ps qs : List PlainModule} → Modules d w ts ps → Modules c v ts qs → ps ≡ qs
modules_once (grammar.last_module p) (grammar.last_module q) = ap (λ m. m ∷ []) (module_once p q).0
modules_once {c = c} {v = v} (grammar.last_module p) (grammar.next_module {modules = ms} q qs) =
    absurd (no_module (subst (λ vs. Modules c v vs ms) (sym (module_once p q).1) qs))
modules_once {d = d} {w = w} (grammar.next_module {modules = ms} p ps) (grammar.last_module q) =
    absurd (no_module (subst (λ vs. Modules d w vs ms) (module_once p q).1 ps))
modules_once {c = c} {v = v} (grammar.next_module {m = a} {modules = as'} p ps) (grammar.next_module {m = b} {modules = bs} q qs) =
    let x = module_once p q in
    cons_same a as' b bs x.0 (modules_once ps (subst (λ vs. Modules c v vs bs) (sym x.1) qs))

-- bytes spell at most one text
pub text_once : (deepest widest deep wide : ℕ) (bytes : List ℕ) (these those : List PlainModule) → SpellsText deepest widest bytes these → SpellsText deep wide bytes those →
    these ≡ those
text_once deepest widest deep wide bytes these those p q =
    modules_once p.made (subst (λ ts. Modules deep wide ts those) (spelled_once bytes q.tokens p.tokens q.spelled p.spelled) q.made)
