-- What is printed spells its tree.
use Rattle.std.proofs.Common.{◌≡◌, ℕ, zero, suc, ◌+◌, ◌-◌, ◌<◌, ◌≤◌, Bool, true, false, ◌==◌, ◌&&◌, ◌||◌, List, [], ◌∷◌, ◌++◌, length, codes, decimal, refl, sym, ap, ◌∙◌, subst, append_assoc, append-nil, arith, Option, Some, None, if◌then◌else◌, nat_eq}
use Rattle.std.specs.Fmt.{digits}
use Rattle.fab_tokens.specs.fab_syntax.specs.declared.tree.Op.{Op}
use Rattle.fab_tokens.specs.fab_syntax.specs.declared.tree.Op.TheVariants as ops
use Rattle.fab_tokens.specs.fab_syntax.specs.declared.tree.Shape.{Shape}
use Rattle.fab_tokens.specs.fab_syntax.specs.declared.tree.Shape.TheVariants.{Scalar, Vector}
use Rattle.fab_tokens.specs.fab_syntax.specs.declared.tree.Port.{Port}
use Rattle.fab_tokens.specs.fab_syntax.specs.Plain as trees
use Rattle.fab_tokens.specs.fab_syntax.specs.Plain.{PlainExpr, PlainExprs, PlainJoin, PlainItem, PlainModule}
use Rattle.fab_tokens.specs.fab_syntax.specs.Spelling.{constant_text, op_text, expr_text, exprs_text, shape_text, port_text, ports_text, join_text, joins_text, latch_head, clocked_head, item_text, items_text, module_text, text_bytes}
use Rattle.fab_tokens.specs.declared.token.Keyword.TheVariants.{Module, Endmodule, Input, Output, Wire, Reg, Assign, Always, If, Posedge}
use Rattle.fab_tokens.specs.declared.token.Token.{Token}
use Rattle.fab_tokens.specs.declared.token.Token.TheVariants.{Identifier, Keyword, Number, Constant, Operator, Arrow, Mark}
use Rattle.fab_tokens.specs.Literals.{max_number}
use Rattle.fab_tokens.specs.Tokens.{IsIdentifier, is_mark}
use Rattle.fab_tokens.specs.Spelled.{Spells, Part, blank, token, no_tail, token_text, IsToken, IsApart, joins_words, continues, is_blank}
use Rattle.fab_grammar_defs.specs.Grammar as grammar
use Rattle.fab_grammar_defs.specs.Grammar.{Operand, Expression, Expressions, Range, APort, Ports, PortList, AJoin, Joins, JoinList, AnItem, Items, AModule, Modules, SpellsText}
use Rattle.fab_grammar_defs.specs.Printable.{nested, nested_parts, IsWritten, AreWritten, IsPrintable, IsShape, ArePorts, IsJoined, AreJoins, IsItem, AreItems, IsModule, AreModules, IsPrintableText}

-- ---- tokens before others

-- these bytes do not make a word before them longer
abbrev Ends : List ℕ → Type 0
Ends [] = Unit {0}
Ends (byte ∷ bytes) = joins_words byte ≡ false

part_before : (t : Token) (bytes : List ℕ) (ts : List Token) → IsToken t → IsApart (token t) bytes → Spells bytes ts →
    Spells (token_text t ++ bytes) (t ∷ ts)
part_before t bytes ts is_one apart s = record {
  parts = token t ∷ s.parts;
  tail = s.tail;
  text = ap (λ b. token_text t ++ b) s.text;
  cut = (is_one, subst (λ b. IsApart (token t) b) s.text apart, s.cut);
  told = ap (λ us. t ∷ us) s.told;
}

free_apart : (t : Token) → ((byte : ℕ) → continues t byte ≡ false) → (bytes : List ℕ) → IsApart (token t) bytes
free_apart t free [] = tt
free_apart t free (byte ∷ bytes) = free byte

word_apart : (t : Token) → ((byte : ℕ) → continues t byte ≡ joins_words byte) → (bytes : List ℕ) → Ends bytes → IsApart (token t) bytes
word_apart t word [] ends = tt
word_apart t word (byte ∷ bytes) ends = word byte ∙ ends

-- a token that no byte makes longer
sign_before : (t : Token) (bytes : List ℕ) (ts : List Token) → IsToken t → ((byte : ℕ) → continues t byte ≡ false) → Spells bytes ts →
    Spells (token_text t ++ bytes) (t ∷ ts)
sign_before t bytes ts is_one free s = part_before t bytes ts is_one (free_apart t free bytes) s

mark_before : (mark : ℕ) (bytes : List ℕ) (ts : List Token) → is_mark mark ≡ true → (mark == 61) ≡ false → Spells bytes ts →
    Spells (mark ∷ bytes) (Mark mark ∷ ts)
mark_before mark bytes ts is_one other s =
    sign_before (Mark mark) bytes ts (ap (λ b. b || (mark == 61)) is_one) (λ byte. ap (λ b. b && (byte == 61)) other) s

word_before : (t : Token) (bytes : List ℕ) (ts : List Token) → IsToken t → ((byte : ℕ) → continues t byte ≡ joins_words byte) → Ends bytes →
    Spells bytes ts → Spells (token_text t ++ bytes) (t ∷ ts)
word_before t bytes ts is_one word ends s = part_before t bytes ts is_one (word_apart t word bytes ends) s

-- `=` before a blank
equals_before : (bytes : List ℕ) (ts : List Token) → Spells (32 ∷ bytes) ts → Spells (61 ∷ 32 ∷ bytes) (Mark 61 ∷ ts)
unfolding is_mark
equals_before bytes ts s = part_before (Mark 61) (32 ∷ bytes) ts refl refl s

name_before : (name bytes : List ℕ) (ts : List Token) → IsIdentifier name → Ends bytes → Spells bytes ts → Spells (name ++ bytes) (Identifier name ∷ ts)
name_before name bytes ts is_one ends s = part_before (Identifier name) bytes ts is_one (word_apart (Identifier name) (λ byte. refl) bytes ends) s

number_before : (number : ℕ) (bytes : List ℕ) (ts : List Token) → number ≤ max_number → Ends bytes → Spells bytes ts →
    Spells (decimal number ++ bytes) (Number number ∷ ts)
number_before number bytes ts is_one ends s = part_before (Number number) bytes ts is_one (word_apart (Number number) (λ byte. refl) bytes ends) s

passed : (part : Part) (byte : ℕ) (bytes : List ℕ) (ts : List Token) → is_blank byte ≡ true → Spells bytes ts → Spells (byte ∷ bytes) ts
passed part byte bytes ts is_one s = record {
  parts = blank byte ∷ s.parts;
  tail = s.tail;
  text = ap (λ b. byte ∷ b) s.text;
  cut = (is_one, tt, s.cut);
  told = s.told;
}

blank_before : (bytes : List ℕ) (ts : List Token) → Spells bytes ts → Spells (32 ∷ bytes) ts
blank_before bytes ts s = passed (blank 32) 32 bytes ts refl s

feed_before : (bytes : List ℕ) (ts : List Token) → Spells bytes ts → Spells (10 ∷ bytes) ts
feed_before bytes ts s = passed (blank 10) 10 bytes ts refl s

-- ---- what is spelled before others

record Front (bytes : List ℕ) (P : List Token → Type 0) : Type 0 where
  tokens : List Token
  spelled : Spells bytes tokens
  made : P tokens

abbrev Speller : (List Token → List Token → Type 0) → List ℕ → Type 0
Speller P bytes = (more : List ℕ) (ts : List Token) → Ends more → Spells more ts → Front (bytes ++ more) (λ us. P us ts)

respelled : (P : List Token → List Token → Type 0) (bytes others : List ℕ) → bytes ≡ others → Speller P bytes → Speller P others
respelled P bytes others e spell = subst (λ b. Speller P b) e spell

abbrev Form : (operand : Bool) → ℕ → PlainExpr → List Token → List Token → Type 0
Form true room e ts rest = Operand 128 room ts e rest
Form false room e ts rest = Expression 128 room ts e rest

-- an operand in the place of any expression
as_form : (operand : Bool) (room : ℕ) (e : PlainExpr) (bytes : List ℕ) → Speller (Form true room e) bytes → Speller (Form operand room e) bytes
as_form true room e bytes spell = spell
as_form false room e bytes spell = λ more ts ends s. let f = spell more ts ends s in
    record { tokens = f.tokens; spelled = f.spelled; made = grammar.alone f.made }

name_form : (room : ℕ) (name : List ℕ) → IsIdentifier name → Speller (Form true room (trees.variable name)) name
name_form room name is_one = λ more ts ends s. record {
  tokens = Identifier name ∷ ts;
  spelled = name_before name more ts is_one ends s;
  made = grammar.name name;
}

constant_form : (room : ℕ) (bits : List Bool) → 0 < length bits → length bits ≤ 128 → Speller (Form true room (trees.constant bits)) (constant_text bits)
constant_form room bits some few = λ more ts ends s. record {
  tokens = Constant bits ∷ ts;
  spelled = part_before (Constant bits) more ts (some, omega arith) (word_apart (Constant bits) (λ byte. refl) more ends) s;
  made = grammar.constant bits few;
}

pick_form : (room : ℕ) (name : List ℕ) (e : PlainExpr) (bytes : List ℕ) → IsIdentifier name → Speller (Form false room e) bytes →
    Speller (Form true (suc room) (trees.pick name e)) (name ++ (91 ∷ (bytes ++ 93 ∷ [])))
unfolding is_mark
pick_form room name e bytes is_one spell = λ more ts ends s.
    let f = spell (93 ∷ more) (Mark 93 ∷ ts) refl (mark_before 93 more ts refl refl s) in
    let bytes_are : name ++ (91 ∷ (bytes ++ 93 ∷ more)) ≡ (name ++ (91 ∷ (bytes ++ 93 ∷ []))) ++ more = simp append_assoc in
    record {
      tokens = Identifier name ∷ Mark 91 ∷ f.tokens;
      spelled = subst (λ b. Spells b (Identifier name ∷ Mark 91 ∷ f.tokens)) bytes_are
          (name_before name (91 ∷ (bytes ++ 93 ∷ more)) (Mark 91 ∷ f.tokens) is_one refl (mark_before 91 (bytes ++ 93 ∷ more) f.tokens refl refl f.spelled));
      made = grammar.pick name f.made;
    }

bit_form : (room : ℕ) (name : List ℕ) (number : ℕ) → IsIdentifier name → number ≤ max_number →
    Speller (Form true (suc room) (trees.part name number number)) (name ++ (91 ∷ (decimal number ++ 93 ∷ [])))
unfolding is_mark
bit_form room name number is_one few = λ more ts ends s.
    let bytes_are : name ++ (91 ∷ (decimal number ++ 93 ∷ more)) ≡ (name ++ (91 ∷ (decimal number ++ 93 ∷ []))) ++ more = simp append_assoc in
    let us = Identifier name ∷ Mark 91 ∷ Number number ∷ Mark 93 ∷ ts in
    record {
      tokens = us;
      spelled = subst (λ b. Spells b us) bytes_are
          (name_before name (91 ∷ (decimal number ++ 93 ∷ more)) (Mark 91 ∷ Number number ∷ Mark 93 ∷ ts) is_one refl
          (mark_before 91 (decimal number ++ 93 ∷ more) (Number number ∷ Mark 93 ∷ ts) refl refl
          (number_before number (93 ∷ more) (Mark 93 ∷ ts) few refl (mark_before 93 more ts refl refl s))));
      made = grammar.bit name number;
    }

bits_form : (room : ℕ) (name : List ℕ) (high low : ℕ) → IsIdentifier name → high ≤ max_number → low ≤ max_number →
    Speller (Form true (suc room) (trees.part name high low)) (name ++ (91 ∷ ((decimal high ++ (58 ∷ decimal low)) ++ 93 ∷ [])))
unfolding is_mark
bits_form room name high low is_one few_high few_low = λ more ts ends s.
    let bytes_are : name ++ (91 ∷ (decimal high ++ (58 ∷ (decimal low ++ 93 ∷ more)))) ≡ (name ++ (91 ∷ ((decimal high ++ (58 ∷ decimal low)) ++ 93 ∷ []))) ++ more
    = simp append_assoc in
    let us = Identifier name ∷ Mark 91 ∷ Number high ∷ Mark 58 ∷ Number low ∷ Mark 93 ∷ ts in
    record {
      tokens = us;
      spelled = subst (λ b. Spells b us) bytes_are
          (name_before name _ (Mark 91 ∷ Number high ∷ Mark 58 ∷ Number low ∷ Mark 93 ∷ ts) is_one refl
          (mark_before 91 _ (Number high ∷ Mark 58 ∷ Number low ∷ Mark 93 ∷ ts) refl refl
          (number_before high _ (Mark 58 ∷ Number low ∷ Mark 93 ∷ ts) few_high refl
          (mark_before 58 _ (Number low ∷ Mark 93 ∷ ts) refl refl
          (number_before low (93 ∷ more) (Mark 93 ∷ ts) few_low refl (mark_before 93 more ts refl refl s))))));
      made = grammar.part name high low;
    }

part_form : (room : ℕ) (name : List ℕ) (high low : ℕ) → IsIdentifier name → high ≤ max_number → low ≤ max_number → (same : Bool) → nat_eq high low ≡ same →
    Speller (Form true (suc room) (trees.part name high low)) (name ++ (91 ∷ ((if same then decimal high else decimal high ++ (58 ∷ decimal low)) ++ 93 ∷ [])))
part_form room name high low is_one few_high few_low true same =
    let equal : high ≡ low = grind arith in
    subst (λ l. Speller (Form true (suc room) (trees.part name high l)) (name ++ (91 ∷ (decimal high ++ 93 ∷ [])))) equal (bit_form room name high is_one few_high)
part_form room name high low is_one few_high few_low false other = bits_form room name high low is_one few_high few_low

-- round an expression
parentheses_form : (room : ℕ) (e : PlainExpr) (bytes : List ℕ) → Speller (Form false room e) bytes →
    Speller (Form true (suc room) e) (40 ∷ (bytes ++ 41 ∷ []))
unfolding is_mark
parentheses_form room e bytes spell = λ more ts ends s.
    let f = spell (41 ∷ more) (Mark 41 ∷ ts) refl (mark_before 41 more ts refl refl s) in
    let bytes_are : 40 ∷ (bytes ++ 41 ∷ more) ≡ (40 ∷ (bytes ++ 41 ∷ [])) ++ more = simp append_assoc in
    record {
      tokens = Mark 40 ∷ f.tokens;
      spelled = subst (λ b. Spells b (Mark 40 ∷ f.tokens)) bytes_are (mark_before 40 (bytes ++ 41 ∷ more) f.tokens refl refl f.spelled);
      made = grammar.parentheses f.made;
    }

complement_form : (room : ℕ) (e : PlainExpr) (bytes : List ℕ) → Speller (Form true room e) bytes →
    Speller (Form false room (trees.complement e)) (126 ∷ bytes)
unfolding is_mark
complement_form room e bytes spell = λ more ts ends s.
    let f = spell more ts ends s in
    record {
      tokens = Mark 126 ∷ f.tokens;
      spelled = mark_before 126 (bytes ++ more) f.tokens refl refl f.spelled;
      made = grammar.complement f.made;
    }

op_before : (op : Op) (bytes : List ℕ) (ts : List Token) → Spells bytes ts → Spells (op_text op ++ bytes) (Operator op ∷ ts)
op_before ops.And bytes ts s = blank_before _ _ (sign_before (Operator ops.And) (32 ∷ bytes) ts tt (λ byte. refl) (blank_before bytes ts s))
op_before ops.Or bytes ts s = blank_before _ _ (sign_before (Operator ops.Or) (32 ∷ bytes) ts tt (λ byte. refl) (blank_before bytes ts s))
op_before ops.Xor bytes ts s = blank_before _ _ (sign_before (Operator ops.Xor) (32 ∷ bytes) ts tt (λ byte. refl) (blank_before bytes ts s))
op_before ops.Equal bytes ts s = blank_before _ _ (sign_before (Operator ops.Equal) (32 ∷ bytes) ts tt (λ byte. refl) (blank_before bytes ts s))
op_before ops.Minus bytes ts s = blank_before _ _ (sign_before (Operator ops.Minus) (32 ∷ bytes) ts tt (λ byte. refl) (blank_before bytes ts s))

op_ends : (op : Op) (bytes : List ℕ) → Ends (op_text op ++ bytes)
op_ends ops.And bytes = refl
op_ends ops.Or bytes = refl
op_ends ops.Xor bytes = refl
op_ends ops.Equal bytes = refl
op_ends ops.Minus bytes = refl

operation_form : (room : ℕ) (op : Op) (a b : PlainExpr) (left right : List ℕ) → Speller (Form true room a) left → Speller (Form true room b) right →
    Speller (Form false room (trees.operation op a b)) (left ++ (op_text op ++ right))
operation_form room op a b left right spell_left spell_right = λ more ts ends s.
    let g = spell_right more ts ends s in
    let f = spell_left (op_text op ++ (right ++ more)) (Operator op ∷ g.tokens) (op_ends op (right ++ more)) (op_before op (right ++ more) g.tokens g.spelled) in
    let bytes_are : left ++ (op_text op ++ (right ++ more)) ≡ (left ++ (op_text op ++ right)) ++ more = simp append_assoc in
    record {
      tokens = f.tokens;
      spelled = subst (λ b. Spells b f.tokens) bytes_are f.spelled;
      made = grammar.operation op f.made g.made;
    }

conditional_form : (room : ℕ) (c a b : PlainExpr) (test branch last : List ℕ) → Speller (Form true room c) test → Speller (Form true room a) branch →
    Speller (Form true room b) last → Speller (Form false room (trees.conditional c a b)) (test ++ (codes " ? " ++ (branch ++ (codes " : " ++ last))))
unfolding is_mark
conditional_form room c a b test branch last spell_test spell_branch spell_last = λ more ts ends s.
    let h = spell_last more ts ends s in
    let g = spell_branch (32 ∷ 58 ∷ 32 ∷ (last ++ more)) (Mark 58 ∷ h.tokens) refl
    (blank_before _ _ (mark_before 58 _ h.tokens refl refl (blank_before (last ++ more) h.tokens h.spelled))) in
    let f = spell_test (32 ∷ 63 ∷ 32 ∷ (branch ++ (32 ∷ 58 ∷ 32 ∷ (last ++ more)))) (Mark 63 ∷ g.tokens) refl
    (blank_before _ _ (mark_before 63 _ g.tokens refl refl (blank_before _ g.tokens g.spelled))) in
    let bytes_are : test ++ (32 ∷ 63 ∷ 32 ∷ (branch ++ (32 ∷ 58 ∷ 32 ∷ (last ++ more)))) ≡ (test ++ (codes " ? " ++ (branch ++ (codes " : " ++ last)))) ++ more
    = simp append_assoc in
    record {
      tokens = f.tokens;
      spelled = subst (λ b. Spells b f.tokens) bytes_are f.spelled;
      made = grammar.conditional f.made g.made h.made;
    }

-- ---- the parts of a concatenation

abbrev Parts : ℕ → PlainExprs → List Token → List Token → Type 0
Parts room es ts rest = Expressions 128 room ts es rest

last_part : (room : ℕ) (e : PlainExpr) (bytes : List ℕ) → Speller (Form false room e) bytes → Speller (Parts room (trees.more e trees.none)) (bytes ++ [])
last_part room e bytes spell = λ more ts ends s.
    let f = spell more ts ends s in
    record { tokens = f.tokens; spelled = subst (λ b. Spells (b ++ more) f.tokens) (sym (append-nil bytes)) f.spelled; made = grammar.last f.made }

next_part : (room : ℕ) (e : PlainExpr) (es : PlainExprs) (bytes others : List ℕ) → Speller (Form false room e) bytes → Speller (Parts room es) others →
    Speller (Parts room (trees.more e es)) (bytes ++ (codes ", " ++ others))
unfolding is_mark
next_part room e es bytes others spell spell_others = λ more ts ends s.
    let g = spell_others more ts ends s in
    let f = spell (44 ∷ 32 ∷ (others ++ more)) (Mark 44 ∷ g.tokens) refl
    (mark_before 44 _ g.tokens refl refl (blank_before (others ++ more) g.tokens g.spelled)) in
    let bytes_are : bytes ++ (44 ∷ 32 ∷ (others ++ more)) ≡ (bytes ++ (codes ", " ++ others)) ++ more = simp append_assoc in
    record { tokens = f.tokens; spelled = subst (λ b. Spells b f.tokens) bytes_are f.spelled; made = grammar.next f.made g.made }

concatenation_form : (room : ℕ) (es : PlainExprs) (bytes : List ℕ) → Speller (Parts room es) bytes →
    Speller (Form true (suc room) (trees.concatenation es)) (123 ∷ (bytes ++ 125 ∷ []))
unfolding is_mark
concatenation_form room es bytes spell = λ more ts ends s.
    let f = spell (125 ∷ more) (Mark 125 ∷ ts) refl (mark_before 125 more ts refl refl s) in
    let bytes_are : 123 ∷ (bytes ++ 125 ∷ more) ≡ (123 ∷ (bytes ++ 125 ∷ [])) ++ more = simp append_assoc in
    record {
      tokens = Mark 123 ∷ f.tokens;
      spelled = subst (λ b. Spells b (Mark 123 ∷ f.tokens)) bytes_are (mark_before 123 (bytes ++ 125 ∷ more) f.tokens refl refl f.spelled);
      made = grammar.concatenation f.made;
    }

-- ---- expressions

mutual
  expr_form : (e : PlainExpr) (operand : Bool) (room : ℕ) → IsWritten e → nested operand e ≤ room → Speller (Form operand room e) (expr_text operand e)
  expr_form (trees.constant bits) operand room written deep = as_form operand room (trees.constant bits) (constant_text bits) (constant_form room bits written.0 written.1)
  expr_form (trees.variable name) operand room written deep = as_form operand room (trees.variable name) name (name_form room name written)
  expr_form (trees.pick name e) operand zero written deep = absurd (omega arith)
  expr_form (trees.pick name e) operand (suc room) written deep =
      as_form operand (suc room) (trees.pick name e) (expr_text operand (trees.pick name e))
      (pick_form room name e (expr_text false e) written.0 (expr_form e false room written.1 (omega arith)))
  expr_form (trees.part name high low) operand zero written deep = absurd (omega arith)
  expr_form (trees.part name high low) operand (suc room) written deep =
      as_form operand (suc room) (trees.part name high low) (expr_text operand (trees.part name high low))
      (part_form room name high low written.0 written.1 written.2 (nat_eq high low) refl)
  expr_form (trees.concatenation trees.none) operand room written deep = absurd written.0
  expr_form (trees.concatenation (trees.more e es)) operand zero written deep = absurd (omega arith)
  expr_form (trees.concatenation (trees.more e es)) operand (suc room) written deep =
      as_form operand (suc room) (trees.concatenation (trees.more e es)) (expr_text operand (trees.concatenation (trees.more e es)))
      (concatenation_form room (trees.more e es) (expr_text false e ++ exprs_text false es)
      (parts_form es room e (expr_text false e) (expr_form e false room written.1.0 (omega arith)) written.1.1 (omega arith)))
  expr_form (trees.complement e) true zero written deep = absurd (omega arith)
  expr_form (trees.complement e) true (suc room) written deep =
      parentheses_form room (trees.complement e) (126 ∷ expr_text true e)
      (complement_form room e (expr_text true e) (expr_form e true room written (omega arith)))
  expr_form (trees.complement e) false room written deep =
      respelled (Form false room (trees.complement e)) (126 ∷ expr_text true e) (126 ∷ (expr_text true e ++ [])) (simp append-nil)
      (complement_form room e (expr_text true e) (expr_form e true room written (omega arith)))
  expr_form (trees.operation op a b) true zero written deep = absurd (omega arith)
  expr_form (trees.operation op a b) true (suc room) written deep =
      respelled (Form true (suc room) (trees.operation op a b)) (40 ∷ ((expr_text true a ++ (op_text op ++ expr_text true b)) ++ 41 ∷ []))
      (expr_text true (trees.operation op a b)) (simp append_assoc)
      (parentheses_form room (trees.operation op a b) (expr_text true a ++ (op_text op ++ expr_text true b))
      (operation_form room op a b (expr_text true a) (expr_text true b) (expr_form a true room written.0 (omega arith)) (expr_form b true room written.1 (omega arith))))
  expr_form (trees.operation op a b) false room written deep =
      respelled (Form false room (trees.operation op a b)) (expr_text true a ++ (op_text op ++ expr_text true b))
      (expr_text true a ++ (op_text op ++ (expr_text true b ++ []))) (simp append-nil)
      (operation_form room op a b (expr_text true a) (expr_text true b) (expr_form a true room written.0 (omega arith)) (expr_form b true room written.1 (omega arith)))
  expr_form (trees.conditional c a b) true zero written deep = absurd (omega arith)
  expr_form (trees.conditional c a b) true (suc room) written deep =
      respelled (Form true (suc room) (trees.conditional c a b))
      (40 ∷ ((expr_text true c ++ (codes " ? " ++ (expr_text true a ++ (codes " : " ++ expr_text true b)))) ++ 41 ∷ []))
      (expr_text true (trees.conditional c a b)) (simp append_assoc)
      (parentheses_form room (trees.conditional c a b) (expr_text true c ++ (codes " ? " ++ (expr_text true a ++ (codes " : " ++ expr_text true b))))
      (conditional_form room c a b (expr_text true c) (expr_text true a) (expr_text true b) (expr_form c true room written.0 (omega arith))
      (expr_form a true room written.1 (omega arith)) (expr_form b true room written.2 (omega arith))))
  expr_form (trees.conditional c a b) false room written deep =
      respelled (Form false room (trees.conditional c a b))
      (expr_text true c ++ (codes " ? " ++ (expr_text true a ++ (codes " : " ++ expr_text true b))))
      (expr_text false (trees.conditional c a b)) (simp append-nil)
      (conditional_form room c a b (expr_text true c) (expr_text true a) (expr_text true b) (expr_form c true room written.0 (omega arith))
      (expr_form a true room written.1 (omega arith)) (expr_form b true room written.2 (omega arith)))

  -- a part, and the parts behind it
  parts_form : (es : PlainExprs) (room : ℕ) (e : PlainExpr) (bytes : List ℕ) → Speller (Form false room e) bytes → AreWritten es → nested_parts es ≤ room →
      Speller (Parts room (trees.more e es)) (bytes ++ exprs_text false es)
  parts_form trees.none room e bytes spell written deep = last_part room e bytes spell
  parts_form (trees.more next es) room e bytes spell written deep =
      next_part room e (trees.more next es) bytes (expr_text false next ++ exprs_text false es) spell
      (parts_form es room next (expr_text false next) (expr_form next false room written.0 (omega arith)) written.1 (omega arith))

-- a whole expression
expression_before : (e : PlainExpr) (more : List ℕ) (ts : List Token) → IsPrintable e → Ends more → Spells more ts →
    Front (expr_text false e ++ more) (λ us. Expression 128 300 us e ts)
expression_before e more ts ok ends s = expr_form e false 300 ok.0 ok.1 more ts ends s

-- the same as other bytes
moved : (bytes others : List ℕ) (P : List Token → Type 0) → bytes ≡ others → Front bytes P → Front others P
moved bytes others P e f = record { tokens = f.tokens; spelled = subst (λ b. Spells b f.tokens) e f.spelled; made = f.made }

-- ---- ports

zero_is : decimal 0 ≡ 48 ∷ []
unfolding digits
zero_is = refl

range_before : (shape : Shape) (more : List ℕ) (ts : List Token) → IsShape shape → Spells more ts → Front (shape_text shape ++ more) (λ us. Range us shape ts)
unfolding is_mark
range_before Scalar more ts ok s = record { tokens = ts; spelled = s; made = grammar.scalar }
range_before (Vector width) more ts ok s =
    let some = ok.0 in
    let few = ok.1 in
    let us = Mark 91 ∷ Number (width - 1) ∷ Mark 58 ∷ Number 0 ∷ Mark 93 ∷ ts in
    let bytes_are : 91 ∷ (decimal (width - 1) ++ (58 ∷ 48 ∷ 93 ∷ 32 ∷ more)) ≡ shape_text (Vector width) ++ more = simp append_assoc in
    let width_is : width - 1 + 1 ≡ width = omega arith in
    record {
      tokens = us;
      spelled = subst (λ b. Spells b us) bytes_are
          (mark_before 91 _ (Number (width - 1) ∷ Mark 58 ∷ Number 0 ∷ Mark 93 ∷ ts) refl refl
          (number_before (width - 1) (58 ∷ 48 ∷ 93 ∷ 32 ∷ more) (Mark 58 ∷ Number 0 ∷ Mark 93 ∷ ts) (omega arith) refl
          (mark_before 58 _ (Number 0 ∷ Mark 93 ∷ ts) refl refl
          (subst (λ b. Spells (b ++ (93 ∷ 32 ∷ more)) (Number 0 ∷ Mark 93 ∷ ts)) zero_is
          (number_before 0 (93 ∷ 32 ∷ more) (Mark 93 ∷ ts) (omega arith) refl
          (mark_before 93 (32 ∷ more) ts refl refl (blank_before more ts s)))))));
      made = subst (λ w. Range us (Vector w) ts) width_is (grammar.vector (width - 1) (omega arith));
    }

port_before : (input : Bool) (shape : Shape) (name more : List ℕ) (ts : List Token) → IsShape shape → IsIdentifier name → Ends more → Spells more ts →
    Front (port_text (record { input = input; shape = shape; name = name }) ++ more)
    (λ us. APort us (record { input = input; shape = shape; name = name }) ts)
port_before true shape name more ts shaped named ends s =
    let f = range_before shape (name ++ more) (Identifier name ∷ ts) shaped (name_before name more ts named ends s) in
    let bytes_are : codes "input " ++ (shape_text shape ++ (name ++ more)) ≡ (codes "input " ++ (shape_text shape ++ name)) ++ more = simp append_assoc in
    moved (codes "input " ++ (shape_text shape ++ (name ++ more))) _ _ bytes_are
    (record {
      tokens = Keyword Input ∷ f.tokens;
      spelled = word_before (Keyword Input) (32 ∷ (shape_text shape ++ (name ++ more))) f.tokens tt (λ byte. refl) refl (blank_before _ f.tokens f.spelled);
      made = grammar.input name f.made;
    })
port_before false shape name more ts shaped named ends s =
    let f = range_before shape (name ++ more) (Identifier name ∷ ts) shaped (name_before name more ts named ends s) in
    let bytes_are : codes "output " ++ (shape_text shape ++ (name ++ more)) ≡ (codes "output " ++ (shape_text shape ++ name)) ++ more = simp append_assoc in
    moved (codes "output " ++ (shape_text shape ++ (name ++ more))) _ _ bytes_are
    (record {
      tokens = Keyword Output ∷ f.tokens;
      spelled = word_before (Keyword Output) (32 ∷ (shape_text shape ++ (name ++ more))) f.tokens tt (λ byte. refl) refl (blank_before _ f.tokens f.spelled);
      made = grammar.output name f.made;
    })

ports_before : (port : Port) (ports : List Port) (more : List ℕ) (ts : List Token) → ArePorts (port ∷ ports) → Spells more ts →
    Front (ports_text (port ∷ ports) ++ more) (λ us. Ports us (port ∷ ports) ts)
unfolding is_mark
ports_before port [] more ts ok s =
    let f = port_before port.input port.shape port.name (10 ∷ more) ts ok.0.0 ok.0.1 refl (feed_before more ts s) in
    let bytes_are : codes "  " ++ (port_text port ++ (10 ∷ more)) ≡ ports_text (port ∷ []) ++ more = simp append_assoc in
    moved (codes "  " ++ (port_text port ++ (10 ∷ more))) _ _ bytes_are
    (record { tokens = f.tokens; spelled = blank_before _ _ (blank_before _ f.tokens f.spelled); made = grammar.last_port f.made })
ports_before port (next ∷ ports) more ts ok s =
    let g = ports_before next ports more ts ok.1 s in
    let f = port_before port.input port.shape port.name (44 ∷ 10 ∷ (ports_text (next ∷ ports) ++ more)) (Mark 44 ∷ g.tokens) ok.0.0 ok.0.1 refl
    (mark_before 44 _ g.tokens refl refl (feed_before _ g.tokens g.spelled)) in
    let bytes_are : codes "  " ++ (port_text port ++ (44 ∷ 10 ∷ (ports_text (next ∷ ports) ++ more))) ≡ ports_text (port ∷ next ∷ ports) ++ more
    = simp append_assoc in
    moved (codes "  " ++ (port_text port ++ (44 ∷ 10 ∷ (ports_text (next ∷ ports) ++ more)))) _ _ bytes_are
    (record { tokens = f.tokens; spelled = blank_before _ _ (blank_before _ f.tokens f.spelled); made = grammar.next_port f.made g.made })

port_list_before : (ports : List Port) (more : List ℕ) (ts : List Token) → ArePorts ports → Spells more ts →
    Front (ports_text ports ++ more) (λ us. PortList us ports ts)
port_list_before [] more ts ok s = record { tokens = ts; spelled = s; made = grammar.no_ports }
port_list_before (port ∷ ports) more ts ok s =
    let f = ports_before port ports more ts ok s in
    record { tokens = f.tokens; spelled = f.spelled; made = grammar.some_ports f.made }

-- ---- joins

join_before : (port : List ℕ) (to : Option PlainExpr) (more : List ℕ) (ts : List Token) → IsIdentifier port → IsJoined to → Spells more ts →
    Front (join_text (record { port = port; to = to }) ++ more) (λ us. AJoin 300 128 us (record { port = port; to = to }) ts)
unfolding is_mark
join_before port None more ts named ok s =
    let bytes_are : 46 ∷ (port ++ (40 ∷ 41 ∷ more)) ≡ (46 ∷ (port ++ (40 ∷ 41 ∷ []))) ++ more = simp append_assoc in
    moved (46 ∷ (port ++ (40 ∷ 41 ∷ more))) _ _ bytes_are
    (record {
      tokens = Mark 46 ∷ Identifier port ∷ Mark 40 ∷ Mark 41 ∷ ts;
      spelled = mark_before 46 _ (Identifier port ∷ Mark 40 ∷ Mark 41 ∷ ts) refl refl
          (name_before port (40 ∷ 41 ∷ more) (Mark 40 ∷ Mark 41 ∷ ts) named refl (mark_before 40 _ (Mark 41 ∷ ts) refl refl (mark_before 41 more ts refl refl s)));
      made = grammar.unjoined port;
    })
join_before port (Some e) more ts named ok s =
    let f = expression_before e (41 ∷ more) (Mark 41 ∷ ts) ok refl (mark_before 41 more ts refl refl s) in
    let bytes_are : 46 ∷ (port ++ (40 ∷ (expr_text false e ++ (41 ∷ more)))) ≡ (46 ∷ (port ++ (40 ∷ (expr_text false e ++ 41 ∷ [])))) ++ more = simp append_assoc in
    moved (46 ∷ (port ++ (40 ∷ (expr_text false e ++ (41 ∷ more))))) _ _ bytes_are
    (record {
      tokens = Mark 46 ∷ Identifier port ∷ Mark 40 ∷ f.tokens;
      spelled = mark_before 46 _ (Identifier port ∷ Mark 40 ∷ f.tokens) refl refl
          (name_before port _ (Mark 40 ∷ f.tokens) named refl (mark_before 40 _ f.tokens refl refl f.spelled));
      made = grammar.joined port f.made;
    })

joins_before : (join : PlainJoin) (joins : List PlainJoin) (more : List ℕ) (ts : List Token) → AreJoins (join ∷ joins) → Spells more ts →
    Front ((join_text join ++ joins_text false joins) ++ more) (λ us. Joins 300 128 us (join ∷ joins) ts)
unfolding is_mark
joins_before join [] more ts ok s =
    let f = join_before join.port join.to more ts ok.0.0 ok.0.1 s in
    moved (join_text join ++ more) ((join_text join ++ []) ++ more) _ (ap (λ b. b ++ more) (sym (append-nil (join_text join))))
    (record { tokens = f.tokens; spelled = f.spelled; made = grammar.last_join f.made })
joins_before join (next ∷ joins) more ts ok s =
    let g = joins_before next joins more ts ok.1 s in
    let f = join_before join.port join.to (44 ∷ 32 ∷ ((join_text next ++ joins_text false joins) ++ more)) (Mark 44 ∷ g.tokens) ok.0.0 ok.0.1
    (mark_before 44 _ g.tokens refl refl (blank_before _ g.tokens g.spelled)) in
    moved _ ((join_text join ++ (44 ∷ 32 ∷ (join_text next ++ joins_text false joins))) ++ more) _
    (sym (append_assoc (join_text join) (44 ∷ 32 ∷ (join_text next ++ joins_text false joins)) more))
    (record { tokens = f.tokens; spelled = f.spelled; made = grammar.next_join f.made g.made })

join_list_before : (joins : List PlainJoin) (more : List ℕ) (ts : List Token) → AreJoins joins → Spells more ts →
    Front (joins_text true joins ++ more) (λ us. JoinList 300 128 us joins ts)
join_list_before [] more ts ok s = record { tokens = ts; spelled = s; made = grammar.no_joins }
join_list_before (join ∷ joins) more ts ok s =
    let f = joins_before join joins more ts ok s in
    record { tokens = f.tokens; spelled = f.spelled; made = grammar.some_joins f.made }

-- ---- items

item_before : (item : PlainItem) (more : List ℕ) (ts : List Token) → IsItem item → Spells more ts →
    Front (item_text item ++ more) (λ us. AnItem 300 128 us item ts)
unfolding is_mark latch_head clocked_head
item_before (trees.wire shape name) more ts ok s =
    let f = range_before shape (name ++ (59 ∷ more)) (Identifier name ∷ Mark 59 ∷ ts) ok.0
    (name_before name (59 ∷ more) (Mark 59 ∷ ts) ok.1 refl (mark_before 59 more ts refl refl s)) in
    let bytes_are : codes "wire " ++ (shape_text shape ++ (name ++ (59 ∷ more))) ≡ item_text (trees.wire shape name) ++ more = simp append_assoc in
    moved (codes "wire " ++ (shape_text shape ++ (name ++ (59 ∷ more)))) _ _ bytes_are
    (record {
      tokens = Keyword Wire ∷ f.tokens;
      spelled = word_before (Keyword Wire) (32 ∷ (shape_text shape ++ (name ++ (59 ∷ more)))) f.tokens tt (λ byte. refl) refl (blank_before _ f.tokens f.spelled);
      made = grammar.wire name f.made;
    })
item_before (trees.reg shape name) more ts ok s =
    let f = range_before shape (name ++ (59 ∷ more)) (Identifier name ∷ Mark 59 ∷ ts) ok.0
    (name_before name (59 ∷ more) (Mark 59 ∷ ts) ok.1 refl (mark_before 59 more ts refl refl s)) in
    let bytes_are : codes "reg " ++ (shape_text shape ++ (name ++ (59 ∷ more))) ≡ item_text (trees.reg shape name) ++ more = simp append_assoc in
    moved (codes "reg " ++ (shape_text shape ++ (name ++ (59 ∷ more)))) _ _ bytes_are
    (record {
      tokens = Keyword Reg ∷ f.tokens;
      spelled = word_before (Keyword Reg) (32 ∷ (shape_text shape ++ (name ++ (59 ∷ more)))) f.tokens tt (λ byte. refl) refl (blank_before _ f.tokens f.spelled);
      made = grammar.reg name f.made;
    })
item_before (trees.assign target value) more ts ok s =
    let f = expression_before value (59 ∷ more) (Mark 59 ∷ ts) ok.1 refl (mark_before 59 more ts refl refl s) in
    let behind = target ++ (32 ∷ 61 ∷ 32 ∷ (expr_text false value ++ (59 ∷ more))) in
    let bytes_are : codes "assign " ++ behind ≡ item_text (trees.assign target value) ++ more = simp append_assoc in
    moved (codes "assign " ++ behind) _ _ bytes_are
    (record {
      tokens = Keyword Assign ∷ Identifier target ∷ Mark 61 ∷ f.tokens;
      spelled = word_before (Keyword Assign) (32 ∷ behind) (Identifier target ∷ Mark 61 ∷ f.tokens) tt (λ byte. refl) refl
          (blank_before _ _ (name_before target _ (Mark 61 ∷ f.tokens) ok.0 refl
          (blank_before _ _ (equals_before _ f.tokens (blank_before _ f.tokens f.spelled)))));
      made = grammar.assign target f.made;
    })
item_before (trees.latch target gate value) more ts ok s =
    let f = expression_before value (59 ∷ more) (Mark 59 ∷ ts) ok.2 refl (mark_before 59 more ts refl refl s) in
    let update = target ++ (32 ∷ 61 ∷ 32 ∷ (expr_text false value ++ (59 ∷ more))) in
    let g = expression_before gate (41 ∷ 32 ∷ update) (Mark 41 ∷ Identifier target ∷ Mark 61 ∷ f.tokens) ok.1 refl
    (mark_before 41 _ (Identifier target ∷ Mark 61 ∷ f.tokens) refl refl
    (blank_before _ _ (name_before target _ (Mark 61 ∷ f.tokens) ok.0 refl
    (blank_before _ _ (equals_before _ f.tokens (blank_before _ f.tokens f.spelled)))))) in
    let behind = expr_text false gate ++ (41 ∷ 32 ∷ update) in
    let bytes_are : codes "always @* if (" ++ behind ≡ item_text (trees.latch target gate value) ++ more = simp append_assoc in
    moved (codes "always @* if (" ++ behind) _ _ bytes_are
    (record {
      tokens = Keyword Always ∷ Mark 64 ∷ Mark 42 ∷ Keyword If ∷ Mark 40 ∷ g.tokens;
      spelled = word_before (Keyword Always) (codes " @* if (" ++ behind) (Mark 64 ∷ Mark 42 ∷ Keyword If ∷ Mark 40 ∷ g.tokens) tt (λ byte. refl) refl
          (blank_before _ _ (mark_before 64 _ (Mark 42 ∷ Keyword If ∷ Mark 40 ∷ g.tokens) refl refl (mark_before 42 _ (Keyword If ∷ Mark 40 ∷ g.tokens) refl refl
          (blank_before _ _ (word_before (Keyword If) (codes " (" ++ behind) (Mark 40 ∷ g.tokens) tt (λ byte. refl) refl
          (blank_before _ _ (mark_before 40 behind g.tokens refl refl g.spelled)))))));
      made = grammar.latch target g.made f.made;
    })
item_before (trees.clocked clock target value) more ts ok s =
    let f = expression_before value (59 ∷ more) (Mark 59 ∷ ts) ok.2 refl (mark_before 59 more ts refl refl s) in
    let update = target ++ (32 ∷ 60 ∷ 61 ∷ 32 ∷ (expr_text false value ++ (59 ∷ more))) in
    let behind = clock ++ (41 ∷ 32 ∷ update) in
    let bytes_are : codes "always @(posedge " ++ behind ≡ item_text (trees.clocked clock target value) ++ more = simp append_assoc in
    let us = Identifier clock ∷ Mark 41 ∷ Identifier target ∷ Arrow ∷ f.tokens in
    moved (codes "always @(posedge " ++ behind) _ _ bytes_are
    (record {
      tokens = Keyword Always ∷ Mark 64 ∷ Mark 40 ∷ Keyword Posedge ∷ us;
      spelled = word_before (Keyword Always) (codes " @(posedge " ++ behind) (Mark 64 ∷ Mark 40 ∷ Keyword Posedge ∷ us) tt (λ byte. refl) refl
          (blank_before _ _ (mark_before 64 _ (Mark 40 ∷ Keyword Posedge ∷ us) refl refl (mark_before 40 _ (Keyword Posedge ∷ us) refl refl
          (word_before (Keyword Posedge) (32 ∷ behind) us tt (λ byte. refl) refl
          (blank_before behind us (name_before clock _ (Mark 41 ∷ Identifier target ∷ Arrow ∷ f.tokens) ok.0 refl
          (mark_before 41 _ (Identifier target ∷ Arrow ∷ f.tokens) refl refl
          (blank_before _ _ (name_before target _ (Arrow ∷ f.tokens) ok.1 refl
          (blank_before _ _ (sign_before Arrow _ f.tokens tt (λ byte. refl) (blank_before _ f.tokens f.spelled))))))))))));
      made = grammar.clocked clock target f.made;
    })
item_before (trees.instance module_name name joins) more ts ok s =
    let f = join_list_before joins (41 ∷ 59 ∷ more) (Mark 41 ∷ Mark 59 ∷ ts) ok.3
    (mark_before 41 _ (Mark 59 ∷ ts) refl refl (mark_before 59 more ts refl refl s)) in
    let behind = joins_text true joins ++ (41 ∷ 59 ∷ more) in
    let bytes_are : module_name ++ (32 ∷ (name ++ (32 ∷ 40 ∷ behind))) ≡ item_text (trees.instance module_name name joins) ++ more = simp append_assoc in
    moved (module_name ++ (32 ∷ (name ++ (32 ∷ 40 ∷ behind)))) _ _ bytes_are
    (record {
      tokens = Identifier module_name ∷ Identifier name ∷ Mark 40 ∷ f.tokens;
      spelled = name_before module_name _ (Identifier name ∷ Mark 40 ∷ f.tokens) ok.0 refl
          (blank_before _ _ (name_before name _ (Mark 40 ∷ f.tokens) ok.2 refl (blank_before _ _ (mark_before 40 behind f.tokens refl refl f.spelled))));
      made = grammar.instance module_name name ok.1 f.made;
    })

items_before : (items : List PlainItem) (more : List ℕ) (ts : List Token) → AreItems items → Spells more ts →
    Front (items_text items ++ more) (λ us. Items 300 128 us items ts)
items_before [] more ts ok s = record { tokens = ts; spelled = s; made = grammar.no_items }
items_before (item ∷ items) more ts ok s =
    let g = items_before items more ts ok.1 s in
    let f = item_before item (10 ∷ (items_text items ++ more)) g.tokens ok.0 (feed_before _ g.tokens g.spelled) in
    let bytes_are : codes "  " ++ (item_text item ++ (10 ∷ (items_text items ++ more))) ≡ items_text (item ∷ items) ++ more = simp append_assoc in
    moved (codes "  " ++ (item_text item ++ (10 ∷ (items_text items ++ more)))) _ _ bytes_are
    (record { tokens = f.tokens; spelled = blank_before _ _ (blank_before _ f.tokens f.spelled); made = grammar.next_item f.made g.made })

-- ---- modules

module_before : (m : PlainModule) (more : List ℕ) (ts : List Token) → IsModule m → Spells more ts →
    Front (module_text m ++ more) (λ us. AModule 300 128 us m ts)
unfolding is_mark
module_before m more ts ok s =
    let g = items_before m.items (codes "endmodule\n" ++ more) (Keyword Endmodule ∷ ts) ok.2
    (word_before (Keyword Endmodule) (10 ∷ more) ts tt (λ byte. refl) refl (feed_before more ts s)) in
    let items = items_text m.items ++ (codes "endmodule\n" ++ more) in
    let f = port_list_before m.ports (codes ");\n" ++ items) (Mark 41 ∷ Mark 59 ∷ g.tokens) ok.1
    (mark_before 41 _ (Mark 59 ∷ g.tokens) refl refl (mark_before 59 _ g.tokens refl refl (feed_before items g.tokens g.spelled))) in
    let behind = ports_text m.ports ++ (codes ");\n" ++ items) in
    let bytes_are : codes "module " ++ (m.name ++ (codes " (\n" ++ behind)) ≡ module_text m ++ more = simp append_assoc in
    moved (codes "module " ++ (m.name ++ (codes " (\n" ++ behind))) _ _ bytes_are
    (record {
      tokens = Keyword Module ∷ Identifier m.name ∷ Mark 40 ∷ f.tokens;
      spelled = word_before (Keyword Module) (32 ∷ (m.name ++ (codes " (\n" ++ behind))) (Identifier m.name ∷ Mark 40 ∷ f.tokens) tt (λ byte. refl) refl
          (blank_before _ _ (name_before m.name _ (Mark 40 ∷ f.tokens) ok.0 refl
          (blank_before _ _ (mark_before 40 _ f.tokens refl refl (feed_before behind f.tokens f.spelled)))));
      made = grammar.whole m.name f.made g.made;
    })

nothing_spelled : Spells [] []
nothing_spelled = record { parts = []; tail = no_tail; text = refl; cut = tt; told = refl }

modules_before : (m : PlainModule) (ms : List PlainModule) → AreModules (m ∷ ms) → Front (text_bytes (m ∷ ms)) (λ us. Modules 300 128 us (m ∷ ms))
modules_before m [] ok =
    let f = module_before m [] [] ok.0 nothing_spelled in
    record { tokens = f.tokens; spelled = f.spelled; made = grammar.last_module f.made }
modules_before m (next ∷ ms) ok =
    let g = modules_before next ms ok.1 in
    let f = module_before m (text_bytes (next ∷ ms)) g.tokens ok.0 g.spelled in
    record { tokens = f.tokens; spelled = f.spelled; made = grammar.next_module f.made g.made }

pub texts_form : (modules : List PlainModule) → IsPrintableText modules → SpellsText 300 128 (text_bytes modules) modules
texts_form [] ok = absurd (omega (arith, ok.0))
texts_form (m ∷ ms) ok =
    let f = modules_before m ms ok.1 in
    record { tokens = f.tokens; spelled = f.spelled; made = f.made }
