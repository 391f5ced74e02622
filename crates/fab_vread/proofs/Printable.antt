-- A tree that bytes spell within the limits can be printed again: the spelling that is printed has no bracket that the bytes lack.
use Rattle.std.proofs.Common.{ℕ, suc, ◌≤◌, max, Bool, true, false, List, [], ◌∷◌, subst, sym, arith}
use Rattle.fab_syntax.specs.declared.tree.Shape.{Shape}
use Rattle.fab_syntax.specs.declared.tree.Port.{Port}
use Rattle.fab_syntax.specs.Plain as trees
use Rattle.fab_syntax.specs.Plain.{PlainExpr, PlainExprs, PlainJoin, PlainItem, PlainModule}
use Rattle.fab_tokens.specs.declared.token.Token.{Token}
use Rattle.fab_tokens.specs.Spelled.{Spells, Part, Tail, blank, line_end, comment, block, token, AreParts, IsToken, tokens_in}
use Rattle.fab_grammar_defs.specs.Grammar as grammar
use Rattle.fab_grammar_defs.specs.Grammar.{Operand, Expression, Expressions, Range, APort, Ports, PortList, AJoin, Joins, JoinList, AnItem, Items, AModule, Modules, SpellsText}
use Rattle.fab_grammar_defs.specs.Printable.{nested, nested_parts, HasPart, IsWritten, AreWritten, IsPrintable, IsShape, ArePorts, AreJoins, IsItem, AreItems, IsModule, IsPrintableText}

-- ---- tokens

abbrev AreTokens : List Token → Type 0
AreTokens [] = Unit {0}
AreTokens (t ∷ ts) = IsToken t × AreTokens ts

parts_tokens : (parts : List Part) (tail : Tail) → AreParts parts tail → AreTokens (tokens_in parts)
parts_tokens [] tail cut = tt
parts_tokens (blank byte ∷ parts) tail cut = parts_tokens parts tail cut.2
parts_tokens (line_end ∷ parts) tail cut = parts_tokens parts tail cut.2
parts_tokens (comment text ∷ parts) tail cut = parts_tokens parts tail cut.2
parts_tokens (block text ∷ parts) tail cut = parts_tokens parts tail cut.2
parts_tokens (token t ∷ parts) tail cut = (cut.0, parts_tokens parts tail cut.2)

spelled_tokens : (bytes : List ℕ) (ts : List Token) → Spells bytes ts → AreTokens ts
spelled_tokens bytes ts s = subst AreTokens (sym s.told) (parts_tokens s.parts s.tail s.cut)

-- ---- expressions

-- as an operand an expression has at most one bracket more
operand_near : (e : PlainExpr) → nested true e ≤ suc (nested false e)
operand_near (trees.constant bits) = omega arith
operand_near (trees.variable name) = omega arith
operand_near (trees.pick name e) = omega arith
operand_near (trees.part name high low) = omega arith
operand_near (trees.concatenation es) = omega arith
operand_near (trees.complement e) = omega arith
operand_near (trees.operation op a b) = omega arith
operand_near (trees.conditional c a b) = omega arith

operand_more : (e : PlainExpr) → nested false e ≤ nested true e
operand_more (trees.constant bits) = omega arith
operand_more (trees.variable name) = omega arith
operand_more (trees.pick name e) = omega arith
operand_more (trees.part name high low) = omega arith
operand_more (trees.concatenation es) = omega arith
operand_more (trees.complement e) = omega arith
operand_more (trees.operation op a b) = omega arith
operand_more (trees.conditional c a b) = omega arith

-- an expression is written with so many brackets, and tokens are behind it
record Fits (operand : Bool) (room : ℕ) (e : PlainExpr) (rest : List Token) : Type 0 where
  written : IsWritten e
  few : nested operand e ≤ room
  behind : AreTokens rest

record PartsFit (room : ℕ) (es : PlainExprs) (rest : List Token) : Type 0 where
  some : HasPart es
  written : AreWritten es
  few : nested_parts es ≤ room
  behind : AreTokens rest

max_few : (a b room : ℕ) → a ≤ room → b ≤ room → max a b ≤ room
max_few a b room p q = grind arith

mutual
  operand_fits : {room : ℕ} {ts rest : List Token} {e : PlainExpr} → Operand 128 room ts e rest → AreTokens ts → Fits true room e rest
  operand_fits (grammar.name n) tokens = record { written = tokens.0; few = omega arith; behind = tokens.1 }
  operand_fits (grammar.pick n p) tokens =
      let x = expression_fits p tokens.1.1 in
      record { written = (tokens.0, x.written); few = (let few = x.few in omega arith); behind = x.behind.1 }
  operand_fits (grammar.bit n number) tokens =
      record { written = (tokens.0, tokens.1.1.0, tokens.1.1.0); few = omega arith; behind = tokens.1.1.1.1 }
  operand_fits (grammar.part n high low) tokens =
      record { written = (tokens.0, tokens.1.1.0, tokens.1.1.1.1.0); few = omega arith; behind = tokens.1.1.1.1.1.1 }
  operand_fits (grammar.constant bits few) tokens = record { written = (tokens.0.0, few); few = omega arith; behind = tokens.1 }
  operand_fits (grammar.concatenation ps) tokens =
      let x = parts_fit ps tokens.1 in
      record { written = (x.some, x.written); few = (let few = x.few in omega arith); behind = x.behind.1 }
  operand_fits (grammar.parentheses {room} {ts} {rest} {e} p) tokens =
      let x = expression_fits p tokens.1 in
      record { written = x.written; few = (let few = x.few in let near = operand_near e in omega arith); behind = x.behind.1 }

  expression_fits : {room : ℕ} {ts rest : List Token} {e : PlainExpr} → Expression 128 room ts e rest → AreTokens ts → Fits false room e rest
  expression_fits (grammar.alone {room} {ts} {rest} {e} p) tokens =
      let x = operand_fits p tokens in
      record { written = x.written; few = (let few = x.few in let more = operand_more e in omega arith); behind = x.behind }
  expression_fits (grammar.complement p) tokens =
      let x = operand_fits p tokens.1 in
      record { written = x.written; few = (let few = x.few in omega arith); behind = x.behind }
  expression_fits (grammar.operation {room} {ts} {mid} {rest} {a} {b} op p q) tokens =
      let x = operand_fits p tokens in
      let y = operand_fits q x.behind.1 in
      record { written = (x.written, y.written); few = (let few = max_few (nested true a) (nested true b) room x.few y.few in omega arith); behind = y.behind }
  expression_fits (grammar.conditional {room} {ts} {mid} {end} {rest} {c} {a} {b} p q r) tokens =
      let x = operand_fits p tokens in
      let y = operand_fits q x.behind.1 in
      let z = operand_fits r y.behind.1 in
      record {
        written = (x.written, y.written, z.written);
        few = (let few = max_few (nested true c) (max (nested true a) (nested true b)) room x.few (max_few (nested true a) (nested true b) room y.few z.few) in
            omega arith);
        behind = z.behind;
      }

  parts_fit : {room : ℕ} {ts rest : List Token} {es : PlainExprs} → Expressions 128 room ts es rest → AreTokens ts → PartsFit room es rest
  parts_fit (grammar.last {room} {ts} {rest} {e} p) tokens =
      let x = expression_fits p tokens in
      record { some = tt; written = (x.written, tt); few = max_few (nested false e) 0 room x.few (omega arith); behind = x.behind }
  parts_fit (grammar.next {room} {ts} {mid} {rest} {e} {es} p ps) tokens =
      let x = expression_fits p tokens in
      let y = parts_fit ps x.behind.1 in
      record { some = tt; written = (x.written, y.written); few = max_few (nested false e) (nested_parts es) room x.few y.few; behind = y.behind }

printable_of : {ts rest : List Token} {e : PlainExpr} → Expression 128 300 ts e rest → AreTokens ts → IsPrintable e × AreTokens rest
printable_of p tokens = let x = expression_fits p tokens in ((x.written, x.few), x.behind)

-- ---- ports and items

range_fits : {ts rest : List Token} {shape : Shape} → Range ts shape rest → AreTokens ts → IsShape shape × AreTokens rest
range_fits grammar.scalar tokens = (tt, tokens)
range_fits (grammar.vector high few) tokens = ((omega arith, omega arith), tokens.1.1.1.1.1)

port_fits : {ts rest : List Token} {port : Port} → APort ts port rest → AreTokens ts → ArePorts (port ∷ []) × AreTokens rest
port_fits (grammar.input n range) tokens = let x = range_fits range tokens.1 in ((((x.0, x.1.0), tt)), x.1.1)
port_fits (grammar.output n range) tokens = let x = range_fits range tokens.1 in ((((x.0, x.1.0), tt)), x.1.1)

ports_fit : {ts rest : List Token} {ports : List Port} → Ports ts ports rest → AreTokens ts → ArePorts ports × AreTokens rest
ports_fit (grammar.last_port p) tokens = port_fits p tokens
ports_fit (grammar.next_port p ps) tokens =
    let x = port_fits p tokens in
    let y = ports_fit ps x.1.1 in
    ((x.0.0, y.0), y.1)

port_list_fits : {ts rest : List Token} {ports : List Port} → PortList ts ports rest → AreTokens ts → ArePorts ports × AreTokens rest
port_list_fits grammar.no_ports tokens = (tt, tokens)
port_list_fits (grammar.some_ports ps) tokens = ports_fit ps tokens

join_fits : {ts rest : List Token} {join : PlainJoin} → AJoin 300 128 ts join rest → AreTokens ts → AreJoins (join ∷ []) × AreTokens rest
join_fits (grammar.unjoined port) tokens = (((tokens.1.0, tt), tt), tokens.1.1.1.1)
join_fits (grammar.joined port p) tokens = let x = printable_of p tokens.1.1.1 in (((tokens.1.0, x.0), tt), x.1.1)

joins_fit : {ts rest : List Token} {joins : List PlainJoin} → Joins 300 128 ts joins rest → AreTokens ts → AreJoins joins × AreTokens rest
joins_fit (grammar.last_join p) tokens = join_fits p tokens
joins_fit (grammar.next_join p ps) tokens =
    let x = join_fits p tokens in
    let y = joins_fit ps x.1.1 in
    ((x.0.0, y.0), y.1)

join_list_fits : {ts rest : List Token} {joins : List PlainJoin} → JoinList 300 128 ts joins rest → AreTokens ts → AreJoins joins × AreTokens rest
join_list_fits grammar.no_joins tokens = (tt, tokens)
join_list_fits (grammar.some_joins ps) tokens = joins_fit ps tokens

item_fits : {ts rest : List Token} {item : PlainItem} → AnItem 300 128 ts item rest → AreTokens ts → IsItem item × AreTokens rest
item_fits (grammar.wire n range) tokens = let x = range_fits range tokens.1 in ((x.0, x.1.0), x.1.1.1)
item_fits (grammar.reg n range) tokens = let x = range_fits range tokens.1 in ((x.0, x.1.0), x.1.1.1)
item_fits (grammar.assign target p) tokens = let x = printable_of p tokens.1.1.1 in ((tokens.1.0, x.0), x.1.1)
item_fits (grammar.latch target p q) tokens =
    let x = printable_of p tokens.1.1.1.1.1 in
    let y = printable_of q x.1.1.1.1 in
    ((x.1.1.0, x.0, y.0), y.1.1)
item_fits (grammar.clocked clock target p) tokens =
    let names = tokens.1.1.1.1 in
    let x = printable_of p names.1.1.1.1 in
    ((names.0, names.1.1.0, x.0), x.1.1)
item_fits (grammar.instance module_name n plain ps) tokens =
    let x = join_list_fits ps tokens.1.1.1 in
    ((tokens.0, plain, tokens.1.0, x.0), x.1.1.1)

items_fit : {ts rest : List Token} {items : List PlainItem} → Items 300 128 ts items rest → AreTokens ts → AreItems items × AreTokens rest
items_fit grammar.no_items tokens = (tt, tokens)
items_fit (grammar.next_item p ps) tokens =
    let x = item_fits p tokens in
    let y = items_fit ps x.1 in
    ((x.0, y.0), y.1)

-- ---- texts

module_fits : {ts rest : List Token} {m : PlainModule} → AModule 300 128 ts m rest → AreTokens ts → IsModule m × AreTokens rest
module_fits (grammar.whole n ports items) tokens =
    let x = port_list_fits ports tokens.1.1.1 in
    let y = items_fit items x.1.1.1 in
    ((tokens.1.0, x.0, y.0), y.1.1)

modules_fit : {ts : List Token} {modules : List PlainModule} → Modules 300 128 ts modules → AreTokens ts → IsPrintableText modules
modules_fit (grammar.last_module p) tokens = (omega arith, ((module_fits p tokens).0, tt))
modules_fit (grammar.next_module p ps) tokens =
    let x = module_fits p tokens in
    let y = modules_fit ps x.1 in
    (omega arith, (x.0, y.1))

pub spelled_printable : (bytes : List ℕ) (modules : List PlainModule) → SpellsText 300 128 bytes modules → IsPrintableText modules
spelled_printable bytes modules s = modules_fit s.made (spelled_tokens bytes s.tokens s.spelled)
