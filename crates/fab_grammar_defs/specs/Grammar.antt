-- Which tokens make which tree, form by form. The grammar is that of IEEE 1364-2005, Annex A, cut to fab's profile.
--
-- `Operand room ts e rest` says that the tokens `ts` are those of an operand whose tree is `e`, and then `rest`; the other
-- relations are read likewise. `room` is the number of brackets that may be open in one another inside the operand, and
-- `widest` the greatest number of bits of a constant. Marks are written by their bytes.
use Rattle.std.specs.Prelude.{◌≡◌, ℕ, suc, ◌+◌, ◌<◌, ◌≤◌, Bool, true, false, List, [], ◌∷◌, length, Some, None}
use Rattle.fab_tokens.specs.fab_syntax.specs.declared.tree.Op.{Op}
use Rattle.fab_tokens.specs.fab_syntax.specs.declared.tree.Shape.{Shape}
use Rattle.fab_tokens.specs.fab_syntax.specs.declared.tree.Shape.TheVariants.{Scalar, Vector}
use Rattle.fab_tokens.specs.fab_syntax.specs.declared.tree.Port.{Port}
use Rattle.fab_tokens.specs.fab_syntax.specs.Plain as trees
use Rattle.fab_tokens.specs.fab_syntax.specs.Plain.{PlainExpr, PlainExprs, PlainJoin, PlainItem, PlainModule}
use Rattle.fab_tokens.specs.declared.token.Keyword.TheVariants.{Module, Endmodule, Input, Output, Wire, Reg, Assign, Always, If, Posedge}
use Rattle.fab_tokens.specs.declared.token.Token.{Token}
use Rattle.fab_tokens.specs.declared.token.Token.TheVariants.{Identifier, Keyword, Number, Constant, Operator, Arrow, Mark}
use Rattle.fab_tokens.specs.Spelled.{Spells}
use Rattle.fab_grammar_defs.specs.Words.{is_foreign}

mutual
  -- `id`, `id[expr]`, `id[number]`, `id[number:number]`, a constant, `{expr, expr}` or `(expr)`
  pub data Operand (widest : ℕ) : (room : ℕ) → List Token → PlainExpr → List Token → Type 0 where
    name : {room : ℕ} {rest : List Token} → (n : List ℕ) → Operand widest room (Identifier n ∷ rest) (trees.variable n) rest
    pick : {room : ℕ} {ts rest : List Token} {e : PlainExpr} → (n : List ℕ) → Expression widest room ts e (Mark 93 ∷ rest) →
        Operand widest (suc room) (Identifier n ∷ Mark 91 ∷ ts) (trees.pick n e) rest
    bit : {room : ℕ} {rest : List Token} → (n : List ℕ) (number : ℕ) →
        Operand widest (suc room) (Identifier n ∷ Mark 91 ∷ Number number ∷ Mark 93 ∷ rest) (trees.part n number number) rest
    part : {room : ℕ} {rest : List Token} → (n : List ℕ) (high low : ℕ) →
        Operand widest (suc room) (Identifier n ∷ Mark 91 ∷ Number high ∷ Mark 58 ∷ Number low ∷ Mark 93 ∷ rest) (trees.part n high low) rest
    constant : {room : ℕ} {rest : List Token} → (bits : List Bool) → length bits ≤ widest →
        Operand widest room (Constant bits ∷ rest) (trees.constant bits) rest
    concatenation : {room : ℕ} {ts rest : List Token} {es : PlainExprs} → Expressions widest room ts es (Mark 125 ∷ rest) →
        Operand widest (suc room) (Mark 123 ∷ ts) (trees.concatenation es) rest
    parentheses : {room : ℕ} {ts rest : List Token} {e : PlainExpr} → Expression widest room ts e (Mark 41 ∷ rest) →
        Operand widest (suc room) (Mark 40 ∷ ts) e rest

  -- an operand, `~` and one, two with an operator, or three with `?` and `:`
  pub data Expression (widest : ℕ) : (room : ℕ) → List Token → PlainExpr → List Token → Type 0 where
    alone : {room : ℕ} {ts rest : List Token} {e : PlainExpr} → Operand widest room ts e rest → Expression widest room ts e rest
    complement : {room : ℕ} {ts rest : List Token} {e : PlainExpr} → Operand widest room ts e rest →
        Expression widest room (Mark 126 ∷ ts) (trees.complement e) rest
    operation : {room : ℕ} {ts mid rest : List Token} {a b : PlainExpr} → (op : Op) → Operand widest room ts a (Operator op ∷ mid) →
        Operand widest room mid b rest → Expression widest room ts (trees.operation op a b) rest
    conditional : {room : ℕ} {ts mid end rest : List Token} {c a b : PlainExpr} → Operand widest room ts c (Mark 63 ∷ mid) →
        Operand widest room mid a (Mark 58 ∷ end) → Operand widest room end b rest → Expression widest room ts (trees.conditional c a b) rest

  -- one expression or more, with commas between them
  pub data Expressions (widest : ℕ) : (room : ℕ) → List Token → PlainExprs → List Token → Type 0 where
    last : {room : ℕ} {ts rest : List Token} {e : PlainExpr} → Expression widest room ts e rest →
        Expressions widest room ts (trees.more e trees.none) rest
    next : {room : ℕ} {ts mid rest : List Token} {e : PlainExpr} {es : PlainExprs} → Expression widest room ts e (Mark 44 ∷ mid) →
        Expressions widest room mid es rest → Expressions widest room ts (trees.more e es) rest

-- `[number:0]`, or nothing
pub data Range : List Token → Shape → List Token → Type 0 where
  scalar : {rest : List Token} → Range rest Scalar rest
  vector : {rest : List Token} → (high : ℕ) → high < 4294967295 →
      Range (Mark 91 ∷ Number high ∷ Mark 58 ∷ Number 0 ∷ Mark 93 ∷ rest) (Vector (high + 1)) rest

-- `input` or `output`, a range and a name
pub data APort : List Token → Port → List Token → Type 0 where
  input : {ts rest : List Token} {shape : Shape} → (n : List ℕ) → Range ts shape (Identifier n ∷ rest) →
      APort (Keyword Input ∷ ts) (record { input = true; shape = shape; name = n }) rest
  output : {ts rest : List Token} {shape : Shape} → (n : List ℕ) → Range ts shape (Identifier n ∷ rest) →
      APort (Keyword Output ∷ ts) (record { input = false; shape = shape; name = n }) rest

-- one port or more, with commas between them
pub data Ports : List Token → List Port → List Token → Type 0 where
  last_port : {ts rest : List Token} {port : Port} → APort ts port rest → Ports ts (port ∷ []) rest
  next_port : {ts mid rest : List Token} {port : Port} {ports : List Port} → APort ts port (Mark 44 ∷ mid) → Ports mid ports rest →
      Ports ts (port ∷ ports) rest

pub data PortList : List Token → List Port → List Token → Type 0 where
  no_ports : {rest : List Token} → PortList rest [] rest
  some_ports : {ts rest : List Token} {ports : List Port} → Ports ts ports rest → PortList ts ports rest

module _ (deepest widest : ℕ) where
  -- `.id()` or `.id(expr)`
  pub data AJoin : List Token → PlainJoin → List Token → Type 0 where
    unjoined : {rest : List Token} → (port : List ℕ) →
        AJoin (Mark 46 ∷ Identifier port ∷ Mark 40 ∷ Mark 41 ∷ rest) (record { port = port; to = None }) rest
    joined : {ts rest : List Token} {e : PlainExpr} → (port : List ℕ) → Expression widest deepest ts e (Mark 41 ∷ rest) →
        AJoin (Mark 46 ∷ Identifier port ∷ Mark 40 ∷ ts) (record { port = port; to = Some e }) rest

  -- one join or more, with commas between them
  pub data Joins : List Token → List PlainJoin → List Token → Type 0 where
    last_join : {ts rest : List Token} {join : PlainJoin} → AJoin ts join rest → Joins ts (join ∷ []) rest
    next_join : {ts mid rest : List Token} {join : PlainJoin} {joins : List PlainJoin} → AJoin ts join (Mark 44 ∷ mid) →
        Joins mid joins rest → Joins ts (join ∷ joins) rest

  pub data JoinList : List Token → List PlainJoin → List Token → Type 0 where
    no_joins : {rest : List Token} → JoinList rest [] rest
    some_joins : {ts rest : List Token} {joins : List PlainJoin} → Joins ts joins rest → JoinList ts joins rest

  -- `wire` or `reg` with a range and a name, `assign`, a latch, a flip-flop, or an instance; no instance is of a module whose
  -- name is a word of Verilog that the profile lacks
  pub data AnItem : List Token → PlainItem → List Token → Type 0 where
    wire : {ts rest : List Token} {shape : Shape} → (n : List ℕ) → Range ts shape (Identifier n ∷ Mark 59 ∷ rest) →
        AnItem (Keyword Wire ∷ ts) (trees.wire shape n) rest
    reg : {ts rest : List Token} {shape : Shape} → (n : List ℕ) → Range ts shape (Identifier n ∷ Mark 59 ∷ rest) →
        AnItem (Keyword Reg ∷ ts) (trees.reg shape n) rest
    assign : {ts rest : List Token} {e : PlainExpr} → (target : List ℕ) → Expression widest deepest ts e (Mark 59 ∷ rest) →
        AnItem (Keyword Assign ∷ Identifier target ∷ Mark 61 ∷ ts) (trees.assign target e) rest
    latch : {ts mid rest : List Token} {gate e : PlainExpr} → (target : List ℕ) →
        Expression widest deepest ts gate (Mark 41 ∷ Identifier target ∷ Mark 61 ∷ mid) → Expression widest deepest mid e (Mark 59 ∷ rest) →
        AnItem (Keyword Always ∷ Mark 64 ∷ Mark 42 ∷ Keyword If ∷ Mark 40 ∷ ts) (trees.latch target gate e) rest
    clocked : {ts rest : List Token} {e : PlainExpr} → (clock target : List ℕ) → Expression widest deepest ts e (Mark 59 ∷ rest) →
        AnItem (Keyword Always ∷ Mark 64 ∷ Mark 40 ∷ Keyword Posedge ∷ Identifier clock ∷ Mark 41 ∷ Identifier target ∷ Arrow ∷ ts)
        (trees.clocked clock target e) rest
    instance : {ts rest : List Token} {joins : List PlainJoin} → (module_name n : List ℕ) → is_foreign module_name ≡ false →
        JoinList ts joins (Mark 41 ∷ Mark 59 ∷ rest) →
        AnItem (Identifier module_name ∷ Identifier n ∷ Mark 40 ∷ ts) (trees.instance module_name n joins) rest

  pub data Items : List Token → List PlainItem → List Token → Type 0 where
    no_items : {rest : List Token} → Items rest [] rest
    next_item : {ts mid rest : List Token} {item : PlainItem} {items : List PlainItem} → AnItem ts item mid → Items mid items rest →
        Items ts (item ∷ items) rest

  pub data AModule : List Token → PlainModule → List Token → Type 0 where
    whole : {ts mid rest : List Token} {ports : List Port} {items : List PlainItem} → (n : List ℕ) →
        PortList ts ports (Mark 41 ∷ Mark 59 ∷ mid) → Items mid items (Keyword Endmodule ∷ rest) →
        AModule (Keyword Module ∷ Identifier n ∷ Mark 40 ∷ ts) (record { name = n; ports = ports; items = items }) rest

  -- one module or more, and nothing behind them
  pub data Modules : List Token → List PlainModule → Type 0 where
    last_module : {ts : List Token} {m : PlainModule} → AModule ts m [] → Modules ts (m ∷ [])
    next_module : {ts mid : List Token} {m : PlainModule} {modules : List PlainModule} → AModule ts m mid → Modules mid modules →
        Modules ts (m ∷ modules)

-- The bytes spell this text, in which at most `deepest` brackets are open in one another within an expression, and each
-- constant has at most `widest` bits.
pub record SpellsText (deepest widest : ℕ) (bytes : List ℕ) (modules : List PlainModule) : Type 0 where
  pub tokens : List Token
  pub spelled : Spells bytes tokens
  pub made : Modules deepest widest tokens modules
