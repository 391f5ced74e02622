-- The printed spelling of a text: one blank between tokens but where a bracket, a comma, a semicolon, `~`, `.` or `@` takes
-- none, each port and each item on a line of its own, and no empty lines. The grammar is that of IEEE 1364-2005, Annex A,
-- cut to fab's profile; an operand that is itself an operator expression stands in parentheses.
use Rattle.std.specs.Prelude.{ℕ, Bool, true, false, List, [], ◌∷◌, ◌++◌, length, codes, decimal, reverse, map, if◌then◌else◌, nat_eq, ◌-◌, Option, Some, None}
use Rattle.fab_syntax.specs.declared.tree.Op.{Op}
use Rattle.fab_syntax.specs.declared.tree.Op.TheVariants.{And, Or, Xor, Equal, Minus}
use Rattle.fab_syntax.specs.declared.tree.Shape.{Shape}
use Rattle.fab_syntax.specs.declared.tree.Shape.TheVariants.{Scalar, Vector}
use Rattle.fab_syntax.specs.declared.tree.Port.{Port}
use Rattle.fab_syntax.specs.Plain.{PlainExpr, PlainExprs, PlainJoin, PlainItem, PlainModule, constant, variable, pick, part, concatenation, complement, operation, conditional, none, more, wire, reg, assign, latch, clocked, instance}

abbrev pub digit : Bool → ℕ
digit bit = if bit then 49 else 48

-- w'b and the bits, the most significant first (IEEE 1364-2005, 3.5.1)
abbrev pub constant_text : List Bool → List ℕ
constant_text bits = decimal (length bits) ++ (codes "'b" ++ reverse (map digit bits))

abbrev pub op_text : Op → List ℕ
op_text And = codes " & "
op_text Or = codes " | "
op_text Xor = codes " ^ "
op_text Equal = codes " == "
op_text Minus = codes " - "

-- the numbers of a part select; a single bit has one (5.2.1)
abbrev pub select_text : (high low : ℕ) → List ℕ
select_text high low = if nat_eq high low then decimal high else decimal high ++ (codes ":" ++ decimal low)

-- parentheses round an operator expression that is an operand
abbrev pub opening : Bool → List ℕ
opening operand = if operand then codes "(" else []

abbrev pub closing : Bool → List ℕ
closing operand = if operand then codes ")" else []

-- before all items of a list but the first
abbrev pub comma : Bool → List ℕ
comma first = if first then [] else codes ", "

abbrev mutual
  -- an expression, and whether it is an operand of another
  pub expr_text : (operand : Bool) → PlainExpr → List ℕ
  expr_text operand (constant bits) = constant_text bits
  expr_text operand (variable name) = name
  expr_text operand (pick name index) = name ++ (codes "[" ++ (expr_text false index ++ codes "]"))
  expr_text operand (part name high low) = name ++ (codes "[" ++ (select_text high low ++ codes "]"))
  expr_text operand (concatenation es) = codes "{" ++ (exprs_text true es ++ codes "}")
  expr_text operand (complement e) = opening operand ++ (codes "~" ++ (expr_text true e ++ closing operand))
  expr_text operand (operation op a b) =
      opening operand ++ (expr_text true a ++ (op_text op ++ (expr_text true b ++ closing operand)))
  expr_text operand (conditional c a b) =
      opening operand ++ (expr_text true c ++ (codes " ? " ++ (expr_text true a ++ (codes " : " ++ (expr_text true b ++ closing operand)))))

  pub exprs_text : (first : Bool) → PlainExprs → List ℕ
  exprs_text first none = []
  exprs_text first (more e es) = comma first ++ (expr_text false e ++ exprs_text false es)

-- a range and the blank behind it (4.3.1)
abbrev pub shape_text : Shape → List ℕ
shape_text Scalar = []
shape_text (Vector width) = codes "[" ++ (decimal (width - 1) ++ codes ":0] ")

abbrev pub direction_text : Bool → List ℕ
direction_text input = if input then codes "input " else codes "output "

abbrev pub port_text : Port → List ℕ
port_text port = direction_text port.input ++ (shape_text port.shape ++ port.name)

-- how a line ends before these ports: with a comma where there is one more
abbrev pub port_end : List Port → List ℕ
port_end [] = codes "\n"
port_end (port ∷ ports) = codes ",\n"

abbrev pub ports_text : List Port → List ℕ
ports_text [] = []
ports_text (port ∷ ports) = codes "  " ++ (port_text port ++ (port_end ports ++ ports_text ports))

abbrev pub joined_text : Option PlainExpr → List ℕ
joined_text None = []
joined_text (Some e) = expr_text false e

-- a port of an instance by its name (12.3.6)
abbrev pub join_text : PlainJoin → List ℕ
join_text join = codes "." ++ (join.port ++ (codes "(" ++ (joined_text join.to ++ codes ")")))

abbrev pub joins_text : (first : Bool) → List PlainJoin → List ℕ
joins_text first [] = []
joins_text first (join ∷ joins) = comma first ++ (join_text join ++ joins_text false joins)

-- kept closed: a long literal would be written out in each goal
unfoldable pub latch_head : List ℕ
latch_head = codes "always @* if ("

unfoldable pub clocked_head : List ℕ
clocked_head = codes "always @(posedge "

-- target, arrow and value
abbrev pub update_text : (target arrow : List ℕ) → PlainExpr → List ℕ
update_text target arrow value = target ++ (arrow ++ (expr_text false value ++ codes ";"))

abbrev pub item_text : PlainItem → List ℕ
item_text (wire shape name) = codes "wire " ++ (shape_text shape ++ (name ++ codes ";"))
item_text (reg shape name) = codes "reg " ++ (shape_text shape ++ (name ++ codes ";"))
item_text (assign target value) = codes "assign " ++ update_text target (codes " = ") value
item_text (latch target gate value) = latch_head ++ (expr_text false gate ++ (codes ") " ++ update_text target (codes " = ") value))
item_text (clocked clock target value) = clocked_head ++ (clock ++ (codes ") " ++ update_text target (codes " <= ") value))
item_text (instance module_name name joins) = module_name ++ (codes " " ++ (name ++ (codes " (" ++ (joins_text true joins ++ codes ");"))))

abbrev pub items_text : List PlainItem → List ℕ
items_text [] = []
items_text (item ∷ items) = codes "  " ++ (item_text item ++ (codes "\n" ++ items_text items))

abbrev pub module_text : PlainModule → List ℕ
module_text m =
    codes "module " ++ (m.name ++ (codes " (\n" ++ (ports_text m.ports ++ (codes ");\n" ++ (items_text m.items ++ codes "endmodule\n")))))

-- the bytes of a text
abbrev pub text_bytes : List PlainModule → List ℕ
text_bytes [] = []
text_bytes (m ∷ ms) = module_text m ++ text_bytes ms
