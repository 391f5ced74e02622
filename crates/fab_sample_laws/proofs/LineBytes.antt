-- How long single lines of a printed top module are.
use Rattle.std.proofs.Common.{◌≡◌, ℕ, ◌+◌, ◌*◌, ◌≤◌, Bool, true, false, List, [], ◌∷◌, ◌++◌, codes, map, ◌-◌, length, arith, lit≤}
use Rattle.std.specs.Fmt.{decimal, digits}
use Rattle.std.specs.List.{sum_by}
use Rattle.std.proofs.lemmas.List.{length-append}
use Rattle.std.proofs.lemmas.List.Sums.{sum_by-append}
use Rattle.fab_bits.specs.Bits as bits
use Rattle.fab_meaning.specs.Ports.{scalar}
use Rattle.fab_syntax.specs.declared.tree.Shape.TheVariants.{Vector}
use Rattle.fab_syntax.specs.declared.tree.Shape.{Shape}
use Rattle.fab_syntax.specs.declared.tree.Op.TheVariants.{And}
use Rattle.fab_syntax.specs.Plain.{PlainExpr, PlainJoin, constant, variable, part, operation, conditional, wire, assign, instance}
use Rattle.fab_syntax.specs.Spelling.{expr_text, shape_text, joins_text}
use Rattle.fab_model.specs.Tiles.{counted}
use Rattle.fab_gen_tile.specs.Names.{port_join, same_join}
use Rattle.fab_meaning.specs.Loading.{write_data_name, write_strobe_name}
use Rattle.fab_gen_loader.specs.Loader.{loader_module_name, address_port, row_port, strobe_port}
use Rattle.fab_fabric_text_defs.specs.Names.{column_strobe_name, loader_instance_name}
use Rattle.fab_meaning.specs.Runs.{clock_name}
use Rattle.fab_fabric_text_defs.specs.Top.{column_strobes, loader_instance, loader_joins, names_column}
use Rattle.fab_sample_laws.proofs.Sums.{of_counted}
use Rattle.fab_sample_laws.proofs.Printed.{port_bytes, join_bytes, joins_bytes, item_bytes}
use Rattle.fab_sample_laws.proofs.Words.{decimal_bytes, row_bytes, column_bytes}

-- ---- single items

pub joined_is : (port : List ℕ) (e : PlainExpr) → join_bytes (port_join port e) ≡ 5 + length port + length (expr_text false e)
joined_is port e = omega (arith, length-append port (codes "(" ++ (expr_text false e ++ codes ")")), length-append (expr_text false e) (codes ")"))

pub wire_is : (shape : Shape) (name : List ℕ) → item_bytes (wire shape name) ≡ 9 + length (shape_text shape) + length name
wire_is shape name = omega (arith, length-append (shape_text shape) (name ++ codes ";"), length-append name (codes ";"))

assign_is : (target : List ℕ) (value : PlainExpr) → item_bytes (assign target value) ≡ 14 + length target + length (expr_text false value)
assign_is target value =
    omega (arith, length-append target (codes " = " ++ (expr_text false value ++ codes ";")), length-append (expr_text false value) (codes ";"))

pub instance_within : (module_name name : List ℕ) (joins : List PlainJoin) →
    item_bytes (instance module_name name joins) ≤ 8 + length module_name + length name + sum_by join_bytes joins
instance_within module_name name joins =
    let first = length-append module_name (codes " " ++ (name ++ (codes " (" ++ (joins_text true joins ++ codes ");")))) in
    let second = length-append name (codes " (" ++ (joins_text true joins ++ codes ");")) in
    omega (arith, first, second, length-append (joins_text true joins) (codes ");"), joins_bytes true joins)

pub range_bytes : (n : ℕ) → length (shape_text (Vector n)) ≤ 70
range_bytes n = omega (arith, decimal_bytes (n - 1), length-append (decimal (n - 1)) (codes ":0] "))

pub port_line : (input : Bool) (name : List ℕ) → port_bytes (scalar input name) ≤ length name + 11
port_line true name = omega arith
port_line false name = omega arith

pub row_line : (y : ℕ) → item_bytes (wire (Vector 32) (row_port y)) ≤ 300
row_line y = omega (arith, wire_is (Vector 32) (row_port y), row_bytes y, range_bytes 32)

pub column_line : (x : ℕ) → item_bytes (wire (Vector 20) (column_strobe_name x)) ≤ 300
column_line x = omega (arith, wire_is (Vector 20) (column_strobe_name x), column_bytes x, range_bytes 20)

abbrev strobe_value : (x : ℕ) → PlainExpr
strobe_value x = conditional (operation And (variable strobe_port) (names_column x)) (part address_port 19 0) (constant (bits.digits 20 0))

value_bytes : (x : ℕ) → length (expr_text false (strobe_value x)) ≤ 120
unfolding digits
value_bytes x = omega arith

pub strobes_line : (x : ℕ) → item_bytes (column_strobes x) ≤ 300
strobes_line x = omega (arith, assign_is (column_strobe_name x) (strobe_value x), column_bytes x, value_bytes x)

-- ---- the loader

-- what is joined beside the rows
abbrev loader_front : List PlainJoin
loader_front = map same_join (clock_name ∷ write_strobe_name ∷ write_data_name ∷ address_port ∷ strobe_port ∷ [])

pub loader_line : (rows : ℕ) → item_bytes (loader_instance rows) ≤ 300 + rows * 300
loader_line rows =
    let each : ℕ → PlainJoin = λ y. same_join (row_port y) in
    let whole = instance_within loader_module_name loader_instance_name (loader_joins rows) in
    let parts = sum_by-append join_bytes loader_front (counted rows each) in
    let front : sum_by join_bytes loader_front ≤ 200 = lit≤ tt in
    let rest = of_counted join_bytes 300 rows each (λ y. omega (arith, joined_is (row_port y) (variable (row_port y)), row_bytes y)) in
    omega (arith, whole, parts, front, rest)
