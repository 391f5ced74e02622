-- The module of each kind of BEL. What it does is said in `fab_kinds` without this text, and `Works` says that the two agree.
use Rattle.std.specs.Prelude.{ℕ, List, [], ◌∷◌, ◌++◌, map, codes}
use Rattle.fab_kinds.specs.declared.kind.Kind.{Kind}
use Rattle.fab_kinds.specs.declared.kind.Kind.TheVariants as kinds
use Rattle.fab_syntax.specs.declared.tree.Shape.TheVariants.{Scalar, Vector}
use Rattle.fab_syntax.specs.declared.tree.Op.TheVariants.{And, Or}
use Rattle.fab_syntax.specs.Plain.{PlainExpr, PlainItem, PlainModule, variable, pick, part, concatenation, complement, operation, conditional, plain_exprs, wire, reg, assign, clocked}
use Rattle.fab_meaning.specs.Runs.{user_clock_name}
use Rattle.fab_meaning.specs.Ports.{config_name}
use Rattle.fab_prim.specs.Ports.{top_name, module_ports}

-- a configuration bit
abbrev pub config_bit : ℕ → PlainExpr
config_bit bit = part config_name bit bit

-- the flip-flop of a LUT and of a pad
abbrev pub flip_flop_name : List ℕ
flip_flop_name = codes "q"

abbrev pub flip_flop : (next : PlainExpr) → PlainItem
flip_flop next = clocked user_clock_name flip_flop_name next

abbrev pub module_name : Kind → List ℕ
module_name kinds.Lut4c = codes "LUT4c_frame_config"
module_name kinds.Io = codes "IO_1_bidirectional_frame_config_pass"
module_name kinds.Mux8 = codes "MUX8LUT_frame_config"

-- the first name where the test is 1, else the second
abbrev pub one_of : PlainExpr → (first second : List ℕ) → PlainExpr
one_of test first second = conditional test (variable first) (variable second)

-- ---- LUT4c: x is the least significant bit of the index, and t the bit of the table there

-- init[{I3, I2, I1, x}]
abbrev pub lut_value : PlainExpr
lut_value =
    pick (codes "init") (concatenation (plain_exprs (variable (codes "I3") ∷ variable (codes "I2") ∷ variable (codes "I1") ∷ variable (codes "x") ∷ [])))

-- EN ? (SR ? ConfigBits[18] : t) : q
abbrev pub lut_next : PlainExpr
lut_next =
    conditional (variable (codes "EN")) (conditional (variable (codes "SR")) (config_bit 18) (variable (codes "t"))) (variable flip_flop_name)

abbrev pub both : (first second : List ℕ) → PlainExpr
both first second = operation And (variable first) (variable second)

-- ((Ci & I1) | (Ci & I2)) | (I1 & I2)
abbrev pub lut_carry : PlainExpr
lut_carry =
    operation Or (operation Or (both (codes "Ci") (codes "I1")) (both (codes "Ci") (codes "I2"))) (both (codes "I1") (codes "I2"))

abbrev pub lut_items : List PlainItem
lut_items =
    wire (Vector 16) (codes "init")
    ∷ wire Scalar (codes "x")
    ∷ wire Scalar (codes "t")
    ∷ reg Scalar flip_flop_name
    ∷ assign (codes "init") (part config_name 15 0)
    ∷ assign (codes "x") (one_of (config_bit 17) (codes "Ci") (codes "I0"))
    ∷ assign (codes "t") lut_value
    ∷ flip_flop lut_next
    ∷ assign (codes "O") (one_of (config_bit 16) flip_flop_name (codes "t"))
    ∷ assign (codes "Co") lut_carry
    ∷ []

-- ---- IO: O shows O_top at once, and Q a clock later

abbrev pub pad_items : List PlainItem
pad_items =
    reg Scalar flip_flop_name
    ∷ flip_flop (variable top_name)
    ∷ assign (codes "O") (variable top_name)
    ∷ assign (codes "Q") (variable flip_flop_name)
    ∷ assign (codes "I_top") (variable (codes "I"))
    ∷ assign (codes "T_top") (complement (variable (codes "T")))
    ∷ []

-- ---- MUX8LUT: a tree of multiplexers, which the two configuration bits cut into parts

-- what the multiplexers of the tree select by
abbrev pub mux_select_items : List PlainItem
mux_select_items =
    assign (codes "scd") (one_of (config_bit 0) (codes "S0") (codes "S1"))
    ∷ assign (codes "sef") (one_of (config_bit 1) (codes "S0") (codes "S2"))
    ∷ assign (codes "seh") (one_of (config_bit 1) (codes "S1") (codes "S3"))
    ∷ assign (codes "sgh") (one_of (config_bit 0) (codes "sef") (codes "seh"))
    ∷ []

-- the tree, each multiplexer named by the first and the last input below it
abbrev pub mux_pair_items : List PlainItem
mux_pair_items =
    assign (codes "ab") (one_of (variable (codes "S0")) (codes "B") (codes "A"))
    ∷ assign (codes "cd") (one_of (variable (codes "scd")) (codes "D") (codes "C"))
    ∷ assign (codes "ef") (one_of (variable (codes "sef")) (codes "F") (codes "E"))
    ∷ assign (codes "gh") (one_of (variable (codes "sgh")) (codes "H") (codes "G"))
    ∷ []

abbrev pub mux_half_items : List PlainItem
mux_half_items =
    assign (codes "ad") (one_of (variable (codes "S1")) (codes "cd") (codes "ab"))
    ∷ assign (codes "eh") (one_of (variable (codes "seh")) (codes "gh") (codes "ef"))
    ∷ assign (codes "ah") (one_of (variable (codes "S3")) (codes "eh") (codes "ad"))
    ∷ []

-- ConfigBits[1] ? ah : (ConfigBits[0] ? eh : gh)
abbrev pub mux_whole_tree : PlainExpr
mux_whole_tree = conditional (config_bit 1) (variable (codes "ah")) (one_of (config_bit 0) (codes "eh") (codes "gh"))

abbrev pub mux_output_items : List PlainItem
mux_output_items =
    assign (codes "M_AB") (variable (codes "ab"))
    ∷ assign (codes "M_AD") (one_of (config_bit 0) (codes "ad") (codes "cd"))
    ∷ assign (codes "M_AH") mux_whole_tree
    ∷ assign (codes "M_EF") (variable (codes "ef"))
    ∷ []

-- the wires of the tree and of its selects
abbrev pub mux_wire_items : List PlainItem
mux_wire_items =
    map (wire Scalar)
    (codes "ab" ∷ codes "cd" ∷ codes "ef" ∷ codes "gh" ∷ codes "ad" ∷ codes "eh" ∷ codes "ah"
    ∷ codes "scd" ∷ codes "sef" ∷ codes "seh" ∷ codes "sgh" ∷ [])

abbrev pub mux_items : List PlainItem
mux_items = mux_wire_items ++ (mux_select_items ++ (mux_pair_items ++ (mux_half_items ++ mux_output_items)))

-- ---- all kinds

abbrev pub module_items : Kind → List PlainItem
module_items kinds.Lut4c = lut_items
module_items kinds.Io = pad_items
module_items kinds.Mux8 = mux_items

abbrev pub module_of_kind : Kind → PlainModule
module_of_kind kind = record { name = module_name kind; ports = module_ports kind; items = module_items kind }
