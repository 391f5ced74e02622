-- Small expressions and a small text, whose values are known from the standard, computed by the definitions.
use Rattle.std.proofs.Common.{◌≡◌, ℕ, Bool, true, false, List, [], ◌∷◌, refl, sym, subst, Some, None, codes, if◌then◌else◌, inl, inr, arith}
use Rattle.std.specs.Str.{bytes_eq}
use Rattle.std.proofs.lemmas.Bool.{or_cases}
use Rattle.fab_syntax.specs.declared.tree.Op.TheVariants.{Xor, Equal, Minus}
use Rattle.fab_syntax.specs.declared.tree.Shape.TheVariants.{Scalar, Vector}
use Rattle.fab_syntax.specs.Plain.{PlainExpr, PlainModule, constant, variable, pick, part, concatenation, complement, operation, conditional, plain_exprs, wire, assign, latch, clocked, instance}
use Rattle.fab_meaning.specs.Value.{value}
use Rattle.fab_syntax.specs.Declarations.{width_in}
use Rattle.fab_meaning.specs.Points.{Path, Point, Drives, copy, bit_of, flop, hold, point, module_at}
use Rattle.fab_meaning.specs.Settled.{Assignment, shown}
use Rattle.fab_meaning.specs.Runs.{clock_of, kept}
use Rattle.fab_meaning.specs.Reads.{same_point, expression_reads, reads, next_reads}
use Rattle.fab_meaning.specs.Loading.{Within, by_stream, by_flop, by_reads, IsClosed, IsClosedAt, IsLoading}
use Rattle.fab_meaning.proofs.Dependence.{same_point_is, same_point_refl, variable_reads}

-- `a` is 4'b0011, and every other name is 1'b0
abbrev names : List ℕ → List Bool
names name = if bytes_eq name (codes "a") then true ∷ true ∷ false ∷ false ∷ [] else false ∷ []

abbrev a : PlainExpr
a = variable (codes "a")

-- a[2:1] is 2'b01
part_example : value names (part (codes "a") 2 1) ≡ true ∷ false ∷ []
part_example = refl

-- {a[1:0], 1'b0} is 3'b110
concatenation_example : value names (concatenation (plain_exprs (part (codes "a") 1 0 ∷ variable (codes "b") ∷ []))) ≡ false ∷ true ∷ true ∷ []
concatenation_example = refl

-- a - 4'b0101 is 4'b1110
minus_example : value names (operation Minus a (constant (true ∷ false ∷ true ∷ false ∷ []))) ≡ false ∷ true ∷ true ∷ true ∷ []
minus_example = refl

-- a ^ 4'b0110 is 4'b0101, and ~a is 4'b1100
bitwise_example : value names (operation Xor a (constant (false ∷ true ∷ true ∷ false ∷ []))) ≡ true ∷ false ∷ true ∷ false ∷ []
bitwise_example = refl

complement_example : value names (complement a) ≡ false ∷ false ∷ true ∷ true ∷ []
complement_example = refl

-- a == 4'b0011 is 1'b1, and so (a == 4'b0011) ? 2'b10 : 2'b01 is 2'b10
equal_example : value names (conditional (operation Equal a (constant (true ∷ true ∷ false ∷ false ∷ []))) (constant (false ∷ true ∷ [])) (constant (true ∷ false ∷ []))) ≡ false ∷ true ∷ []
equal_example = refl

-- a[2'b01] is 1'b1, and a[2'b10] is 1'b0
pick_example : value names (pick (codes "a") (constant (true ∷ false ∷ []))) ≡ true ∷ []
pick_example = refl

other_pick_example : value names (pick (codes "a") (constant (false ∷ true ∷ []))) ≡ false ∷ []
other_pick_example = refl

-- module inverter (input x, output [1:0] y); assign y = ~{x, x}; endmodule
abbrev inverter : PlainModule
inverter = record {
  name = codes "inverter";
  ports = record { input = true; shape = Scalar; name = codes "x" } ∷ record { input = false; shape = Vector 2; name = codes "y" } ∷ [];
  items = assign (codes "y") (complement (concatenation (plain_exprs (variable (codes "x") ∷ variable (codes "x") ∷ [])))) ∷ [];
}

-- module top (input in); wire [1:0] w; inverter first (.x(in), .y(w)); endmodule
abbrev top : PlainModule
top = record {
  name = codes "top";
  ports = record { input = true; shape = Scalar; name = codes "in" } ∷ [];
  items = wire (Vector 2) (codes "w") ∷ instance (codes "inverter") (codes "first") (record { port = codes "x"; to = Some (variable (codes "in")) } ∷ record { port = codes "y"; to = Some (variable (codes "w")) } ∷ []) ∷ [];
}

abbrev text : List PlainModule
text = inverter ∷ top ∷ []

top_example : module_at text [] ≡ Some top
top_example = refl

inner_example : module_at text (codes "first" ∷ []) ≡ Some inverter
inner_example = refl

width_example : width_in (module_at text (codes "first" ∷ [])) (codes "y") ≡ 2
width_example = refl

-- the input port is driven by the expression that is joined to it
input_example : Drives text (point (codes "first" ∷ []) (codes "x") 0) (bit_of [] (variable (codes "in")) 0)
input_example = inr (record { path = []; module_here = top; item = _; stands = refl; holds = (1, omega arith, refl); drives = (record { port = codes "x"; to = Some (variable (codes "in")) }, (0, omega arith, refl), (refl, refl)) })

-- and the wire is a copy of the output port
output_example : Drives text (point [] (codes "w") 1) (copy (point (codes "first" ∷ []) (codes "y") 1))
output_example = inr (record { path = []; module_here = top; item = _; stands = refl; holds = (1, omega arith, refl); drives = (record { port = codes "y"; to = Some (variable (codes "w")) }, (1, omega arith, refl), (codes "w", refl, refl, refl)) })

-- ---- a clock that is led through two levels, and a latch

-- module keeper (input clk, input x, output y, output z); a flip-flop y of clk takes x, and a latch z has x while y is 1; endmodule
abbrev pub keeper : PlainModule
keeper = record {
  name = codes "keeper";
  ports = record { input = true; shape = Scalar; name = codes "clk" } ∷ record { input = true; shape = Scalar; name = codes "x" }
      ∷ record { input = false; shape = Scalar; name = codes "y" } ∷ record { input = false; shape = Scalar; name = codes "z" } ∷ [];
  items = clocked (codes "clk") (codes "y") (variable (codes "x")) ∷ latch (codes "z") (variable (codes "y")) (variable (codes "x")) ∷ [];
}

-- module middle (input c, input a); keeper low (.clk(c), .x(a)); keeper off (.clk(~c), .x(a)); endmodule
abbrev pub middle : PlainModule
middle = record {
  name = codes "middle";
  ports = record { input = true; shape = Scalar; name = codes "c" } ∷ record { input = true; shape = Scalar; name = codes "a" } ∷ [];
  items = instance (codes "keeper") (codes "low") (record { port = codes "clk"; to = Some (variable (codes "c")) } ∷ record { port = codes "x"; to = Some (variable (codes "a")) } ∷ [])
      ∷ instance (codes "keeper") (codes "off") (record { port = codes "clk"; to = Some (complement (variable (codes "c"))) } ∷ record { port = codes "x"; to = Some (variable (codes "a")) } ∷ []) ∷ [];
}

-- module frame (input CLK, input WriteData); middle mid (.c(CLK), .a(WriteData)); endmodule
abbrev pub frame : PlainModule
frame = record {
  name = codes "frame";
  ports = record { input = true; shape = Scalar; name = codes "CLK" } ∷ record { input = true; shape = Scalar; name = codes "WriteData" } ∷ [];
  items = instance (codes "middle") (codes "mid") (record { port = codes "c"; to = Some (variable (codes "CLK")) } ∷ record { port = codes "a"; to = Some (variable (codes "WriteData")) } ∷ []) ∷ [];
}

abbrev pub levels : List PlainModule
levels = keeper ∷ middle ∷ frame ∷ []

abbrev pub mid : Path
mid = codes "mid" ∷ []

abbrev pub low : Path
low = codes "low" ∷ mid

clock_example : clock_of levels low (codes "clk") ≡ Some (codes "CLK")
clock_example = refl

-- through an expression that is no plain name a clock is led nowhere, and an output is no clock
no_clock_example : clock_of levels (codes "off" ∷ mid) (codes "clk") ≡ None
no_clock_example = refl

output_clock_example : clock_of levels low (codes "y") ≡ None
output_clock_example = refl

-- nor is a name of the top that is no input
undeclared_clock_example : clock_of levels [] (codes "GCLK") ≡ None
undeclared_clock_example = refl

abbrev pub y_point : Point
y_point = point low (codes "y") 0

abbrev z_point : Point
z_point = point low (codes "z") 0

pub flop_example : Drives levels y_point (flop low (codes "clk") (variable (codes "x")) 0)
flop_example = inr (record { path = low; module_here = keeper; item = _; stands = refl; holds = (0, omega arith, refl); drives = (refl, refl) })

latch_example : Drives levels z_point (hold low (variable (codes "y")) (variable (codes "x")) 0)
latch_example = inr (record { path = low; module_here = keeper; item = _; stands = refl; holds = (1, omega arith, refl); drives = (refl, refl) })

-- all points that stand at 1, but those of one name
abbrev all_but : List ℕ → Assignment
all_but name p = if bytes_eq p.name name then false else true

abbrev pub nothing : Assignment
nothing p = false

-- a latch shows its data while its gate is 1, else what it holds
open_example : shown levels nothing nothing (all_but (codes "z")) z_point (hold low (variable (codes "y")) (variable (codes "x")) 0) ≡ true
open_example = refl

shut_example : shown levels nothing nothing (all_but (codes "y")) z_point (hold low (variable (codes "y")) (variable (codes "x")) 0) ≡ false
shut_example = refl

-- a flip-flop takes its next value at a tick of its clock, and at no other
tick_example : kept levels (codes "CLK") nothing (all_but (codes "y")) y_point (flop low (codes "clk") (variable (codes "x")) 0) ≡ true
tick_example = refl

other_tick_example : kept levels (codes "UserCLK") nothing (all_but (codes "y")) y_point (flop low (codes "clk") (variable (codes "x")) 0) ≡ false
other_tick_example = refl

-- ---- what drivers read

-- an expression reads the declared bits of its names, in its own instance
width_read_example : expression_reads text [] (variable (codes "w")) (point [] (codes "w") 1) ≡ true
width_read_example = refl

past_width_example : expression_reads text [] (variable (codes "w")) (point [] (codes "w") 2) ≡ false
past_width_example = refl

elsewhere_example : expression_reads text [] (variable (codes "w")) (point (codes "first" ∷ []) (codes "w") 0) ≡ false
elsewhere_example = refl

-- a flip-flop reads nothing for what it shows, and its next expression for what it takes
flop_reads_example : reads levels (flop low (codes "clk") (variable (codes "x")) 0) (point low (codes "x") 0) ≡ false
flop_reads_example = refl

next_reads_example : next_reads levels (flop low (codes "clk") (variable (codes "x")) 0) (point low (codes "x") 0) ≡ true
next_reads_example = refl

-- a latch reads its gate and its data, but not itself
gate_read_example : reads levels (hold low (variable (codes "y")) (variable (codes "x")) 0) y_point ≡ true
gate_read_example = refl

data_read_example : reads levels (hold low (variable (codes "y")) (variable (codes "x")) 0) (point low (codes "x") 0) ≡ true
data_read_example = refl

self_read_example : reads levels (hold low (variable (codes "y")) (variable (codes "x")) 0) z_point ≡ false
self_read_example = refl

-- ---- y is a closed set of flip-flops, and z is a loading point

abbrev y_alone : Point → Bool
y_alone = same_point y_point

data_within : Within levels y_alone (point [] (codes "WriteData") 0)
data_within = by_stream (record { input = record { top = refl; input = refl; is = refl }; declared = refl; named = inr (inr refl) })

a_within : Within levels y_alone (point mid (codes "a") 0)
a_within =
    by_reads (bit_of [] (variable (codes "WriteData")) 0) refl
    (inr (record { path = []; module_here = frame; item = _; stands = refl; holds = (0, omega arith, refl); drives = (record { port = codes "a"; to = Some (variable (codes "WriteData")) }, (1, omega arith, refl), (refl, refl)) }))
    tt (λ q r. subst (Within levels y_alone) (sym (variable_reads levels [] (codes "WriteData") q refl r)) data_within)

pub x_driven : Drives levels (point low (codes "x") 0) (bit_of mid (variable (codes "a")) 0)
x_driven = inr (record { path = mid; module_here = middle; item = _; stands = refl; holds = (0, omega arith, refl); drives = (record { port = codes "x"; to = Some (variable (codes "a")) }, (1, omega arith, refl), (refl, refl)) })

x_within : Within levels y_alone (point low (codes "x") 0)
x_within =
    by_reads (bit_of mid (variable (codes "a")) 0) refl x_driven
    tt (λ q r. subst (Within levels y_alone) (sym (variable_reads levels mid (codes "a") q refl r)) a_within)

y_within : Within levels y_alone y_point
y_within = by_flop refl (same_point_refl y_point)

y_closed : IsClosed levels y_alone
y_closed p h =
    subst (IsClosedAt levels (Within levels y_alone)) (same_point_is y_point p h)
    (record {
      path = low;
      clock = codes "clk";
      next = variable (codes "x");
      bit = 0;
      drives = flop_example;
      clocked = refl;
      inside = λ q r. subst (Within levels y_alone) (sym (variable_reads levels low (codes "x") q refl r)) x_within;
    })

z_loading : IsLoading levels z_point
z_loading = (
  y_alone,
  y_closed,
  by_reads (hold low (variable (codes "y")) (variable (codes "x")) 0) refl latch_example tt (λ q r. elim (or_cases _ _ r) [
    | inl gate ↦ subst (Within levels y_alone) (sym (variable_reads levels low (codes "y") q refl gate)) y_within
    | inr input ↦ subst (Within levels y_alone) (sym (variable_reads levels low (codes "x") q refl input)) x_within
  ]),
)
