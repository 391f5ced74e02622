-- What is judged of a design: the drivers of its nets, and their readers.
use Rattle.std.specs.Prelude.{ℕ, ◌+◌, ◌<◌, ◌≤◌, Bool, not, ◌&&◌, ◌||◌, List, [], ◌∷◌, ◌++◌, map, min, if◌then◌else◌, nat_eq, nat_le, Option, Some, None}
use Rattle.std.specs.List.{list_any, count_by, filter, flat_map, zip}
use Rattle.fab_netlist.specs.declared.netlist.Latch.{Latch}
use Rattle.fab_netlist.specs.Wide.{PlainWideCover}
use Rattle.fab_blif.specs.declared.design.Use.{Use}
use Rattle.fab_blif.specs.declared.judge.Driver.{Driver}
use Rattle.fab_blif.specs.Design.{PlainDesign}

-- ---- what drives nets, and what reads them

abbrev pub output_uses : List PlainWideCover → List Use
output_uses covers = map (λ cover. record { line = cover.line; net = cover.output }) covers

abbrev pub input_uses : List PlainWideCover → List Use
input_uses covers = flat_map (λ cover. map (λ net. record { line = cover.line; net = net }) cover.inputs) covers

-- the nets of latches, at their lines
abbrev pub latch_uses : (net_of : Latch → ℕ) → (lines : List ℕ) → List Latch → List Use
latch_uses net_of lines latches = map (λ at. record { line = at.0; net = net_of at.1 }) (zip lines latches)

-- the covers and latches that drive nets
abbrev pub inner_drivers : PlainDesign → List Use
inner_drivers design = output_uses design.covers ++ latch_uses (λ latch. latch.output) design.latch_lines design.latches

-- the input ports; one port may stand on several lines
abbrev pub input_ports : PlainDesign → List Use
input_ports design = design.inputs ++ design.clock_ports

-- the covers, latches and output ports that read nets
abbrev pub readers : PlainDesign → List Use
readers design = input_uses design.covers ++ (latch_uses (λ latch. latch.input) design.latch_lines design.latches ++ design.outputs)

-- whether a use is of a net
abbrev pub is_of : (net : ℕ) → Use → Bool
is_of net used = nat_eq net used.net

-- whether a net is one of these
abbrev pub is_among : List ℕ → ℕ → Bool
is_among nets net = list_any (nat_eq net) nets

-- ---- two drivers

-- how many drivers a net has; an input port is one driver, on however many lines it stands
abbrev pub drivers : (inner ports : List Use) → (net : ℕ) → ℕ
drivers inner ports net = count_by (is_of net) inner + (if list_any (is_of net) ports then 1 else 0)

abbrev pub OneDriver : (inner ports : List Use) → Type 0
OneDriver inner ports = (net : ℕ) → drivers inner ports net ≤ 1

abbrev pub EachHasOne : PlainDesign → Type 0
EachHasOne design = OneDriver (inner_drivers design) (input_ports design)

-- ---- drivers in one list

abbrev pub tagged : (is_port : Bool) → List Use → List Driver
tagged is_port uses = map (λ used. record { line = used.line; net = used.net; is_port = is_port }) uses

-- a driver of a net that is a cover or a latch, or an input port
abbrev pub is_inner : (net : ℕ) → Driver → Bool
is_inner net driver = not driver.is_port && nat_eq net driver.net

abbrev pub is_port : (net : ℕ) → Driver → Bool
is_port net driver = driver.is_port && nat_eq net driver.net

-- how many drivers a net has among these
abbrev pub drivers_in : List Driver → (net : ℕ) → ℕ
drivers_in all net = count_by (is_inner net) all + (if list_any (is_port net) all then 1 else 0)

-- the drivers on lines up to this one
abbrev pub drivers_to : (line : ℕ) → List Driver → List Driver
drivers_to line all = filter (λ driver. nat_le driver.line line) all

-- the least line up to which some net has two drivers
pub record IsSecondIn (all : List Driver) (line : ℕ) : Type 0 where
  pub net : ℕ
  pub second : 2 ≤ drivers_in (drivers_to line all) net
  pub first : (before other : ℕ) → before < line → drivers_in (drivers_to before all) other ≤ 1

-- whether a driver is the second of its net, where covers and latches drive the inner nets, and ports the others
abbrev pub is_second : (inner ports : List ℕ) → Driver → Bool
is_second inner ports driver = (not driver.is_port && is_among ports driver.net) || is_among inner driver.net

-- ---- the least line

abbrev pub least_of : Option ℕ → Option ℕ → Option ℕ
least_of None other = other
least_of (Some line) None = Some line
least_of (Some line) (Some other) = Some (min line other)

abbrev pub least : List ℕ → Option ℕ
least [] = None
least (line ∷ lines) = least_of (Some line) (least lines)

-- the least line of the uses that pass a test
abbrev pub least_line : (Use → Bool) → List Use → Option ℕ
least_line test uses = least (map (λ used. used.line) (filter test uses))

-- ---- nets without a driver

abbrev pub is_driven : PlainDesign → (net : ℕ) → Bool
is_driven design net = list_any (is_of net) (inner_drivers design ++ input_ports design)

abbrev pub is_undriven : PlainDesign → Use → Bool
is_undriven design used = not (is_driven design used.net)

-- the least line that reads a net without a driver
abbrev pub undriven_line : PlainDesign → Option ℕ
undriven_line design = least_line (is_undriven design) (readers design)
