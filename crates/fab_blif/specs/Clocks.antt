-- What is wrong with the clocks of a design.
use Rattle.std.specs.Prelude.{ℕ, Bool, false, not, List, [], ◌∷◌, ◌++◌, map, find, flat_map, option_and_then, if◌then◌else◌, nat_eq, Option, Some, None}
use Rattle.std.specs.List.{list_any}
use Rattle.fab_netlist.specs.declared.netlist.Latch.{Latch}
use Rattle.fab_blif.specs.declared.clocks.ClockFault.{ClockFault}
use Rattle.fab_blif.specs.declared.clocks.WrongClock.{WrongClock}
use Rattle.fab_blif.specs.declared.clocks.WrongClock.TheVariants as wrongs
use Rattle.fab_blif.specs.declared.design.Use.{Use}
use Rattle.fab_blif.specs.Flat.{PlainNet}
use Rattle.fab_blif.specs.Design.{PlainClock, PlainDesign, number_in}
use Rattle.fab_blif.specs.Judged.{inner_drivers, is_driven, is_of, least, readers}

-- of things that stand at lines that of the least line, and of those at this line the first
abbrev pub first_at_least : {X : Type 0} → (line_of : X → ℕ) → List X → Option X
first_at_least line_of things = option_and_then (λ line. find (λ thing. nat_eq (line_of thing) line) things) (least (map line_of things))

-- The clocks by number. One that is no net of the design has a number that no net has.
abbrev pub clock_uses : List PlainNet → List PlainClock → List Use
clock_uses nets clocks = map (λ clock. record { line = clock.line; net = number_in nets clock.net }) clocks

-- whether a net is one that some line names as a clock
abbrev pub is_clock : PlainDesign → (net : ℕ) → Bool
is_clock design net = list_any (is_of net) (clock_uses design.nets design.clocks)

-- The clock: the one that the least line names, and of several copies of that line the first. Clocks that are no nets are not
-- told apart: nothing drives them, and that is refused first.
abbrev pub first_use : List Use → Option Use
first_use uses = first_at_least (λ used. used.line) uses

-- whether a net is another one than that of the clock
abbrev pub is_other : (first : Option Use) → (net : ℕ) → Bool
is_other None net = false
is_other (Some first) net = not (nat_eq first.net net)

-- the nets that a latch reads and drives
abbrev pub latch_data : Option Latch → List ℕ
latch_data None = []
latch_data (Some latch) = latch.input ∷ latch.output ∷ []

-- What is wrong with a copy of a line that names a net as a clock: that nothing drives the net; else, where it is the control
-- of a latch, that a clock is data of this latch; else that it is another net than the clock.
abbrev pub wrong_by : (is_driven is_clock : ℕ → Bool) → (first : Option Use) → (net : ℕ) → Option Latch → Option WrongClock
wrong_by is_driven is_clock first net latch =
    if not (is_driven net) then Some wrongs.Undriven
    else if list_any is_clock (latch_data latch) then Some wrongs.Data
    else if is_other first net then Some wrongs.Second
    else None

abbrev pub faults_at : (line : ℕ) → Option WrongClock → List ClockFault
faults_at line None = []
faults_at line (Some wrong) = record { line = line; wrong = wrong } ∷ []

-- what is wrong where lines name clocks
abbrev pub named_faults : (is_driven is_clock : ℕ → Bool) → (first : Option Use) → List PlainNet → List PlainClock → List ClockFault
named_faults is_driven is_clock first nets clocks = flat_map (λ clock. faults_at clock.line (wrong_by is_driven is_clock first (number_in nets clock.net) clock.latch)) clocks

-- what is wrong where covers, latches and output ports read clocks, and where covers and latches drive them
abbrev pub data_faults : (is_clock : ℕ → Bool) → List Use → List ClockFault
data_faults is_clock uses = flat_map (λ used. faults_at used.line (if is_clock used.net then Some wrongs.Data else None)) uses

-- What is wrong with clocks: first by the lines that name clocks, in the order of the flattened netlist, and then by the others.
-- All copies of a line name a clock, or none does, so what is wrong with one line stands in the order of its copies.
abbrev pub clock_faults : PlainDesign → List ClockFault
clock_faults design =
    named_faults (is_driven design) (is_clock design) (first_use (clock_uses design.nets design.clocks)) design.nets design.clocks
    ++ data_faults (is_clock design) (readers design ++ inner_drivers design)

-- The one that is told: that of the least line, and of several copies of that line that of the first.
abbrev pub first_fault : List ClockFault → Option ClockFault
first_fault faults = first_at_least (λ fault. fault.line) faults
