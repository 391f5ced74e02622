-- Cycles of a text that is used as a design: what is fed to it, and what it shows.
use Rattle.std.specs.Prelude.{◌≡◌, ℕ, Bool, true, false, List, [], ◌∷◌, All, Contains, codes}
use Rattle.fab_syntax.specs.Plain.{PlainModule}
use Rattle.fab_meaning.specs.Points.{Point, point}
use Rattle.fab_meaning.specs.Settled.{Assignment, IsSettledOn}
use Rattle.fab_meaning.specs.Runs.{clock_name, user_clock_name, AreClocksLow, Ticks}
use Rattle.fab_meaning.specs.Loading.{write_strobe_name}
use Rattle.fab_text_loads_laws.specs.fab_fabric_wire_Site.{Site}
use Rattle.fab_state.specs.fab_netlist.specs.Plain.{PlainNetlist, IsAt, bit_at, name_of}
use Rattle.fab_state.specs.fab_implementation.specs.Plain.{PlainImplementation}
use Rattle.fab_text_loads_laws.specs.fab_prim_Ports.{top_name}
use Rattle.fab_use_defs.specs.Sites.{top_point}

-- ---- instants

-- One instant of use: the top's inputs, the value of each point, and the clock that ticks at its end.
pub record Instant : Type 0 where
  pub inputs : Assignment
  pub now : Assignment
  pub clock : List ℕ

-- Instants one after the other, from what flip-flops and latches hold at first to what they hold at last. It is a run over a set of points
-- (`IsRunOn`) that names its settled assignments.
abbrev pub AreInstants : (Point → Type 0) → List PlainModule → List Instant → (held after : Assignment) → Type 0
AreInstants Has text [] held after = (p : Point) → Has p → after p ≡ held p
AreInstants Has text (i ∷ more) held after =
    (next : Assignment) × IsSettledOn Has text i.inputs held i.now × AreClocksLow i.now × Ticks Has text i.clock held i.now next × AreInstants Has text more next after

-- ---- what is fed, and what is shown

-- A strobe is 0, so that nothing is written by it, CLK is 0, and the pad of each input port has at O_top the value that is given for the port.
pub record FeedsWith (strobe : Point) (netlist : PlainNetlist) (implementation : PlainImplementation) (given : List Bool) (inputs : Assignment) : Type 0 where
  pub quiet : inputs strobe ≡ false
  pub low : inputs (point [] clock_name 0) ≡ false
  pub pads : (place net : ℕ) (site : Site) → IsAt netlist.inputs place net → Contains implementation.ins (name_of netlist net, site) →
      inputs (top_point site top_name) ≡ bit_at given place

-- the strobe by which words are written
abbrev pub word_strobe : Point
word_strobe = point [] write_strobe_name 0

abbrev pub Feeds : PlainNetlist → PlainImplementation → (given : List Bool) → (inputs : Assignment) → Type 0
Feeds netlist implementation given inputs = FeedsWith word_strobe netlist implementation given inputs

-- The pad of each output port shows at I_top the value of the port's net, where the nets have these values. T_top is 0 at the pads of output
-- ports, which drive the outside, and 1 at those of input ports, which do not.
pub record Shows (netlist : PlainNetlist) (implementation : PlainImplementation) (now : Assignment) (nets : ℕ → Bool) : Type 0 where
  pub outputs : (place net : ℕ) (site : Site) → IsAt netlist.outputs place net → Contains implementation.outs (name_of netlist net, site) →
      now (top_point site (codes "I_top")) ≡ nets net
  pub driven : (port : List ℕ) (site : Site) → Contains implementation.outs (port, site) → now (top_point site (codes "T_top")) ≡ false
  pub released : (port : List ℕ) (site : Site) → Contains implementation.ins (port, site) → now (top_point site (codes "T_top")) ≡ true

-- ---- cycles

-- any number of ticks of CLK, which write no word, and then one of UserCLK
abbrev pub EndsCycle : List Instant → Type 0
EndsCycle [] = ⊥
EndsCycle (i ∷ []) = i.clock ≡ user_clock_name
EndsCycle (i ∷ j ∷ more) = (i.clock ≡ clock_name) × EndsCycle (j ∷ more)

-- A cycle: the values given for the input ports, by place, and its instants.
pub record Cycle : Type 0 where
  pub given : List Bool
  pub instants : List Instant

abbrev pub IsCycleWith : (strobe : Point) → PlainNetlist → PlainImplementation → Cycle → Type 0
IsCycleWith strobe netlist implementation c = EndsCycle c.instants × All (λ i. FeedsWith strobe netlist implementation c.given i.inputs) c.instants

abbrev pub IsCycle : PlainNetlist → PlainImplementation → Cycle → Type 0
IsCycle netlist implementation c = IsCycleWith word_strobe netlist implementation c

-- cycles one after the other, from what is held at first to what is held at last
abbrev pub AreCyclesWith : (strobe : Point) → (Point → Type 0) → List PlainModule → PlainNetlist → PlainImplementation → List Cycle
    → (held after : Assignment) → Type 0
AreCyclesWith strobe Has text netlist implementation [] held after = (p : Point) → Has p → after p ≡ held p
AreCyclesWith strobe Has text netlist implementation (c ∷ more) held after =
    IsCycleWith strobe netlist implementation c × (next : Assignment) × AreInstants Has text c.instants held next
    × AreCyclesWith strobe Has text netlist implementation more next after

abbrev pub AreCycles : (Point → Type 0) → List PlainModule → PlainNetlist → PlainImplementation → List Cycle → (held after : Assignment) → Type 0
AreCycles Has text netlist implementation cycles held after = AreCyclesWith word_strobe Has text netlist implementation cycles held after

-- Cycle by cycle, in each instant, the pads show the values of the nets; lists of two lengths never do.
abbrev pub EachShows : PlainNetlist → PlainImplementation → List Cycle → List (ℕ → Bool) → Type 0
EachShows netlist implementation [] [] = Unit {0}
EachShows netlist implementation [] (nets ∷ later) = ⊥
EachShows netlist implementation (c ∷ more) [] = ⊥
EachShows netlist implementation (c ∷ more) (nets ∷ later) =
    All (λ i. Shows netlist implementation i.now nets) c.instants × EachShows netlist implementation more later
