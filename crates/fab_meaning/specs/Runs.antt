-- Runs of a text: settled assignments with ticks of a clock between them. Section numbers are those of IEEE 1364-2005.
use Rattle.std.specs.Prelude.{◌≡◌, ℕ, Bool, false, List, [], ◌∷◌, Option, Some, None, if◌then◌else◌, codes}
use Rattle.std.specs.Str.{bytes_eq}
use Rattle.fab_syntax.specs.Plain.{PlainExpr, variable, PlainJoin, PlainModule}
use Rattle.fab_meaning.specs.Value.{value, bit_at}
use Rattle.fab_syntax.specs.Declarations.{is_input_of}
use Rattle.fab_meaning.specs.Points.{Path, Point, point, Driver, outside, copy, bit_of, flop, hold, Drives, Found, instance_in, module_at}
use Rattle.fab_meaning.specs.Settled.{Assignment, names_at, IsSettledOn}

-- ---- the clock of a flip-flop

abbrev pub join_named : List PlainJoin → List ℕ → Option PlainExpr
join_named [] port = None
join_named (join ∷ joins) port = if bytes_eq join.port port then join.to else join_named joins port

-- what an instance has joined to a port (12.3.6)
abbrev pub join_of : Option Found → List ℕ → Option PlainExpr
join_of None port = None
join_of (Some found) port = join_named found.joins port

-- what a plain name leads to; no other expression leads anywhere
abbrev pub named_by : Option PlainExpr → (List ℕ → Option (List ℕ)) → Option (List ℕ)
named_by (Some (variable name)) lead = lead name
named_by _ lead = None

-- The input of the top that a clock of an instance is: each instance on the way has it as an input, to which a plain name is joined.
abbrev pub clock_of : List PlainModule → Path → (clock : List ℕ) → Option (List ℕ)
clock_of text [] clock = if is_input_of (module_at text []) clock then Some clock else None
clock_of text (i ∷ path) clock =
    if is_input_of (module_at text (i ∷ path)) clock then named_by (join_of (instance_in (module_at text path) i) clock) (λ name. clock_of text path name) else None

abbrev pub is_clock : (clock : List ℕ) → Option (List ℕ) → Bool
is_clock clock None = false
is_clock clock (Some name) = bytes_eq name clock

-- ---- ticks

-- What a driver keeps at a tick of a clock of the top: a flip-flop of this clock takes its next value (9.2.2), and a latch
-- what its point has.
abbrev pub kept : List PlainModule → (clock : List ℕ) → (held now : Assignment) → Point → Driver → Bool
kept text clock held now p (flop path own next bit) =
    if is_clock clock (clock_of text path own) then bit_at (value (names_at text now path) next) bit else held p
kept text clock held now p (hold path gate e bit) = now p
kept text clock held now p outside = held p
kept text clock held now p (copy other) = held p
kept text clock held now p (bit_of path e bit) = held p

-- each point of a set is left with what its driver keeps
abbrev pub Ticks : (Point → Type 0) → List PlainModule → (clock : List ℕ) → (held now next : Assignment) → Type 0
Ticks Has text clock held now next =
    (p : Point) (d : Driver) → Has p → Drives text p d → next p ≡ kept text clock held now p d

-- ---- runs

abbrev pub clock_name : List ℕ
clock_name = codes "CLK"

abbrev pub user_clock_name : List ℕ
user_clock_name = codes "UserCLK"

-- between ticks the top's two clocks are 0
abbrev pub AreClocksLow : Assignment → Type 0
AreClocksLow now = (now (point [] clock_name 0) ≡ false) × (now (point [] user_clock_name 0) ≡ false)

-- one moment of a run: the top's inputs, and the clock that ticks at its end
pub record Moment : Type 0 where
  pub inputs : Assignment
  pub clock : List ℕ

-- A run over a set of points, from what flip-flops and latches hold at first to what they hold at last: in each moment a
-- settled assignment and then a tick, from what the moment before it left.
abbrev pub IsRunOn : (Point → Type 0) → List PlainModule → List Moment → (held after : Assignment) → Type 0
IsRunOn Has text [] held after = (p : Point) → Has p → after p ≡ held p
IsRunOn Has text (moment ∷ moments) held after =
    (now : Assignment) × (next : Assignment) × IsSettledOn Has text moment.inputs held now × AreClocksLow now
    × Ticks Has text moment.clock held now next × IsRunOn Has text moments next after
