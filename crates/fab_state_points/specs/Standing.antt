-- Where a state stands in a text, and why it does not.
use Rattle.std.specs.Prelude.{◌≡◌, ◌⊎◌, ℕ, ◌+◌, ◌<◌, List, [], length, slice_get, Option, None, Some}
use Rattle.fab_base.specs.Reading.{fault_at}
use Rattle.fab_base.specs.declared.fault.Fault.{Fault}
use Rattle.fab_base.specs.declared.fault.Fault.TheVariants as faults
use Rattle.fab_base.specs.declared.problem.Problem.TheVariants as problems
use Rattle.fab_base.specs.declared.words.Reason.TheVariants as reasons
use Rattle.fab_syntax.specs.Plain.{PlainModule}
use Rattle.fab_syntax.specs.declared.tree.Shape.{Shape}
use Rattle.fab_syntax.specs.declared.tree.Shape.TheVariants.{Scalar, Vector}
use Rattle.fab_meaning.specs.Runs.{clock_name, user_clock_name}
use Rattle.fab_meaning.specs.Loading.{write_data_name, write_strobe_name}
use Rattle.fab_values.specs.Declarations.{width}
use Rattle.fab_values.specs.declared.names.Role.TheVariants as roles
use Rattle.fab_state.specs.Plain.{PlainState}
use Rattle.fab_equations.specs.Equations.{IsPoint}
use Rattle.fab_state_points.specs.Finding.{AreBits, IsDeclared}
use Rattle.fab_state_points.specs.Entries.{entries_of, entry_point, HasEntry, in_entries, out_entries, reason_of, register_entries}
use Rattle.fab_state_points.specs.declared.entry.Entry.{Entry}
use Rattle.fab_state_points.specs.declared.points.DataPoints.{DataPoints}
use Rattle.fab_state_points.specs.declared.points.DataPoints.TheVariants.{Bit, Word}
use Rattle.fab_state_points.specs.declared.points.Stream.{Stream}
use Rattle.fab_state_points.specs.declared.points.StatePoints.{StatePoints}

-- words come whole, or bit by bit
abbrev pub IsDataShape : Shape → Type 0
IsDataShape Scalar = Unit {0}
IsDataShape (Vector n) = n ≡ 32

-- The two clocks and the inputs that carry words.
pub record HasStream (text : List PlainModule) : Type 0 where
  pub loader : IsDeclared text [] clock_name Scalar roles.Input
  pub user : IsDeclared text [] user_clock_name Scalar roles.Input
  pub strobe : IsDeclared text [] write_strobe_name Scalar roles.Input
  pub shape : Shape
  pub is_data : IsDataShape shape
  pub words : IsDeclared text [] write_data_name shape roles.Input

-- the shape of the input that has these points, their number, and the first of them
abbrev pub data_shape : DataPoints → Shape
data_shape (Bit point) = Scalar
data_shape (Word first) = Vector 32

abbrev pub data_width : DataPoints → ℕ
data_width carrier = width (data_shape carrier)

abbrev pub first_data : DataPoints → ℕ
first_data (Bit point) = point
first_data (Word first) = first

-- the points of WriteData
pub record AreDataPoints (text : List PlainModule) (carrier : DataPoints) : Type 0 where
  pub declared : IsDeclared text [] write_data_name (data_shape carrier) roles.Input
  pub bits : AreBits text [] write_data_name (data_shape carrier) (first_data carrier)

-- the same, or that WriteData can carry no words
abbrev pub AreFoundData : List PlainModule → Option DataPoints → Type 0
AreFoundData text None = (shape : Shape) → IsDataShape shape → ¬ IsDeclared text [] write_data_name shape roles.Input
AreFoundData text (Some carrier) = AreDataPoints text carrier

-- the points of the inputs that carry words
pub record IsStreamAt (text : List PlainModule) (stream : Stream) : Type 0 where
  pub strobe : AreBits text [] write_strobe_name Scalar stream.strobe
  pub words : AreDataPoints text stream.carrier

-- the same, or that the top lacks one of these inputs
abbrev pub IsFoundStream : List PlainModule → Option Stream → Type 0
IsFoundStream text None = ¬ HasStream text
IsFoundStream text (Some stream) = HasStream text × IsStreamAt text stream

-- ---- the lines of a state

-- each line has its point, of the number in its place
pub record AreAt (text : List PlainModule) (lines : List Entry) (numbers : List ℕ) : Type 0 where
  pub long : length numbers ≡ length lines
  pub each : (place : ℕ) (entry : Entry) (number : ℕ) → slice_get lines place ≡ Some entry → slice_get numbers place ≡ Some number →
      HasEntry text entry × IsPoint text number (entry_point entry)

pub record StandsAt (text : List PlainModule) (state : PlainState) (points : StatePoints) : Type 0 where
  pub has : HasStream text
  pub stream : IsStreamAt text points.stream
  pub ins : AreAt text (in_entries state.ins) points.ins.items
  pub outs : AreAt text (out_entries state.outs) points.outs.items
  pub ffs : AreAt text (register_entries state.ffs) points.ffs.items

-- ---- refusals

-- The first line that has no point, where so many entries stand before these lines. Entries are counted from 1, and the first is the header.
pub record IsFirstAbsent (text : List PlainModule) (file : List ℕ) (before : ℕ) (lines : List Entry) (fault : Fault) : Type 0 where
  pub place : ℕ
  pub entry : Entry
  pub is : slice_get lines place ≡ Some entry
  pub absent : ¬ HasEntry text entry
  pub earlier : (other : ℕ) (found : Entry) → other < place → slice_get lines other ≡ Some found → HasEntry text found
  pub fault_is : fault ≡ fault_at file (before + place + 1) (problems.Malformed (reason_of entry))

-- A text without a stream is refused at the header, and any other one at the first line of the state that has no point.
abbrev pub IsRefusedState : (file : List ℕ) → List PlainModule → PlainState → Fault → Type 0
IsRefusedState file text state fault =
    (fault ≡ faults.Memory)
    ⊎ (((¬ HasStream text) × (fault ≡ fault_at file 1 (problems.Malformed reasons.NoPort)))
    ⊎ (HasStream text × IsFirstAbsent text file 1 (entries_of state) fault))
