-- What the module of a primitive does, wherever it stands in a text.
use Rattle.std.specs.Prelude.{◌≡◌, ℕ, ◌≤◌, Bool, true, false, List, [], ◌∷◌, map, slice_get, Some}
use Rattle.fab_meaning.specs.fab_bits.specs.Bits.{first_bits}
use Rattle.fab_kinds.specs.declared.kind.Kind.{Kind}
use Rattle.fab_kinds.specs.declared.kind.Kind.TheVariants as kinds
use Rattle.fab_kinds.specs.Pins.{input_names, input_count, pin_names, bit_count}
use Rattle.fab_kinds.specs.Kinds.{output_of, has_flip_flop, next_of}
use Rattle.fab_kinds.specs.Pad.{i_top, t_top}
use Rattle.fab_syntax.specs.Plain.{PlainExpr, PlainModule}
use Rattle.fab_meaning.specs.Value.{value, bit_at}
use Rattle.fab_syntax.specs.Declarations.{is_input_of}
use Rattle.fab_meaning.specs.Points.{Path, Point, point, flop, Drives, module_at}
use Rattle.fab_meaning.specs.Settled.{Assignment, names_at, IsSettledOn}
use Rattle.fab_meaning.specs.Reads.{is_declared}
use Rattle.fab_meaning.specs.Runs.{user_clock_name}
use Rattle.fab_meaning.specs.Ports.{config_name}
use Rattle.fab_prim.specs.Ports.{top_name, top_outputs}
use Rattle.fab_prim.specs.Modules.{flip_flop_name}

-- a point of the instance at a path that is no input of it
pub record IsOwnPoint (text : List PlainModule) (path : Path) (p : Point) : Type 0 where
  pub here : p.path ≡ path
  pub declared : is_declared text p ≡ true
  pub no_input : is_input_of (module_at text path) p.name ≡ false

-- the values of names of one bit
abbrev pub values_at : Assignment → Path → List (List ℕ) → List Bool
values_at now path names = map (λ name. now (point path name 0)) names

-- ---- what comes to an instance, and what it holds

abbrev pub pin_values : Kind → Assignment → Path → List Bool
pin_values kind now path = values_at now path (input_names kind)

abbrev pub config_values : Kind → Assignment → Path → List Bool
config_values kind now path = first_bits (bit_count kind) (λ bit. now (point path config_name bit))

abbrev pub top_value : Assignment → Path → Bool
top_value now path = now (point path top_name 0)

abbrev pub held_value : (held : Assignment) → Path → Bool
held_value held path = held (point path flip_flop_name 0)

-- ---- what it does

-- what a pad gives to the outside, in the order of its ports
abbrev pub top_output_values : Kind → (pins : List Bool) → List Bool
top_output_values kinds.Lut4c pins = []
top_output_values kinds.Io pins = i_top pins ∷ t_top pins ∷ []
top_output_values kinds.Mux8 pins = []

-- the flip-flop of an instance takes a value at a tick of UserCLK
pub record FlipFlopTakes (text : List PlainModule) (path : Path) (now : Assignment) (next_value : Bool) : Type 0 where
  pub next : PlainExpr
  pub drives : Drives text (point path flip_flop_name 0) (flop path user_clock_name next 0)
  pub gives : bit_at (value (names_at text now path) next) 0 ≡ next_value

-- an instance behaves as its kind says
pub record BehavesAs (kind : Kind) (text : List PlainModule) (path : Path) (held now : Assignment) : Type 0 where
  pub outputs : (pin : ℕ) (name : List ℕ) → input_count kind ≤ pin → slice_get (pin_names kind) pin ≡ Some name →
      now (point path name 0)
      ≡ output_of kind pin (pin_values kind now path) (config_values kind now path) (held_value held path) (top_value now path)
  pub next : has_flip_flop kind ≡ true →
      FlipFlopTakes text path now (next_of kind (pin_values kind now path) (config_values kind now path) (held_value held path) (top_value now path))
  pub to_outside : values_at now path (top_outputs kind) ≡ top_output_values kind (pin_values kind now path)

-- Wherever the module stands in a text, in each assignment that is settled on the points of its instance that are no inputs, the
-- instance behaves as the kind says.
abbrev pub PrimitiveWorks : Kind → PlainModule → Type 0
PrimitiveWorks kind m =
    (text : List PlainModule) (path : Path) (inputs held now : Assignment) → module_at text path ≡ Some m →
    IsSettledOn (IsOwnPoint text path) text inputs held now → BehavesAs kind text path held now
