-- What the outputs of a BEL show and what its flip-flop holds next. `pins` are the values of its input pins and `config` its
-- configuration bits, both in their order; `held` is what its flip-flop holds, and `top` what comes from the outside of a pad.
use Rattle.std.specs.Prelude.{ℕ, ◌-◌, Bool, true, false, List, slice_index_or}
use Rattle.fab_kinds.specs.declared.kind.Kind.{Kind}
use Rattle.fab_kinds.specs.declared.kind.Kind.TheVariants as kinds
use Rattle.fab_kinds.specs.Pins.{input_count}
use Rattle.fab_kinds.specs.Lut.{lut_pins, lut_settings, lut_outputs, lut_next}
use Rattle.fab_kinds.specs.Pad.{pad_outputs, pad_next}
use Rattle.fab_kinds.specs.Mux.{mux_outputs}

-- the values of the output pins, in their order
abbrev pub outputs_of : Kind → (pins config : List Bool) → (held top : Bool) → List Bool
outputs_of kinds.Lut4c pins config held top = lut_outputs pins config held
outputs_of kinds.Io pins config held top = pad_outputs held top
outputs_of kinds.Mux8 pins config held top = mux_outputs pins config

-- the value of an output pin, whose number counts the inputs first
abbrev pub output_of : Kind → (pin : ℕ) → (pins config : List Bool) → (held top : Bool) → Bool
output_of kind pin pins config held top = slice_index_or (outputs_of kind pins config held top) (pin - input_count kind) false

abbrev pub has_flip_flop : Kind → Bool
has_flip_flop kinds.Lut4c = true
has_flip_flop kinds.Io = true
has_flip_flop kinds.Mux8 = false

-- the next value of the flip-flop, at a clock; there is nothing to change without one
abbrev pub next_of : Kind → (pins config : List Bool) → (held top : Bool) → Bool
next_of kinds.Lut4c pins config held top = lut_next (lut_settings config) (lut_pins pins) held
next_of kinds.Io pins config held top = pad_next top
next_of kinds.Mux8 pins config held top = held
