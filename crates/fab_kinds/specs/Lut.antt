-- LUT4c: a look-up table of four inputs, with a carry and a flip-flop.
use Rattle.std.specs.Prelude.{ℕ, Bool, false, List, [], ◌∷◌, slice_index_or, count_by, nat_le, if◌then◌else◌}
use Rattle.fab_bits.specs.Bits.{number}

-- its input pins
pub record LutPins : Type 0 where
  pub i0 : Bool
  pub i1 : Bool
  pub i2 : Bool
  pub i3 : Bool
  pub carry_in : Bool
  pub reset : Bool
  pub enable : Bool

abbrev pub lut_pins : List Bool → LutPins
lut_pins pins = record {
  i0 = slice_index_or pins 0 false;
  i1 = slice_index_or pins 1 false;
  i2 = slice_index_or pins 2 false;
  i3 = slice_index_or pins 3 false;
  carry_in = slice_index_or pins 4 false;
  reset = slice_index_or pins 5 false;
  enable = slice_index_or pins 6 false;
}

-- what its configuration bits say
pub record LutSettings : Type 0 where
  -- bits 0 to 15: the bit at each index
  pub table : ℕ → Bool
  -- bit 16: O shows the flip-flop and not the table
  pub registered : Bool
  -- bit 17: the carry stands in the place of I0
  pub chained : Bool
  -- bit 18: what a reset gives
  pub reset_value : Bool

abbrev pub lut_settings : List Bool → LutSettings
lut_settings config = record {
  table = λ index. slice_index_or config index false;
  registered = slice_index_or config 16 false;
  chained = slice_index_or config 17 false;
  reset_value = slice_index_or config 18 false;
}

-- the bits of the index, the least significant first
abbrev pub lut_index_bits : LutSettings → LutPins → List Bool
lut_index_bits settings pins = (if settings.chained then pins.carry_in else pins.i0) ∷ pins.i1 ∷ pins.i2 ∷ pins.i3 ∷ []

-- the table at the index
abbrev pub lut_value : LutSettings → LutPins → Bool
lut_value settings pins = settings.table (number (lut_index_bits settings pins))

-- O
abbrev pub lut_output : LutSettings → LutPins → (held : Bool) → Bool
lut_output settings pins held = if settings.registered then held else lut_value settings pins

-- whether at least two of three bits are 1
abbrev pub at_least_two : Bool → Bool → Bool → Bool
at_least_two first second third = nat_le 2 (count_by (λ bit. bit) (first ∷ second ∷ third ∷ []))

-- Co
abbrev pub lut_carry : LutPins → Bool
lut_carry pins = at_least_two pins.carry_in pins.i1 pins.i2

-- What the flip-flop holds next: without EN it keeps its value, and with EN the reset goes before the table.
abbrev pub lut_next : LutSettings → LutPins → (held : Bool) → Bool
lut_next settings pins held =
    if pins.enable then (if pins.reset then settings.reset_value else lut_value settings pins) else held

-- O and Co
abbrev pub lut_outputs : (pins config : List Bool) → (held : Bool) → List Bool
lut_outputs pins config held = lut_output (lut_settings config) (lut_pins pins) held ∷ lut_carry (lut_pins pins) ∷ []
