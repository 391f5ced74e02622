-- MUX8LUT: a tree of multiplexers over the inputs A to H, with the select pins S0 to S3. Two configuration bits, c0 and c1,
-- cut the tree into parts: multiplexers of two, of four or of eight inputs. `mux_table`, at the end, says what each output
-- selects.
use Rattle.std.specs.Prelude.{Bool, true, false, List, [], ◌∷◌, slice_index_or, if◌then◌else◌}
use Rattle.fab_bits.specs.Bits.{number}

-- its input pins
pub record MuxPins : Type 0 where
  pub a : Bool
  pub b : Bool
  pub c : Bool
  pub d : Bool
  pub e : Bool
  pub f : Bool
  pub g : Bool
  pub h : Bool
  pub s0 : Bool
  pub s1 : Bool
  pub s2 : Bool
  pub s3 : Bool

abbrev pub mux_pins : List Bool → MuxPins
mux_pins pins = record {
  a = slice_index_or pins 0 false;
  b = slice_index_or pins 1 false;
  c = slice_index_or pins 2 false;
  d = slice_index_or pins 3 false;
  e = slice_index_or pins 4 false;
  f = slice_index_or pins 5 false;
  g = slice_index_or pins 6 false;
  h = slice_index_or pins 7 false;
  s0 = slice_index_or pins 8 false;
  s1 = slice_index_or pins 9 false;
  s2 = slice_index_or pins 10 false;
  s3 = slice_index_or pins 11 false;
}

-- a multiplexer of two inputs
abbrev pub chosen : (first second select : Bool) → Bool
chosen first second select = if select then second else first

-- what the multiplexers of the tree that do not always have the same select pin select by
pub record MuxSelects : Type 0 where
  pub cd : Bool
  pub ef : Bool
  pub gh : Bool
  pub eh : Bool

abbrev pub mux_selects : (c0 c1 : Bool) → MuxPins → MuxSelects
mux_selects c0 c1 pins =
    let select_ef = chosen pins.s2 pins.s0 c1 in
    let select_eh = chosen pins.s3 pins.s1 c1 in
    record {
      cd = chosen pins.s1 pins.s0 c0;
      ef = select_ef;
      gh = chosen select_eh select_ef c0;
      eh = select_eh;
    }

-- the values of the multiplexers, each named by the first and the last input below it
pub record MuxTree : Type 0 where
  pub ab : Bool
  pub cd : Bool
  pub ef : Bool
  pub gh : Bool
  pub ad : Bool
  pub eh : Bool
  pub ah : Bool

abbrev pub mux_tree : MuxSelects → MuxPins → MuxTree
mux_tree selects pins =
    let tree_ab = chosen pins.a pins.b pins.s0 in
    let tree_cd = chosen pins.c pins.d selects.cd in
    let tree_ef = chosen pins.e pins.f selects.ef in
    let tree_gh = chosen pins.g pins.h selects.gh in
    let tree_ad = chosen tree_ab tree_cd pins.s1 in
    let tree_eh = chosen tree_ef tree_gh selects.eh in
    record {
      ab = tree_ab;
      cd = tree_cd;
      ef = tree_ef;
      gh = tree_gh;
      ad = tree_ad;
      eh = tree_eh;
      ah = chosen tree_ad tree_eh pins.s3;
    }

-- M_AB, M_AD, M_AH and M_EF
abbrev pub tree_outputs : (c0 c1 : Bool) → MuxTree → List Bool
tree_outputs c0 c1 tree =
    tree.ab ∷ chosen tree.cd tree.ad c0 ∷ chosen (chosen tree.gh tree.eh c0) tree.ah c1 ∷ tree.ef ∷ []

abbrev pub mux_outputs : (pins config : List Bool) → List Bool
mux_outputs pins config =
    let c0 = slice_index_or config 0 false in
    let c1 = slice_index_or config 1 false in
    tree_outputs c0 c1 (mux_tree (mux_selects c0 c1 (mux_pins pins)) (mux_pins pins))

-- ---- what the tree is for

-- a multiplexer of any number of inputs; its select bits stand with the least significant first
abbrev pub selected : (inputs selects : List Bool) → Bool
selected inputs selects = slice_index_or inputs (number selects) false

-- M_AB, M_AD, M_AH and M_EF under each setting
abbrev pub mux_table : (c1 c0 : Bool) → MuxPins → List Bool
-- four multiplexers of two inputs
mux_table false false pins =
    selected (pins.a ∷ pins.b ∷ []) (pins.s0 ∷ [])
    ∷ selected (pins.c ∷ pins.d ∷ []) (pins.s1 ∷ [])
    ∷ selected (pins.g ∷ pins.h ∷ []) (pins.s3 ∷ [])
    ∷ selected (pins.e ∷ pins.f ∷ []) (pins.s2 ∷ [])
    ∷ []
-- two of four inputs, each beside its lower half
mux_table false true pins =
    selected (pins.a ∷ pins.b ∷ []) (pins.s0 ∷ [])
    ∷ selected (pins.a ∷ pins.b ∷ pins.c ∷ pins.d ∷ []) (pins.s0 ∷ pins.s1 ∷ [])
    ∷ selected (pins.e ∷ pins.f ∷ pins.g ∷ pins.h ∷ []) (pins.s2 ∷ pins.s3 ∷ [])
    ∷ selected (pins.e ∷ pins.f ∷ []) (pins.s2 ∷ [])
    ∷ []
-- one of eight inputs, beside parts of it
mux_table true true pins =
    selected (pins.a ∷ pins.b ∷ []) (pins.s0 ∷ [])
    ∷ selected (pins.a ∷ pins.b ∷ pins.c ∷ pins.d ∷ []) (pins.s0 ∷ pins.s1 ∷ [])
    ∷ selected (pins.a ∷ pins.b ∷ pins.c ∷ pins.d ∷ pins.e ∷ pins.f ∷ pins.g ∷ pins.h ∷ []) (pins.s0 ∷ pins.s1 ∷ pins.s3 ∷ [])
    ∷ selected (pins.e ∷ pins.f ∷ []) (pins.s0 ∷ [])
    ∷ []
-- three of two inputs, and one of eight to which C and G do not come: S1 leads to the upper pair and to its upper input
mux_table true false pins =
    selected (pins.a ∷ pins.b ∷ []) (pins.s0 ∷ [])
    ∷ selected (pins.c ∷ pins.d ∷ []) (pins.s1 ∷ [])
    ∷ selected (pins.a ∷ pins.b ∷ pins.d ∷ pins.d ∷ pins.e ∷ pins.f ∷ pins.h ∷ pins.h ∷ []) (pins.s0 ∷ pins.s1 ∷ pins.s3 ∷ [])
    ∷ selected (pins.e ∷ pins.f ∷ []) (pins.s0 ∷ [])
    ∷ []
