-- The ports of the modules of BELs, and how a tile joins them.
use Rattle.std.proofs.Common.{◌≡◌, ℕ, zero, suc, ◌+◌, ◌<◌, ◌≤◌, Bool, true, false, List, [], ◌∷◌, ◌++◌, length, map, take, sum_by, slice_get, get_or, refl, ap, inl, inr, arith, Some, All, Contains}
use Rattle.std.specs.Str.{bytes_eq}
use Rattle.std.proofs.lemmas.Bool.{cases_Bool}
use Rattle.std.proofs.lemmas.List.Elements.{All-map, All-contains, Contains-append_left, Contains-append_right}
use Rattle.std.proofs.lemmas.List.Sums.{sum_by-cons}
use Rattle.std.proofs.lemmas.Slice.Eq.{bytes_eq-Decides}
use Rattle.fab_kinds.specs.declared.kind.Kind.{Kind}
use Rattle.fab_kinds.specs.declared.kind.Kind.TheVariants as kinds
use Rattle.fab_kinds.specs.Pins.{input_names, output_names, bit_count}
use Rattle.fab_kinds.specs.Kinds.{output_of}
use Rattle.fab_gen_tile.specs.fab_syntax.specs.declared.tree.Port.{Port}
use Rattle.fab_gen_tile.specs.fab_syntax.specs.declared.tree.Shape.TheVariants.{Scalar}
use Rattle.fab_gen_tile.specs.fab_syntax.specs.Plain.{PlainJoin, PlainItem}
use Rattle.fab_gen_tile.specs.fab_syntax.specs.Declarations.{declared_width, is_input}
use Rattle.fab_gen_tile.specs.fab_meaning.proofs.Declared.{width_of_scalar}
use Rattle.fab_gen_tile.specs.fab_meaning.proofs.Modules.{each_all}
use Rattle.fab_gen_tile.specs.fab_meaning.specs.Ports.{scalar, config_name}
use Rattle.fab_gen_tile.specs.fab_model.specs.declared.tiles.Bel.{Bel}
use Rattle.fab_gen_tile.specs.fab_prim.specs.Ports.{clock_names, top_name, top_inputs, top_outputs}
use Rattle.fab_gen_tile.specs.fab_prim.specs.Modules.{module_of_kind}
use Rattle.fab_gen_tile.specs.Names.{same_join}
use Rattle.fab_gen_tile.specs.fab_model.specs.Tiles.{bits_before}
use Rattle.fab_gen_tile.specs.TileModule.{bits_join, pin_join, pad_join, bel_joins}
use Rattle.fab_tile_drives_laws.proofs.Members.{contains_map}
use Rattle.fab_tile_drives_laws.proofs.Driven.{width_of}

-- ---- ports that come first

input_at : (names : List (List ℕ)) (ports : List Port) (name : List ℕ) (k : ℕ) → k < length names → get_or names k name ≡ name → is_input (map (scalar true) names ++ ports) name ≡ true
input_at [] ports name k few is = absurd (omega arith)
input_at (first ∷ names) ports name zero few is =
    let here : bytes_eq first name ≡ true = (bytes_eq-Decides first name).1 is in
    rw here refl
input_at (first ∷ names) ports name (suc k) few is =
    elim (cases_Bool (bytes_eq first name)) [
      | inl t ↦ rw t refl
      | inr f ↦ rw f (input_at names ports name k (omega arith) is)
    ]

-- a name among the first inputs is an input
pub first_input : (names : List (List ℕ)) (ports : List Port) (name : List ℕ) → Contains names name → is_input (map (scalar true) names ++ ports) name ≡ true
first_input names ports name there = input_at names ports name there.0 there.1 there.2

-- and one bit wide
pub first_width : (names : List (List ℕ)) (ports : List Port) (items : List PlainItem) (name : List ℕ) → Contains names name →
    declared_width (map (scalar true) names ++ ports) items name ≡ 1
first_width names ports items name there =
    width_of_scalar (map (scalar true) names) ports items name (All-map (λ (port : Port). port.shape ≡ Scalar) (scalar true) names (λ k d few. refl))
    (contains_map (λ (port : Port). port.name) (map (scalar true) names) (scalar true name) (contains_map (scalar true) names name there))

-- ---- ports of BELs

pub config_input : (kind : Kind) → 0 < bit_count kind → is_input (module_of_kind kind).ports config_name ≡ true
config_input kinds.Lut4c some = refl
config_input kinds.Io some = absurd (omega arith)
config_input kinds.Mux8 some = refl

pub config_width : (kind : Kind) → 0 < bit_count kind → width_of (module_of_kind kind) config_name ≡ bit_count kind
config_width kinds.Lut4c some = refl
config_width kinds.Io some = absurd (omega arith)
config_width kinds.Mux8 some = refl

abbrev pub IsNoInput : Kind → List ℕ → Type 0
IsNoInput kind name = is_input (module_of_kind kind).ports name ≡ false

pub outputs_are_outputs : (kind : Kind) → All (IsNoInput kind) (output_names kind)
outputs_are_outputs kinds.Lut4c = each_all (IsNoInput kinds.Lut4c) (output_names kinds.Lut4c) (refl, (refl, tt))
outputs_are_outputs kinds.Io = each_all (IsNoInput kinds.Io) (output_names kinds.Io) (refl, (refl, tt))
outputs_are_outputs kinds.Mux8 = each_all (IsNoInput kinds.Mux8) (output_names kinds.Mux8) (refl, (refl, (refl, (refl, tt))))

-- what comes from outside is a port of the pad
record IsTopPort (kind : Kind) (name : List ℕ) : Type 0 where
  input : is_input (module_of_kind kind).ports name ≡ true
  width : width_of (module_of_kind kind) name ≡ 1

top_ports : (kind : Kind) (name : List ℕ) → Contains (top_inputs kind) name → IsTopPort kind name
top_ports kinds.Lut4c name there = absurd (omega (arith, there.1))
top_ports kinds.Io name there =
    All-contains (IsTopPort kinds.Io) (top_inputs kinds.Io) name (each_all (IsTopPort kinds.Io) (top_inputs kinds.Io) (record { input = refl; width = refl }, tt)) there
top_ports kinds.Mux8 name there = absurd (omega (arith, there.1))

pub top_input : (kind : Kind) (name : List ℕ) → Contains (top_inputs kind) name → is_input (module_of_kind kind).ports name ≡ true
top_input kind name there = (top_ports kind name there).input

pub top_width : (kind : Kind) (name : List ℕ) → Contains (top_inputs kind) name → width_of (module_of_kind kind) name ≡ 1
top_width kind name there = (top_ports kind name there).width

-- only what is a port from outside matters
pub top_matters : (kind : Kind) (pin : ℕ) (pins config : List Bool) (held : Bool) (top other : Bool) → (Contains (top_inputs kind) top_name → top ≡ other) →
    output_of kind pin pins config held top ≡ output_of kind pin pins config held other
top_matters kinds.Lut4c pin pins config held top other same = refl
top_matters kinds.Io pin pins config held top other same = ap (output_of kinds.Io pin pins config held) (same (0, omega arith, refl))
top_matters kinds.Mux8 pin pins config held top other same = refl

-- ---- joins of BELs

module _ (place low : ℕ) (bel : Bel) where
  abbrev inputs : List PlainJoin
  inputs = map (pin_join bel) (input_names bel.kind)

  abbrev clocks : List PlainJoin
  clocks = map same_join (clock_names bel.kind)

  abbrev config : List PlainJoin
  config = bits_join low (bit_count bel.kind)

  abbrev tops : List PlainJoin
  tops = map (pad_join place) (top_inputs bel.kind)

  abbrev outputs : List PlainJoin
  outputs = map (pin_join bel) (output_names bel.kind)

  abbrev to_outside : List PlainJoin
  to_outside = map (pad_join place) (top_outputs bel.kind)

  pub input_joined : (pin : List ℕ) → Contains (input_names bel.kind) pin → Contains (bel_joins place low bel) (pin_join bel pin)
  input_joined pin there =
      Contains-append_left inputs (clocks ++ (config ++ (tops ++ (outputs ++ to_outside)))) (pin_join bel pin) (contains_map (pin_join bel) (input_names bel.kind) pin there)

  pub config_joined : (join : PlainJoin) → Contains (bits_join low (bit_count bel.kind)) join → Contains (bel_joins place low bel) join
  config_joined join there =
      Contains-append_right inputs (clocks ++ (config ++ (tops ++ (outputs ++ to_outside)))) join
      (Contains-append_right clocks (config ++ (tops ++ (outputs ++ to_outside))) join
      (Contains-append_left config (tops ++ (outputs ++ to_outside)) join there))

  pub top_joined : (port : List ℕ) → Contains (top_inputs bel.kind) port → Contains (bel_joins place low bel) (pad_join place port)
  top_joined port there =
      let join = pad_join place port in
      Contains-append_right inputs (clocks ++ (config ++ (tops ++ (outputs ++ to_outside)))) join
      (Contains-append_right clocks (config ++ (tops ++ (outputs ++ to_outside))) join
      (Contains-append_right config (tops ++ (outputs ++ to_outside)) join
      (Contains-append_left tops (outputs ++ to_outside) join (contains_map (pad_join place) (top_inputs bel.kind) port there))))

  pub output_joined : (pin : List ℕ) → Contains (output_names bel.kind) pin → Contains (bel_joins place low bel) (pin_join bel pin)
  output_joined pin there =
      let join = pin_join bel pin in
      Contains-append_right inputs (clocks ++ (config ++ (tops ++ (outputs ++ to_outside)))) join
      (Contains-append_right clocks (config ++ (tops ++ (outputs ++ to_outside))) join
      (Contains-append_right config (tops ++ (outputs ++ to_outside)) join
      (Contains-append_right tops (outputs ++ to_outside) join
      (Contains-append_left outputs to_outside join (contains_map (pin_join bel) (output_names bel.kind) pin there)))))

-- ---- counts

-- the bits of a BEL lie within those of all
pub bits_within : (bels : List Bel) (place : ℕ) (found : Bel) → slice_get bels place ≡ Some found →
    bits_before bels place + bit_count found.kind ≤ sum_by (λ bel. bit_count bel.kind) bels
bits_within [] place found there = cc
bits_within (bel ∷ bels) zero found there =
    let same : bel ≡ found = cc in
    let count : bit_count bel.kind ≡ bit_count found.kind = ap (λ (b : Bel). bit_count b.kind) same in
    omega (arith, sum_by-cons (λ (b : Bel). bit_count b.kind) bel bels)
bits_within (bel ∷ bels) (suc place) found there =
    let rest : bits_before bels place + bit_count found.kind ≤ sum_by (λ (b : Bel). bit_count b.kind) bels = bits_within bels place found there in
    omega (arith, sum_by-cons (λ (b : Bel). bit_count b.kind) bel bels, sum_by-cons (λ (b : Bel). bit_count b.kind) bel (take place bels))
