-- The sides of the switch matrix.
use Rattle.std.proofs.Common.{◌≡◌, ℕ, ◌+◌, ◌<◌, zero, suc, Bool, true, false, List, [], ◌∷◌, ◌++◌, length, map, filter, take, get_or, refl, sym, ap, ◌∙◌, slice_range}
use Rattle.std.specs.List.{flat_map}
use Rattle.std.proofs.lemmas.List.{map-append, append-nil}
use Rattle.std.proofs.lemmas.List.Elements.{filter-append}
use Rattle.fab_kinds.specs.declared.kind.Kind.{Kind}
use Rattle.fab_kinds.specs.declared.kind.Kind.TheVariants as kinds
use Rattle.fab_kinds.specs.Pins.{input_names, output_names, pin_names, input_count, output_count}
use Rattle.fab_model.specs.declared.tiles.WireRow.{WireRow}
use Rattle.fab_model.specs.declared.tiles.Bel.{Bel}
use Rattle.fab_model.specs.Rows.{source_bits, dest_bits, bit_name}
use Rattle.fab_model.specs.Tiles.{TileWire, source_bit, dest_bit, counted, row_wires, bel_wires, wire_name}
use Rattle.fab_model.proofs.Inserts.{map_counted}
use Rattle.fab_gen_tile.specs.Names.{same_join}
use Rattle.fab_gen_tile.specs.TileModule.{is_on_side, side_names}
use Rattle.fab_gen_tile.proofs.Steps.{flat_more}

all_counted : {X : Type 0} (p : X → Bool) (n : ℕ) (f : ℕ → X) → ((i : ℕ) → p (f i) ≡ true) → filter p (counted n f) ≡ counted n f
unfolding counted
all_counted p zero f passes = refl
all_counted p (suc n) f passes = rw (passes 0) (ap (λ rest. f 0 ∷ rest) (all_counted p n (λ i. f (suc i)) (λ i. passes (suc i))))

none_counted : {X : Type 0} (p : X → Bool) (n : ℕ) (f : ℕ → X) → ((i : ℕ) → p (f i) ≡ false) → filter p (counted n f) ≡ []
unfolding counted
none_counted p zero f fails = refl
none_counted p (suc n) f fails = rw (fails 0) (none_counted p n (λ i. f (suc i)) (λ i. fails (suc i)))

-- the joins of a side of two lists of wires
pub side_joins_append : (output : Bool) (wires others : List TileWire) →
    map same_join (side_names output (wires ++ others)) ≡ map same_join (side_names output wires) ++ map same_join (side_names output others)
side_joins_append output wires others =
    ap (λ ws. map same_join (map wire_name ws)) (filter-append (is_on_side output) wires others)
    ∙ ap (map same_join) (map-append wire_name (filter (is_on_side output) wires) (filter (is_on_side output) others))
    ∙ map-append same_join (side_names output wires) (side_names output others)

joins_of_counted : (n : ℕ) (f : ℕ → TileWire) → map same_join (map wire_name (counted n f)) ≡ counted n (λ i. same_join (wire_name (f i)))
joins_of_counted n f = ap (map same_join) (map_counted wire_name n f) ∙ map_counted same_join n (λ i. wire_name (f i))

-- the source bits of a row are outputs of the matrix
pub row_outputs : (row : WireRow) → map same_join (side_names true (row_wires row)) ≡ counted (source_bits row) (λ bit. same_join (bit_name row.source bit))
row_outputs row =
    let sources = counted (source_bits row) (source_bit row) in
    let dests = counted (dest_bits row) (dest_bit row) in
    ap (λ ws. map same_join (map wire_name ws))
    (filter-append (is_on_side true) sources dests
    ∙ (λ j. all_counted (is_on_side true) (source_bits row) (source_bit row) (λ i. refl) j ++ none_counted (is_on_side true) (dest_bits row) (dest_bit row) (λ i. refl) j)
    ∙ append-nil sources)
    ∙ joins_of_counted (source_bits row) (source_bit row)

-- and its destination bits are inputs
pub row_inputs : (row : WireRow) → map same_join (side_names false (row_wires row)) ≡ counted (dest_bits row) (λ bit. same_join (bit_name row.dest bit))
row_inputs row =
    let sources = counted (source_bits row) (source_bit row) in
    let dests = counted (dest_bits row) (dest_bit row) in
    ap (λ ws. map same_join (map wire_name ws))
    (filter-append (is_on_side false) sources dests
    ∙ (λ j. none_counted (is_on_side false) (source_bits row) (source_bit row) (λ i. refl) j ++ all_counted (is_on_side false) (dest_bits row) (dest_bit row) (λ i. refl) j))
    ∙ joins_of_counted (dest_bits row) (dest_bit row)

inputs_of_kind : (kind : Kind) (prefix : List ℕ) → map same_join (side_names true (bel_wires (record { kind = kind; prefix = prefix })))
    ≡ map (λ pin. same_join (prefix ++ pin)) (slice_range (pin_names kind) 0 (input_count kind))
unfolding counted
inputs_of_kind kinds.Lut4c prefix = refl
inputs_of_kind kinds.Io prefix = refl
inputs_of_kind kinds.Mux8 prefix = refl

outputs_of_kind : (kind : Kind) (prefix : List ℕ) → map same_join (side_names false (bel_wires (record { kind = kind; prefix = prefix })))
    ≡ map (λ pin. same_join (prefix ++ pin)) (slice_range (pin_names kind) (input_count kind) (input_count kind + output_count kind))
unfolding counted
outputs_of_kind kinds.Lut4c prefix = refl
outputs_of_kind kinds.Io prefix = refl
outputs_of_kind kinds.Mux8 prefix = refl

-- the input pins of a BEL are outputs of the matrix
pub bel_outputs : (bel : Bel) → map same_join (side_names true (bel_wires bel))
    ≡ map (λ pin. same_join (bel.prefix ++ pin)) (slice_range (pin_names bel.kind) 0 (input_count bel.kind))
bel_outputs bel = inputs_of_kind bel.kind bel.prefix

-- and its output pins are inputs
pub bel_inputs : (bel : Bel) → map same_join (side_names false (bel_wires bel))
    ≡ map (λ pin. same_join (bel.prefix ++ pin)) (slice_range (pin_names bel.kind) (input_count bel.kind) (input_count bel.kind + output_count bel.kind))
bel_inputs bel = outputs_of_kind bel.kind bel.prefix

-- the pins of a kind by ranges of their numbers
pub ranges_of_pins : (kind : Kind) → (slice_range (pin_names kind) 0 (input_count kind) ≡ input_names kind)
    × (slice_range (pin_names kind) (input_count kind) (input_count kind + output_count kind) ≡ output_names kind)
ranges_of_pins kinds.Lut4c = (refl, refl)
ranges_of_pins kinds.Io = (refl, refl)
ranges_of_pins kinds.Mux8 = (refl, refl)

-- the joins of one part more
pub side_more : {X : Type 0} (output : Bool) (wires : X → List TileWire) (xs : List X) (i : ℕ) (d : X) → i < length xs →
    map same_join (side_names output (flat_map wires (take i xs))) ++ map same_join (side_names output (wires (get_or xs i d)))
    ≡ map same_join (side_names output (flat_map wires (take (i + 1) xs)))
side_more output wires xs i d within =
    sym (ap (λ ws. map same_join (side_names output ws)) (flat_more wires xs i d within)
    ∙ side_joins_append output (flat_map wires (take i xs)) (wires (get_or xs i d)))
