-- Which wires of a tile its switch matrix drives, part by part.
use Rattle.std.proofs.Common.{◌≡◌, ℕ, zero, suc, ◌+◌, ◌<◌, Bool, true, false, List, [], ◌∷◌, ◌++◌, map, length, take, get_or, replicate, refl, sym, ap, ◌∙◌}
use Rattle.std.specs.List.{flat_map}
use Rattle.std.proofs.lemmas.List.{map-append, take_more}
use Rattle.std.proofs.lemmas.Grind.{flat_map-append}
use Rattle.std.proofs.lemmas.List.{append-nil, append_assoc}
use Rattle.fab_kinds.specs.declared.kind.Kind.{Kind}
use Rattle.fab_kinds.specs.declared.kind.Kind.TheVariants as kinds
use Rattle.fab_kinds.specs.Pins.{input_count, output_count}
use Rattle.fab_model.specs.declared.tiles.WireRow.{WireRow}
use Rattle.fab_model.specs.declared.tiles.Bel.{Bel}
use Rattle.fab_model.specs.Rows.{source_bits, dest_bits}
use Rattle.fab_model.specs.Tiles.{TileWire, source_bit, dest_bit, counted, row_wires, bel_wires, is_matrix_output}

all_same : {X : Type 0} (test : X → Bool) (b : Bool) (n : ℕ) (f : ℕ → X) → ((i : ℕ) → test (f i) ≡ b) → map test (counted n f) ≡ replicate n b
unfolding counted
all_same test b zero f same = refl
all_same test b (suc n) f same = (λ j. same 0 j ∷ all_same test b n (λ i. f (suc i)) (λ i. same (suc i)) j)

pub row_marks : (row : WireRow) → map is_matrix_output (row_wires row) ≡ replicate (source_bits row) true ++ replicate (dest_bits row) false
row_marks row =
    map-append is_matrix_output (counted (source_bits row) (source_bit row)) (counted (dest_bits row) (dest_bit row))
    ∙ (λ j. all_same is_matrix_output true (source_bits row) (source_bit row) (λ i. refl) j ++ all_same is_matrix_output false (dest_bits row) (dest_bit row) (λ i. refl) j)

kind_marks : (kind : Kind) (prefix : List ℕ) → map is_matrix_output (bel_wires (record { kind = kind; prefix = prefix })) ≡ replicate (input_count kind) true ++ replicate (output_count kind) false
unfolding counted
kind_marks kinds.Lut4c prefix = refl
kind_marks kinds.Io prefix = refl
kind_marks kinds.Mux8 prefix = refl

pub bel_marks : (bel : Bel) → map is_matrix_output (bel_wires bel) ≡ replicate (input_count bel.kind) true ++ replicate (output_count bel.kind) false
bel_marks bel = kind_marks bel.kind bel.prefix

-- those of one part more
pub marks_more : {X : Type 0} (wires : X → List TileWire) (xs : List X) (i : ℕ) (d : X) → i < length xs →
    map is_matrix_output (flat_map wires (take (i + 1) xs)) ≡ map is_matrix_output (flat_map wires (take i xs)) ++ map is_matrix_output (wires (get_or xs i d))
marks_more wires xs i d within =
    ap (λ ys. map is_matrix_output (flat_map wires ys)) (take_more xs i d within)
    ∙ ap (map is_matrix_output) (flat_map-append wires (take i xs) (get_or xs i d ∷ []) ∙ ap (λ l. flat_map wires (take i xs) ++ l) (append-nil (wires (get_or xs i d))))
    ∙ map-append is_matrix_output (flat_map wires (take i xs)) (wires (get_or xs i d))

-- source bits or input pins that are driven, and the other wires of the part
pub part_marked : {X : Type 0} (wires : X → List TileWire) (xs : List X) (i : ℕ) (x : X) (old now mid new : List Bool) (a b : ℕ) → i < length xs → get_or xs i x ≡ x →
    map is_matrix_output (wires x) ≡ replicate a true ++ replicate b false → now ≡ old ++ map is_matrix_output (flat_map wires (take i xs)) → mid ≡ now ++ replicate a true → new ≡ mid ++ replicate b false →
    new ≡ old ++ map is_matrix_output (flat_map wires (take (i + 1) xs))
part_marked wires xs i x old now mid new a b within here marks so_far first second =
    let before = map is_matrix_output (flat_map wires (take i xs)) in
    second ∙ ap (λ l. l ++ replicate b false) first ∙ append_assoc now (replicate a true) (replicate b false)
    ∙ ap (λ l. now ++ l) (sym marks) ∙ ap (λ l. l ++ map is_matrix_output (wires x)) so_far ∙ append_assoc old before (map is_matrix_output (wires x))
    ∙ ap (λ l. old ++ l) (ap (λ z. before ++ map is_matrix_output (wires z)) (sym here) ∙ sym (marks_more wires xs i x within))

pub row_marked : (row : WireRow) (a b : ℕ) → a ≡ source_bits row → b ≡ dest_bits row → map is_matrix_output (row_wires row) ≡ replicate a true ++ replicate b false
row_marked row a b first second = rw (first, second) (row_marks row)

pub bel_marked : (bel : Bel) (a b : ℕ) → a ≡ input_count bel.kind → b ≡ output_count bel.kind → map is_matrix_output (bel_wires bel) ≡ replicate a true ++ replicate b false
bel_marked bel a b first second = rw (first, second) (bel_marks bel)
