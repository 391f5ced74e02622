-- The text of a sample's netlist is that of its items.
use Rattle.std.proofs.Common.{◌≡◌, ℕ, zero, suc, ◌+◌, ◌-◌, ◌*◌, ◌≤◌, List, [], ◌∷◌, ◌++◌, map, codes, refl, sym, ap, ◌∙◌, inl, inr, arith, append_assoc}
use Rattle.std.specs.List.{flat_map, range_with_len, enumerate_from}
use Rattle.std.proofs.lemmas.Bool.{cases_Bool}
use Rattle.std.proofs.lemmas.List.{map-append}
use Rattle.std.proofs.lemmas.List.Concat.{flat_map-append}
use Rattle.fab_sample.specs.declared.design.Cover.{Cover}
use Rattle.fab_sample.specs.declared.design.Latch.{Latch}
use Rattle.fab_sample.specs.declared.net.Net.TheVariants as nets
use Rattle.fab_sample.specs.Lines.{Line, text, words}
use Rattle.fab_sample.specs.Netlists.{net_name, bit_of, on_row, row_if_on, cover_lines, latch_line, output_lines, digit, all_cover_lines, all_latch_lines, all_output_lines, netlist_lines}
use Rattle.fab_sample_laws.specs.Items.{Row, row_line, rows_text, Item, pattern_row, item_rows}
use Rattle.fab_sample_laws.specs.Samples.{pattern_if_on, cover_item, latch_item, output_item, sample_items, input_words, output_words, sample_rows}

abbrev item_lines : Item → List Line
item_lines item = map row_line (item_rows item)

rows_of_table : (table : ℕ) (all : List ℕ) → map row_line (map pattern_row (flat_map (pattern_if_on table) all)) ≡ flat_map (row_if_on table) all
rows_of_table table [] = refl
rows_of_table table (spelled ∷ all) = elim (cases_Bool (bit_of table spelled)) [
  | inl t ↦ rw t (ap (λ (l : List Line). on_row spelled ∷ l) (rows_of_table table all))
  | inr f ↦ rw f (rows_of_table table all)
]

cover_text : (it : ℕ × Cover) → item_lines (cover_item it) ≡ cover_lines it.0 it.1
cover_text it =
    let line : Line = row_line (codes ".names" ∷ net_name it.1.first ∷ net_name it.1.second ∷ net_name it.1.third ∷ net_name (nets.Cover it.0) ∷ []) in
    ap (λ (l : List Line). line ∷ l) (rows_of_table it.1.table (range_with_len 0 8))

latch_words : (first second : Line) (last : ℕ) → row_line (codes ".latch" ∷ first ∷ second ∷ (last ∷ []) ∷ []) ≡ codes ".latch " ++ words (first ∷ second ∷ []) ++ codes " " ++ (last ∷ [])
latch_words first second last = simp append_assoc

latch_text : (it : ℕ × Latch) → item_lines (latch_item it) ≡ latch_line it.0 it.1 ∷ []
latch_text it = ap (λ (l : Line). l ∷ []) (latch_words (net_name (nets.Cover it.1.cover)) (net_name (nets.Latch it.0)) (digit it.1.initial))

-- ---- the lines of many items

lines_joined : (xs ys : List Item) → map row_line (flat_map item_rows (xs ++ ys)) ≡ map row_line (flat_map item_rows xs) ++ map row_line (flat_map item_rows ys)
lines_joined xs ys = ap (map row_line) (flat_map-append item_rows xs ys) ∙ map-append row_line (flat_map item_rows xs) (flat_map item_rows ys)

lines_mapped : {X : Type 0} (f : X → Item) (g : X → List Line) → ((x : X) → item_lines (f x) ≡ g x) → (xs : List X) → map row_line (flat_map item_rows (map f xs)) ≡ flat_map g xs
lines_mapped f g same [] = refl
lines_mapped f g same (x ∷ xs) =
    map-append row_line (item_rows (f x)) (flat_map item_rows (map f xs))
    ∙ ap (λ (l : List Line). l ++ map row_line (flat_map item_rows (map f xs))) (same x)
    ∙ ap (λ (l : List Line). g x ++ l) (lines_mapped f g same xs)

one_each : {X : Type 0} (g : X → Line) (xs : List X) → flat_map (λ x. g x ∷ []) xs ≡ map g xs
one_each g [] = refl
one_each g (x ∷ xs) = ap (λ (l : List Line). g x ∷ l) (one_each g xs)

items_text : (size : ℕ) (covers : List Cover) (latches : List Latch)
    → map row_line (flat_map item_rows (sample_items size covers latches)) ≡ all_cover_lines covers ++ (all_latch_lines latches ++ all_output_lines size)
items_text size covers latches =
    let first = map cover_item (enumerate_from 0 covers) in
    let second = map latch_item (enumerate_from 0 latches) in
    let third = map (output_item (size * size - size)) (range_with_len 0 size) in
    lines_joined first (second ++ third)
    ∙ ap (λ (l : List Line). map row_line (flat_map item_rows first) ++ l) (lines_joined second third)
    ∙ (λ j. lines_mapped cover_item (λ it. cover_lines it.0 it.1) cover_text (enumerate_from 0 covers) j
    ++ ((lines_mapped latch_item (λ it. latch_line it.0 it.1 ∷ []) latch_text (enumerate_from 0 latches) ∙ one_each (λ it. latch_line it.0 it.1) (enumerate_from 0 latches)) j
    ++ lines_mapped (output_item (size * size - size)) (λ number. output_lines (size * size - size + number) number) (λ number. refl) (range_with_len 0 size) j))

-- all lines, where there is an input
lines_text : (below : ℕ) (covers : List Cover) (latches : List Latch) → map row_line (sample_rows (suc below) covers latches) ≡ netlist_lines (suc below) covers latches
lines_text below covers latches =
    let items = flat_map item_rows (sample_items (suc below) covers latches) in
    let last : List Line = codes ".end" ∷ [] in
    let model : Line = codes ".model sample" in
    let ins : Line = row_line (codes ".inputs" ∷ input_words (suc below)) in
    let outs : Line = row_line (codes ".outputs" ∷ output_words (suc below)) in
    ap (λ (l : List Line). model ∷ ins ∷ outs ∷ l)
    (map-append row_line items ((codes ".end" ∷ []) ∷ [])
    ∙ ap (λ (l : List Line). l ++ last)
    (items_text (suc below) covers latches ∙ sym (append_assoc (all_cover_lines covers) (all_latch_lines latches) (all_output_lines (suc below)))))

text_mapped : (rows : List Row) → rows_text rows ≡ text (map row_line rows)
text_mapped [] = refl
text_mapped (row ∷ rows) = ap (λ (l : List ℕ). (row_line row ++ codes "\n") ++ l) (text_mapped rows)

pub sample_text : (size : ℕ) (covers : List Cover) (latches : List Latch) → 1 ≤ size → text (netlist_lines size covers latches) ≡ rows_text (sample_rows size covers latches)
sample_text zero covers latches some = absurd (omega arith)
sample_text (suc below) covers latches some = sym (text_mapped (sample_rows (suc below) covers latches) ∙ ap text (lines_text below covers latches))
