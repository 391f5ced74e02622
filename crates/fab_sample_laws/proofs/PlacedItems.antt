-- The lines of the flattened text of a model of items, and what they say of nets by number.
use Rattle.std.proofs.Common.{◌≡◌, ℕ, ◌+◌, ◌-◌, ◌≤◌, ◌*◌, List, [], ◌∷◌, ◌++◌, length, map, codes, None, refl, ap, ◌∙◌, inl, inr, arith, append-nil, length-append}
use Rattle.std.specs.List.{AllByRecursion as Each, flat_map, list_any}
use Rattle.std.proofs.lemmas.Bool.{cases_Bool}
use Rattle.std.proofs.lemmas.List.{map-append}
use Rattle.indexmap.specs.IndexSet.{insert_all, insert_key}
use Rattle.fab_blif_models.specs.Words.{Word}
use Rattle.fab_blif_models.specs.Covers.{cubes_of, is_on_set, rows_on}
use Rattle.fab_blif_models.specs.Plain.{PlainModel}
use Rattle.fab_netlist.specs.declared.netlist.Latch.{Latch}
use Rattle.fab_netlist.specs.Plain.{PlainCover}
use Rattle.fab_netlist.specs.Wide.{PlainWideCover, tabled_cover}
use Rattle.fab_blif.specs.Flat.{PlainNet, net_eq, Placed, placed_inputs, placed_outputs, placed_cover, placed_latch, lines_at, lines_of, flat_lines, top_copy}
use Rattle.fab_blif.specs.Design.{PlainDesign, design_by, uses, number_in, named, inputs_by, outputs_by, clock_ports_by, covers_by, latches_by, latch_lines, clocks_by}
use Rattle.fab_blif.specs.Judged.{output_uses, input_uses, latch_uses, inner_drivers, input_ports, readers}
use Rattle.fab_blif.proofs.Below.{IsThere, IsNamed}
use Rattle.fab_sample_laws.specs.Items.{Row, Item, cover, wire, latch, pattern_row, item_rows, statements_from, model_said, cover_outputs, cover_inputs, latch_outputs, latch_inputs, Edge, edges}
use Rattle.fab_sample.specs.Netlists.{digit}

abbrev pub plain : Word → PlainNet
plain name = record { depth = 0; name = name }

-- a cover of these inputs and rows
abbrev pub placed_rows : (line : ℕ) → (inputs : List PlainNet) → (output : Word) → (rows : List Row) → Placed
placed_rows line inputs output rows = placed_cover line inputs (plain output) (is_on_set (rows_on rows)) (cubes_of rows)

-- the line of an item
abbrev pub placed_at : (line : ℕ) → Item → Placed
placed_at line (cover first second third output patterns) = placed_rows line (plain first ∷ plain second ∷ plain third ∷ []) output (map pattern_row patterns)
placed_at line (wire source output) = placed_rows line (plain source ∷ []) output ((codes "1" ∷ codes "1" ∷ []) ∷ [])
placed_at line (latch input output initial) = placed_latch line (plain input) (plain output) None (digit initial - 48)

abbrev pub placed_from : (line : ℕ) → List Item → List Placed
placed_from line [] = []
placed_from line (item ∷ items) = placed_at line item ∷ placed_from (line + length (item_rows item)) items

items_placed : (models : List PlainModel) (inner : _) (line : ℕ) (items : List Item) → flat_map (lines_at models inner top_copy) (statements_from line items) ≡ placed_from line items
items_placed models inner line [] = refl
items_placed models inner line (cover first second third output patterns ∷ items) =
    ap (λ (l : List Placed). placed_at line (cover first second third output patterns) ∷ l) (items_placed models inner (line + length (item_rows (cover first second third output patterns))) items)
items_placed models inner line (wire source output ∷ items) =
    ap (λ (l : List Placed). placed_at line (wire source output) ∷ l) (items_placed models inner (line + 2) items)
items_placed models inner line (latch input output initial ∷ items) =
    ap (λ (l : List Placed). placed_at line (latch input output initial) ∷ l) (items_placed models inner (line + 1) items)

-- the flattened text
abbrev pub model_placed : (inputs outputs : List Word) → List Item → List Placed
model_placed inputs outputs items = placed_inputs 2 (map plain inputs) ∷ placed_outputs 3 (map plain outputs) ∷ placed_from 4 items

pub model_flat : (name : Word) (inputs outputs : List Word) (items : List Item) → flat_lines (model_said name inputs outputs items ∷ []) ≡ model_placed inputs outputs items
unfolding flat_lines lines_of
model_flat name inputs outputs items =
    let models = model_said name inputs outputs items ∷ [] in
    ap (λ (l : List Placed). placed_inputs 2 (map plain inputs) ∷ placed_outputs 3 (map plain outputs) ∷ l) (items_placed models (λ copy place. []) 4 items)

-- ---- by number

-- the nets that covers and latches drive and read
abbrev pub output_nets : List PlainWideCover → List ℕ
output_nets covers = map (λ u. u.net) (output_uses covers)

abbrev pub input_nets : List PlainWideCover → List ℕ
input_nets covers = map (λ u. u.net) (input_uses covers)

abbrev pub latch_nets : (net_of : Latch → ℕ) → (lines : List ℕ) → List Latch → List ℕ
latch_nets net_of lines latches = map (λ u. u.net) (latch_uses net_of lines latches)

abbrev pub inner_nets_of : PlainDesign → List ℕ
inner_nets_of design = map (λ u. u.net) (inner_drivers design)

abbrev pub port_nets_of : PlainDesign → List ℕ
port_nets_of design = map (λ u. u.net) (input_ports design)

abbrev pub read_nets_of : PlainDesign → List ℕ
read_nets_of design = map (λ u. u.net) (readers design)

-- what a cover reads, and what it drives
abbrev pub edge_of : PlainCover → List ℕ × ℕ
edge_of made = (made.inputs, made.output)

module _ (nets : List PlainNet) where
  abbrev pub num : Word → ℕ
  num name = number_in nets (plain name)

  abbrev pub There : Word → Type 0
  There name = IsThere nets (plain name)

  outputs_placed : (line : ℕ) (items : List Item) → output_nets (flat_map (covers_by nets) (placed_from line items)) ≡ map num (flat_map cover_outputs items)
  outputs_placed line [] = refl
  outputs_placed line (cover first second third output patterns ∷ items) =
      ap (λ (l : List ℕ). num output ∷ l) (outputs_placed (line + length (item_rows (cover first second third output patterns))) items)
  outputs_placed line (wire source output ∷ items) = ap (λ (l : List ℕ). num output ∷ l) (outputs_placed (line + 2) items)
  outputs_placed line (latch input output initial ∷ items) = outputs_placed (line + 1) items

  inputs_placed : (line : ℕ) (items : List Item) → input_nets (flat_map (covers_by nets) (placed_from line items)) ≡ map num (flat_map cover_inputs items)
  inputs_placed line [] = refl
  inputs_placed line (cover first second third output patterns ∷ items) =
      ap (λ (l : List ℕ). num first ∷ num second ∷ num third ∷ l) (inputs_placed (line + length (item_rows (cover first second third output patterns))) items)
  inputs_placed line (wire source output ∷ items) = ap (λ (l : List ℕ). num source ∷ l) (inputs_placed (line + 2) items)
  inputs_placed line (latch input output initial ∷ items) = inputs_placed (line + 1) items

  latch_outputs_placed : (line : ℕ) (items : List Item)
      → latch_nets (λ made. made.output) (flat_map latch_lines (placed_from line items)) (flat_map (latches_by nets) (placed_from line items)) ≡ map num (flat_map latch_outputs items)
  latch_outputs_placed line [] = refl
  latch_outputs_placed line (cover first second third output patterns ∷ items) = latch_outputs_placed (line + length (item_rows (cover first second third output patterns))) items
  latch_outputs_placed line (wire source output ∷ items) = latch_outputs_placed (line + 2) items
  latch_outputs_placed line (latch input output initial ∷ items) = ap (λ (l : List ℕ). num output ∷ l) (latch_outputs_placed (line + 1) items)

  latch_inputs_placed : (line : ℕ) (items : List Item)
      → latch_nets (λ made. made.input) (flat_map latch_lines (placed_from line items)) (flat_map (latches_by nets) (placed_from line items)) ≡ map num (flat_map latch_inputs items)
  latch_inputs_placed line [] = refl
  latch_inputs_placed line (cover first second third output patterns ∷ items) = latch_inputs_placed (line + length (item_rows (cover first second third output patterns))) items
  latch_inputs_placed line (wire source output ∷ items) = latch_inputs_placed (line + 2) items
  latch_inputs_placed line (latch input output initial ∷ items) = ap (λ (l : List ℕ). num input ∷ l) (latch_inputs_placed (line + 1) items)

  -- items declare no ports and name no clocks
  record NoPorts (line : ℕ) (items : List Item) : Type 0 where
    inputs : flat_map (inputs_by nets) (placed_from line items) ≡ []
    outputs : flat_map (outputs_by nets) (placed_from line items) ≡ []
    clock_ports : flat_map (clock_ports_by nets) (placed_from line items) ≡ []
    clocks : flat_map (clocks_by nets) (placed_from line items) ≡ []

  no_ports : (line : ℕ) (items : List Item) → NoPorts line items
  no_ports line [] = record { inputs = refl; outputs = refl; clock_ports = refl; clocks = refl }
  no_ports line (cover first second third output patterns ∷ items) =
      let rest = no_ports (line + length (item_rows (cover first second third output patterns))) items in
      record { inputs = rest.inputs; outputs = rest.outputs; clock_ports = rest.clock_ports; clocks = rest.clocks }
  no_ports line (wire source output ∷ items) =
      let rest = no_ports (line + 2) items in
      record { inputs = rest.inputs; outputs = rest.outputs; clock_ports = rest.clock_ports; clocks = rest.clocks }
  no_ports line (latch input output initial ∷ items) =
      let rest = no_ports (line + 1) items in
      record { inputs = rest.inputs; outputs = rest.outputs; clock_ports = rest.clock_ports; clocks = rest.clocks }

  pub used_nets : (line : ℕ) (names : List Word) → map (λ u. u.net) (uses nets line (map plain names)) ≡ map num names
  used_nets line [] = refl
  used_nets line (name ∷ names) = ap (λ (l : List ℕ). num name ∷ l) (used_nets line names)

  mapped_joined : (xs ys : List Word) → map num xs ++ map num ys ≡ map num (xs ++ ys)
  mapped_joined [] ys = refl
  mapped_joined (x ∷ xs) ys = ap (λ (l : List ℕ). num x ∷ l) (mapped_joined xs ys)

  module _ (inputs outputs : List Word) (items : List Item) where
    abbrev pub design : PlainDesign
    design = design_by nets (model_placed inputs outputs items)

    abbrev pub inner_words : List Word
    inner_words = flat_map cover_outputs items ++ flat_map latch_outputs items

    pub inner_nets : inner_nets_of design ≡ map num inner_words
    inner_nets =
        map-append (λ u. u.net) (output_uses design.covers) (latch_uses (λ made. made.output) design.latch_lines design.latches)
        ∙ ap (λ (l : List ℕ). l ++ latch_nets (λ made. made.output) design.latch_lines design.latches) (outputs_placed 4 items)
        ∙ ap (λ (l : List ℕ). map num (flat_map cover_outputs items) ++ l) (latch_outputs_placed 4 items)
        ∙ mapped_joined (flat_map cover_outputs items) (flat_map latch_outputs items)

    pub input_uses_are : design.inputs ≡ uses nets 2 (map plain inputs)
    input_uses_are = ap (λ l. uses nets 2 (map plain inputs) ++ l) (no_ports 4 items).inputs ∙ append-nil (uses nets 2 (map plain inputs))

    pub port_nets : port_nets_of design ≡ map num inputs
    port_nets =
        map-append (λ u. u.net) design.inputs design.clock_ports
        ∙ (λ j. map (λ u. u.net) (input_uses_are j) ++ map (λ u. u.net) ((no_ports 4 items).clock_ports j))
        ∙ append-nil (map (λ u. u.net) (uses nets 2 (map plain inputs)))
        ∙ used_nets 2 inputs

    abbrev pub read_words : List Word
    read_words = flat_map cover_inputs items ++ (flat_map latch_inputs items ++ outputs)

    pub output_ports : design.outputs ≡ uses nets 3 (map plain outputs)
    output_ports = ap (λ l. uses nets 3 (map plain outputs) ++ l) (no_ports 4 items).outputs ∙ append-nil (uses nets 3 (map plain outputs))

    pub read_nets : read_nets_of design ≡ map num read_words
    read_nets =
        map-append (λ u. u.net) (input_uses design.covers) (latch_uses (λ made. made.input) design.latch_lines design.latches ++ design.outputs)
        ∙ (λ j. inputs_placed 4 items j ++ map-append (λ u. u.net) (latch_uses (λ made. made.input) design.latch_lines design.latches) design.outputs j)
        ∙ (λ j. map num (flat_map cover_inputs items) ++ (latch_inputs_placed 4 items j ++ map (λ u. u.net) (output_ports j)))
        ∙ ap (λ (l : List ℕ). map num (flat_map cover_inputs items) ++ (map num (flat_map latch_inputs items) ++ l)) (used_nets 3 outputs)
        ∙ ap (λ (l : List ℕ). map num (flat_map cover_inputs items) ++ l) (mapped_joined (flat_map latch_inputs items) outputs)
        ∙ mapped_joined (flat_map cover_inputs items) (flat_map latch_inputs items ++ outputs)

    pub no_clocks : design.clocks ≡ []
    no_clocks = (no_ports 4 items).clocks

  -- ---- the covers

  abbrev pub edge_nets : Edge → List ℕ × ℕ
  edge_nets edge = (map num edge.0, num edge.1)

  pub edges_placed : (line : ℕ) (items : List Item) → map edge_of (map tabled_cover (flat_map (covers_by nets) (placed_from line items))) ≡ map edge_nets (flat_map edges items)
  edges_placed line [] = refl
  edges_placed line (cover first second third output patterns ∷ items) =
      ap (λ (l : List (List ℕ × ℕ)). edge_nets (first ∷ second ∷ third ∷ [], output) ∷ l) (edges_placed (line + length (item_rows (cover first second third output patterns))) items)
  edges_placed line (wire source output ∷ items) = ap (λ (l : List (List ℕ × ℕ)). edge_nets (source ∷ [], output) ∷ l) (edges_placed (line + 2) items)
  edges_placed line (latch input output initial ∷ items) = edges_placed (line + 1) items

  -- ---- all words are there

  abbrev pub EdgeThere : Edge → Type 0
  EdgeThere edge = Each There edge.0 × There edge.1

  pub edges_there : (line : ℕ) (items : List Item) → Each (IsNamed nets) (placed_from line items) → Each EdgeThere (flat_map edges items)
  edges_there line [] all = tt
  edges_there line (cover first second third output patterns ∷ items) all =
      let a = all.0 in
      (((a.0, (a.1.0, (a.1.1.0, tt))), a.1.1.1.0), edges_there (line + length (item_rows (cover first second third output patterns))) items all.1)
  edges_there line (wire source output ∷ items) all = let a = all.0 in (((a.0, tt), a.1.0), edges_there (line + 2) items all.1)
  edges_there line (latch input output initial ∷ items) all = edges_there (line + 1) items all.1

  pub outputs_there : (line : ℕ) (items : List Item) → Each (IsNamed nets) (placed_from line items) → Each There (flat_map cover_outputs items)
  outputs_there line [] all = tt
  outputs_there line (cover first second third output patterns ∷ items) all =
      (all.0.1.1.1.0, outputs_there (line + length (item_rows (cover first second third output patterns))) items all.1)
  outputs_there line (wire source output ∷ items) all = (all.0.1.0, outputs_there (line + 2) items all.1)
  outputs_there line (latch input output initial ∷ items) all = outputs_there (line + 1) items all.1

  pub latches_there : (line : ℕ) (items : List Item) → Each (IsNamed nets) (placed_from line items) → Each There (flat_map latch_outputs items)
  latches_there line [] all = tt
  latches_there line (cover first second third output patterns ∷ items) all = latches_there (line + length (item_rows (cover first second third output patterns))) items all.1
  latches_there line (wire source output ∷ items) all = latches_there (line + 2) items all.1
  latches_there line (latch input output initial ∷ items) all = (all.0.1.0, latches_there (line + 1) items all.1)

  pub ports_there : (names : List Word) → Each (IsThere nets) (map plain names) → Each There names
  ports_there [] all = tt
  ports_there (name ∷ names) all = (all.0, ports_there names all.1)

-- ---- how many nets there are

one_key : (keys : List PlainNet) (net : PlainNet) → length (insert_key net_eq keys net) ≤ length keys + 1
one_key keys net = elim (cases_Bool (list_any (net_eq net) keys)) [
  | inl t ↦ rw t (omega arith)
  | inr f ↦ rw f (omega (arith, length-append keys (net ∷ [])))
]

all_keys : (keys more : List PlainNet) → length (insert_all net_eq keys more) ≤ length keys + length more
all_keys keys [] = omega arith
all_keys keys (net ∷ more) = omega (arith, all_keys (insert_key net_eq keys net) more, one_key keys net)

named_few : (line : ℕ) (items : List Item) → length (flat_map named (placed_from line items)) ≤ 4 * length items
named_few line [] = omega arith
named_few line (cover first second third output patterns ∷ items) = omega (arith, named_few (line + length (item_rows (cover first second third output patterns))) items)
named_few line (wire source output ∷ items) = omega (arith, named_few (line + 2) items)
named_few line (latch input output initial ∷ items) = omega (arith, named_few (line + 1) items)

length-plain : (names : List Word) → length (map plain names) ≡ length names
length-plain [] = refl
length-plain (name ∷ names) = omega (arith, length-plain names)

pub few_nets : (inputs outputs : List Word) (items : List Item)
    → length (insert_all net_eq [] (flat_map named (model_placed inputs outputs items))) ≤ length inputs + length outputs + 4 * length items
few_nets inputs outputs items =
    let rest = flat_map named (placed_from 4 items) in
    omega (
      arith,
      all_keys [] (map plain inputs ++ (map plain outputs ++ rest)),
      length-append (map plain inputs) (map plain outputs ++ rest),
      length-append (map plain outputs) rest,
      length-plain inputs,
      length-plain outputs,
      named_few 4 items,
    )
