-- The netlist of a model of items, by names.
use Rattle.std.proofs.Common.{◌≡◌, ℕ, suc, ◌+◌, ◌-◌, ◌≤◌, not, List, [], ◌∷◌, length, map, filter, codes, None, position, refl, ap, ◌∙◌, inl, inr, arith, length-append}
use Rattle.std.specs.Prelude.{slice_get, option_and_then}
use Rattle.std.specs.List.{AllByRecursion as Each, flat_map}
use Rattle.std.proofs.lemmas.Bool.{cases_Bool}
use Rattle.std.proofs.lemmas.List.Sums.{length-filter, count_by-le-length}
use Rattle.fab_blif_models.specs.Words.{Word}
use Rattle.fab_netlist.specs.declared.netlist.Latch.{Latch}
use Rattle.fab_netlist.specs.Plain.{PlainCover, PlainNetlist}
use Rattle.fab_netlist.specs.Wide.{tabled_cover}
use Rattle.fab_netlist.specs.WellMade.{ports}
use Rattle.fab_netlist.specs.Kept.{is_kept}
use Rattle.fab_netlist.specs.Packing.{works, others, is_paired, of_cover, of_latch, pair}
use Rattle.fab_blif.specs.Flat.{PlainNet, net_eq}
use Rattle.fab_blif.specs.Design.{PlainClock, covers_by, latches_by, data_inputs, netlist_of, is_number}
use Rattle.fab_blif.proofs.Below.{IsNamed, all_named, name_back, name_in}
use Rattle.fab_sample_laws.specs.Items.{Item, cover, wire, latch, pattern_row, item_rows}
use Rattle.fab_sample.specs.Netlists.{digit}
use Rattle.fab_sample_laws.specs.Named.{NamedCover, NamedLatch, named_cover, named_latch, item_covers, item_latches, table_of, IsOfItems}
use Rattle.fab_sample_laws.proofs.PlacedItems.{plain, num, There, model_placed, placed_from, no_clocks, output_ports, input_uses_are, used_nets, ports_there}
use Rattle.fab_sample_laws.proofs.DrivenOnce.{nets, made}
use Rattle.fab_sample_laws.proofs.OrderedCovers.{length-mapped}

-- ---- names of numbers

module _ (all_nets : List PlainNet) where
  names_back : (names : List Word) → Each (There all_nets) names → map (name_in all_nets) (map (num all_nets) names) ≡ names
  names_back [] all = refl
  names_back (name ∷ names) all = λ j. name_back all_nets (plain name) all.0 j ∷ names_back names all.1 j

  cover_named : PlainCover → NamedCover
  cover_named it = record { inputs = map (name_in all_nets) it.inputs; output = name_in all_nets it.output; table = it.table }

  latch_named : Latch → NamedLatch
  latch_named it = record { input = name_in all_nets it.input; output = name_in all_nets it.output; initial = it.init }

  covers_named : (line : ℕ) (items : List Item) → Each (IsNamed all_nets) (placed_from line items) → map cover_named (map tabled_cover (flat_map (covers_by all_nets) (placed_from line items))) ≡ flat_map item_covers items
  unfolding cover_named
  covers_named line [] all = refl
  covers_named line (cover first second third output patterns ∷ items) all =
      let a = all.0 in
      let back : (name : Word) → There all_nets name → name_in all_nets (num all_nets name) ≡ name = λ name there. name_back all_nets (plain name) there in
      λ j. record {
        inputs = back first a.0 j ∷ back second a.1.0 j ∷ back third a.1.1.0 j ∷ [];
        output = back output a.1.1.1.0 j;
        table = table_of (map pattern_row patterns);
      } ∷ covers_named (line + length (item_rows (cover first second third output patterns))) items all.1 j
  covers_named line (wire source output ∷ items) all =
      let a = all.0 in
      let back : (name : Word) → There all_nets name → name_in all_nets (num all_nets name) ≡ name = λ name there. name_back all_nets (plain name) there in
      λ j. record { inputs = back source a.0 j ∷ []; output = back output a.1.0 j; table = table_of ((codes "1" ∷ codes "1" ∷ []) ∷ []) } ∷ covers_named (line + 2) items all.1 j
  covers_named line (latch input output initial ∷ items) all = covers_named (line + 1) items all.1

  latches_named : (line : ℕ) (items : List Item) → Each (IsNamed all_nets) (placed_from line items) → map latch_named (flat_map (latches_by all_nets) (placed_from line items)) ≡ flat_map item_latches items
  unfolding latch_named
  latches_named line [] all = refl
  latches_named line (cover first second third output patterns ∷ items) all = latches_named (line + length (item_rows (cover first second third output patterns))) items all.1
  latches_named line (wire source output ∷ items) all = latches_named (line + 2) items all.1
  latches_named line (latch input output initial ∷ items) all =
      let a = all.0 in
      λ j. record { input = name_back all_nets (plain input) a.0 j; output = name_back all_nets (plain output) a.1.0 j; initial = digit initial - 48 } ∷ latches_named (line + 1) items all.1 j

all_kept : (nets : List ℕ) → filter (λ net. not (is_number None net)) nets ≡ nets
all_kept [] = refl
all_kept (net ∷ nets) = ap (λ (l : List ℕ). net ∷ l) (all_kept nets)

-- ---- the netlist

module _ (inputs outputs : List Word) (items : List Item) where
  abbrev pub whole : PlainNetlist
  whole = netlist_of (made inputs outputs items)

  input_nets : (netlist_of (made inputs outputs items)).inputs ≡ map (num (nets inputs outputs items)) inputs
  input_nets =
      let design = made inputs outputs items in
      ap (λ (l : List PlainClock). data_inputs (option_and_then (λ (name : PlainClock). position (net_eq name.net) design.nets) (slice_get l 0)) design.inputs) (no_clocks (nets inputs outputs items) inputs outputs items)
      ∙ all_kept (map (λ u. u.net) design.inputs)
      ∙ ap (λ l. map (λ u. u.net) l) (input_uses_are (nets inputs outputs items) inputs outputs items)
      ∙ used_nets (nets inputs outputs items) 2 inputs

  output_nets : (netlist_of (made inputs outputs items)).outputs ≡ map (num (nets inputs outputs items)) outputs
  output_nets = ap (λ l. map (λ u. u.net) l) (output_ports (nets inputs outputs items) inputs outputs items) ∙ used_nets (nets inputs outputs items) 3 outputs

  pub of_items : IsOfItems (netlist_of (made inputs outputs items)) inputs outputs items
  unfolding cover_named latch_named
  of_items =
      let all_nets = nets inputs outputs items in
      let all = all_named (model_placed inputs outputs items) in
      record {
        inputs = ap (map (name_in all_nets)) input_nets ∙ names_back all_nets inputs (ports_there all_nets inputs all.0);
        outputs = ap (map (name_in all_nets)) output_nets ∙ names_back all_nets outputs (ports_there all_nets outputs all.1.0);
        covers = covers_named all_nets 4 items all.1.1;
        latches = latches_named all_nets 4 items all.1.1;
      }

  -- ---- counts

  pub port_count : length (ports (netlist_of (made inputs outputs items))) ≡ length inputs + length outputs
  port_count =
      let all_nets = nets inputs outputs items in
      omega (
        arith,
        length-append (netlist_of (made inputs outputs items)).inputs (netlist_of (made inputs outputs items)).outputs,
        ap length input_nets,
        ap length output_nets,
        length-mapped (num all_nets) inputs,
        length-mapped (num all_nets) outputs,
      )

  others_few : (netlist : PlainNetlist) (place : ℕ) (latches : List Latch) → length (others netlist place latches) ≤ length latches
  others_few netlist place [] = omega arith
  others_few netlist place (one ∷ latches) = elim (cases_Bool (is_paired netlist one)) [
    | inl t ↦ rw t (omega (arith, others_few netlist (suc place) latches))
    | inr f ↦ rw f (omega (arith, others_few netlist (suc place) latches))
  ]

  works_few : (netlist : PlainNetlist) → length (works netlist) ≤ length netlist.covers + length netlist.latches
  works_few netlist =
      let kept = filter (is_kept netlist) netlist.covers in
      let left = others netlist 0 netlist.latches in
      omega (
        arith,
        length-append (map (λ (it : PlainCover). of_cover it (pair netlist it)) kept) (map of_latch left),
        length-mapped (λ (it : PlainCover). of_cover it (pair netlist it)) kept,
        length-mapped of_latch left,
        length-filter (is_kept netlist) netlist.covers,
        count_by-le-length (is_kept netlist) netlist.covers,
        others_few netlist 0 netlist.latches,
      )

  -- a cell for each cover and for each latch, at the most
  pub cell_count : length (works (netlist_of (made inputs outputs items))) ≤ length (flat_map item_covers items) + length (flat_map item_latches items)
  cell_count =
      let netlist = netlist_of (made inputs outputs items) in
      omega (arith, works_few netlist, length-mapped (named_cover netlist) netlist.covers, length-mapped (named_latch netlist) netlist.latches, ap length of_items.covers, ap length of_items.latches)
