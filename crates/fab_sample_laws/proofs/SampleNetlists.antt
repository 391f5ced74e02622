-- The netlists of samples are read.
use Rattle.std.proofs.Common.{◌≡◌, ℕ, ◌*◌, ◌≤◌, false, List, length, codes, nat_lt, Ok, refl, sym, ap, subst, arith}
use Rattle.std.specs.List.{flat_map}
use Rattle.std.proofs.lemmas.Bool.Decides.{nat_tests}
use Rattle.std.proofs.lemmas.Nat.{mul-le}
use Rattle.fab_base.specs.declared.TheConstants.{MAX_FILE_BYTES}
use Rattle.fab_netlist.specs.Plain.{PlainNetlist}
use Rattle.fab_netlist.specs.WellMade.{ports}
use Rattle.fab_netlist.specs.Packing.{packed, packing, works}
use Rattle.fab_blif.specs.Flat.{Placed}
use Rattle.fab_blif.specs.Design.{design_of, netlist_of}
use Rattle.fab_blif.specs.Blif.{netlist_in}
use Rattle.fab_draws.specs.Draws.{behind}
use Rattle.fab_sample.specs.Drawn.{covers, sample_latches}
use Rattle.fab_sample_laws.specs.Items.{Item, rows_text, model_rows}
use Rattle.fab_sample_laws.specs.Named.{item_covers, item_latches, IsOfItems}
use Rattle.fab_sample_laws.specs.Samples.{input_words, output_words, sample_items}
use Rattle.fab_sample_laws.specs.Laws.{netlist_text, ReadsNetlist, SampleNetlistsAreRead}
use Rattle.fab_sample_laws.proofs.WholeTexts.{IsReadable, model_text, text_models, text_flat, text_blif}
use Rattle.fab_sample_laws.proofs.DrivenOnce.{made}
use Rattle.fab_sample_laws.proofs.NamedNetlists.{of_items, port_count, cell_count}
use Rattle.fab_sample_laws.proofs.SampleTexts.{sample_text}
use Rattle.fab_sample_laws.proofs.ShortTexts.{short_model}
use Rattle.fab_sample_laws.proofs.SampleItems.{items_are, readable, cover_count, latch_count, input_count, output_count}

packs : (netlist : PlainNetlist) (tables pads : ℕ) → length (works netlist) ≤ tables → length (ports netlist) ≤ pads → packing netlist tables pads ≡ Ok (packed netlist)
packs netlist tables pads cells few =
    let enough : nat_lt tables (length (works netlist)) ≡ false = grind (arith, nat_tests) in
    let room : nat_lt pads (length (ports netlist)) ≡ false = grind (arith, nat_tests) in
    rw (enough, room) refl

module _ (size : ℕ) (draws : ℕ → ℕ) (least : 2 ≤ size) (most : size ≤ 16) where
  -- the same for items by number
  by_number : ReadsNetlist size (covers size draws) (sample_latches size draws) (netlist_text size (covers size draws) (sample_latches size draws))
  by_number =
      let words = behind (4 * (size * size)) draws in
      let drawn = covers size draws in
      let held = sample_latches size draws in
      let ins = input_words size in
      let outs = output_words size in
      let some : 1 ≤ size = omega (arith, least) in
      let all = sample_items size drawn held in
      let fit : IsReadable (codes "sample") ins outs all = subst (IsReadable (codes "sample") ins outs) (sym (items_are size draws words)) (readable size draws words some most) in
      let text = sym (sample_text size drawn held some) in
      let bytes = model_text (codes "sample") ins outs all in
      let netlist : netlist_in bytes ≡ netlist_of (made ins outs all) = ap (λ (l : List Placed). netlist_of (design_of l)) (text_flat (codes "sample") ins outs all fit) in
      let twice : size * 2 ≤ size * size = mul-le size 2 size size (omega arith) least in
      let cells : length (works (netlist_of (made ins outs all))) ≤ 2 * (size * size) =
      omega (
        arith,
        cell_count ins outs all,
        twice,
        ap (λ (l : List Item). length (flat_map item_covers l)) (items_are size draws words),
        ap (λ (l : List Item). length (flat_map item_latches l)) (items_are size draws words),
        cover_count size draws words some most,
        latch_count size draws words some most,
      ) in
      let pads : length (ports (netlist_of (made ins outs all))) ≡ 2 * size =
      omega (arith, port_count ins outs all, input_count size draws words some most, output_count size draws words some most) in
      let short : length bytes ≤ MAX_FILE_BYTES =
      subst (λ (l : List Item). length (rows_text (model_rows (codes "sample") ins outs l)) ≤ MAX_FILE_BYTES) (sym (items_are size draws words)) (short_model size draws words some most) in
      subst (ReadsNetlist size drawn held) text (record {
        short = short;
        blif = text_blif (codes "sample") ins outs all 16 (omega arith) fit;
        narrow = text_blif (codes "sample") ins outs all 4 (omega arith) fit;
        model = text_models (codes "sample") ins outs all fit;
        netlist = subst (λ (n : PlainNetlist). IsOfItems n ins outs all) (sym netlist) (of_items ins outs all);
        cells = subst (λ (n : PlainNetlist). length (works n) ≤ 2 * (size * size)) (sym netlist) cells;
        pads = subst (λ (n : PlainNetlist). length (ports n) ≡ 2 * size) (sym netlist) pads;
        fits = subst (λ (n : PlainNetlist). (tables pads : ℕ) → 2 * (size * size) ≤ tables → 2 * size ≤ pads → packing n tables pads ≡ Ok (packed n)) (sym netlist)
            (λ tables few enough room. packs (netlist_of (made ins outs all)) tables few (omega (arith, cells, enough)) (omega (arith, pads, room)));
      })

pub netlists_read : SampleNetlistsAreRead
netlists_read size draws least most = by_number size draws least most
