use Rattle.std.proofs.Common.{ℕ, ◌++◌, List, ◌∙◌, ap, sym, subst, codes, map}
use Rattle.std.specs.List.{flat_map}
use Rattle.fab_implementation.specs.Plain.{Pad, PlainTree, PlainImplementation}
use Rattle.fab_implementation.specs.OnFabric.{HasSites}
use Rattle.fab_texts.specs.Printed.{rows_text}
use Rattle.fab_impl.specs.Lines.{Cell}
use Rattle.fab_texts.specs.Sections.{ending}
use Rattle.fab_impl.specs.Spelled.{headers, cell_line, pad_line, tree_lines}
use Rattle.fab_impl.proofs.Parts.{six_parts}
use Rattle.fab_impl.proofs.writer.print.Goals as goal

pub put_cells-requires : goal.put_cells-requires
put_cells-requires c =
    let at = c.deref.ensures.value ∙ ap (λ (it : PlainImplementation). it.cells) c.implementation.view_is in
    subst (λ (cells : List Cell). HasSites c.args.fabric.now cells) (sym at) c.requires.on_fabric.cells

pub put_pads-requires : goal.put_pads-requires
put_pads-requires c =
    let at = c.deref-2.ensures.value ∙ ap (λ (it : PlainImplementation). it.ins) c.implementation.view_is in
    subst (λ (pads : List Pad). HasSites c.args.fabric.now pads) (sym at) c.requires.on_fabric.ins

pub put_pads-requires-2 : goal.put_pads-requires-2
put_pads-requires-2 c =
    let at = c.deref-3.ensures.value ∙ ap (λ (it : PlainImplementation). it.outs) c.implementation.view_is in
    subst (λ (pads : List Pad). HasSites c.args.fabric.now pads) (sym at) c.requires.on_fabric.outs

pub returns : goal.returns
returns c =
    let fabric = c.args.fabric.now in
    let it = c.args.implementation.now in
    let cells = c.deref.ensures.value ∙ ap (λ (i : PlainImplementation). i.cells) c.implementation.view_is in
    let ins = c.deref-2.ensures.value ∙ ap (λ (i : PlainImplementation). i.ins) c.implementation.view_is in
    let outs = c.deref-3.ensures.value ∙ ap (λ (i : PlainImplementation). i.outs) c.implementation.view_is in
    let ins_again = c.deref-4.ensures.value ∙ ap (λ (i : PlainImplementation). i.ins) c.implementation.view_is in
    let trees = c.deref-5.ensures.value ∙ ap (λ (i : PlainImplementation). i.trees) c.implementation.view_is in
    record {
      text = six_parts (headers it.reset) ending (map cell_line it.cells) (map (pad_line (codes "in")) it.ins) (map (pad_line (codes "out")) it.outs) (flat_map (tree_lines fabric it.ins) it.trees)
          c.put_headers.new.out.items c.put_cells.new.out.items c.put_pads.new.out.items c.put_pads-2.new.out.items c.put_trees.new.out.items c.put_row.new.out.items
          (c.in_ok-put_headers.ensures ∙ ap (λ (l : List ℕ). l ++ rows_text (headers c.implementation.inside.reset)) c.new-out.ensures.items ∙ ap (λ (i : PlainImplementation). rows_text (headers i.reset)) c.implementation.view_is)
          (c.in_ok-put_cells.ensures ∙ ap (λ (l : List Cell). c.put_headers.new.out.items ++ rows_text (map cell_line l)) cells)
          (c.in_ok-put_pads.ensures ∙ ap (λ (l : List Pad). c.put_cells.new.out.items ++ rows_text (map (pad_line (codes "in")) l)) ins)
          (c.in_ok-put_pads-2.ensures ∙ ap (λ (l : List Pad). c.put_pads.new.out.items ++ rows_text (map (pad_line (codes "out")) l)) outs)
          (c.in_ok-put_trees.ensures ∙ ap (λ (l : List Pad). c.put_pads-2.new.out.items ++ rows_text (flat_map (tree_lines fabric l) c.deref-5.result.now)) ins_again ∙ ap (λ (l : List PlainTree). c.put_pads-2.new.out.items ++ rows_text (flat_map (tree_lines fabric it.ins) l)) trees)
          c.in_ok-put_row.ensures;
    }
