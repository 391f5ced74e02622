use Rattle.std.proofs.Common.{◌≡◌, ◌∙◌, List, ℕ, filter, fold, map, nat_eq, ap}
use Rattle.std.specs.List.{enumerate_from}
use Rattle.std.specs.Str.{bytes_eq}
use Rattle.fab_fabric.specs.declared.wire.Site.{Site}
use Rattle.fab_netlist.specs.declared.net_id.NetId.{NetId}
use Rattle.fab_netlist.specs.Packed.{PlainCell, PlainPacked}
use Rattle.fab_implementation.specs.Plain.{Pad, PlainImplementation}
use Rattle.fab_ways_laws.specs.fab_legal_Sinks.{reset_id, site_of}
use Rattle.fab_ways_laws.specs.Placing.{same_net, reads_net}
use Rattle.fab_place.specs.declared.bounding.BoundingBox.{BoundingBox}
use Rattle.fab_place.specs.inner.Boxes.{around, included}
use Rattle.fab_place.proofs.Boxed.{half_both}
use Rattle.fab_place.proofs.costing.half_of.Goals as goal

pub returns-clause-value : goal.returns-clause-value
returns-clause-value c =
    let packed = c.args.packed.now in
    let placed = c.args.placed.now in
    let start = around c.args.source in
    let middle = c.add_cells.new.area in
    let of_cells : NetId → List PlainCell → List (ℕ × Site) → List Site = λ reset cells lines.
    map (λ (cell : ℕ × PlainCell). site_of nat_eq lines cell.0) (filter (λ (cell : ℕ × PlainCell). reads_net reset c.args.net cell.1) (enumerate_from 0 cells)) in
    let resets = reset_id packed.reset in
    let of_outputs : List (List ℕ × NetId) → List Pad → List Site = λ outputs lines.
    map (λ (output : List ℕ × NetId). site_of bytes_eq lines output.0) (filter (λ (output : List ℕ × NetId). same_net c.args.net output.1) outputs) in
    let one : middle ≡ fold included start (of_cells resets packed.cells placed.cells) =
    c.add_cells.ensures ∙ ap (λ (area : BoundingBox). fold included area (of_cells c.reset_net-reset.result c.deref.result.now c.deref-2.result.now)) c.around-area.ensures
    ∙ ap (λ (reset : NetId). fold included start (of_cells reset c.deref.result.now c.deref-2.result.now)) (c.reset_net-reset.ensures ∙ ap (λ (p : PlainPacked). reset_id p.reset) c.packed.view_is)
    ∙ ap (λ (cells : List PlainCell). fold included start (of_cells resets cells c.deref-2.result.now)) (c.deref.ensures.value ∙ ap (λ (p : PlainPacked). p.cells) c.packed.view_is)
    ∙ ap (λ (lines : List (ℕ × Site)). fold included start (of_cells resets packed.cells lines)) (c.deref-2.ensures.value ∙ ap (λ (i : PlainImplementation). i.cells) c.placed.view_is) in
    let two : c.add_outputs.new.area ≡ fold included middle (of_outputs packed.outputs placed.outs) =
    c.add_outputs.ensures
    ∙ ap (λ (outputs : List (List ℕ × NetId)). fold included middle (of_outputs outputs c.deref-4.result.now)) (c.deref-3.ensures.value ∙ ap (λ (p : PlainPacked). p.outputs) c.packed.view_is)
    ∙ ap (λ (lines : List Pad). fold included middle (of_outputs packed.outputs lines)) (c.deref-4.ensures.value ∙ ap (λ (i : PlainImplementation). i.outs) c.placed.view_is) in
    c.half.ensures.value ∙ half_both c.args.source (of_cells resets packed.cells placed.cells) (of_outputs packed.outputs placed.outs) middle c.add_outputs.new.area one two
