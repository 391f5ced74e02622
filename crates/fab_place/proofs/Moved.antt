-- The implementation after all that stands on sites has moved.
use Rattle.std.proofs.Common.{◌≡◌, ℕ, ◌+◌, ◌<◌, ◌≤◌, List, [], map, length, get_or, sym, ◌∙◌, ap, arith}
use Rattle.fab_model.specs.Tiles.{counted}
use Rattle.fab_fabric.specs.declared.wire.Site.{Site}
use Rattle.fab_netlist.specs.Packed.{PlainPacked}
use Rattle.fab_implementation.specs.Plain.{Pad, PlainImplementation, reset_name}
use Rattle.fab_ways_laws.specs.fab_legal_WellMade.{output_ports}
use Rattle.fab_ways_laws.specs.Placing.{moved}
use Rattle.fab_place.specs.Pins.{item_total}
use Rattle.fab_place.specs.Standing.{site_at, standing}
use Rattle.fab_place.proofs.Counting.{map_counted, counted_same}
use Rattle.fab_place.proofs.Lines.{ins_counted, outs_counted}

module _ (packed : PlainPacked) (all : List Site) (numbers other : List ℕ) (to : Site → Site) (same : (k : ℕ) → k < item_total packed → to (site_at all numbers k) ≡ site_at all other k) where
  abbrev Cells : ℕ
  Cells = length packed.cells

  abbrev Ins : ℕ
  Ins = length packed.inputs

  abbrev Outs : ℕ
  Outs = length packed.outputs

  abbrev turn : {X : Type 0} → X × Site → X × Site
  turn line = (line.0, to line.1)

  cells_moved : moved to (standing packed all numbers).cells ≡ (standing packed all other).cells
  cells_moved =
      map_counted (λ (line : ℕ × Site). turn line) Cells (λ k. (k, site_at all numbers k))
      ∙ counted_same Cells (λ k. (k, to (site_at all numbers k))) (λ k. (k, site_at all other k)) (λ k low. ap (λ (site : Site). (k, site)) (same k (omega (arith, low))))

  ports_moved : (count first : ℕ) (name : ℕ → List ℕ) → first + count ≤ item_total packed → map (λ (line : Pad). turn line) (counted count (λ k. (name k, site_at all numbers (first + k)))) ≡ counted count (λ k. (name k, site_at all other (first + k)))
  ports_moved count first name inside =
      map_counted (λ (line : Pad). turn line) count (λ k. (name k, site_at all numbers (first + k)))
      ∙ counted_same count (λ k. (name k, to (site_at all numbers (first + k)))) (λ k. (name k, site_at all other (first + k))) (λ k low. ap (λ (site : Site). (name k, site)) (same (first + k) (omega (arith, low, inside))))

  ins_moved : moved to (standing packed all numbers).ins ≡ (standing packed all other).ins
  ins_moved =
      ap (map (λ (line : Pad). turn line)) (ins_counted all numbers Cells packed.inputs) ∙ ports_moved Ins Cells (λ k. get_or packed.inputs k []) (omega arith)
      ∙ sym (ins_counted all other Cells packed.inputs)

  outs_moved : moved to (standing packed all numbers).outs ≡ (standing packed all other).outs
  outs_moved =
      ap (map (λ (line : Pad). turn line)) (outs_counted all numbers (Cells + Ins) packed.outputs) ∙ ports_moved Outs (Cells + Ins) (λ k. get_or (output_ports packed) k []) (omega arith)
      ∙ sym (outs_counted all other (Cells + Ins) packed.outputs)

  abbrev pub all_to : PlainImplementation → PlainImplementation
  all_to placement = record { cells = moved to placement.cells; ins = moved to placement.ins; outs = moved to placement.outs; trees = placement.trees; reset = placement.reset }

  pub all_moved : all_to (standing packed all numbers) ≡ standing packed all other
  all_moved =
      let now = standing packed all numbers in
      let later = standing packed all other in
      let first : all_to now ≡ record { cells = later.cells; ins = moved to now.ins; outs = moved to now.outs; trees = []; reset = reset_name packed } =
      ap (λ (cells : List (ℕ × Site)). record { cells = cells; ins = moved to now.ins; outs = moved to now.outs; trees = []; reset = reset_name packed }) cells_moved in
      let second : ◌≡◌ {A = PlainImplementation} (record { cells = later.cells; ins = moved to now.ins; outs = moved to now.outs; trees = []; reset = reset_name packed }) (record { cells = later.cells; ins = later.ins; outs = moved to now.outs; trees = []; reset = reset_name packed }) =
      ap (λ (ins : List Pad). record { cells = later.cells; ins = ins; outs = moved to now.outs; trees = []; reset = reset_name packed }) ins_moved in
      first ∙ second ∙ ap (λ (outs : List Pad). record { cells = later.cells; ins = later.ins; outs = outs; trees = []; reset = reset_name packed }) outs_moved
