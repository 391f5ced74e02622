-- The text of a summary.
use Rattle.std.specs.Prelude.{ℕ, List, [], ◌∷◌, ◌++◌, codes, decimal, length, sum_by}
use Rattle.fab_base.specs.Report.{number_of, report}
use Rattle.fab_fabric.specs.Fabric.{wire_count}
use Rattle.fab_model.specs.Grid.{PlainFabric}
use Rattle.fab_netlist.specs.Kept.{kept}
use Rattle.fab_netlist.specs.Plain.{PlainNetlist}
use Rattle.fab_netlist.specs.Packing.{packed}
use Rattle.fab_implementation.specs.Plain.{PlainImplementation}
use Rattle.fab_designs.specs.Designs.{PlainDesign}
use Rattle.fab_sample.specs.Lines.{Line, text, words}
use Rattle.fab_sampling.specs.declared.outcome.Outcome.{Outcome}
use Rattle.fab_sampling.specs.declared.outcome.Outcome.TheVariants.{Mapped, Unmapped}

-- how many edges the nets of an implementation have
abbrev pub edge_count : PlainImplementation → ℕ
edge_count implementation = sum_by (λ tree. length tree.edges) implementation.trees

abbrev pub sample_line : (size seed : ℕ) → Line
sample_line size seed = words (codes "sample" ∷ decimal size ∷ decimal seed ∷ [])

abbrev pub fabric_line : PlainFabric → Line
fabric_line fabric = words (codes "columns" ∷ decimal fabric.columns ∷ codes "rows" ∷ decimal fabric.rows ∷ codes "wires" ∷ decimal (wire_count fabric) ∷ [])

-- covers that are kept, latches, and the cells that both are packed into
abbrev pub netlist_line : PlainNetlist → Line
netlist_line netlist =
    words (codes "covers" ∷ decimal (kept netlist) ∷ codes "latches" ∷ decimal (length netlist.latches) ∷ codes "sites" ∷ decimal (length (packed netlist).cells) ∷ [])

abbrev pub design_lines : (size seed : ℕ) → PlainDesign → List Line
design_lines size seed design = sample_line size seed ∷ fabric_line design.fabric ∷ netlist_line design.netlist ∷ []

abbrev pub status_line : (number : ℕ) → Line
status_line number = words (codes "status" ∷ decimal number ∷ [])

abbrev pub cost_line : (cost edges : ℕ) → Line
cost_line cost edges = words (codes "cost" ∷ decimal cost ∷ codes "edges" ∷ decimal edges ∷ [])

-- what came of it; a fault is reported as `flow` does
abbrev pub outcome_text : Outcome → List ℕ
outcome_text (Mapped cost edges) = text (status_line 0 ∷ cost_line cost edges ∷ codes "cycles 16 agree" ∷ [])
outcome_text (Unmapped fault) = text (status_line (number_of fault).0 ∷ []) ++ report fault

abbrev pub summary_text : (size seed : ℕ) → PlainDesign → Outcome → List ℕ
summary_text size seed design outcome = text (design_lines size seed design) ++ outcome_text outcome
