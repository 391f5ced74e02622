use Rattle.std.proofs.Common.{◌≡◌, ◌≤◌, ◌*◌, ◌∷◌, ℕ, take}
use Rattle.std.specs.List.{enumerate_from, sum_by}
use Rattle.fab_netlist.specs.declared.net_id.NetId.TheVariants as ids
use Rattle.fab_netlist.specs.Packed.{PlainCell}
use Rattle.fab_ways_laws.specs.Placing.{half_perimeter, cell_site, reader_sites}
use Rattle.fab_place.proofs.costing.cells_cost.Given as goal

abbrev pub invariant-loop-number : goal.invariant-loop-number
invariant-loop-number l = record {
  told : l.total ≡ sum_by (λ (cell : ℕ × PlainCell). half_perimeter (cell_site l.fn.placed cell.0 ∷ reader_sites l.fn.packed l.fn.placed (ids.Cell cell.0))) (enumerate_from 0 (take l.number l.fn.packed.cells));
  small : l.total ≤ l.number * 8589934592;
}
