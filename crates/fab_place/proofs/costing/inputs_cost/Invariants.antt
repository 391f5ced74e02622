use Rattle.std.proofs.Common.{◌≡◌, ◌≤◌, ◌*◌, ◌∷◌, ℕ, List, take}
use Rattle.std.specs.List.{enumerate_from, sum_by}
use Rattle.std.specs.Str.{bytes_eq}
use Rattle.fab_netlist.specs.declared.net_id.NetId.TheVariants as ids
use Rattle.fab_ways_laws.specs.fab_legal_Sinks.{site_of}
use Rattle.fab_ways_laws.specs.Placing.{half_perimeter, reader_sites}
use Rattle.fab_place.proofs.costing.inputs_cost.Given as goal

abbrev pub invariant-loop-number : goal.invariant-loop-number
invariant-loop-number l = record {
  told : l.total ≡ sum_by (λ (port : ℕ × List ℕ). half_perimeter (site_of bytes_eq l.fn.placed.ins port.1 ∷ reader_sites l.fn.packed l.fn.placed (ids.In port.0))) (enumerate_from 0 (take l.number l.fn.packed.inputs));
  small : l.total ≤ l.number * 8589934592;
}
