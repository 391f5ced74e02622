use Rattle.std.proofs.Common.{rules, ◌≡◌, ◌+◌, ◌<◌, ◌∙◌, ◌∷◌, List, [], ℕ, None, length, nat_eq, get_or, ap, arith}
use Rattle.std.proofs.lemmas.Grind.{common_steps}
use Rattle.fab_fabric.specs.declared.wire.Site.{Site}
use Rattle.fab_netlist.specs.declared.net_id.NetId.TheVariants as ids
use Rattle.fab_netlist.specs.Packed.{PlainCell}
use Rattle.fab_implementation.specs.Plain.{PlainImplementation}
use Rattle.fab_ways_laws.specs.fab_legal_Sinks.{site_of}
use Rattle.fab_ways_laws.specs.Placing.{half_perimeter, cell_site, reader_sites}
use Rattle.fab_place.proofs.Boxed.{sum_more}
use Rattle.fab_place.proofs.costing.cells_cost.Goals as goal

pub loop-number-preserved : goal.loop-number-preserved
loop-number-preserved c =
    let packed = c.args.packed.now in
    let placed = c.args.placed.now in
    let n = c.loop-number.number in
    let total = c.loop-number.total in
    let f : ℕ × PlainCell → ℕ = λ cell. half_perimeter (cell_site placed cell.0 ∷ reader_sites packed placed (ids.Cell cell.0)) in
    let none : PlainCell = record { table = 0; inputs = []; latch = None } in
    let end : c.len-number-end.result ≡ length packed.cells = first_of (search rules, grind (arith, common_steps)) in
    let low : n < length packed.cells = omega (arith, c.loop-number-test.true, end) in
    let source : c.cell_site-source.result ≡ cell_site placed n =
    c.cell_site-source.ensures ∙ ap (λ (lines : List (ℕ × Site)). site_of nat_eq lines n) (c.deref.ensures.value ∙ ap (λ (i : PlainImplementation). i.cells) c.placed.view_is) in
    let more : total + c.half_of-total.result ≡ total + f (n, get_or packed.cells n none) =
    ap (λ m. total + m) (c.half_of-total.ensures.value ∙ ap (λ (site : Site). half_perimeter (site ∷ reader_sites packed placed (ids.Cell n))) source) in
    record {
      told = sum_more f total (total + c.half_of-total.result) n packed.cells none low c.loop-number.invariant.told more;
      small = omega (arith, c.loop-number.invariant.small, c.half_of-total.ensures.small);
    }
