use Rattle.std.proofs.Common.{◌≡◌, ◌+◌, ◌<◌, ◌∙◌, ◌∷◌, List, ℕ, length, get_or, ap, subst, arith}
use Rattle.std.specs.Str.{bytes_eq}
use Rattle.fab_fabric.specs.declared.wire.Site.{Site}
use Rattle.fab_netlist.specs.declared.net_id.NetId.TheVariants as ids
use Rattle.fab_netlist.specs.Packed.{PlainPacked}
use Rattle.fab_implementation.specs.Plain.{Pad, PlainImplementation}
use Rattle.fab_ways_laws.specs.fab_legal_Sinks.{site_of}
use Rattle.fab_ways_laws.specs.Placing.{half_perimeter, reader_sites}
use Rattle.fab_place.proofs.Boxed.{sum_more}
use Rattle.fab_place.proofs.costing.inputs_cost.Goals as goal

pub loop-number-preserved : goal.loop-number-preserved
loop-number-preserved c =
    let packed = c.args.packed.now in
    let placed = c.args.placed.now in
    let n = c.loop-number.number in
    let total = c.loop-number.total in
    let port = c.port-item.result in
    let f : ℕ × List ℕ → ℕ = λ input. half_perimeter (site_of bytes_eq placed.ins input.1 ∷ reader_sites packed placed (ids.In input.0)) in
    let all : c.deref-port-items.result.now ≡ packed.inputs = c.deref-port-items.ensures.value ∙ ap (λ (p : PlainPacked). p.inputs) c.packed.view_is in
    let low : n < length packed.inputs = subst (λ (names : List (List ℕ)). n < length names) all c.loop-number-test.true in
    let name : port ≡ get_or packed.inputs n port = c.port-item.is ∙ ap (λ (names : List (List ℕ)). get_or names n port) all in
    let source : c.port_site-source.result ≡ site_of bytes_eq placed.ins (get_or packed.inputs n port) =
    c.port_site-source.ensures ∙ ap (λ (lines : List Pad). site_of bytes_eq lines port) (c.deref.ensures.value ∙ ap (λ (i : PlainImplementation). i.ins) c.placed.view_is)
    ∙ ap (site_of bytes_eq placed.ins) name in
    let more : total + c.half_of-total.result ≡ total + f (n, get_or packed.inputs n port) =
    ap (λ m. total + m) (c.half_of-total.ensures.value ∙ ap (λ (site : Site). half_perimeter (site ∷ reader_sites packed placed (ids.In n))) source) in
    record {
      told = sum_more f total (total + c.half_of-total.result) n packed.inputs port low c.loop-number.invariant.told more;
      small = omega (arith, c.loop-number.invariant.small, c.half_of-total.ensures.small);
    }
