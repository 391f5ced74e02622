use Rattle.std.proofs.Common.{◌∙◌, ◌++◌, [], ◌∷◌, ap, sym, map, slice_range, List, ℕ, arith, append_assoc}
use Rattle.std.proofs.lemmas.List.{map_push}
use Rattle.fab_kinds.specs.Pins.{pin_names}
use Rattle.fab_meaning.specs.Ports.{scalar}
use Rattle.fab_prim.proofs.Pins.{range_more}
use Rattle.fab_prim.proofs.ports.push_pins.Goals as goal

pub loop-pin-preserved : goal.loop-pin-preserved
loop-pin-preserved c =
    let names = pin_names c.args.kind in
    let port = scalar c.args.input in
    let from = c.args.from in
    let pin = c.loop-pin.pin in
    let name = c.pin_name.result.now in
    let old = c.args.ports.now.items in
    record {
      least = omega arith;
      ports =
          c.in_ok-push_scalar.ensures
          ∙ ap (λ front. front ++ port c.as_bytes.result.now ∷ []) c.loop-pin.invariant.ports
          ∙ ap (λ (n : List ℕ). (old ++ map port (slice_range names from pin)) ++ port n ∷ []) c.as_bytes.ensures.value
          ∙ append_assoc old (map port (slice_range names from pin)) (port name ∷ [])
          ∙ ap (λ ports. old ++ ports)
          (sym (map_push port (slice_range names from pin) name)
          ∙ ap (map port) (sym (range_more names from pin name c.loop-pin.invariant.least c.pin_name.ensures)));
    }
