use Rattle.std.proofs.Common.{◌≡◌, ℕ, ◌<◌, ◌-◌, List, Option, None, Some, length, get_or, ap, ◌∙◌, sym, arith}
use Rattle.std.specs.List.{flat_map}
use Rattle.std.specs.Option.{option_map}
use Rattle.fab_fabric.specs.Fabric.{wires_at}
use Rattle.fab_fabric.specs.Wires.{wire_index}
use Rattle.fab_fabric.specs.declared.wire.Wire.{Wire}
use Rattle.fab_fabric.proofs.Numbered.{index_within}
use Rattle.fab_implementation.specs.Plain.{Edge, PlainTree}
use Rattle.fab_features.specs.Design.{edge_into}
use Rattle.fab_features.specs.inner.Lookups.{IsLookup}
use Rattle.fab_features.specs.declared.features.Lookup.{Lookup}
use Rattle.fab_features.proofs.Tables.{read_is, first_edge, left_of}
use Rattle.fab_features.proofs.features.Lookup.input_of.Goals as goal

looked : (lookup : Lookup) (x y output wire : ℕ) (from : Option ℕ) → IsLookup lookup → output < wires_at lookup.fabric.now x y → wire ≡ wire_index lookup.fabric.now x y output →
    from ≡ get_or lookup.entering.items wire from →
    option_map (λ n. n - wire_index lookup.fabric.now x y 0) from
    ≡ option_map (λ (edge : Edge). edge.0.0 - wire_index lookup.fabric.now x y 0) (edge_into lookup.implementation.now (wire_index lookup.fabric.now x y output))
looked lookup x y output wire from is few wire_is read =
    let fabric = lookup.fabric.now in
    let index = wire_index fabric x y output in
    let edges : List Edge = flat_map (λ (t : PlainTree). t.edges) lookup.implementation.now.trees in
    let fits = index_within fabric x y output few in
    let inside : wire < length lookup.entering.items = omega (arith, fits, wire_is, is.entering.as_many) in
    let found : from ≡ option_map (λ (edge : Edge). edge.0.0) (edge_into lookup.implementation.now index) =
    sym (read_is lookup.entering.items wire from None inside read) ∙ ap (λ n. get_or lookup.entering.items n None) wire_is ∙ is.entering.each index fits ∙ first_edge edges index in
    left_of (edge_into lookup.implementation.now index) (wire_index fabric x y 0) from found

pub returns-in-None : goal.returns-in-None
returns-in-None c =
    let lookup = c.args.self.now in
    ap (option_map (λ n. n - wire_index lookup.fabric.now c.args.x c.args.y 0)) (sym c.in-None.is)
    ∙ looked lookup c.args.x c.args.y c.args.output c.wire_at-wire.result.0 c.index.result.now c.requires.is c.requires.output (ap (λ (w : Wire). w.0) c.wire_at-wire.ensures.index) c.index.ensures

pub returns-in-Some : goal.returns-in-Some
returns-in-Some c =
    let lookup = c.args.self.now in
    ap (λ n. Some n) (c.saturating_sub.ensures ∙ ap (λ (w : Wire). c.in-Some.from - w.0) c.wire_at-first.ensures.index)
    ∙ ap (option_map (λ n. n - wire_index lookup.fabric.now c.args.x c.args.y 0)) (sym c.in-Some.is)
    ∙ looked lookup c.args.x c.args.y c.args.output c.wire_at-wire.result.0 c.index.result.now c.requires.is c.requires.output (ap (λ (w : Wire). w.0) c.wire_at-wire.ensures.index) c.index.ensures
