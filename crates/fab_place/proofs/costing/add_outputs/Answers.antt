use Rattle.std.proofs.Common.{◌∙◌, Bool, List, ℕ, sym, ap}
use Rattle.std.specs.Str.{bytes_eq}
use Rattle.fab_fabric.specs.declared.wire.Site.{Site}
use Rattle.fab_netlist.specs.declared.net_id.NetId.{NetId}
use Rattle.fab_ways_laws.specs.fab_legal_Sinks.{site_of}
use Rattle.fab_ways_laws.specs.Placing.{same_net}
use Rattle.fab_place.specs.inner.Boxes.{included}
use Rattle.fab_place.proofs.Boxed.{list_stays, list_grows}
use Rattle.fab_place.proofs.costing.add_outputs.Goals as goal

pub loop-place-preserved-then-not-is_net : goal.loop-place-preserved-then-not-is_net
loop-place-preserved-then-not-is_net c =
    let test : List ℕ × NetId → Bool = λ output. same_net c.args.net output.1 in
    let made : List ℕ × NetId → Site = λ output. site_of bytes_eq c.args.lines.now output.0 in
    list_stays c.args.area.now c.loop-place.area c.loop-place.area test made c.loop-place.place c.args.outputs.now c.index-outputs-place.result c.loop-place-test.true c.loop-place.invariant
    (ap test (sym c.index-outputs-place.is) ∙ sym c.is_net.ensures ∙ c.if-not-is_net.true)

pub loop-place-preserved : goal.loop-place-preserved
loop-place-preserved c =
    let test : List ℕ × NetId → Bool = λ output. same_net c.args.net output.1 in
    let made : List ℕ × NetId → Site = λ output. site_of bytes_eq c.args.lines.now output.0 in
    list_grows c.args.area.now c.loop-place.area c.include.new.self test made c.loop-place.place c.args.outputs.now c.index-outputs-place.result c.loop-place-test.true c.loop-place.invariant
    (ap test (sym c.index-outputs-place.is) ∙ sym c.is_net.ensures ∙ c.if-not-is_net.false) (c.include.ensures ∙ ap (included c.loop-place.area) (c.port_site.ensures ∙ ap made c.index-outputs-place.is))
