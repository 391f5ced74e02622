use Rattle.std.proofs.Common.{◌≡◌, ◌∙◌, Bool, ℕ, nat_eq, sym, ap}
use Rattle.fab_fabric.specs.declared.wire.Site.{Site}
use Rattle.fab_netlist.specs.Packed.{PlainCell}
use Rattle.fab_ways_laws.specs.fab_legal_Sinks.{site_of}
use Rattle.fab_ways_laws.specs.Placing.{reads_net}
use Rattle.fab_place.specs.inner.Boxes.{included}
use Rattle.fab_place.proofs.Boxed.{box_stays, box_grows}
use Rattle.fab_place.proofs.costing.add_cells.Goals as goal

pub loop-number-preserved-then-not-reads_net : goal.loop-number-preserved-then-not-reads_net
loop-number-preserved-then-not-reads_net c =
    let test : PlainCell → Bool = reads_net c.args.reset c.args.net in
    let made : ℕ → Site = λ number. site_of nat_eq c.args.lines.now number in
    let cell = c.index-cells-number.result in
    box_stays c.args.area.now c.loop-number.area c.loop-number.area test made c.loop-number.number c.args.cells.now cell c.loop-number-test.true c.loop-number.invariant
    (ap test (sym c.index-cells-number.is) ∙ sym c.reads_net.ensures ∙ c.if-not-reads_net.true)

pub loop-number-preserved : goal.loop-number-preserved
loop-number-preserved c =
    let test : PlainCell → Bool = reads_net c.args.reset c.args.net in
    let made : ℕ → Site = λ number. site_of nat_eq c.args.lines.now number in
    let cell = c.index-cells-number.result in
    box_grows c.args.area.now c.loop-number.area c.include.new.self test made c.loop-number.number c.args.cells.now cell c.loop-number-test.true c.loop-number.invariant
    (ap test (sym c.index-cells-number.is) ∙ sym c.reads_net.ensures ∙ c.if-not-reads_net.false) (c.include.ensures ∙ ap (included c.loop-number.area) c.cell_site.ensures)
