use Rattle.std.proofs.Common.{◌≡◌, ◌++◌, ◌∙◌, ap, Bool, ℕ, map}
use Rattle.fab_blif.specs.Clocks.{clock_uses, data_faults, first_use, is_clock, named_faults}
use Rattle.fab_blif.specs.Design.{PlainDesign}
use Rattle.fab_blif.specs.Judged.{inner_drivers, is_among, is_driven, readers}
use Rattle.fab_blif.specs.inner.Walk.{plain_clock, plain_nets}
use Rattle.fab_blif.proofs.clocks.clock_faults.Goals as goal

pub returns : goal.returns
returns c =
    let design = c.args.design.now in
    let clocking = c.in_ok-clocking.clocking in
    let told = c.in_ok-clocking.ensures in
    let driven : ◌≡◌ {A = ℕ → Bool} (is_among clocking.driven.keys) (is_driven design) = λ j net. told.driven net j in
    let clocks : ◌≡◌ {A = ℕ → Bool} (is_among clocking.clocks.keys) (is_clock design) = λ j net. told.clocks net j in
    let nets : plain_nets c.design.inside.nets.keys ≡ design.nets = ap (λ (d : PlainDesign). d.nets) c.design.view_is in
    let names : map plain_clock c.deref.result.now ≡ design.clocks = ap (map plain_clock) c.deref.ensures.value ∙ ap (λ (d : PlainDesign). d.clocks) c.design.view_is in
    let uses : c.deref-2.result.now ≡ readers design ++ inner_drivers design = c.deref-2.ensures.value ∙ c.in_ok-data_uses.ensures in
    let named : c.put_named.new.faults.items ≡ named_faults (is_driven design) (is_clock design) (first_use (clock_uses design.nets design.clocks)) design.nets design.clocks =
    c.in_ok-put_named.ensures ∙ (λ j. c.new-faults.ensures.items j ++ named_faults (driven j) (clocks j) (told.first j) (nets j) (names j)) in
    c.in_ok-put_data.ensures ∙ (λ j. named j ++ data_faults (clocks j) (uses j))
