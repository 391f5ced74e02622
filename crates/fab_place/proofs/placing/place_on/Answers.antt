use Rattle.std.proofs.Common.{◌∙◌, List, ℕ, ap}
use Rattle.std.proofs.lemmas.Result.{IfOk-weaker}
use Rattle.fab_place.specs.Standing.{standing}
use Rattle.fab_place.proofs.Settling.{good_end, on_fabric_end}
use Rattle.fab_place.proofs.placing.place_on.Goals as goal

pub returns-clause-good : goal.returns-clause-good
returns-clause-good g c =
    let sites = c.in_ok-sites.sites.items in
    let numbers = c.in_ok-numbers.numbers.items in
    IfOk-weaker c.implementation_of.result _ _
    (λ made is. good_end c.args.fabric.now c.args.packed.now c.args.fixed.now c.args.luts.now c.args.pads.now c.requires.luts c.requires.pads c.requires.fits c.requires.fixed numbers c.in_ok-numbers.ensures c.deref-2.result.now (c.deref-2.ensures.value ∙ c.in_ok-sites.ensures) made
    (is ∙ ap (λ (ns : List ℕ). standing c.args.packed.now c.deref-2.result.now ns) c.deref-3.ensures.value)) c.implementation_of.ensures

pub returns-clause-on_fabric : goal.returns-clause-on_fabric
returns-clause-on_fabric g c =
    let sites = c.in_ok-sites.sites.items in
    let numbers = c.in_ok-numbers.numbers.items in
    IfOk-weaker c.implementation_of.result _ _
    (λ made is. on_fabric_end c.args.fabric.now c.args.packed.now c.args.fixed.now c.args.luts.now c.args.pads.now c.requires.luts c.requires.pads c.requires.fits c.requires.fixed numbers c.in_ok-numbers.ensures c.deref-2.result.now (c.deref-2.ensures.value ∙ c.in_ok-sites.ensures) made
    (is ∙ ap (λ (ns : List ℕ). standing c.args.packed.now c.deref-2.result.now ns) c.deref-3.ensures.value)) c.implementation_of.ensures
