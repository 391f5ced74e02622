use Rattle.std.proofs.Common.{◌≡◌, ◌∙◌, ◌+◌, ◌<◌, [], Bool, ◌&&◌, take, drop, length, get_or, sym, ap, subst, arith, rules}
use Rattle.std.proofs.lemmas.Bool.Decides.{not_from_Decides}
use Rattle.fab_sound.specs.declared.tables.Known.{Known}
use Rattle.fab_sound.specs.inner.Checks.{known_module, library_text, HasNets}
use Rattle.fab_sound.specs.inner.Rules.{instances_pass}
use Rattle.fab_sound.proofs.Joining.{instances_decide, instances_step, instances_end}
use Rattle.fab_sound.proofs.instances.instances_fit.Goals as goal

pub module_fits-requires-clause-nets : goal.module_fits-requires-clause-nets
module_fits-requires-clause-nets c =
    let item : c.known-item.result ≡ get_or c.args.library.now.modules.items c.loop-number.number c.known-item.result = search rules in
    let inside : c.loop-number.number < length c.args.library.now.modules.items = omega (arith, c.loop-number-test.true, ap length c.deref-known-items.ensures.value) in
    subst (λ (k : Known). HasNets k.names (known_module k)) (sym item) (c.requires.library_fits.nets c.loop-number.number c.known-item.result inside)

pub returns-then-not-branch-clause-broken : goal.returns-then-not-branch-clause-broken
returns-then-not-branch-clause-broken c = λ e.
    let text = library_text c.args.library.now in
    let item : c.known-item.result ≡ get_or c.args.library.now.modules.items c.loop-number.number c.known-item.result = search rules in
    let inside : c.loop-number.number < length c.args.library.now.modules.items = omega (arith, c.loop-number-test.true, ap length c.deref-known-items.ensures.value) in
    let step = instances_step c.args.library.now.modules.items c.loop-number.number c.known-item.result inside item in
    not_from_Decides (instances_pass [] text) (instances_decide [] text)
    (sym c.loop-number.invariant ∙ step
    ∙ ap (λ (b : Bool). b && instances_pass (take (c.loop-number.number + 1) text) (drop (c.loop-number.number + 1) text)) (sym c.in_ok-module_fits.ensures ∙ c.if-not-branch.true))

pub loop-number-preserved : goal.loop-number-preserved
loop-number-preserved c =
    let text = library_text c.args.library.now in
    let item : c.known-item.result ≡ get_or c.args.library.now.modules.items c.loop-number.number c.known-item.result = search rules in
    let inside : c.loop-number.number < length c.args.library.now.modules.items = omega (arith, c.loop-number-test.true, ap length c.deref-known-items.ensures.value) in
    let step = instances_step c.args.library.now.modules.items c.loop-number.number c.known-item.result inside item in
    sym (ap (λ (b : Bool). b && instances_pass (take (c.loop-number.number + 1) text) (drop (c.loop-number.number + 1) text)) (sym c.in_ok-module_fits.ensures ∙ c.if-not-branch.false))
    ∙ sym step ∙ c.loop-number.invariant

pub returns-clause-fits : goal.returns-clause-fits
returns-clause-fits c = λ e.
    let text = library_text c.args.library.now in
    (instances_decide [] text).0 (sym c.loop-number.invariant ∙ instances_end c.args.library.now.modules.items c.loop-number.number (omega (arith, c.loop-number-test.false, ap length c.deref-known-items.ensures.value)))
