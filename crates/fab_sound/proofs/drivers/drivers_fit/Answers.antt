use Rattle.std.proofs.Common.{◌≡◌, ◌∙◌, ◌<◌, get_or, length, sym, ap, arith, rules}
use Rattle.std.proofs.lemmas.Bool.Decides.{not_from_Decides}
use Rattle.std.specs.List.{list_all}
use Rattle.fab_sound.specs.inner.Checks.{known_module, library_text}
use Rattle.fab_sound.specs.inner.Rules.{module_is_driven}
use Rattle.fab_sound.proofs.Driven.{fails_at, drivers_decide}
use Rattle.fab_sound.proofs.drivers.drivers_fit.Goals as goal

pub returns-then-not-branch-clause-broken : goal.returns-then-not-branch-clause-broken
returns-then-not-branch-clause-broken c = λ e.
    let text = library_text c.args.library.now in
    let item : c.known-item.result ≡ get_or c.args.library.now.modules.items c.loop-known.known-index c.known-item.result = search rules in
    let inside : c.loop-known.known-index < length c.args.library.now.modules.items = omega (arith, c.loop-known-test.true, ap length c.deref-known-items.ensures.value) in
    not_from_Decides (list_all (module_is_driven text) text) (drivers_decide text)
    (sym c.loop-known.invariant
    ∙ fails_at (module_is_driven text) known_module c.args.library.now.modules.items c.loop-known.known-index c.known-item.result inside item
    (sym c.in_ok-module_is_driven.ensures ∙ c.if-not-branch.true))
