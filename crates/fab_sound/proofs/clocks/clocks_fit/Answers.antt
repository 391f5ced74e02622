use Rattle.std.proofs.Common.{◌≡◌, ◌∙◌, ℕ, ◌+◌, ◌<◌, List, [], ◌∷◌, length, get_or, is_some, sym, ap, arith, rules}
use Rattle.std.specs.List.{list_any}
use Rattle.std.proofs.lemmas.List.{length-append}
use Rattle.fab_sound.specs.inner.Checks.{known_module}
use Rattle.fab_sound.specs.inner.Rules.{is_counted, serves_in, item_serves}
use Rattle.fab_sound.proofs.Leading.{same_before, pushed_same, of_some, fails, fit_more, serve_more, taken_all}
use Rattle.fab_sound.proofs.clocks.clocks_fit.Goals as goal

pub returns-in-None-clause-broken : goal.returns-in-None-clause-broken
returns-in-None-clause-broken c = λ e.
    let library = c.args.library.now in
    let item : c.known-item.result ≡ get_or library.modules.items c.loop-known.known-index c.known-item.result = search rules in
    let inside : c.loop-known.known-index < length library.modules.items = omega (arith, c.loop-known-test.true, ap length c.deref-known-items.ensures.value) in
    fails _ library c.deref.result.now c.loop-known.known-index c.known-item.result c.requires.library_fits c.requires.instances
    (same_before library c.loop-known.serving.items c.deref.result.now c.loop-known.known-index c.deref.ensures.value c.loop-known.invariant.serve) inside item
    (sym c.in_ok-clocks.ensures.fits ∙ ap is_some c.in-None.is)

pub loop-known-preserved : goal.loop-known-preserved
loop-known-preserved c =
    let library = c.args.library.now in
    let item : c.known-item.result ≡ get_or library.modules.items c.loop-known.known-index c.known-item.result = search rules in
    let inside : c.loop-known.known-index < length library.modules.items = omega (arith, c.loop-known-test.true, ap length c.deref-known-items.ensures.value) in
    let maps = c.deref.result.now in
    let serve = same_before library c.loop-known.serving.items maps c.loop-known.known-index c.deref.ensures.value c.loop-known.invariant.serve in
    let long : length maps ≡ c.loop-known.known-index = ap length c.deref.ensures.value ∙ c.loop-known.invariant.counted in
    let put = pushed_same c.loop-known.serving.items maps c.push.new.self.items c.in-Some.clocks c.in_ok-push-in-Some.ensures.items c.deref.ensures.value in
    record {
      counted = ap length put ∙ length-append maps (c.in-Some.clocks ∷ []) ∙ ap (λ n. n + 1) long;
      fit = fit_more _ library maps c.loop-known.known-index c.known-item.result c.requires.library_fits c.requires.instances serve inside item
          (sym c.in_ok-clocks.ensures.fits ∙ ap is_some c.in-Some.is) c.loop-known.invariant.fit;
      serve = serve_more _ library maps c.loop-known.known-index c.known-item.result c.requires.library_fits c.requires.instances serve inside item
          c.in-Some.clocks c.push.new.self.items put long
          (of_some c.in_ok-clocks.field-0 (λ counts. (name : List ℕ) → is_counted counts name ≡ list_any (item_serves (serves_in library maps) name) (known_module c.known-item.result).items)
          c.in-Some.clocks c.in-Some.is c.in_ok-clocks.ensures.serve);
    }

pub returns-clause-fits : goal.returns-clause-fits
returns-clause-fits c = λ e.
    taken_all c.args.library.now c.loop-known.known-index (omega (arith, c.loop-known-test.false, ap length c.deref-known-items.ensures.value)) c.loop-known.invariant.fit
