use Rattle.std.proofs.Common.{◌≡◌, ◌∙◌, [], refl, sym, true, false, get_or, is_some, rules}
use Rattle.fab_syntax.specs.Plain.{plain_module}
use Rattle.fab_syntax.specs.Sound.{mentions_in, refusals}
use Rattle.fab_sound.specs.inner.Checks.{found, StartsWith}
use Rattle.fab_sound.proofs.Noting.{not_true, modules_pass, of_ok}
use Rattle.fab_sound.proofs.Nets.{of_fine, text_step, nets_step, places_step}
use Rattle.fab_sound.proofs.names.name_modules.Goals as goal

pub loop-module-preserved : goal.loop-module-preserved
loop-module-preserved c =
    let at = c.loop-module.invariant.0 in
    let item : c.module-item.result ≡ get_or c.args.modules.now c.loop-module.module-index c.module-item.result = search rules in
    let fresh : c.in_ok-enter.field-0 ≡ true = search rules in
    let absent : is_some (found c.loop-module.numbers c.module-item.result.name) ≡ false = not_true _ (sym c.in_ok-enter.ensures.new ∙ fresh) in
    let fit = of_ok c.in_ok-names.field-0 (λ names. refusals [] (mentions_in (plain_module c.module-item.result)) ≡ [])
    (λ reason. StartsWith (refusals [] (mentions_in (plain_module c.module-item.result))) reason) c.in-Ok.names c.in-Ok.is c.in_ok-names.ensures.names in
    let h = modules_pass _ c.loop-module.numbers c.enter.new.numbers c.args.modules.now c.loop-module.module-index c.module-item.result c.loop-module-test.true item at.0 at.1
    c.len.result absent (c.in_ok-enter.ensures.gives fresh) fit in
    let put = c.in_ok-push-in-Ok.ensures.items in
    let m = c.module-item.result in (
      (h.0, h.1, at.2 ∙ h.2),
      text_step c.loop-module.known.items c.push.new.self.items _ put m refl c.args.modules.now c.loop-module.module-index c.loop-module-test.true item
          ∙ c.loop-module.invariant.1,
      nets_step c.loop-module.known.items c.push.new.self.items _ put m refl c.loop-module.invariant.2 (of_fine c.in_ok-names.field-0 _ c.in-Ok.names c.in-Ok.is c.in_ok-names.ensures.nets),
      places_step c.loop-module.known.items c.push.new.self.items _ put m refl _ c.loop-module.numbers c.enter.new.numbers c.len.result (search rules)
          c.loop-module.invariant.3 absent (c.in_ok-enter.ensures.gives fresh),
    )
