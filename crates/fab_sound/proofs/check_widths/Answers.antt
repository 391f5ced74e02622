use Rattle.std.proofs.Common.{◌≡◌, [], map}
use Rattle.fab_syntax.specs.Plain.{plain_module}
use Rattle.fab_syntax.specs.Sound.{text_refusals}
use Rattle.fab_sound.specs.inner.Checks.{StartsWith}
use Rattle.fab_sound.proofs.Noting.{of_err, first_refused}
use Rattle.fab_sound.proofs.check_widths.Goals as goal

pub returns-in-Err-clause-broken : goal.returns-in-Err-clause-broken
returns-in-Err-clause-broken c = λ reason e.
    let refused = of_err c.in_ok-library.field-0 (λ library. text_refusals [] (map plain_module c.deref.result.now) ≡ [])
    (λ r. StartsWith (text_refusals [] (map plain_module c.deref.result.now)) r) c.in-Err.reason c.in-Err.is c.in_ok-library.ensures.names in
    first_refused c.deref.result.now c.args.text.now.modules.items c.in-Err.reason reason c.deref.ensures.value refused e
