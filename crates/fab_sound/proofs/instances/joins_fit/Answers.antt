use Rattle.std.proofs.Common.{◌≡◌, Option, IfOk, map, sym, ap, subst}
use Rattle.fab_syntax.specs.Plain.{PlainModule, plain_join}
use Rattle.fab_sound.specs.inner.Checks.{known_module}
use Rattle.fab_sound.specs.inner.Rules.{joins_pass}
use Rattle.fab_sound.proofs.instances.joins_fit.Goals as goal

pub returns-in-Some : goal.returns-in-Some
returns-in-Some c =
    subst (λ (o : Option PlainModule). IfOk c.instance_fits.result (λ fits. fits ≡ joins_pass (known_module c.args.known.now) o (map plain_join c.args.joins.now)))
    (sym c.in-Some.ensures.0) c.instance_fits.ensures

pub returns-in-None : goal.returns-in-None
returns-in-None c = ap (λ (o : Option PlainModule). joins_pass (known_module c.args.known.now) o (map plain_join c.args.joins.now)) (sym c.in-None.ensures)
