use Rattle.std.proofs.Common.{◌≡◌, ◌∙◌, Bool, IfOk, ap, subst}
use Rattle.fab_syntax.specs.Plain.{plain_join}
use Rattle.fab_sound.specs.inner.Checks.{known_module, found_width}
use Rattle.fab_sound.specs.inner.Rules.{fits_declared}
use Rattle.fab_sound.proofs.Joining.{found_join}
use Rattle.fab_sound.proofs.instances.join_fits.Goals as goal

pub returns : goal.returns
returns c =
    subst (λ (b : Bool). IfOk c.fits_declared.result (λ fits. fits ≡ b))
    (ap (λ o. fits_declared (found_width c.args.known.now.names) o (plain_join c.args.join.now).to) c.declaration-declared.ensures
    ∙ found_join _ _ c.args.known.now.names c.args.below.now.names (known_module c.args.known.now) (known_module c.args.below.now) (plain_join c.args.join.now)
    c.requires.nets c.requires.nets_below)
    c.fits_declared.ensures
