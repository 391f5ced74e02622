use Rattle.std.proofs.Common.{◌≡◌, true, false}
use Rattle.std.specs.List.{list_all}
use Rattle.fab_syntax.specs.Sound.{SelectsFit}
use Rattle.fab_sound.specs.declared.sizes.Rule.TheVariants.{Selects}
use Rattle.fab_sound.specs.inner.Checks.{module_passes, library_text}
use Rattle.fab_sound.proofs.Judging.{selects_says, yes_of, no_of, along_ok}
use Rattle.fab_sound.proofs.sizes.selects_fit.Goals as goal

pub returns-clause-fits : goal.returns-clause-fits
returns-clause-fits c =
    let library = c.args.library.now in
    let test = list_all (module_passes Selects) library.modules.items in
    along_ok c.modules_fit.result (λ fits. fits ≡ test) (λ fits. fits ≡ true → SelectsFit (library_text library))
    (λ fits is. yes_of fits test (SelectsFit (library_text library)) (selects_says library c.requires) is) c.modules_fit.ensures.passes

pub returns-clause-broken : goal.returns-clause-broken
returns-clause-broken c =
    let library = c.args.library.now in
    let test = list_all (module_passes Selects) library.modules.items in
    along_ok c.modules_fit.result (λ fits. fits ≡ test) (λ fits. fits ≡ false → ¬ SelectsFit (library_text library))
    (λ fits is. no_of fits test (SelectsFit (library_text library)) (selects_says library c.requires) is) c.modules_fit.ensures.passes
