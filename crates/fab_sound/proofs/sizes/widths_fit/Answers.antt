use Rattle.std.proofs.Common.{◌≡◌, true, false}
use Rattle.std.specs.List.{list_all}
use Rattle.fab_syntax.specs.Sound.{WidthsFit}
use Rattle.fab_sound.specs.declared.sizes.Rule.TheVariants.{Widths}
use Rattle.fab_sound.specs.inner.Checks.{module_passes, module_narrow, library_text}
use Rattle.fab_sound.specs.Narrow.{AreNarrow}
use Rattle.fab_sound.proofs.Judging.{widths_says, text_narrow_says, yes_of, no_of, along_ok}
use Rattle.fab_sound.proofs.sizes.widths_fit.Goals as goal

pub returns-clause-fits : goal.returns-clause-fits
returns-clause-fits c =
    let library = c.args.library.now in
    let test = list_all (module_passes Widths) library.modules.items in
    along_ok c.modules_fit.result (λ fits. fits ≡ test) (λ fits. fits ≡ true → WidthsFit (library_text library))
    (λ fits is. yes_of fits test (WidthsFit (library_text library)) (widths_says library c.requires) is) c.modules_fit.ensures.passes

pub returns-clause-broken : goal.returns-clause-broken
returns-clause-broken c =
    let library = c.args.library.now in
    let test = list_all (module_passes Widths) library.modules.items in
    along_ok c.modules_fit.result (λ fits. fits ≡ test) (λ fits. fits ≡ false → ¬ WidthsFit (library_text library))
    (λ fits is. no_of fits test (WidthsFit (library_text library)) (widths_says library c.requires) is) c.modules_fit.ensures.passes

pub returns-clause-narrow : goal.returns-clause-narrow
returns-clause-narrow c =
    let library = c.args.library.now in
    along_ok c.modules_fit.result (λ fits. fits ≡ true → list_all module_narrow library.modules.items ≡ true) (λ fits. fits ≡ true → AreNarrow (library_text library))
    (λ fits is y. (text_narrow_says library c.requires).0 (is y)) c.modules_fit.ensures.narrow
