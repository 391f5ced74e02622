use Rattle.std.proofs.Common.{◌≡◌, true, false, rules}
use Rattle.fab_base.specs.declared.words.Reason.TheVariants.{Select, Width, Instance, Drivers, Clock}
use Rattle.fab_syntax.specs.Sound.{breaks_selects, breaks_widths, breaks_instances, breaks_drivers, breaks_clocks}
use Rattle.fab_sound.specs.inner.Checks.{library_text}
use Rattle.fab_sound.proofs.Judging.{for_reason}
use Rattle.fab_sound.proofs.first_broken.Goals as goal

pub returns-then-not-branch-clause-broken : goal.returns-then-not-branch-clause-broken
returns-then-not-branch-clause-broken c = λ reason e.
    let refused : c.in_ok-selects_fit.field-0 ≡ false = search rules in
    for_reason (library_text c.args.library.now) Select reason e (breaks_selects c.requires.names (c.in_ok-selects_fit.ensures.broken refused))

pub returns-then-not-branch-2-clause-broken : goal.returns-then-not-branch-2-clause-broken
returns-then-not-branch-2-clause-broken c = λ reason e.
    let selects_kept : c.in_ok-selects_fit.field-0 ≡ true = search rules in
    let selects = c.in_ok-selects_fit.ensures.fits selects_kept in
    let refused : c.in_ok-widths_fit.field-0 ≡ false = search rules in
    for_reason (library_text c.args.library.now) Width reason e (breaks_widths c.requires.names selects (c.in_ok-widths_fit.ensures.broken refused))

pub returns-then-not-branch-3-clause-broken : goal.returns-then-not-branch-3-clause-broken
returns-then-not-branch-3-clause-broken c = λ reason e.
    let selects_kept : c.in_ok-selects_fit.field-0 ≡ true = search rules in
    let selects = c.in_ok-selects_fit.ensures.fits selects_kept in
    let widths_kept : c.in_ok-widths_fit.field-0 ≡ true = search rules in
    let widths = c.in_ok-widths_fit.ensures.fits widths_kept in
    let refused : c.in_ok-instances_fit.field-0 ≡ false = search rules in
    for_reason (library_text c.args.library.now) Instance reason e (breaks_instances c.requires.names selects widths (c.in_ok-instances_fit.ensures.broken refused))

pub returns-then-not-branch-4-clause-broken : goal.returns-then-not-branch-4-clause-broken
returns-then-not-branch-4-clause-broken c = λ reason e.
    let selects_kept : c.in_ok-selects_fit.field-0 ≡ true = search rules in
    let selects = c.in_ok-selects_fit.ensures.fits selects_kept in
    let widths_kept : c.in_ok-widths_fit.field-0 ≡ true = search rules in
    let widths = c.in_ok-widths_fit.ensures.fits widths_kept in
    let instances_kept : c.in_ok-instances_fit.field-0 ≡ true = search rules in
    let instances = c.in_ok-instances_fit.ensures.fits instances_kept in
    let refused : c.in_ok-drivers_fit.field-0 ≡ false = search rules in
    for_reason (library_text c.args.library.now) Drivers reason e (breaks_drivers c.requires.names selects widths instances (c.in_ok-drivers_fit.ensures.broken refused))

pub returns-then-not-branch-5-clause-broken : goal.returns-then-not-branch-5-clause-broken
returns-then-not-branch-5-clause-broken c = λ reason e.
    let selects_kept : c.in_ok-selects_fit.field-0 ≡ true = search rules in
    let selects = c.in_ok-selects_fit.ensures.fits selects_kept in
    let widths_kept : c.in_ok-widths_fit.field-0 ≡ true = search rules in
    let widths = c.in_ok-widths_fit.ensures.fits widths_kept in
    let instances_kept : c.in_ok-instances_fit.field-0 ≡ true = search rules in
    let instances = c.in_ok-instances_fit.ensures.fits instances_kept in
    let drivers_kept : c.in_ok-drivers_fit.field-0 ≡ true = search rules in
    let drivers = c.in_ok-drivers_fit.ensures.fits drivers_kept in
    let refused : c.in_ok-clocks_fit.field-0 ≡ false = search rules in
    for_reason (library_text c.args.library.now) Clock reason e (breaks_clocks c.requires.names selects widths instances drivers (c.in_ok-clocks_fit.ensures.broken refused))

pub returns-clause-sound : goal.returns-clause-sound
returns-clause-sound c = λ e.
    let selects_kept : c.in_ok-selects_fit.field-0 ≡ true = search rules in
    let selects = c.in_ok-selects_fit.ensures.fits selects_kept in
    let widths_kept : c.in_ok-widths_fit.field-0 ≡ true = search rules in
    let widths = c.in_ok-widths_fit.ensures.fits widths_kept in
    let instances_kept : c.in_ok-instances_fit.field-0 ≡ true = search rules in
    let instances = c.in_ok-instances_fit.ensures.fits instances_kept in
    let drivers_kept : c.in_ok-drivers_fit.field-0 ≡ true = search rules in
    let drivers = c.in_ok-drivers_fit.ensures.fits drivers_kept in
    let clocks_kept : c.in_ok-clocks_fit.field-0 ≡ true = search rules in
    let clocks = c.in_ok-clocks_fit.ensures.fits clocks_kept in
    record { names = c.requires.names; selects = selects; widths = widths; instances = instances; drivers = drivers; clocks = clocks }

pub returns-clause-narrow : goal.returns-clause-narrow
returns-clause-narrow c = λ e.
    let widths_kept : c.in_ok-widths_fit.field-0 ≡ true = search rules in
    c.in_ok-widths_fit.ensures.narrow widths_kept
