use Rattle.std.proofs.Common.{◌≡◌, List, ℕ, Some, slice_get, slice_index, rules, sym, ap, ◌∙◌, subst}
use Rattle.std.proofs.lemmas.Option.{slice_get-get_or}
use Rattle.fab_network.specs.declared.network.Drive.{Drive}
use Rattle.fab_network.specs.declared.network.Drive.TheVariants.{Value}
use Rattle.fab_changes.specs.Changes.{drive_at, TakesGiven}
use Rattle.fab_changes.specs.inner.Grouping.{HasBit}
use Rattle.fab_changes.proofs.Grouping.{groups_more, groups_same}
use Rattle.fab_changes.proofs.Options.{on_some}
use Rattle.fab_changes.proofs.groups.add_point.Goals as goal

pub returns-then-is_taken : goal.returns-then-is_taken
returns-then-is_taken c =
    let takes : TakesGiven (drive_at c.args.network.now c.args.own.now c.args.place) = sym c.is_taken.ensures ∙ c.if-is_taken.true in
    groups_same c.args.network.now c.args.own.now c.args.place c.args.groups.now.items takes c.requires.groups

pub returns-in_ok-ok-in-Some-Value : goal.returns-in_ok-ok-in-Some-Value
returns-in_ok-ok-in-Some-Value c =
    let drive : Drive = c.in-Some-Value.field-0.now in
    let found = c.in-Some-Value.ensures.lookup in
    let at : drive_at c.args.network.now c.args.own.now c.args.place ≡ Some (Value c.in-Some-Value.source) =
    ap (λ (drives : List Drive). slice_get drives (slice_index c.args.own.now c.args.place)) (sym c.deref.ensures.value)
    ∙ slice_get-get_or c.deref.result.now (slice_index c.args.own.now c.args.place) drive found.3.0
    ∙ ap (λ (d : Drive). Some d) (sym (found.3.1 drive) ∙ c.in-Some-Value.field-0-is) in
    let place : c.in_ok-ok-in-Some-Value.field-0 ≡ c.args.place = search rules in
    on_some c.add_bit.result
    (λ bit. groups_more c.args.network.now c.args.own.now c.args.place c.in-Some-Value.source c.args.groups.now.items at c.requires.groups
    c.add_bit.new.groups.items
    (subst (λ (n : ℕ). HasBit n c.in-Some-Value.source c.args.groups.now.items c.add_bit.new.groups.items) place bit))
    c.add_bit.ensures
