use Rattle.std.proofs.Common.{◌≡◌, ◌∙◌, ◌≤◌, List, ℕ, length, rules, subst, sym}
use Rattle.fab_names.specs.inner.Keyed.{Adds, AddsFronts, IsKept, under}
use Rattle.fab_names.specs.Names.{PlainFamily}
use Rattle.fab_names.proofs.Kept.{kept_bare, kept_more, none_is}
use Rattle.fab_names.proofs.family_set.Families.push.Goals as goal

pub invariant_of-self-then-not-has_some : goal.invariant_of-self-then-not-has_some
invariant_of-self-then-not-has_some c whole =
    let bases = c.self.inside.bases in
    let is_whole = under bases.whole.keys.keys bases.whole.groups.items in
    let fronts = under bases.fronts.keys.keys bases.fronts.groups.items in
    subst (λ (all : List PlainFamily). IsKept all is_whole fronts bases.longest) (sym c.in_ok-push.ensures.items)
    (kept_bare c.self.inside.all.items is_whole fronts bases.longest (c.self.invariant whole) _ (none_is _ (sym c.has_some.ensures ∙ c.if-not-has_some.true)))

pub invariant_of-self-2 : goal.invariant_of-self-2
invariant_of-self-2 c whole =
    let all = c.self.inside.all.items in
    let family = c.args.family in
    let old = c.self.inside.bases in
    let new = c.add.new.self in
    let old_whole = under old.whole.keys.keys old.whole.groups.items in
    let old_fronts = under old.fronts.keys.keys old.fronts.groups.items in
    let new_whole = under new.whole.keys.keys new.whole.groups.items in
    let new_fronts = under new.fronts.keys.keys new.fronts.groups.items in
    let place : c.len-place.result ≡ length all = search rules in
    let more_whole = subst (λ (name : List ℕ). Adds old_whole new_whole name (length all)) c.base.ensures (subst (λ (place : ℕ). Adds old_whole new_whole c.base.result.now place) place c.in_ok-add.ensures.whole) in
    let more_fronts = subst (λ (name : List ℕ). AddsFronts old_fronts new_fronts name (length all)) c.base.ensures (subst (λ (place : ℕ). AddsFronts old_fronts new_fronts c.base.result.now place) place c.in_ok-add.ensures.fronts) in
    subst (λ (items : List PlainFamily). IsKept items new_whole new_fronts new.longest) (sym c.in_ok-push-2.ensures.items)
    (kept_more all old_whole old_fronts old.longest (c.self.invariant whole) family new_whole new_fronts new.longest more_whole more_fronts c.in_ok-add.ensures.longer
    (subst (λ (name : List ℕ). length name ≤ new.longest) c.base.ensures c.in_ok-add.ensures.fits))
