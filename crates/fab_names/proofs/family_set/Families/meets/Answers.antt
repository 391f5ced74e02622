use Rattle.std.proofs.Common.{◌≡◌, ◌∙◌, ◌<◌, List, ℕ, Contains, true, ap, inl, inr, length, subst, sym}
use Rattle.std.specs.List.{list_any}
use Rattle.std.proofs.lemmas.Bool.{false≢true}
use Rattle.fab_names.specs.inner.Keyed.{family_at, no_family, under}
use Rattle.fab_names.specs.Names.{PlainFamily, meet}
use Rattle.fab_names.proofs.Kept.{any_at, bare_meets_none, found_near}
use Rattle.fab_names.proofs.Twice.{same_test}
use Rattle.fab_names.proofs.family_set.Families.meets.Goals as goal

pub returns-then-not-has_some : goal.returns-then-not-has_some
returns-then-not-has_some c = sym (bare_meets_none c.args.self.now c.args.new.now (sym c.has_some.ensures ∙ c.if-not-has_some.true))

pub returns : goal.returns
returns c =
    let new = c.args.new.now in
    let all = c.self.inside.all.items in
    let fronts = c.self.inside.bases.fronts in
    let whole = c.self.inside.bases.whole in
    let found_at = found_near all (under whole.keys.keys whole.groups.items) (under fronts.keys.keys fronts.groups.items) c.self.inside.bases.longest new c.meets.result c.meets_at.result (c.self.invariant c.if-not-self.false)
    (λ front digits place is only short among within meets.
    c.meets.ensures.each front digits place is only short among (subst (λ (l : List PlainFamily). place < length l) (sym c.deref-3.ensures.value) within) (subst (λ (l : List PlainFamily). meet (family_at l place) new ≡ true) (sym c.deref-3.ensures.value) meets))
    (λ place among within meets.
    c.meets_at.ensures.each place (subst (λ (list : List ℕ). Contains list place) (sym (c.under.ensures ∙ ap (under fronts.keys.keys fronts.groups.items) c.base.ensures)) among)
    (subst (λ (l : List PlainFamily). place < length l) (sym c.deref-2.ensures.value) within) (subst (λ (l : List PlainFamily). meet (family_at l place) new ≡ true) (sym c.deref-2.ensures.value) meets)) in
    same_test c.meets.result (list_any (λ (family : PlainFamily). meet family new) all)
    (λ is. subst (λ (l : List PlainFamily). list_any (λ (family : PlainFamily). meet family new) l ≡ true) c.deref-3.ensures.value (c.meets.ensures.some is))
    (λ some. let found = any_at (λ (family : PlainFamily). meet family new) all no_family some in
    elim (found_at found.0 found.1.0 found.1.1) [
      | inl here ↦ here
      | inr there ↦ absurd (false≢true (sym c.if-meets_at.false ∙ there))
    ])
    ∙ ap (list_any (λ (family : PlainFamily). meet family new)) c.self.view_is
