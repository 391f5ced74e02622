use Rattle.std.proofs.Common.{◌∙◌, List, ℕ, Contains, ap, inl, inr, length, subst, sym, take}
use Rattle.std.proofs.lemmas.Bool.{false≢true}
use Rattle.fab_names.specs.inner.Keyed.{under}
use Rattle.fab_names.proofs.Keys.{cut_is, last_or_before}
use Rattle.fab_names.proofs.family_set.Bases.meets.Goals as goal

pub loop-long-preserved : goal.loop-long-preserved
loop-long-preserved c front digits place is only within among inside meets =
    let long = c.loop-long.long in
    let keys = c.args.self.now.whole.keys.keys in
    let groups = c.args.self.now.whole.groups.items in
    elim (last_or_before (length front) long within) [
      | inl same ↦ (
          let cut = cut_is c.args.new.now.base front digits c.split_at.result.0.now long is same (c.split_at.ensures.front ∙ ap (take long) c.base-base.ensures) in
          let there = subst (λ (list : List ℕ). Contains list place) (sym (c.under.ensures ∙ ap (under keys groups) cut)) among in
          absurd (false≢true (sym c.if-meets_at.false ∙ c.meets_at.ensures.each place there inside meets))
          )
      | inr lower ↦ c.loop-long.invariant front digits place is only lower among inside meets
    ]
