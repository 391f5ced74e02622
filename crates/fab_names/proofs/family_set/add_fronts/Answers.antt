use Rattle.std.proofs.Common.{List, ℕ, Contains, inl, inr, length, subst}
use Rattle.fab_names.specs.inner.Keyed.{under}
use Rattle.fab_names.proofs.Keys.{cut_is, last_or_before}
use Rattle.fab_names.proofs.family_set.add_fronts.Goals as goal

pub loop-long-preserved : goal.loop-long-preserved
loop-long-preserved c =
    let long = c.loop-long.long in
    let keys = c.add.new.self.keys.keys in
    let groups = c.add.new.self.groups.items in
    record {
      kept = λ other there among. c.in_ok-add.ensures.kept other there (c.loop-long.invariant.kept other there among);
      added = λ front digits is only within. elim (last_or_before (length front) long within) [
        | inl same ↦ subst (λ (f : List ℕ). Contains (under keys groups f) c.args.place) (cut_is c.args.base.now front digits c.split_at.result.0.now long is same c.split_at.ensures.front) c.in_ok-add.ensures.added
        | inr lower ↦ c.in_ok-add.ensures.kept front c.args.place (c.loop-long.invariant.added front digits is only lower)
      ];
    }
