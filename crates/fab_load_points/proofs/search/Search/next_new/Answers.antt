use Rattle.std.proofs.Common.{◌≡◌, List, [], ◌∷◌, length, reverse, slice_get, Some, inl, inr, sym, ap, ◌∙◌, subst, arith}
use Rattle.std.proofs.lemmas.List.{length-set, append-nil}
use Rattle.fab_load_points.specs.inner.Search.{AreBelow, IsSearch, given_up, new_count}
use Rattle.fab_load_points.specs.declared.search.Status.{Status}
use Rattle.fab_load_points.specs.declared.search.Status.TheVariants.{New, Waiting, Inside, Outside}
use Rattle.fab_load_points.specs.declared.search.Visit.{Visit}
use Rattle.fab_load_points.specs.declared.search.Visit.TheVariants.{Enter, Leave}
use Rattle.fab_load_points.proofs.Statuses.{set_count, set_new, given_count, given_new, given_length}
use Rattle.fab_load_points.proofs.Steps.{step_leave, step_inside, step_known, step_around}
use Rattle.fab_load_points.proofs.Looking.{popped, status_read}
use Rattle.fab_load_points.proofs.search.Search.next_new.Goals as goal

pub loop-visit-preserved-in-Leave : goal.loop-visit-preserved-in-Leave
loop-visit-preserved-in-Leave c =
    let statuses = c.loop-visit.self.statuses.items in
    let rest = c.pop.new.self.items in
    let name = c.in-Leave.name in
    let top = popped c.loop-visit.self.stack.items rest c.in-Some.visit (Leave name) c.in-Some.ensures.items c.in-Leave.is in
    let below = subst (AreBelow (length statuses)) top c.loop-visit.invariant.within in
    let apart : Inside ≡ New → ⊥ = λ e. cc in
    record {
      long = length-set statuses name Inside ∙ c.loop-visit.invariant.long;
      within = subst (λ n. AreBelow n (reverse rest)) (sym (length-set statuses name Inside)) below.1;
      count = omega (arith, set_count statuses name Inside apart, c.loop-visit.invariant.count);
      new = λ other e. c.loop-visit.invariant.new other (set_new statuses name Inside apart other e).0;
      search = λ text scene s. step_leave text scene statuses name (reverse rest) below.0 (subst (IsSearch text scene statuses) top (c.loop-visit.invariant.search text scene s));
    }

pub returns-in-New-clause-found : goal.returns-in-New-clause-found
returns-in-New-clause-found c =
    let statuses = c.loop-visit.self.statuses.items in
    let rest = c.pop.new.self.items in
    let name = c.in-Enter.name in
    let top = popped c.loop-visit.self.stack.items rest c.in-Some.visit (Enter name) c.in-Some.ensures.items c.in-Enter.is in
    let below = subst (AreBelow (length statuses)) top c.loop-visit.invariant.within in
    status_read statuses name c.index.result.now New below.0 c.index.ensures c.in-New.is

pub returns-in-New-clause-search : goal.returns-in-New-clause-search
returns-in-New-clause-search c text scene s =
    let rest = c.pop.new.self.items in
    let name = c.in-Enter.name in
    let top = popped c.loop-visit.self.stack.items rest c.in-Some.visit (Enter name) c.in-Some.ensures.items c.in-Enter.is in
    subst (IsSearch text scene c.loop-visit.self.statuses.items) top (c.loop-visit.invariant.search text scene s)

pub loop-visit-preserved-in-Inside : goal.loop-visit-preserved-in-Inside
loop-visit-preserved-in-Inside c =
    let statuses = c.loop-visit.self.statuses.items in
    let rest = c.pop.new.self.items in
    let name = c.in-Enter.name in
    let top = popped c.loop-visit.self.stack.items rest c.in-Some.visit (Enter name) c.in-Some.ensures.items c.in-Enter.is in
    let below = subst (AreBelow (length statuses)) top c.loop-visit.invariant.within in
    let is = status_read statuses name c.index.result.now Inside below.0 c.index.ensures c.in-Inside.is in
    record {
      long = c.loop-visit.invariant.long;
      within = below.1;
      count = c.loop-visit.invariant.count;
      new = c.loop-visit.invariant.new;
      search = λ text scene s. step_inside text scene statuses name (reverse rest) is (subst (IsSearch text scene statuses) top (c.loop-visit.invariant.search text scene s));
    }

pub loop-visit-preserved : goal.loop-visit-preserved
loop-visit-preserved c =
    let statuses = c.loop-visit.self.statuses.items in
    let rest = c.pop.new.self.items in
    let name = c.in-Enter.name in
    let top = popped c.loop-visit.self.stack.items rest c.in-Some.visit (Enter name) c.in-Some.ensures.items c.in-Enter.is in
    let below = subst (AreBelow (length statuses)) top c.loop-visit.invariant.within in
    let empty : reverse c.give_up.new.self.stack.items ≡ [] = ap reverse c.give_up.ensures.stack in
    let given = c.give_up.ensures.statuses in
    record {
      long = ap length given ∙ given_length (reverse rest) statuses ∙ c.loop-visit.invariant.long;
      within = subst (AreBelow (length c.give_up.new.self.statuses.items)) (sym empty) tt;
      count = omega (arith, ap new_count given, given_count (reverse rest) statuses, c.loop-visit.invariant.count);
      new = λ other e. c.loop-visit.invariant.new other (given_new (reverse rest) statuses other (subst (λ (x : List Status). slice_get x other ≡ Some New) given e));
      search = λ text scene s.
          let before : IsSearch text scene statuses (Enter name ∷ reverse rest) = subst (IsSearch text scene statuses) top (c.loop-visit.invariant.search text scene s) in
          let after : IsSearch text scene (given_up (reverse rest) statuses) [] =
          elim c.in-Waiting.is [
            | inl w ↦ step_around text scene statuses name (reverse rest) (status_read statuses name c.index.result.now Waiting below.0 c.index.ensures w) before
            | inr o ↦ step_known text scene statuses name (reverse rest) (status_read statuses name c.index.result.now Outside below.0 c.index.ensures o) before
          ] in
          subst (IsSearch text scene c.give_up.new.self.statuses.items) (sym empty) (subst (λ (x : List Status). IsSearch text scene x []) (sym given) after);
    }

pub returns-clause-search : goal.returns-clause-search
returns-clause-search c text scene s =
    let same : c.loop-visit.self.stack.items ≡ c.pop.new.self.items = c.in_default.ensures.items ∙ append-nil c.pop.new.self.items in
    subst (λ (x : List Visit). IsSearch text scene c.loop-visit.self.statuses.items (reverse x)) same (c.loop-visit.invariant.search text scene s)
