-- There is room for all points, and what is kept for them may change between two questions.
use Rattle.std.proofs.Common.{◌≡◌, ℕ, ◌+◌, ◌-◌, ◌<◌, ◌≤◌, true, false, Some, length, take, ap, sym, ◌∙◌, subst, arith, slice_get, slice_index, slice_set, vec_capacity, length-take}
use Rattle.std.proofs.lemmas.List.{length-set}
use Rattle.fab_network.specs.Passes.{AreOwn}
use Rattle.fab_demand.specs.declared.search.Search.{Search}
use Rattle.fab_demand.specs.Asked.{Asked}
use Rattle.fab_demand.specs.Search.{asked_of, unset_count, HasRoom, IsKeeping}
use Rattle.fab_demand.proofs.Lists.{unset_fewer}

pub closed_room : (old new : Search) (point : ℕ) (known : Asked) → HasRoom old → slice_get old.done.items point ≡ Some false → asked_of new ≡ known →
    length known.leads ≡ length old.leads.items → known.marks ≡ old.marks.items → length known.own ≤ length old.own.items + 1 →
    new.done.items ≡ slice_set old.done.items point true → new.stack.items ≡ take (length old.stack.items - 1) old.stack.items →
    vec_capacity old.own ≤ vec_capacity new.own → vec_capacity old.stack ≤ vec_capacity new.stack → HasRoom new
closed_room old new point known room waits asked leads marks own done stack own_room stack_room =
    let same_leads : length new.leads.items ≡ length known.leads = ap (λ (a : Asked). length a.leads) asked in
    let same_own : length new.own.items ≡ length known.own = ap (λ (a : Asked). length a.own) asked in
    let same_marks : unset_count new.marks.items ≡ unset_count known.marks = ap (λ (a : Asked). unset_count a.marks) asked in
    let before : unset_count known.marks ≡ unset_count old.marks.items = ap unset_count marks in
    let long : length new.done.items ≡ length (slice_set old.done.items point true) = ap length done in
    let set : length (slice_set old.done.items point true) ≡ length old.done.items = length-set old.done.items point true in
    let fewer : unset_count old.done.items ≡ 1 + unset_count (slice_set old.done.items point true) = unset_fewer old.done.items point waits in
    let now : unset_count new.done.items ≡ unset_count (slice_set old.done.items point true) = ap unset_count done in
    let short : length new.stack.items ≡ length (take (length old.stack.items - 1) old.stack.items) = ap length stack in
    let most : length (take (length old.stack.items - 1) old.stack.items) ≤ length old.stack.items = omega
    (arith, length-take (length old.stack.items - 1) old.stack.items) in
    record {
      done = omega arith;
      own = omega arith;
      own_room = omega arith;
      stack = omega arith;
      stack_room = omega arith;
    }

-- between two questions other values are kept for as many points
pub keeps_on : (old new : Search) → IsKeeping old → length new.terns.items ≡ length old.terns.items → new.leads ≡ old.leads → new.marks ≡ old.marks →
    new.done ≡ old.done → new.own ≡ old.own → new.stack ≡ old.stack → IsKeeping new
keeps_on old new keeps terns leads marks done own stack =
    let whole = keeps.whole in
    let room = keeps.room in
    let same_leads : length new.leads.items ≡ length old.leads.items = ap (λ v. length v.items) leads in
    let same_marks : length new.marks.items ≡ length old.marks.items = ap (λ v. length v.items) marks in
    let same_done : length new.done.items ≡ length old.done.items = ap (λ v. length v.items) done in
    let same_own : length new.own.items ≡ length old.own.items = ap (λ v. length v.items) own in
    let same_stack : length new.stack.items ≡ length old.stack.items = ap (λ v. length v.items) stack in
    let own_cap : vec_capacity new.own ≡ vec_capacity old.own = ap (λ v. vec_capacity v) own in
    let stack_cap : vec_capacity new.stack ≡ vec_capacity old.stack = ap (λ v. vec_capacity v) stack in
    let left_done : unset_count new.done.items ≡ unset_count old.done.items = ap (λ v. unset_count v.items) done in
    let left_marks : unset_count new.marks.items ≡ unset_count old.marks.items = ap (λ v. unset_count v.items) marks in
    record {
      whole = record {
        terns = omega (arith, terns, same_leads, whole.terns);
        marks = omega (arith, same_marks, same_leads, whole.marks);
        few = omega (arith, same_leads, whole.few);
        view = λ point l. omega (arith, whole.view point (omega (arith, l, same_leads)), ap (λ v. slice_index v.items point) leads, terns);
        own = subst (λ v. AreOwn new.own.items v.items) (sym leads) (subst (λ v. AreOwn v.items old.leads.items) (sym own) whole.own);
      };
      room = record {
        done = omega (arith, room.done, same_done, same_leads);
        own = omega (arith, room.own, same_own, left_done, same_leads);
        own_room = omega (arith, room.own_room, same_leads, own_cap);
        stack = omega (arith, room.stack, same_stack, left_marks, same_leads);
        stack_room = omega (arith, room.stack_room, same_leads, stack_cap);
      };
      resting = record { done = ap (λ v. v.items) done ∙ keeps.resting.done ∙ sym (ap (λ v. v.items) marks); stack = ap (λ v. v.items) stack ∙ keeps.resting.stack };
    }
