-- Looks at points, one by one, and a pass of them.
use Rattle.std.proofs.Common.{◌≡◌, ℕ, ◌+◌, ◌<◌, Bool, true, false, List, length, refl, sym, ap, ◌∙◌, subst, inl, inr, arith, slice_set, slice_index}
use Rattle.std.proofs.lemmas.Bool.{cases_eq, cases_lt, false≢true}
use Rattle.std.proofs.lemmas.List.{length-set}
use Rattle.fab_systems_laws.specs.Ternary.{unknown, IsBelow}
use Rattle.fab_systems_laws.specs.Ternary.{Tern as PlainTern}
use Rattle.fab_systems_laws.proofs.Order.{below_self, below_trans}
use Rattle.fab_ternary.specs.declared.Tern.{Tern}
use Rattle.fab_ternary.specs.Terns.{plain_tern, is_known}
use Rattle.fab_compiled.specs.Terns.{seen}
use Rattle.fab_compiled.specs.Leading.{PointTerns, AreAbove}
use Rattle.fab_network.specs.Network.{AreFit}
use Rattle.fab_network.specs.Passes.{kept_tern, shows, AreRising, EachListed, AreBacked, AreOwn, StaysBelow}
use Rattle.fab_settling.specs.Visits.{open_count, changed_after, unsettled_after, shows_now, Scene, IsVisit, IsFurther, IsPassed}
use Rattle.fab_settling.specs.declared.passes.Visit.{Visit}
use Rattle.fab_settling.specs.declared.passes.Visit.TheVariants.{Known, Still, Found}
use Rattle.fab_network.proofs.Sources.{shown_grows}
use Rattle.fab_network.proofs.Kept.{kept_same, kept_other, rising_set}
use Rattle.fab_settling.proofs.Open.{known_grows, open_fewer}

module _ (scene : Scene) where
  pub none_further : (old : List Tern) → AreBacked scene.trees scene.drives scene.held scene.order (seen old scene.leads) → IsFurther scene old old
  none_further old backed = record {
    long = refl;
    rising = λ q. below_self (kept_tern old q);
    below = λ t solved led above. above;
    backed = backed;
    falls = omega arith;
    others = λ q n. refl;
  }

  pub both_further : (old now new : List Tern) → IsFurther scene old now → IsFurther scene now new → IsFurther scene old new
  both_further old now new first second = record {
    long = second.long ∙ first.long;
    rising = λ q. below_trans (kept_tern old q) (kept_tern now q) (kept_tern new q) (first.rising q) (second.rising q);
    below = λ t solved led above. second.below t solved led (first.below t solved led above);
    backed = second.backed;
    falls = omega (arith, first.falls, second.falls);
    others = λ q n. second.others q n ∙ first.others q n;
  }

module _ (scene : Scene) (fit : AreFit scene.trees scene.drives) (points : length scene.drives ≡ length scene.leads) (own : AreOwn scene.order scene.leads) where
  -- what points show rises with what is kept
  shows_rise : (old new : List Tern) → AreRising old new → (point : ℕ) → point < length scene.leads → IsBelow (shows_now scene old point) (shows_now scene new point)
  shows_rise old new rise point within =
      shown_grows scene.trees scene.drives fit (seen old scene.leads) (seen new scene.leads) (λ q l. rise (slice_index scene.leads q))
      (kept_tern scene.held point) point (omega (arith, points, within))

  -- and is below what they show in an assignment above
  shows_below : (now : List Tern) (t : PointTerns) → AreAbove now scene.leads t → (point : ℕ) → point < length scene.leads →
      IsBelow (shows_now scene now point) (shows scene.trees scene.drives scene.held t point)
  shows_below now t above point within =
      shown_grows scene.trees scene.drives fit (seen now scene.leads) t (λ q l. above q (omega (arith, points, l)))
      (kept_tern scene.held point) point (omega (arith, points, within))

  own_seen : (terns : List Tern) (place : ℕ) → place < length scene.order → seen terns scene.leads (slice_index scene.order place) ≡ kept_tern terns (slice_index scene.order place)
  own_seen terns place l = ap (kept_tern terns) (own place l).1

  -- ---- a look at a point of the list

  module _ (place : ℕ) (now : List Tern) (backed : AreBacked scene.trees scene.drives scene.held scene.order (seen now scene.leads)) (room : place < length scene.order)
      (long : length now ≡ length scene.leads) where
    abbrev point : ℕ
    point = slice_index scene.order place

    within : point < length scene.leads
    within = (own place room).0

    module _ (none : kept_tern now point ≡ unknown) (t : Tern) (is : is_known (plain_tern t) ≡ true) (given : plain_tern t ≡ shows_now scene now point) where
      abbrev next : List Tern
      next = slice_set now point t

      inside : point < length now
      inside = omega (arith, within, long)

      rise : AreRising now next
      rise = rising_set now point t inside none

      pub point_kept : kept_tern next point ≡ plain_tern t
      point_kept = kept_same now point t inside

      found_below : StaysBelow scene.trees scene.drives scene.held scene.order scene.leads now next
      found_below u solved led above q l =
          elim (cases_eq (slice_index scene.leads q) point) [
            | inl e ↦ (let shown : IsBelow (shows_now scene now point) (u point) =
                subst (λ (x : PlainTern). IsBelow (shows_now scene now point) x) (sym (solved place room)) (shows_below now u above point within) in
                let at : IsBelow (kept_tern next point) (u point) = subst (λ (x : PlainTern). IsBelow x (u point)) (sym (point_kept ∙ given)) shown in
                let led_here : IsBelow (kept_tern next (slice_index scene.leads q)) (u (slice_index scene.leads q)) =
                subst (λ (n : ℕ). IsBelow (kept_tern next n) (u n)) (sym e) at in
                subst (λ (x : PlainTern). IsBelow (kept_tern next (slice_index scene.leads q)) x) (sym (led q l)) led_here)
            | inr n ↦ subst (λ (x : PlainTern). IsBelow x (u q)) (sym (kept_other now point t (slice_index scene.leads q) n)) (above q l)
          ]

      found_backed : AreBacked scene.trees scene.drives scene.held scene.order (seen next scene.leads)
      found_backed at l =
          let q = slice_index scene.order at in
          let more : IsBelow (shows_now scene now q) (shows_now scene next q) = shows_rise now next rise q (own at l).0 in
          elim (cases_eq q point) [
            | inl e ↦ (let value : seen next scene.leads q ≡ shows_now scene now q =
                own_seen next at l ∙ ap (kept_tern next) e ∙ point_kept ∙ given ∙ ap (shows_now scene now) (sym e) in
                subst (λ (x : PlainTern). IsBelow x (shows_now scene next q)) (sym value) more)
            | inr n ↦ (let value : seen next scene.leads q ≡ seen now scene.leads q =
                own_seen next at l ∙ kept_other now point t q n ∙ sym (own_seen now at l) in
                subst (λ (x : PlainTern). IsBelow x (shows_now scene next q)) (sym value)
                (below_trans (seen now scene.leads q) (shows_now scene now q) (shows_now scene next q) (backed at l) more))
          ]

      pub fewer_then : open_count now ≡ 1 + open_count next
      fewer_then = open_fewer now point t inside none is

      pub found_further : IsFurther scene now next
      found_further = record {
        long = length-set now point t;
        rising = rise;
        below = found_below;
        backed = found_backed;
        falls = omega (arith, fewer_then);
        others = λ q n. kept_other now point t q (λ e. n (place, room, sym e));
      }

    pub visit_further : (waits : Bool) (new : List Tern) (visit : Visit) → IsVisit scene waits point now new visit → IsFurther scene now new
    visit_further waits new Known (stays, is) = subst (IsFurther scene now) (sym stays) (none_further scene now backed)
    visit_further waits new Still (stays, none, shows_none) = subst (IsFurther scene now) (sym stays) (none_further scene now backed)
    visit_further waits new Found (none, t, stays, is, given) = subst (IsFurther scene now) (sym stays) (found_further none t is given)

  -- ---- nothing of a pass so far

  pub none_passed : (old : List Tern) → AreBacked scene.trees scene.drives scene.held scene.order (seen old scene.leads) → IsPassed scene 0 old old false false
  none_passed old backed = record {
    further = none_further scene old backed;
    same = λ e. (refl, λ place l. absurd (omega arith));
    fewer = λ e. absurd (false≢true e);
    all = λ e place l. absurd (omega arith);
  }

  -- ---- one more look

  module _ (count : ℕ) (old now : List Tern) (changed unsettled : Bool) (passed : IsPassed scene count old now changed unsettled) (room : count < length scene.order)
      (long : length now ≡ length scene.leads) where
    abbrev here : ℕ
    here = slice_index scene.order count

    -- what holds of all points so far, and of this one
    one_more : (P : ℕ → Type 0) → EachListed count scene.order P → P here → EachListed (count + 1) scene.order P
    one_more P each at place l =
        elim (cases_lt place count) [
          | inl before ↦ each place before
          | inr after ↦ (let e : count ≡ place = omega arith in subst (λ n. P (slice_index scene.order n)) e at)
        ]

    pub known_passed : (new : List Tern) → IsVisit scene changed here now new Known → IsPassed scene (count + 1) old new changed unsettled
    known_passed new (stays, is) =
        let made : IsPassed scene (count + 1) old now changed unsettled = record {
          further = passed.further;
          same = λ e. let before = passed.same e in (
            before.0,
            one_more (λ q. kept_tern old q ≡ unknown → shows_now scene old q ≡ unknown) before.1
                (λ none. let nothing : is_known (kept_tern now here) ≡ false = ap is_known (ap (λ terns. kept_tern terns here) before.0 ∙ none) in absurd (false≢true (sym nothing ∙ is))),
          );
          fewer = passed.fewer;
          all = λ e. one_more (λ q. is_known (kept_tern now q) ≡ true) (passed.all e) is;
        } in
        subst (λ (terns : List Tern). IsPassed scene (count + 1) old terns changed unsettled) (sym stays) made

    pub still_passed : (new : List Tern) → IsVisit scene changed here now new Still → IsPassed scene (count + 1) old new changed true
    still_passed new (stays, none, shows_none) =
        let made : IsPassed scene (count + 1) old now changed true = record {
          further = passed.further;
          same = λ e. let before = passed.same e in (
            before.0,
            one_more (λ q. kept_tern old q ≡ unknown → shows_now scene old q ≡ unknown) before.1
                (λ is. ap (λ terns. shows_now scene terns here) (sym before.0) ∙ shows_none e),
          );
          fewer = passed.fewer;
          all = λ e. absurd (false≢true (sym e));
        } in
        subst (λ (terns : List Tern). IsPassed scene (count + 1) old terns changed true) (sym stays) made

    module _ (none : kept_tern now here ≡ unknown) (t : Tern) (is : is_known (plain_tern t) ≡ true) (given : plain_tern t ≡ shows_now scene now here) where
      abbrev after : List Tern
      after = slice_set now here t

      step : IsFurther scene now after
      step = found_further count now passed.further.backed room long none t is given

      pub found_passed_at : IsPassed scene (count + 1) old after true unsettled
      found_passed_at = record {
        further = both_further scene old now after passed.further step;
        same = λ e. absurd (false≢true (sym e));
        fewer = λ e. omega (arith, passed.further.falls, fewer_then count now passed.further.backed room long none t is given);
        all = λ e. one_more (λ q. is_known (kept_tern after q) ≡ true)
            (λ place l. known_grows (kept_tern now (slice_index scene.order place)) (kept_tern after (slice_index scene.order place)) (passed.all e place l)
            (step.rising (slice_index scene.order place)))
            (ap is_known (point_kept count now passed.further.backed room long none t is given) ∙ is);
      }

    pub found_passed : (new : List Tern) → IsVisit scene changed here now new Found → IsPassed scene (count + 1) old new true unsettled
    found_passed new (none, t, stays, is, given) =
        subst (λ (terns : List Tern). IsPassed scene (count + 1) old terns true unsettled) (sym stays) (found_passed_at none t is given)

    pub visit_passed : (new : List Tern) (visit : Visit) → IsVisit scene changed here now new visit →
        IsPassed scene (count + 1) old new (changed_after changed visit) (unsettled_after unsettled visit)
    visit_passed new Known is = known_passed new is
    visit_passed new Still is = still_passed new is
    visit_passed new Found is = found_passed new is
