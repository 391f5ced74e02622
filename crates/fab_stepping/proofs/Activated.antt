-- Activations, point by point.
use Rattle.std.proofs.Common.{◌≡◌, ◌≢◌, ◌⊎◌, ℕ, zero, suc, ◌+◌, ◌<◌, ◌≤◌, Bool, true, false, not, ◌&&◌, ◌||◌, List, [], ◌∷◌, length, drop, refl, sym, ap, ◌∙◌, subst, inl, inr, arith, slice_set, slice_index}
use Rattle.std.specs.Prelude.{◌↔◌, IsTrue}
use Rattle.std.specs.List.{slice_get}
use Rattle.std.proofs.Math.Seq.{drop-cons}
use Rattle.std.proofs.lemmas.Bool.{cases_Bool, cases_eq, cases_lt, false≢true, and_parts, or_cases, or_left, or_right, and_from}
use Rattle.std.proofs.lemmas.List.{length-set}
use Rattle.fab_ternary.specs.declared.Tern.{Tern}
use Rattle.fab_ternary.specs.declared.Tern.TheVariants.{No, Yes, Open}
use Rattle.fab_ternary.specs.Terns.{is_known, plain_tern}
use Rattle.fab_compiled.specs.Terns.{seen}
use Rattle.fab_network.specs.declared.network.Network.{Network}
use Rattle.fab_network.specs.Passes.{kept_tern}
use Rattle.fab_network.specs.Solved.{asked_by, asked_tern}
use Rattle.fab_wiring.specs.Given.{given_at}
use Rattle.fab_stepping.specs.declared.board.Board.{Board}
use Rattle.fab_stepping.specs.Boards.{given_on, shown_on, IsBoardOf, LeadToThemselves}
use Rattle.fab_stepping.specs.inner.Known.{AreAllKnown}
use Rattle.fab_stepping.specs.Activating.{held_by, AreActivated, AreApart, HasChanged, IsActivated, IsHeldAt}
use Rattle.fab_stepping.proofs.Reading.{written, not_written}

-- ---- one activation

-- A point takes a value that is found for it, and a latch holds it.
module _ (network : Network) (point : ℕ) (before middle after : Board) (found held : Tern) (terns : List Tern) (leads : List ℕ) (is : IsBoardOf network before)
    (less : point < length network.drives.items) (terns_are : terns ≡ before.terns.items) (leads_are : leads ≡ before.leads.items)
    (held_is : plain_tern held ≡ kept_tern before.held.items point)
    (asked : plain_tern found ≡ asked_by network.trees.items (given_at (slice_get network.drives.items point) (seen terns leads point) (plain_tern held)) (seen terns leads)
    (slice_get network.drives.items point))
    (middle_terns : middle.terns ≡ before.terns) (middle_leads : middle.leads ≡ before.leads)
    (holds : IsHeldAt (slice_get network.drives.items point) point found before.held.items middle.held.items)
    (after_terns : after.terns.items ≡ slice_set middle.terns.items point found) (after_held : after.held ≡ middle.held) (after_leads : after.leads ≡ middle.leads) where
  shown_so : after.terns.items ≡ slice_set before.terns.items point found
  shown_so = after_terns ∙ (λ i. slice_set ((middle_terns i).items) point found)

  within : point < length before.terns.items
  within = omega (arith, less, is.terns)

  takes_value : plain_tern found ≡ asked_tern network.trees.items network.drives.items (given_on network before) (shown_on before) point
  takes_value =
      let drive = slice_get network.drives.items point in
      asked
      ∙ (λ i. asked_by network.trees.items (given_at drive (seen (terns_are i) (leads_are i) point) (held_is i)) (seen (terns_are i) (leads_are i)) drive)

  pub activated : IsActivated network point before after
  activated = record {
    leads = after_leads ∙ middle_leads;
    terns_long = ap length shown_so ∙ length-set before.terns.items point found;
    held_long = (λ i. length ((after_held i).items)) ∙ holds.long;
    takes = written before.terns.items after.terns.items point found shown_so within ∙ takes_value;
    holds =
        (λ i. kept_tern ((after_held i).items) point) ∙ holds.here
        ∙ ap (held_by (slice_get network.drives.items point) (kept_tern before.held.items point)) (sym (written before.terns.items after.terns.items point found shown_so within));
    others = λ other apart. record {
      shown = not_written before.terns.items after.terns.items point found shown_so other apart;
      held = (λ i. kept_tern ((after_held i).items) other) ∙ holds.others other apart;
    };
  }

  leads_same : after.leads.items ≡ before.leads.items
  leads_same = (λ i. (activated.leads i).items)

  pub still_board : IsBoardOf network after
  still_board = record {
    few = is.few;
    terns = activated.terns_long ∙ is.terns;
    held = activated.held_long ∙ is.held;
    leads = subst (λ (ls : List ℕ). LeadToThemselves (length network.drives.items) ls) (sym leads_same) is.leads;
  }

  -- whether the point moved
  pub moved_so : (moved : Bool) → ((moved ≡ false) ↔ (plain_tern found ≡ kept_tern middle.terns.items point)) →
      (moved ≡ false) ↔ (kept_tern after.terns.items point ≡ kept_tern before.terns.items point)
  moved_so moved tells =
      let value = written before.terns.items after.terns.items point found shown_so within in
      let old : kept_tern middle.terns.items point ≡ kept_tern before.terns.items point = (λ i. kept_tern ((middle_terns i).items) point) in
      (λ e. value ∙ tells.0 e ∙ old, λ e. tells.1 (sym value ∙ e ∙ sym old))

-- ---- boards on which all is known

-- An activation leaves all known where its point is.
pub still_known : (network : Network) (point : ℕ) (before after : Board) → IsActivated network point before after → AreAllKnown before.terns.items →
    is_known (kept_tern after.terns.items point) ≡ true → AreAllKnown after.terns.items
still_known network point before after step all here other l =
    elim (cases_eq other point) [
      | inl same ↦ ap (λ (n : ℕ). is_known (kept_tern after.terns.items n)) same ∙ here
      | inr apart ↦ ap is_known (step.others other apart).shown ∙ all other (omega (arith, l, step.terns_long))
    ]

pub not_true : (b : Bool) → not b ≡ true → b ≡ false
not_true true e = absurd (false≢true e)
not_true false e = refl

-- a value that is not open
pub known_read : (terns : List Tern) (point : ℕ) (t : Tern) (b : Bool) → b ≡ not (is_known (plain_tern t)) → b ≡ false → plain_tern t ≡ kept_tern terns point →
    is_known (kept_tern terns point) ≡ true
known_read terns point No b is f at = ap is_known (sym at)
known_read terns point Yes b is f at = ap is_known (sym at)
known_read terns point Open b is f at = absurd (false≢true (sym f ∙ is))

-- ---- activations in an order

-- what activations of the first points have done
pub record ActivatedSoFar (network : Network) (order : List ℕ) (solution : List Tern) (before now : Board) (count : ℕ) (changed : Bool) : Type 0 where
  pub board : IsBoardOf network now
  pub rest : (after : Board) → AreActivated network (drop count order) now after → AreActivated network order before after
  pub same : (point : ℕ) → ((place : ℕ) → place < count → slice_index order place ≢ point) → kept_tern now.terns.items point ≡ kept_tern before.terns.items point
  pub some : changed ≡ true → (place : ℕ) × (place < count) × (is_known (kept_tern solution (slice_index order place)) ≡ true)
      × (kept_tern now.terns.items (slice_index order place) ≢ kept_tern before.terns.items (slice_index order place))
  pub none : changed ≡ false → (place : ℕ) → place < count → is_known (kept_tern solution (slice_index order place)) ≡ true →
      kept_tern now.terns.items (slice_index order place) ≡ kept_tern before.terns.items (slice_index order place)

pub activated_none : (network : Network) (order : List ℕ) (solution : List Tern) (before : Board) → IsBoardOf network before →
    ActivatedSoFar network order solution before before 0 false
activated_none network order solution before is = record {
  board = is;
  rest = λ after h. h;
  same = λ point h. refl;
  some = λ e. absurd (false≢true e);
  none = λ e place l. absurd (omega arith);
}

module _ (network : Network) (order : List ℕ) (solution : List Tern) (before now after : Board) (count : ℕ) (changed moved : Bool) (known : Tern)
    (so_far : ActivatedSoFar network order solution before now count changed) (apart : AreApart order) (room : count < length order)
    (step : IsActivated network (slice_index order count) now after) (is : IsBoardOf network after)
    (tells : (moved ≡ false) ↔ (kept_tern after.terns.items (slice_index order count) ≡ kept_tern now.terns.items (slice_index order count)))
    (known_is : plain_tern known ≡ kept_tern solution (slice_index order count)) where
  abbrev here : ℕ
  here = slice_index order count

  other_place : (place : ℕ) → place < count → slice_index order place ≢ here
  other_place place l = apart place count l room

  -- the point has been left alone before
  first_time : kept_tern now.terns.items here ≡ kept_tern before.terns.items here
  first_time = so_far.same here other_place

  -- and those before it stay
  stays : (place : ℕ) → place < count → kept_tern after.terns.items (slice_index order place) ≡ kept_tern now.terns.items (slice_index order place)
  stays place l = (step.others (slice_index order place) (other_place place l)).shown

  more_some : (changed || (moved && is_known (plain_tern known))) ≡ true → (place : ℕ) × (place < count + 1) × (is_known (kept_tern solution (slice_index order place)) ≡ true)
      × (kept_tern after.terns.items (slice_index order place) ≢ kept_tern before.terns.items (slice_index order place))
  more_some e =
      elim (or_cases changed (moved && is_known (plain_tern known)) e) [
        | inl old ↦ (let found = so_far.some old in
            (found.0, omega (arith, found.1), found.2, λ same. found.3 (sym (stays found.0 found.1) ∙ same)))
        | inr new ↦ (let parts = and_parts moved (is_known (plain_tern known)) new in (
          count,
          omega arith,
          ap is_known (sym known_is) ∙ parts.1,
          λ same. false≢true (sym (tells.1 (same ∙ sym first_time)) ∙ parts.0),
        ))
      ]

  more_none : (changed || (moved && is_known (plain_tern known))) ≡ false → (place : ℕ) → place < count + 1 → is_known (kept_tern solution (slice_index order place)) ≡ true →
      kept_tern after.terns.items (slice_index order place) ≡ kept_tern before.terns.items (slice_index order place)
  more_none e place l is_kept =
      elim (cases_lt place count) [
        | inl less ↦
            let unchanged : changed ≡ false = elim (cases_Bool changed) [ inl t ↦ absurd (false≢true (sym e ∙ or_left changed (moved && is_known (plain_tern known)) t)) | inr f ↦ f ] in
            stays place less ∙ so_far.none unchanged place less is_kept
        | inr past ↦
            let last : place ≡ count = omega arith in
            let kept_here : is_known (plain_tern known) ≡ true = ap is_known known_is ∙ subst (λ (n : ℕ). is_known (kept_tern solution (slice_index order n)) ≡ true) last is_kept in
            let still : moved ≡ false =
            elim (cases_Bool moved) [
              | inl t ↦ absurd (false≢true (sym e ∙ or_right changed (moved && is_known (plain_tern known)) (and_from moved (is_known (plain_tern known)) t kept_here)))
              | inr f ↦ f
            ] in
            subst (λ (n : ℕ). kept_tern after.terns.items (slice_index order n) ≡ kept_tern before.terns.items (slice_index order n)) (sym last) (tells.0 still ∙ first_time)
      ]

  pub activated_more : (noted : Bool) → noted ≡ (changed || (moved && is_known (plain_tern known))) → ActivatedSoFar network order solution before after (count + 1) noted
  activated_more noted noted_is = record {
    board = is;
    rest = λ last more.
        let next : count + 1 ≡ suc count = omega arith in
        let front : drop count order ≡ here ∷ drop (suc count) order = drop-cons order count 0 room in
        so_far.rest last
        (subst (λ (points : List ℕ). AreActivated network points now last) (sym front)
        (after, step, subst (λ (n : ℕ). AreActivated network (drop n order) after last) next more));
    same = λ point absent.
        (step.others point (λ e. absent count (omega arith) (sym e))).shown ∙ so_far.same point (λ place l. absent place (omega arith));
    some = λ e. more_some (sym noted_is ∙ e);
    none = λ e. more_none (sym noted_is ∙ e);
  }

-- ---- all of them

drop_all : (order : List ℕ) (count : ℕ) → length order ≤ count → drop count order ≡ []
drop_all [] zero l = refl
drop_all [] (suc count) l = refl
drop_all (x ∷ order) zero l = absurd (omega arith)
drop_all (x ∷ order) (suc count) l = drop_all order count (omega arith)

-- a point stands in an order or does not
abbrev Stands : List ℕ → (point : ℕ) → Type 0
Stands order point = (place : ℕ) × (place < length order) × (slice_index order place ≡ point)

abbrev Absent : List ℕ → (point : ℕ) → Type 0
Absent order point = (place : ℕ) → place < length order → slice_index order place ≢ point

absent_more : (x : ℕ) (order : List ℕ) (point : ℕ) → x ≢ point → Absent order point → Absent (x ∷ order) point
absent_more x order point apart absent zero l = apart
absent_more x order point apart absent (suc place) l = absent place (omega arith)

stands_or_not : (order : List ℕ) (point : ℕ) → Stands order point ⊎ Absent order point
stands_or_not [] point = inr (λ place l. absurd (omega arith))
stands_or_not (x ∷ order) point =
    elim (cases_eq x point) [
      | inl same ↦ inl (0, omega arith, same)
      | inr apart ↦ elim (stands_or_not order point) [
        | inl there ↦ inl (suc there.0, omega (arith, there.1), there.2)
        | inr absent ↦ inr (absent_more x order point apart absent)
      ]
    ]

module _ (network : Network) (order : List ℕ) (solution : List Tern) (before now : Board) (count : ℕ) (changed : Bool)
    (so_far : ActivatedSoFar network order solution before now count changed) (all : length order ≤ count) (exact : count ≤ length order) where
  pub all_activated : AreActivated network order before now
  all_activated = so_far.rest now (subst (λ (points : List ℕ). AreActivated network points now now) (sym (drop_all order count all)) refl)

  changed_to : IsTrue changed → HasChanged solution before now
  changed_to t = let found = so_far.some t in record { point = slice_index order found.0; is_known = found.2; changed = found.3 }

  changed_back : HasChanged solution before now → IsTrue changed
  changed_back has =
      elim (cases_Bool changed) [
        | inl t ↦ t
        | inr f ↦ elim (stands_or_not order has.point) [
          | inl there ↦
              let known_there : is_known (kept_tern solution (slice_index order there.0)) ≡ true = subst (λ (n : ℕ). is_known (kept_tern solution n) ≡ true) (sym there.2) has.is_known in
              absurd (has.changed
              (subst (λ (n : ℕ). kept_tern now.terns.items n ≡ kept_tern before.terns.items n) there.2 (so_far.none f there.0 (omega (arith, there.1, all)) known_there)))
          | inr absent ↦ absurd (has.changed (so_far.same has.point (λ place l. absent place (omega arith))))
        ]
      ]

  pub all_changed : IsTrue changed ↔ HasChanged solution before now
  all_changed = (changed_to, changed_back)
