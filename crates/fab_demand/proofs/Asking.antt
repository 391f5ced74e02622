-- A search from one step to the next, and between two questions.
use Rattle.std.proofs.Common.{◌≡◌, ℕ, suc, ◌-◌, ◌<◌, Bool, true, false, List, [], ◌∷◌, ◌++◌, Some, length, take, refl, sym, ap, ◌∙◌, subst, inl, inr}
use Rattle.std.proofs.Common.{arith, slice_get, slice_set, append_assoc}
use Rattle.std.proofs.lemmas.Bool.{cases_eq}
use Rattle.std.proofs.lemmas.List.{append-nil}
use Rattle.fab_systems_laws.specs.Ternary.{known}
use Rattle.fab_ternary.specs.declared.Tern.{Tern}
use Rattle.fab_ternary.specs.Terns.{plain_tern}
use Rattle.fab_compiled.specs.declared.leads.Lead.{Lead}
use Rattle.fab_compiled.specs.declared.leads.Lead.TheVariants.{Known, Point, Own}
use Rattle.fab_compiled.specs.Leading.{PointTerns, AreAbove, IsLedTo, IsMarked}
use Rattle.fab_network.specs.declared.network.Clock.{Clock}
use Rattle.fab_network.specs.declared.network.Drive.TheVariants.{Flop}
use Rattle.fab_network.specs.declared.network.Network.{Network}
use Rattle.fab_network.specs.declared.network.Source.{Source}
use Rattle.fab_demand.specs.declared.gates.Gates.{Gates}
use Rattle.fab_demand.specs.declared.search.Search.{Search}
use Rattle.fab_demand.specs.Asked.{Asked, AsksMore, IsPossible}
use Rattle.fab_demand.specs.Demand.{shown_of, IsAsked, IsKept, IsLooked, IsRegisterAsked}
use Rattle.fab_demand.specs.Gates.{AreGates}
use Rattle.fab_demand.specs.inner.Beside.{KnowsMore}
use Rattle.fab_demand.specs.inner.Looking.{Finds}
use Rattle.fab_demand.specs.Search.{asked_of, left_of, unset_count, AreWaiting, Closes, HasRoom, IsKeeping, IsResting, IsSearching}
use Rattle.fab_demand.proofs.KeptGates.{gates_stay, no_gates}
use Rattle.fab_demand.proofs.Lists.{bool_there, get_other, get_within, mark_stays, not_both, unset_fewer}
use Rattle.fab_demand.proofs.Steps.{keep_looked, keep_more, known_above, known_looked, known_more, led_above, led_looked, led_more, ring_enough}
use Rattle.fab_demand.proofs.Waiting.{last_waits, wait_asks, wait_looked, waits_fewer, waits_more}

-- ---- more and more

pub asks_same : (asked : Asked) → AsksMore asked asked
asks_same asked = record { long = refl; marks = λ q m. m; more = []; own = sym (append-nil asked.own); possible = λ t possible. possible }

pub asks_both : (old mid new : Asked) → AsksMore old mid → AsksMore mid new → AsksMore old new
asks_both old mid new first then = record {
  long = then.long ∙ first.long;
  marks = λ q m. then.marks q (first.marks q m);
  more = first.more ++ then.more;
  own = then.own ∙ ap (λ (xs : List ℕ). xs ++ then.more) first.own ∙ append_assoc old.own first.more then.more;
  possible = λ t possible. first.possible t (then.possible t possible);
}

pub register_stays : (network : Network) (clock : Clock) (old new : Asked) → AsksMore old new → (point : ℕ) → IsRegisterAsked network clock old point →
    IsRegisterAsked network clock new point
register_stays network clock old new more point asked next drive t u at_t at_u agree =
    asked next drive t u (more.possible t at_t) (more.possible u at_u) (λ q m. agree q (more.marks q m))

-- ---- one step

-- a search that goes on, with less to do
pub record GoesOn (network : Network) (clock : Clock) (given : PointTerns) (old new : Search) : Type 0 where
  pub searching : IsSearching network clock given new
  pub more : AsksMore (asked_of old) (asked_of new)
  pub falls : left_of new < left_of old
  pub above : KnowsMore (asked_of old) (asked_of new)

module _ (network : Network) (clock : Clock) (given : PointTerns) (old new : Search) (searching : IsSearching network clock given old) where
  -- a point that has not been asked for is not done
  pub not_done : (point : ℕ) → slice_get old.marks.items point ≡ Some false → slice_get old.done.items point ≡ Some false
  not_done point unmarked =
      let l : point < length old.done.items = omega (
        arith,
        get_within old.marks.items point false unmarked,
        searching.looked.whole.marks,
        searching.room.done,
      ) in
      elim (bool_there old.done.items point l) [
        | inl d ↦ absurd (not_both old.marks.items point (searching.marked point d) unmarked)
        | inr n ↦ n
      ]

  gates_on : AsksMore (asked_of old) (asked_of new) → KnowsMore (asked_of old) (asked_of new) → new.gates.kept.items ≡ old.gates.kept.items →
      AreGates network.trees.items new.terns.items new.leads.items new.marks.items new.gates.kept.items
  gates_on more above same = subst (AreGates network.trees.items new.terns.items new.leads.items new.marks.items) (sym same)
      (gates_stay network.trees.items (asked_of old) (asked_of new) more above old.gates.kept.items searching.gates)

  pub wait_goes_on : (point : ℕ) → slice_get old.marks.items point ≡ Some false →
      asked_of new ≡ record (asked_of old) { marks = slice_set old.marks.items point true } → new.done.items ≡ old.done.items →
      new.stack.items ≡ old.stack.items ++ point ∷ [] → new.gates.kept.items ≡ old.gates.kept.items → HasRoom new → GoesOn network clock given old new
  wait_goes_on point unmarked asked done stack gates room =
      let marks : new.marks.items ≡ slice_set old.marks.items point true = ap (λ (a : Asked). a.marks) asked in
      let waits = not_done point unmarked in
      let next : Asked = record (asked_of old) { marks = slice_set old.marks.items point true } in
      let looked : IsLooked network clock given next old.done.items = wait_looked network clock given (asked_of old) old.done.items point searching.looked
      waits in
      let asked_looked : IsLooked network clock given (asked_of new) old.done.items = subst (λ (a : Asked). IsLooked network clock given a old.done.items)
      (sym asked) looked in
      let waiting : AreWaiting (slice_set old.marks.items point true) old.done.items (old.stack.items ++ point ∷ []) =
      waits_more old.marks.items old.done.items old.stack.items point searching.waiting unmarked waits in
      let more : AsksMore (asked_of old) (asked_of new) =
      subst (AsksMore (asked_of old)) (sym asked) (wait_asks network clock given (asked_of old) old.done.items point searching.looked waits) in
      let above : KnowsMore (asked_of old) (asked_of new) = λ t h. subst (λ (a : Asked). AreAbove a.terns a.leads t) asked h in
      record {
        searching = record {
          looked = subst (λ (d : List Bool). IsLooked network clock given (asked_of new) d) (sym done) asked_looked;
          room = room;
          marked = λ q d. subst (λ (m : List Bool). IsMarked m q) (sym marks)
              (mark_stays old.marks.items point q (searching.marked q (subst (λ (m : List Bool). IsMarked m q) done d)));
          waiting = subst (λ (m : List Bool). AreWaiting m new.done.items new.stack.items) (sym marks)
              (subst (λ (d : List Bool). AreWaiting (slice_set old.marks.items point true) d new.stack.items) (sym done)
              (subst (λ (s : List ℕ). AreWaiting (slice_set old.marks.items point true) old.done.items s) (sym stack) waiting));
          gates = gates_on more above gates;
        };
        more = more;
        falls = omega (arith, unset_fewer old.marks.items point unmarked, ap unset_count marks, ap unset_count done);
        above = above;
      }

  done_marked : (point : ℕ) → slice_get old.stack.items (length old.stack.items - 1) ≡ Some point → (q : ℕ) →
      IsMarked (slice_set old.done.items point true) q → IsMarked old.marks.items q
  done_marked point last q d =
      elim (cases_eq q point) [
        | inl e ↦ subst (IsMarked old.marks.items) (sym e) (last_waits old.marks.items old.done.items old.stack.items point searching.waiting last).0
        | inr n ↦ searching.marked q (sym (get_other old.done.items point true q n) ∙ d)
      ]

  pub close_goes_on : (point : ℕ) (asked : Asked) → slice_get old.stack.items (length old.stack.items - 1) ≡ Some point →
      slice_get old.done.items point ≡ Some false →
      Closes old new point asked → asked.marks ≡ old.marks.items → IsLooked network clock given asked (slice_set old.done.items point true) →
      AsksMore (asked_of old) asked → KnowsMore (asked_of old) asked →
      GoesOn network clock given old new
  close_goes_on point asked last waits closes same looked more above =
      let marks : new.marks.items ≡ old.marks.items = ap (λ (a : Asked). a.marks) closes.asked ∙ same in
      let asked_looked : IsLooked network clock given (asked_of new) (slice_set old.done.items point true) =
      subst (λ (a : Asked). IsLooked network clock given a (slice_set old.done.items point true)) (sym closes.asked) looked in
      let waiting : AreWaiting old.marks.items (slice_set old.done.items point true) (take (length old.stack.items - 1) old.stack.items) =
      waits_fewer old.marks.items old.done.items old.stack.items point searching.waiting last in
      let marked_first : (q : ℕ) → IsMarked (slice_set old.done.items point true) q → IsMarked old.marks.items q = λ q d. done_marked point last q d in
      let more_now : AsksMore (asked_of old) (asked_of new) = subst (AsksMore (asked_of old)) (sym closes.asked) more in
      let above_now : KnowsMore (asked_of old) (asked_of new) = λ t h. above t (subst (λ (a : Asked). AreAbove a.terns a.leads t) closes.asked h) in
      record {
        searching = record {
          looked = subst (λ (d : List Bool). IsLooked network clock given (asked_of new) d) (sym closes.done) asked_looked;
          room = closes.room;
          marked = λ q d. subst (λ (m : List Bool). IsMarked m q) (sym marks) (marked_first q (subst (λ (m : List Bool). IsMarked m q) closes.done d));
          waiting = subst (λ (m : List Bool). AreWaiting m new.done.items new.stack.items) (sym marks)
              (subst (λ (d : List Bool). AreWaiting old.marks.items d new.stack.items) (sym closes.done)
              (subst (λ (s : List ℕ). AreWaiting old.marks.items (slice_set old.done.items point true) s) (sym closes.stack) waiting));
          gates = gates_on more_now above_now closes.gates;
        };
        more = more_now;
        falls = omega (arith, unset_fewer old.done.items point waits, ap unset_count marks, ap unset_count closes.done);
        above = above_now;
      }

-- a point to which a marked point is led
pub led_inside : (network : Network) (clock : Clock) (given : PointTerns) (old : Search) → IsSearching network clock given old → (other : ℕ) →
    IsLedTo old.leads.items old.marks.items other → other < length old.leads.items
led_inside network clock given old searching other (from, marked, to) =
    let l : from < length old.leads.items = omega (arith, get_within old.marks.items from true marked, searching.looked.whole.marks) in
    omega (arith, searching.looked.whole.view from l, to, searching.looked.whole.terns)

-- the last point that waits comes to be done
module _ (network : Network) (clock : Clock) (given : PointTerns) (old : Search) (searching : IsSearching network clock given old)
    (points : length network.drives.items ≡ length old.leads.items) (point : ℕ)
    (last : slice_get old.stack.items (length old.stack.items - 1) ≡ Some point) where
  abbrev asked : Asked
  asked = asked_of old

  pub top : IsMarked old.marks.items point × (slice_get old.done.items point ≡ Some false)
  top = last_waits old.marks.items old.done.items old.stack.items point searching.waiting last

  pub top_inside : point < length old.leads.items
  top_inside = omega (arith, get_within old.done.items point false top.1, searching.room.done)

  abbrev Found : Lead → Type 0
  Found lead = Finds network.trees.items clock (given point) asked.terns asked.leads asked.marks (slice_get network.drives.items point) lead

  abbrev Registers : Lead → Type 0
  Registers lead = (next : Source) → slice_get network.drives.items point ≡ Some (Flop clock next) → lead ≡ Own

  pub know_goes_on : (new : Search) (b : Bool) (tern : Tern) → plain_tern tern ≡ known b → Found (Known b) → Registers (Known b) →
      Closes old new point (record asked { terns = slice_set asked.terns point tern }) → GoesOn network clock given old new
  know_goes_on new b tern is finds registers closes =
      close_goes_on network clock given old new searching point (record asked { terns = slice_set asked.terns point tern }) last top.1 closes refl
      (known_looked network clock given asked old.done.items point searching.looked searching.room.done points searching.marked top.1 top.0 b tern is finds
      registers)
      (known_more network clock given asked old.done.items point searching.looked searching.room.done points searching.marked top.1 top.0 b tern is finds
      registers)
      (known_above network clock given asked old.done.items point searching.looked searching.room.done points searching.marked top.1 top.0 b tern is finds
      registers)

  keep_by : (new : Search) → ((later t u : PointTerns) → IsKept network clock given asked.terns asked.leads later → IsPossible asked t → IsPossible asked u →
      ((q : ℕ) → IsMarked asked.marks q → t q ≡ u q) → shown_of network later t point ≡ shown_of network later u point) →
      Closes old new point (record asked { own = asked.own ++ point ∷ [] }) → GoesOn network clock given old new
  keep_by new enough closes =
      close_goes_on network clock given old new searching point (record asked { own = asked.own ++ point ∷ [] }) last top.1 closes refl
      (keep_looked network clock given asked old.done.items point searching.looked searching.room.done points searching.marked top.1 top.0 enough)
      (keep_more network clock given asked old.done.items point searching.looked searching.room.done points searching.marked top.1 top.0 enough)
      (λ t h. h)

  pub keep_goes_on : (new : Search) → Found Own → Closes old new point (record asked { own = asked.own ++ point ∷ [] }) → GoesOn network clock given old new
  keep_goes_on new finds closes =
      keep_by new (λ later t u kept at_t at_u agree. finds (later point) t u (kept point) at_t.above at_t.follows at_u.above at_u.follows agree) closes

  pub lead_goes_on : (new : Search) (other : ℕ) → other < length old.leads.items → Found (Point other) → Registers (Point other) →
      (IsMarked old.done.items other → Closes old new point (record asked { leads = slice_set asked.leads point other })) →
      (slice_get old.done.items other ≡ Some false → Closes old new point (record asked { own = asked.own ++ point ∷ [] })) → GoesOn network clock given old new
  lead_goes_on new other inside finds registers done waits =
      elim (bool_there old.done.items other (omega (arith, inside, searching.room.done))) [
        | inl d ↦ close_goes_on network clock given old new searching point (record asked { leads = slice_set asked.leads point other }) last top.1 (done d)
            refl
            (led_looked network clock given asked old.done.items point searching.looked searching.room.done points searching.marked top.1 top.0 other finds
            registers d)
            (led_more network clock given asked old.done.items point searching.looked searching.room.done points searching.marked top.1 top.0 other finds
            registers d)
            (led_above network clock given asked old.done.items point searching.looked searching.room.done points searching.marked top.1 top.0 other finds
            registers d)
        | inr n ↦ keep_by new (ring_enough network clock given asked old.done.items point searching.looked searching.room.done points searching.marked top.1
            top.0 other finds registers) (waits n)
      ]

-- ---- between two questions

same_marks : (done marks : List Bool) → length done ≡ length marks → ((q : ℕ) → IsMarked done q → IsMarked marks q) →
    ((q : ℕ) → IsMarked marks q → slice_get done q ≡ Some false → ⊥) → done ≡ marks
same_marks [] [] l down up = refl
same_marks [] (m ∷ marks) l down up = absurd (omega (arith, l))
same_marks (d ∷ done) [] l down up = absurd (omega (arith, l))
same_marks (true ∷ done) (true ∷ marks) l down up = ap (λ (xs : List Bool). true ∷ xs)
    (same_marks done marks (omega (arith, l)) (λ q. down (suc q)) (λ q. up (suc q)))
same_marks (true ∷ done) (false ∷ marks) l down up = let e : Some false ≡ Some true = down 0 refl in cc
same_marks (false ∷ done) (true ∷ marks) l down up = absurd (up 0 refl refl)
same_marks (false ∷ done) (false ∷ marks) l down up = ap (λ (xs : List Bool). false ∷ xs)
    (same_marks done marks (omega (arith, l)) (λ q. down (suc q)) (λ q. up (suc q)))

none_waiting : (marks done : List Bool) (stack : List ℕ) → done ≡ marks → stack ≡ [] → AreWaiting marks done stack
none_waiting marks done stack same none = record {
  wait = λ place l. absurd (omega (arith, l, ap length none));
  once = λ place later l within e. absurd (omega (arith, within, ap length none));
  all = λ q m n. absurd (not_both marks q m (ap (λ (xs : List Bool). slice_get xs q) (sym same) ∙ n));
}

-- nothing is known of gates when a question is asked
pub begins : (network : Network) (clock : Clock) (given : PointTerns) (search : Search) (gates : Gates) → IsKeeping search →
    IsAsked network clock given (asked_of search) → gates.kept.items ≡ [] → IsSearching network clock given (record search { gates = gates })
begins network clock given search gates keeping asked none = record {
  looked = subst (λ (d : List Bool). IsLooked network clock given (asked_of search) d) (sym keeping.resting.done) asked;
  room = record {
    done = keeping.room.done;
    own = keeping.room.own;
    own_room = keeping.room.own_room;
    stack = keeping.room.stack;
    stack_room = keeping.room.stack_room;
  };
  marked = λ q d. subst (λ (m : List Bool). IsMarked m q) keeping.resting.done d;
  waiting = none_waiting search.marks.items search.done.items search.stack.items keeping.resting.done keeping.resting.stack;
  gates = no_gates network.trees.items search.terns.items search.leads.items search.marks.items gates.kept.items none;
}

-- a search for which no point waits rests
pub rests : (network : Network) (clock : Clock) (given : PointTerns) (search : Search) → IsSearching network clock given search → search.stack.items ≡ [] →
    IsResting search
rests network clock given search searching none = record {
  done = same_marks search.done.items search.marks.items (searching.room.done ∙ sym searching.looked.whole.marks) searching.marked
      (λ q m n. let listed = searching.waiting.all q m n in absurd (omega (arith, listed.1, ap length none)));
  stack = none;
}
