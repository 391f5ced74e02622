-- A point that waits comes to be known, is led to another, or stands for itself.
use Rattle.std.proofs.Common.{◌≡◌, ◌⊎◌, ℕ, ◌<◌, Bool, true, false, List, [], ◌∷◌, ◌++◌, Some, length, refl, sym, ap, ◌∙◌, subst, inl, inr, arith}
use Rattle.std.proofs.Common.{length-append, slice_get, slice_set, slice_index}
use Rattle.std.proofs.lemmas.Bool.{cases_eq, cases_lt}
use Rattle.std.proofs.lemmas.List.{append-nil, length-set}
use Rattle.fab_systems_laws.specs.Ternary.{known, unknown, IsBelow, Tern as PlainTern}
use Rattle.fab_systems_laws.proofs.Order.{below_equal, below_trans}
use Rattle.fab_ternary.specs.declared.Tern.{Tern}
use Rattle.fab_ternary.specs.Terns.{plain_tern, is_known}
use Rattle.fab_compiled.specs.declared.leads.Lead.TheVariants.{Known, Point, Own}
use Rattle.fab_compiled.specs.Leading.{PointTerns, AreAbove, FollowLeads, IsMarked}
use Rattle.fab_compiled.specs.Terns.{seen}
use Rattle.fab_network.specs.declared.network.Clock.{Clock}
use Rattle.fab_network.specs.declared.network.Drive.TheVariants.{Flop}
use Rattle.fab_network.specs.declared.network.Network.{Network}
use Rattle.fab_network.specs.declared.network.Source.{Source}
use Rattle.fab_network.specs.Passes.{kept_tern, AreOwn, IsListed}
use Rattle.fab_network.specs.Solved.{Solves}
use Rattle.fab_network.proofs.Kept.{kept_same, kept_other, known_below, rising_set}
use Rattle.fab_demand.specs.Asked.{Asked, AsksMore, IsPossible}
use Rattle.fab_demand.specs.Demand.{shown_of, IsDecided, IsKept, IsLooked, StandsForItself}
use Rattle.fab_demand.specs.inner.Looking.{Finds}
use Rattle.fab_demand.proofs.Growing.{Grows, kept_before}
use Rattle.fab_demand.proofs.Closing.{Closing, closed_looked}
use Rattle.fab_demand.proofs.Lists.{bool_there, get_within, index_last, index_left, listed_either, listed_last, listed_left, not_both, set_index_other, set_index_same}

known_is : (b : Bool) → is_known (known b) ≡ true
known_is true = refl
known_is false = refl

module _ (network : Network) (clock : Clock) (given : PointTerns) (asked : Asked) (done : List Bool) (point : ℕ)
    (looked : IsLooked network clock given asked done)
    (long : length done ≡ length asked.leads) (points : length network.drives.items ≡ length asked.leads)
    (marked : (q : ℕ) → IsMarked done q → IsMarked asked.marks q) (waits : slice_get done point ≡ Some false)
    (asks : IsMarked asked.marks point) where
  inside : point < length asked.leads
  inside = omega (arith, get_within done point false waits, long)

  itself : slice_index asked.leads point ≡ point
  itself = (looked.others point waits).0

  nothing : kept_tern asked.terns point ≡ unknown
  nothing = (looked.others point waits).1

  -- in a possible assignment all points have what those have to which they are led
  all_led : (t : PointTerns) → FollowLeads asked.leads asked.marks t → (q : ℕ) → q < length asked.leads → t q ≡ t (slice_index asked.leads q)
  all_led t follows q l =
      elim (bool_there done q (omega (arith, l, long))) [
        | inl d ↦ follows q (marked q d)
        | inr n ↦ ap t (sym (looked.others q n).0)
      ]

  -- ---- known

  module _ (b : Bool) (tern : Tern) (is : plain_tern tern ≡ known b)
      (finds : Finds network.trees.items clock (given point) asked.terns asked.leads asked.marks (slice_get network.drives.items point) (Known b))
      (registers : (next : Source) → slice_get network.drives.items point ≡ Some (Flop clock next) → Known b ≡ Own) where
    abbrev knowing : Asked
    knowing = record asked { terns = slice_set asked.terns point tern }

    room : point < length asked.terns
    room = omega (arith, inside, looked.whole.terns)

    point_known : kept_tern knowing.terns point ≡ known b
    point_known = kept_same asked.terns point tern room ∙ is

    pub known_above : (t : PointTerns) → AreAbove knowing.terns knowing.leads t → AreAbove asked.terns asked.leads t
    known_above t above q l =
        let lead = slice_index asked.leads q in
        below_trans (kept_tern asked.terns lead) (kept_tern knowing.terns lead) (t q) (rising_set asked.terns point tern room nothing lead) (above q l)

    known_grows : Grows asked knowing
    known_grows = record {
      above = known_above;
      possible = λ t possible. record { above = known_above t possible.above; follows = possible.follows };
      marks = λ q m. m;
    }

    known_value : (later t : PointTerns) → IsKept network clock given knowing.terns knowing.leads later →
        Solves network.trees.items network.drives.items later t →
        IsPossible asked t → t point ≡ known b
    known_value later t kept solves possible =
        solves point (omega (arith, inside, points)) ∙ finds (later point) t (kept_before network clock given asked knowing known_grows later kept point)
        possible.above

    known_sound : (later t : PointTerns) → IsKept network clock given knowing.terns knowing.leads later →
        Solves network.trees.items network.drives.items later t → IsPossible knowing t
    known_sound later t kept solves =
        let possible : IsPossible asked t = looked.sound later t (kept_before network clock given asked knowing known_grows later kept) solves in
        let value : t point ≡ known b = known_value later t kept solves possible in
        record {
          above = λ q l. elim (cases_eq (slice_index asked.leads q) point) [
            | inl e ↦ below_equal (seen knowing.terns asked.leads q) (t q)
                (ap (kept_tern knowing.terns) e ∙ point_known ∙ sym value ∙ ap t (sym e) ∙ sym (all_led t possible.follows q l))
            | inr n ↦ subst (λ (x : PlainTern). IsBelow x (t q)) (sym (kept_other asked.terns point tern (slice_index asked.leads q) n)) (possible.above q l)
          ];
          follows = possible.follows;
        }

    known_decided : IsDecided network clock given knowing point
    known_decided later t kept possible =
        let shows = finds (later point) t (kept_before network clock given asked knowing known_grows later kept point) (known_above t possible.above) in
        let here : seen knowing.terns asked.leads point ≡ known b = ap (kept_tern knowing.terns) itself ∙ point_known in
        let has : known b ≡ t point = known_below (known b) (t point) (known_is b)
        (subst (λ (x : PlainTern). IsBelow x (t point)) here (possible.above point inside)) in
        shows ∙ has

    pub known_more : AsksMore asked knowing
    known_more = record { long = refl; marks = λ q m. m; more = []; own = sym (append-nil asked.own); possible = known_grows.possible }

    known_closing : Closing network clock given asked knowing done point
    known_closing = record {
      waits = waits;
      grows = known_grows;
      whole = record {
        terns = length-set asked.terns point tern ∙ looked.whole.terns;
        marks = looked.whole.marks;
        few = looked.whole.few;
        view = λ q l. omega (arith, length-set asked.terns point tern, looked.whole.view q l);
        own = looked.whole.own;
      };
      sound = known_sound;
      own = λ q listed. listed;
      own_back = λ q listed. inl listed;
      once = looked.once;
      kept = λ q apart. kept_other asked.terns point tern q apart;
      leads = λ q apart. refl;
      enough = inr known_decided;
      registers = λ next drive. let e : Known b ≡ Own = registers next drive in cc;
      led = inl itself;
      last = ap (slice_index asked.leads) itself;
    }

    pub known_looked : IsLooked network clock given knowing (slice_set done point true)
    known_looked = closed_looked network clock given asked knowing done point looked known_closing

  -- ---- led to another point

  module _ (other : ℕ) (finds : Finds network.trees.items clock (given point) asked.terns asked.leads asked.marks (slice_get network.drives.items point)
      (Point other))
      (registers : (next : Source) → slice_get network.drives.items point ≡ Some (Flop clock next) → Point other ≡ Own) where
    -- the other point is led no further
    other_last : IsMarked done other → slice_index asked.leads other ≡ other
    other_last d =
        let from = finds.1.0 in
        let to : slice_index asked.leads from ≡ other = finds.1.2 in
        elim (bool_there done from (omega (arith, get_within asked.marks from true finds.1.1, looked.whole.marks, long))) [
          | inl m ↦ ap (slice_index asked.leads) (sym to) ∙ looked.last from m ∙ to
          | inr n ↦ (let e : from ≡ other = sym (looked.others from n).0 ∙ to in absurd (not_both done other d (ap (slice_get done) (sym e) ∙ n)))
        ]

    module _ (other_done : IsMarked done other) where
      abbrev leading : Asked
      leading = record asked { leads = slice_set asked.leads point other }

      apart : other ≡ point → ⊥
      apart e = not_both done point (ap (slice_get done) (sym e) ∙ other_done) waits

      point_led : slice_index leading.leads point ≡ other
      point_led = set_index_same asked.leads point other inside

      led_same : (q : ℕ) → (q ≡ point → ⊥) → slice_index leading.leads q ≡ slice_index asked.leads q
      led_same q n = set_index_other asked.leads point other q n

      long_same : length leading.leads ≡ length asked.leads
      long_same = length-set asked.leads point other

      pub led_above : (t : PointTerns) → AreAbove leading.terns leading.leads t → AreAbove asked.terns asked.leads t
      led_above t above q l =
          elim (cases_eq q point) [
            | inl e ↦ (let none : seen asked.terns asked.leads q ≡ unknown = ap (seen asked.terns asked.leads) e ∙ ap (kept_tern asked.terns) itself
                ∙ nothing in
                subst (λ (x : PlainTern). IsBelow x (t q)) (sym none) tt)
            | inr n ↦ subst (λ (m : ℕ). IsBelow (kept_tern asked.terns m) (t q)) (led_same q n) (above q (omega (arith, l, long_same)))
          ]

      led_follows : (t : PointTerns) → FollowLeads leading.leads leading.marks t → FollowLeads asked.leads asked.marks t
      led_follows t follows q m =
          elim (cases_eq q point) [
            | inl e ↦ ap t (e ∙ sym itself ∙ ap (slice_index asked.leads) (sym e))
            | inr n ↦ follows q m ∙ ap t (led_same q n)
          ]

      led_grows : Grows asked leading
      led_grows = record {
        above = led_above;
        possible = λ t possible. record { above = led_above t possible.above; follows = led_follows t possible.follows };
        marks = λ q m. m;
      }

      led_value : (later t : PointTerns) → IsKept network clock given leading.terns leading.leads later →
          Solves network.trees.items network.drives.items later t →
          IsPossible asked t → t point ≡ t other
      led_value later t kept solves possible =
          solves point (omega (arith, inside, points))
          ∙ finds.0 (later point) t (kept_before network clock given asked leading led_grows later kept point) possible.above possible.follows

      other_inside : other < length asked.leads
      other_inside = omega (arith, get_within done other true other_done, long)

      led_sound : (later t : PointTerns) → IsKept network clock given leading.terns leading.leads later →
          Solves network.trees.items network.drives.items later t → IsPossible leading t
      led_sound later t kept solves =
          let possible : IsPossible asked t = looked.sound later t (kept_before network clock given asked leading led_grows later kept) solves in
          let value : t point ≡ t other = led_value later t kept solves possible in
          record {
            above = λ q l. elim (cases_eq q point) [
              | inl e ↦ (let lead : slice_index leading.leads q ≡ other = ap (slice_index leading.leads) e ∙ point_led in
                  let last : slice_index asked.leads other ≡ other = other_last other_done in
                  let there : IsBelow (kept_tern asked.terns other) (t other) = subst (λ (m : ℕ). IsBelow (kept_tern asked.terns m) (t other)) last
                  (possible.above other other_inside) in
                  let at_point : IsBelow (kept_tern asked.terns other) (t q) = subst (λ (x : PlainTern). IsBelow (kept_tern asked.terns other) x)
                  (sym (ap t e ∙ value)) there in
                  subst (λ (m : ℕ). IsBelow (kept_tern asked.terns m) (t q)) (sym lead) at_point)
              | inr n ↦ subst (λ (m : ℕ). IsBelow (kept_tern asked.terns m) (t q)) (sym (led_same q n)) (possible.above q (omega (arith, l, long_same)))
            ];
            follows = λ q m. elim (cases_eq q point) [
              | inl e ↦ ap t e ∙ value ∙ ap t (sym (ap (slice_index leading.leads) e ∙ point_led))
              | inr n ↦ possible.follows q m ∙ ap t (sym (led_same q n))
            ];
          }

      led_decided : IsDecided network clock given leading point
      led_decided later t kept possible =
          finds.0 (later point) t (kept_before network clock given asked leading led_grows later kept point) (led_above t possible.above)
          (led_follows t possible.follows)
          ∙ ap t (sym point_led) ∙ sym (possible.follows point asks)

      led_view : (q : ℕ) → q < length leading.leads → slice_index leading.leads q < length asked.terns
      led_view q l =
          elim (cases_eq q point) [
            | inl e ↦ omega (arith, ap (slice_index leading.leads) e ∙ point_led, other_inside, looked.whole.terns)
            | inr n ↦ omega (arith, led_same q n, looked.whole.view q (omega (arith, l, long_same)))
          ]

      own_apart : (q : ℕ) → IsListed asked.own q → q ≡ point → ⊥
      own_apart q listed e = not_both done point (ap (slice_get done) (sym e) ∙ (looked.own q listed).0) waits

      led_own : AreOwn asked.own leading.leads
      led_own place l =
          let q = slice_index asked.own place in
          let before = looked.whole.own place l in
          (omega (arith, before.0, long_same), led_same q (own_apart q (place, l, refl)) ∙ before.1)

      pub led_more : AsksMore asked leading
      led_more = record { long = long_same; marks = λ q m. m; more = []; own = sym (append-nil asked.own); possible = led_grows.possible }

      led_closing : Closing network clock given asked leading done point
      led_closing = record {
        waits = waits;
        grows = led_grows;
        whole = record {
          terns = looked.whole.terns ∙ sym long_same;
          marks = looked.whole.marks ∙ sym long_same;
          few = omega (arith, looked.whole.few, long_same);
          view = led_view;
          own = led_own;
        };
        sound = led_sound;
        own = λ q listed. listed;
        own_back = λ q listed. inl listed;
        once = looked.once;
        kept = λ q n. refl;
        leads = led_same;
        enough = inr led_decided;
        registers = λ next drive. let e : Point other ≡ Own = registers next drive in cc;
        led = inr (subst (IsMarked done) (sym point_led) other_done);
        last = ap (slice_index leading.leads) point_led ∙ led_same other apart ∙ other_last other_done ∙ sym point_led;
      }

      pub led_looked : IsLooked network clock given leading (slice_set done point true)
      led_looked = closed_looked network clock given asked leading done point looked led_closing

    -- a point that is led to one that waits itself depends on that one
    pub ring_enough : (later t u : PointTerns) → IsKept network clock given asked.terns asked.leads later → IsPossible asked t → IsPossible asked u →
        ((q : ℕ) → IsMarked asked.marks q → t q ≡ u q) → shown_of network later t point ≡ shown_of network later u point
    ring_enough later t u kept at_t at_u agree =
        let from = finds.1.0 in
        let to : slice_index asked.leads from ≡ other = finds.1.2 in
        let same : t other ≡ u other =
        ap t (sym to) ∙ sym (at_t.follows from finds.1.1) ∙ agree from finds.1.1 ∙ at_u.follows from finds.1.1 ∙ ap u to in
        finds.0 (later point) t (kept point) at_t.above at_t.follows ∙ same ∙ sym (finds.0 (later point) u (kept point) at_u.above at_u.follows)

  -- ---- for itself

  module _ (enough : (later t u : PointTerns) → IsKept network clock given asked.terns asked.leads later → IsPossible asked t → IsPossible asked u →
      ((q : ℕ) → IsMarked asked.marks q → t q ≡ u q) → shown_of network later t point ≡ shown_of network later u point) where
    abbrev keeping : Asked
    keeping = record asked { own = asked.own ++ point ∷ [] }

    keep_grows : Grows asked keeping
    keep_grows = record {
      above = λ t above. above;
      possible = λ t possible. record { above = possible.above; follows = possible.follows };
      marks = λ q m. m;
    }

    keep_back : (q : ℕ) → IsListed keeping.own q → IsListed asked.own q ⊎ ((q ≡ point) × StandsForItself network clock given keeping point)
    keep_back q listed =
        elim (listed_either asked.own point q listed) [
          | inl before ↦ inl before
          | inr now ↦ inr (
            now,
            record {
              not_kept = nothing;
              enough = λ later t u kept at_t at_u agree. enough later t u kept (keep_grows.possible t at_t) (keep_grows.possible u at_u) agree;
            },
          )
        ]

    keep_once : (place later : ℕ) → place < later → later < length keeping.own → slice_index keeping.own place ≡ slice_index keeping.own later → ⊥
    keep_once place later l inside_own e =
        let at_place : slice_index keeping.own place ≡ slice_index asked.own place =
        index_left asked.own (point ∷ []) place (omega (arith, l, inside_own, length-append asked.own (point ∷ []))) in
        elim (cases_lt later (length asked.own)) [
          | inl before ↦ looked.once place later l before (sym at_place ∙ e ∙ index_left asked.own (point ∷ []) later before)
          | inr after ↦ (let last : later ≡ length asked.own = omega (arith, inside_own, after, length-append asked.own (point ∷ [])) in
              let early : place < length asked.own = omega (arith, l, last) in
              let is : slice_index asked.own place ≡ point = sym at_place ∙ e ∙ ap (slice_index keeping.own) last ∙ index_last asked.own point in
              not_both done point (ap (slice_get done) (sym is) ∙ (looked.own (slice_index asked.own place) (place, early, refl)).0) waits)
        ]

    keep_own : AreOwn keeping.own asked.leads
    keep_own place l =
        elim (cases_lt place (length asked.own)) [
          | inl before ↦ subst (λ n. (n < length asked.leads) × (slice_index asked.leads n ≡ n)) (sym (index_left asked.own (point ∷ []) place before))
              (looked.whole.own place before)
          | inr after ↦ (let last : place ≡ length asked.own = omega (arith, l, after, length-append asked.own (point ∷ [])) in
              subst (λ n. (n < length asked.leads) × (slice_index asked.leads n ≡ n)) (sym (ap (slice_index keeping.own) last ∙ index_last asked.own point))
              (inside, itself))
        ]

    pub keep_more : AsksMore asked keeping
    keep_more = record { long = refl; marks = λ q m. m; more = point ∷ []; own = refl; possible = keep_grows.possible }

    keep_closing : Closing network clock given asked keeping done point
    keep_closing = record {
      waits = waits;
      grows = keep_grows;
      whole = record { terns = looked.whole.terns; marks = looked.whole.marks; few = looked.whole.few; view = looked.whole.view; own = keep_own };
      sound = λ later t kept solves. let possible : IsPossible asked t = looked.sound later t kept solves in record
          { above = possible.above; follows = possible.follows };
      own = λ q listed. listed_left asked.own (point ∷ []) q listed;
      own_back = keep_back;
      once = keep_once;
      kept = λ q n. refl;
      leads = λ q n. refl;
      enough = inl (listed_last asked.own point);
      registers = λ next drive. listed_last asked.own point;
      led = inl itself;
      last = ap (slice_index asked.leads) itself;
    }

    pub keep_looked : IsLooked network clock given keeping (slice_set done point true)
    keep_looked = closed_looked network clock given asked keeping done point looked keep_closing
