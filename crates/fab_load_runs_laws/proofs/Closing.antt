-- The greatest closed flip-flops, found by taking away those that read, for what they take, points outside the set that the others make.
use Rattle.std.proofs.Common.{◌≡◌, ℕ, zero, suc, Bool, true, false, not, ◌&&◌, List, length, Contains, Option, Some, None, refl, sym, ap, ◌∙◌, subst, inl, inr, arith}
use Rattle.std.proofs.lemmas.Bool.{cases_Bool, false≢true, and_parts, and_from, not-true, not_from_false}
use Rattle.std.proofs.lemmas.Slice.Eq.{bytes_eq-Decides}
use Rattle.fab_equations.specs.fab_syntax.specs.Plain.{PlainModule}
use Rattle.fab_systems_laws.specs.System.{AreListed}
use Rattle.fab_equations.specs.fab_meaning.specs.Points.{Point, Driver, outside, copy, bit_of, flop, hold, Drives}
use Rattle.fab_equations.specs.fab_meaning.specs.Reads.{is_declared, reads, next_reads}
use Rattle.fab_equations.specs.fab_meaning.specs.Runs.{clock_of, is_clock, clock_name}
use Rattle.fab_equations.specs.fab_meaning.specs.Loading.{IsClosedAt}
use Rattle.fab_equations.specs.fab_meaning.specs.Ranked.{AreDrivenBy, AreRanked}
use Rattle.fab_load_runs_laws.specs.Runs.{Decides}
use Rattle.fab_load_runs_laws.proofs.Growing.{IsPart, stage, Grows, entry_within, rests}
use Rattle.fab_load_runs_laws.proofs.Streams.{WithinFor, IsClosedFor, IsLedFor}
use Rattle.fab_load_runs_laws.proofs.Inside.{all_inside, inside_has, inside_from}
use Rattle.fab_load_runs_laws.proofs.Leading.{expression_reads_declared, leads, led, led_within, within_led, step_grows, rank, read_before}

-- ---- flip-flops of CLK

abbrev is_loader_flop : List PlainModule → Driver → Bool
is_loader_flop text (flop path clock next bit) = is_clock clock_name (clock_of text path clock)
is_loader_flop text _ = false

clock_is : (clock : List ℕ) (found : Option (List ℕ)) → is_clock clock found ≡ true → found ≡ Some clock
clock_is clock None h = absurd (false≢true h)
clock_is clock (Some name) h = ap (λ n. Some n) ((bytes_eq-Decides name clock).0 h)

closed_at : (text : List PlainModule) (Has : Point → Type 0) (p : Point) (d : Driver) → Drives text p d → is_loader_flop text d ≡ true →
    ((q : Point) → next_reads text d q ≡ true → Has q) → IsClosedAt text Has p
closed_at text Has p (flop path clock next bit) drives h within = record {
  path = path;
  clock = clock;
  next = next;
  bit = bit;
  drives = drives;
  clocked = clock_is clock_name (clock_of text path clock) h;
  inside = within;
}
closed_at text Has p outside drives h within = absurd (false≢true h)
closed_at text Has p (copy other) drives h within = absurd (false≢true h)
closed_at text Has p (bit_of path e bit) drives h within = absurd (false≢true h)
closed_at text Has p (hold path gate e bit) drives h within = absurd (false≢true h)

flop_reads_nothing : (text : List PlainModule) (d : Driver) (q : Point) → is_loader_flop text d ≡ true → reads text d q ≡ true → ⊥
flop_reads_nothing text (flop path clock next bit) q h r = false≢true r
flop_reads_nothing text outside q h r = false≢true h
flop_reads_nothing text (copy other) q h r = false≢true h
flop_reads_nothing text (bit_of path e bit) q h r = false≢true h
flop_reads_nothing text (hold path gate e bit) q h r = false≢true h

next_reads_declared : (text : List PlainModule) (d : Driver) (q : Point) → next_reads text d q ≡ true → is_declared text q ≡ true
next_reads_declared text (flop path clock next bit) q r = expression_reads_declared text path next q r
next_reads_declared text outside q r = absurd (false≢true r)
next_reads_declared text (copy other) q r = absurd (false≢true r)
next_reads_declared text (bit_of path e bit) q r = absurd (false≢true r)
next_reads_declared text (hold path gate e bit) q r = absurd (false≢true r)

-- ---- stages

-- the flip-flops of CLK that have not been taken away
abbrev left : List PlainModule → (driver : Point → Driver) → (away : Point → Bool) → Point → Bool
left text driver away p = is_declared text p && (is_loader_flop text (driver p) && not (away p))

-- whether a point may stay when these are away
abbrev stays : List PlainModule → (names : List (List ℕ)) → (points : List Point) → (driver : Point → Driver) → (away : Point → Bool) → Point → Bool
stays text names points driver away p =
    is_loader_flop text (driver p) && all_inside (next_reads text (driver p)) (led text names points driver (left text driver away)) points

-- the declared points that may not
abbrev takes_away : List PlainModule → (names : List (List ℕ)) → (points : List Point) → (driver : Point → Driver) → (away : Point → Bool) → Point → Bool
takes_away text names points driver away p = is_declared text p && not (stays text names points driver away p)

-- those that are away in the end
abbrev last_away : List PlainModule → (names : List (List ℕ)) → (points : List Point) → (driver : Point → Driver) → Point → Bool
last_away text names points driver = stage (takes_away text names points driver) (length points)

-- the greatest closed flip-flops, and the loading points
abbrev closed_flops : List PlainModule → (names : List (List ℕ)) → (points : List Point) → (driver : Point → Driver) → Point → Bool
closed_flops text names points driver = left text driver (last_away text names points driver)

abbrev pub loading : List PlainModule → (names : List (List ℕ)) → (points : List Point) → (driver : Point → Driver) → Point → Bool
loading text names points driver = led text names points driver (closed_flops text names points driver)

module _ (text : List PlainModule) (names : List (List ℕ)) (points : List Point) (listed : AreListed (is_declared text) points)
    (driver : Point → Driver) (driven : AreDrivenBy text (is_declared text) driver) where
  -- the set that the others make
  abbrev made : (away : Point → Bool) → Point → Bool
  made away = led text names points driver (left text driver away)

  left_parts : (away : Point → Bool) (p : Point) → left text driver away p ≡ true →
      (is_declared text p ≡ true) × (is_loader_flop text (driver p) ≡ true) × (away p ≡ false)
  left_parts away p h =
      let declared = and_parts (is_declared text p) (is_loader_flop text (driver p) && not (away p)) h in
      let both = and_parts (is_loader_flop text (driver p)) (not (away p)) declared.1 in
      (declared.0, both.0, not-true (away p) both.1)

  left_from : (away : Point → Bool) (p : Point) → is_declared text p ≡ true → is_loader_flop text (driver p) ≡ true → away p ≡ false → left text driver away p ≡ true
  left_from away p declared is there =
      and_from (is_declared text p) (is_loader_flop text (driver p) && not (away p)) declared
      (and_from (is_loader_flop text (driver p)) (not (away p)) is (not_from_false (away p) there))

  away_parts : (away : Point → Bool) (p : Point) → takes_away text names points driver away p ≡ true → (is_declared text p ≡ true) × (stays text names points driver away p ≡ false)
  away_parts away p h =
      let both = and_parts (is_declared text p) (not (stays text names points driver away p)) h in (both.0, not-true (stays text names points driver away p) both.1)

  stays_parts : (away : Point → Bool) (p : Point) → stays text names points driver away p ≡ true →
      (is_loader_flop text (driver p) ≡ true) × (all_inside (next_reads text (driver p)) (made away) points ≡ true)
  stays_parts away p h = and_parts (is_loader_flop text (driver p)) (all_inside (next_reads text (driver p)) (made away) points) h

  stays_from : (away : Point → Bool) (p : Point) → is_loader_flop text (driver p) ≡ true → ((q : Point) → next_reads text (driver p) q ≡ true → made away q ≡ true) →
      stays text names points driver away p ≡ true
  stays_from away p is within =
      and_from (is_loader_flop text (driver p)) (all_inside (next_reads text (driver p)) (made away) points) is
      (inside_from (next_reads text (driver p)) (made away) points within)

  -- the more are away, the less the others make
  fewer_left : (some all : Point → Bool) → IsPart some all → IsPart (left text driver all) (left text driver some)
  fewer_left some all part p h =
      let parts = left_parts all p h in
      left_from some p parts.0 parts.1
      (elim (cases_Bool (some p)) [ inl t ↦ absurd (false≢true (sym parts.2 ∙ part p t)) | inr f ↦ f ])

  less_made : (some all : Point → Bool) → IsPart some all → IsPart (made all) (made some)
  less_made some all part p h =
      within_led text names points listed driver driven (left text driver some) (left text driver all)
      (λ q declared f. fewer_left some all part q f) p
      (led_within text names points listed driver driven (left text driver all) p h)

  away_grows : Grows (takes_away text names points driver)
  away_grows some all part p h =
      let parts = away_parts some p h in
      and_from (is_declared text p) (not (stays text names points driver all p)) parts.0
      (elim (cases_Bool (stays text names points driver all p)) [
        | inl s ↦ (let both = stays_parts all p s in
            let still : stays text names points driver some p ≡ true =
            stays_from some p both.0
            (λ q r. less_made some all part q
            (inside_has (next_reads text (driver p)) (made all) points both.1 q (listed q (next_reads_declared text (driver p) q r)) r)) in
            absurd (false≢true (sym parts.1 ∙ still)))
        | inr f ↦ not_from_false (stays text names points driver all p) f
      ])

  away_listed : (away : Point → Bool) (p : Point) → takes_away text names points driver away p ≡ true → Contains points p
  away_listed away p h = listed p (away_parts away p h).0

  -- ---- the flip-flops that are left at last are closed

  left_stays : (p : Point) → closed_flops text names points driver p ≡ true → stays text names points driver (last_away text names points driver) p ≡ true
  left_stays p h =
      let parts = left_parts (last_away text names points driver) p h in
      elim (cases_Bool (stays text names points driver (last_away text names points driver) p)) [
        | inl s ↦ s
        | inr f ↦ (let taken : takes_away text names points driver (last_away text names points driver) p ≡ true =
            and_from (is_declared text p) (not (stays text names points driver (last_away text names points driver) p)) parts.0
            (not_from_false (stays text names points driver (last_away text names points driver) p) f) in
            let gone : last_away text names points driver p ≡ true = rests (takes_away text names points driver) away_grows points away_listed p taken in
            absurd (false≢true (sym parts.2 ∙ gone)))
      ]

  flops_closed : IsClosedFor text names (closed_flops text names points driver)
  flops_closed p h =
      let parts = left_parts (last_away text names points driver) p h in
      let both = stays_parts (last_away text names points driver) p (left_stays p h) in
      closed_at text (WithinFor text names (closed_flops text names points driver)) p (driver p) (driven.each p parts.0) both.0
      (λ q r. led_within text names points listed driver driven (closed_flops text names points driver) q
      (inside_has (next_reads text (driver p)) (loading text names points driver) points both.1 q (listed q (next_reads_declared text (driver p) q r)) r))

  -- ---- no closed flip-flop is ever taken away

  module _ (some : Point → Bool) (closed : IsClosedFor text names some) where
    driver_is : (p : Point) → is_declared text p ≡ true → (f : some p ≡ true) → flop (closed p f).path (closed p f).clock (closed p f).next (closed p f).bit ≡ driver p
    driver_is p declared f = driven.only p (flop (closed p f).path (closed p f).clock (closed p f).next (closed p f).bit) declared (closed p f).drives

    is_flop : (p : Point) → is_declared text p ≡ true → some p ≡ true → is_loader_flop text (driver p) ≡ true
    is_flop p declared f =
        let clocked : is_clock clock_name (clock_of text (closed p f).path (closed p f).clock) ≡ true =
        ap (is_clock clock_name) (closed p f).clocked ∙ (bytes_eq-Decides clock_name clock_name).1 refl in
        subst (λ (d : Driver). is_loader_flop text d ≡ true) (driver_is p declared f) clocked

    never_away : (k : ℕ) (p : Point) → is_declared text p ≡ true → some p ≡ true → stage (takes_away text names points driver) k p ≡ false
    never_away zero p declared f = refl
    never_away (suc k) p declared f =
        let away : Point → Bool = stage (takes_away text names points driver) k in
        let still : stays text names points driver away p ≡ true =
        stays_from away p (is_flop p declared f)
        (λ q r. within_led text names points listed driver driven (left text driver away) some
        (λ x there g. left_from away x there (is_flop x there g) (never_away k x there g)) q
        ((closed p f).inside q (subst (λ (d : Driver). next_reads text d q ≡ true) (sym (driver_is p declared f)) r))) in
        elim (cases_Bool (takes_away text names points driver away p)) [
          | inl t ↦ absurd (false≢true (sym (away_parts away p t).1 ∙ still))
          | inr n ↦ n
        ]

    closed_loading : (p : Point) → WithinFor text names some p → loading text names points driver p ≡ true
    closed_loading p within =
        within_led text names points listed driver driven (closed_flops text names points driver) some
        (λ q declared f. left_from (last_away text names points driver) q declared (is_flop q declared f) (never_away (length points) q declared f)) p within

  -- ---- the loading points

  pub loading_decided : Decides (IsLedFor text names) (loading text names points driver)
  loading_decided = record {
    sound = λ p h. (closed_flops text names points driver, flops_closed, led_within text names points listed driver driven (closed_flops text names points driver) p h);
    whole = λ p l. closed_loading l.0 l.1 p l.2;
  }

  flops_idle : (p q : Point) → is_declared text p ≡ true → closed_flops text names points driver p ≡ true → reads text (driver p) q ≡ true → ⊥
  flops_idle p q declared h r = flop_reads_nothing text (driver p) q (left_parts (last_away text names points driver) p h).1 r

  abbrev pub loading_rank : Point → ℕ
  loading_rank = rank text names points listed driver driven (closed_flops text names points driver)

  pub loading_ranked : AreRanked text (loading text names points driver) (λ p. false) driver loading_rank (suc (length points))
  loading_ranked = record {
    bound = λ p h. omega (
      arith,
      entry_within (leads text names points driver (closed_flops text names points driver))
          (step_grows text names points listed driver driven (closed_flops text names points driver)) (length points) p,
    );
    apart = λ p h. absurd (false≢true h);
    lower = λ p q h r. inr (read_before text names points listed driver driven (closed_flops text names points driver) flops_idle p q h r);
  }
