-- The loading points take a tick of CLK alone.
use Rattle.std.proofs.Common.{◌≡◌, ℕ, Bool, true, false, List, [], ◌∷◌, map, if◌then◌else◌, bytes_eq, Option, Some, All, refl, sym, ap, ◌∙◌, subst, inl}
use Rattle.std.proofs.lemmas.Bool.{false≢true}
use Rattle.fab_syntax.specs.Plain.{PlainModule}
use Rattle.fab_meaning.specs.Value.{value, bit_at}
use Rattle.fab_meaning.specs.Points.{Point, Driver, outside, copy, bit_of, flop, hold, Drives}
use Rattle.fab_meaning.specs.Settled.{Assignment, names_at}
use Rattle.fab_meaning.specs.Runs.{clock_name, user_clock_name, clock_of, is_clock, kept, IsRunOn}
use Rattle.fab_meaning.specs.Reads.{reads}
use Rattle.fab_meaning.specs.Sound.{DrivesOnce}
use Rattle.fab_meaning.specs.Loading.{IsDerived, IsStream, WithinBy, by_flop, by_stream, by_reads, IsLoading}
use Rattle.fab_meaning.proofs.Dependence.{same_name}
use Rattle.fab_meaning.proofs.SingleDrivers.{one_driver}
use Rattle.fab_nested_laws.specs.Together.{is_among, kept_together, JointMoment, IsJointRunOn, ticks_in, loader_moment, LoadingTakesOne}

-- of a flip-flop, its clock
abbrev pub HasClock : List PlainModule → Option (List ℕ) → Driver → Type 0
HasClock text clock (flop path own next bit) = clock_of text path own ≡ clock
HasClock text clock outside = Unit {0}
HasClock text clock (copy other) = Unit {0}
HasClock text clock (bit_of path e bit) = Unit {0}
HasClock text clock (hold path gate e bit) = Unit {0}

derived_has : (text : List PlainModule) (clock : Option (List ℕ)) (d : Driver) → IsDerived d → HasClock text clock d
derived_has text clock outside derived = absurd derived
derived_has text clock (copy other) derived = tt
derived_has text clock (bit_of path e bit) derived = tt
derived_has text clock (flop path own next bit) derived = absurd derived
derived_has text clock (hold path gate e bit) derived = tt

-- of two clocks one stands for several: the first where it ticks, and else the other
abbrev one_of : (clock other : List ℕ) → (clocks : List (List ℕ)) → List ℕ
one_of clock other clocks = if ticks_in clock clocks then clock else other

stands_for : (clock other : List ℕ) → bytes_eq clock other ≡ false → (ticks : Bool) → is_clock (if ticks then clock else other) (Some clock) ≡ ticks
stands_for clock other apart true = same_name clock
stands_for clock other apart false = apart

-- What is kept where several clocks tick is kept where one does, of a flip-flop with the first clock, and of all that is no flip-flop.
pub kept_one : (text : List PlainModule) (clock other : List ℕ) → bytes_eq clock other ≡ false → (clocks : List (List ℕ)) (held now : Assignment) (p : Point) (d : Driver) →
    HasClock text (Some clock) d → kept_together text clocks held now p d ≡ kept text (one_of clock other clocks) held now p d
kept_one text clock other apart clocks held now p outside has = refl
kept_one text clock other apart clocks held now p (copy q) has = refl
kept_one text clock other apart clocks held now p (bit_of path e bit) has = refl
kept_one text clock other apart clocks held now p (hold path gate e bit) has = refl
kept_one text clock other apart clocks held now p (flop path own next bit) has =
    let taken = bit_at (value (names_at text now path) next) bit in
    let one = one_of clock other clocks in
    ap (λ found. if is_among clocks found then taken else held p) has
    ∙ ap (λ (ticks : Bool). if ticks then taken else held p) (sym (stands_for clock other apart (ticks_in clock clocks)))
    ∙ ap (λ found. if is_clock one found then taken else held p) (sym has)

module _ (text : List PlainModule) (once : All (DrivesOnce text) text) where
  -- a flip-flop among the loading points has CLK
  pub loading_clock : (p : Point) (d : Driver) → IsLoading text p → Drives text p d → HasClock text (Some clock_name) d
  loading_clock p d (flops, closed, within) drives = of_within p within d drives
    where
      of_within : (p : Point) → WithinBy text (IsStream text) flops p → (d : Driver) → Drives text p d → HasClock text (Some clock_name) d
      of_within p (by_flop declared f) d drives =
          let at = closed p f in
          subst (HasClock text (Some clock_name)) (one_driver text once p (flop at.path at.clock at.next at.bit) d at.drives drives) at.clocked
      of_within p (by_stream is) d drives = subst (HasClock text (Some clock_name)) (one_driver text once p outside d (inl is.input) drives) tt
      of_within p (by_reads own declared by derived inside) d drives =
          subst (HasClock text (Some clock_name)) (one_driver text once p own d by drives) (derived_has text (Some clock_name) own derived)

  -- a driver of a loading point reads loading points alone
  pub loading_reads : (p : Point) (d : Driver) → IsLoading text p → Drives text p d → (q : Point) → reads text d q ≡ true → IsLoading text q
  loading_reads p d (flops, closed, within) drives q read = (flops, closed, of_within p within d drives read)
    where
      of_within : (p : Point) → WithinBy text (IsStream text) flops p → (d : Driver) → Drives text p d → reads text d q ≡ true → WithinBy text (IsStream text) flops q
      of_within p (by_flop declared f) d drives read =
          let at = closed p f in
          let own : flop at.path at.clock at.next at.bit ≡ d = one_driver text once p (flop at.path at.clock at.next at.bit) d at.drives drives in
          absurd (false≢true (ap (λ e. reads text e q) own ∙ read))
      of_within p (by_stream is) d drives read =
          let own : outside ≡ d = one_driver text once p outside d (inl is.input) drives in absurd (false≢true (ap (λ e. reads text e q) own ∙ read))
      of_within p (by_reads own declared by derived inside) d drives read =
          inside q (ap (λ e. reads text e q) (one_driver text once p own d by drives) ∙ read)

  pub to_one : (moments : List JointMoment) (held after : Assignment) → IsJointRunOn (IsLoading text) text moments held after →
      IsRunOn (IsLoading text) text (map loader_moment moments) held after
  to_one [] held after run = run
  to_one (moment ∷ moments) held after (now, next, settled, low, ticks, run) = (
    now,
    next,
    settled,
    low,
    λ p d loads drives. ticks p d loads drives ∙ kept_one text clock_name user_clock_name refl moment.clocks held now p d (loading_clock p d loads drives),
    to_one moments next after run,
  )

  pub from_one : (moments : List JointMoment) (held after : Assignment) → IsRunOn (IsLoading text) text (map loader_moment moments) held after →
      IsJointRunOn (IsLoading text) text moments held after
  from_one [] held after run = run
  from_one (moment ∷ moments) held after (now, next, settled, low, ticks, run) = (
    now,
    next,
    settled,
    low,
    λ p d loads drives. ticks p d loads drives ∙ sym (kept_one text clock_name user_clock_name refl moment.clocks held now p d (loading_clock p d loads drives)),
    from_one moments next after run,
  )

pub loading_takes_one : LoadingTakesOne
loading_takes_one text once moments held after = (to_one text once moments held after, from_one text once moments held after)
