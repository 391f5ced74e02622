-- Closed sets of flip-flops and the points that they lead to.
use Rattle.std.proofs.Common.{◌≡◌, ◌≢◌, ℕ, Bool, true, false, ◌||◌, List, [], ◌∷◌, if◌then◌else◌, refl, sym, ap, ◌∙◌, subst, inl, inr, All}
use Rattle.std.proofs.lemmas.Bool.{false≢true, or_cases, or_left, or_right}
use Rattle.std.proofs.lemmas.List.Elements.{All-head, All-tail}
use Rattle.fab_syntax.specs.Plain.{PlainModule}
use Rattle.fab_meaning.specs.Value.{value, bit_at}
use Rattle.fab_meaning.specs.Points.{Point, Driver, outside, copy, bit_of, flop, hold, IsDrivenOutside, Drives}
use Rattle.fab_meaning.specs.Settled.{Assignment, names_at, shown, IsSettledOn}
use Rattle.fab_meaning.specs.Runs.{clock_of, is_clock, clock_name, kept, Ticks, Moment, IsRunOn}
use Rattle.fab_meaning.specs.Reads.{reads, next_reads}
use Rattle.fab_meaning.specs.Loading.{IsDerived, AreAlikeOn, WithinBy, by_flop, by_stream, by_reads, IsClosedAt, IsClosedBy, IsLed, IsSameOn, IsIdleOn}
use Rattle.fab_meaning.proofs.Declared.{bytes_apart}
use Rattle.fab_meaning.proofs.Dependence.{shown_same, kept_same}

-- ---- the union of closed sets

module _ (text : List PlainModule) (Stream : Point → Type 0) (some all : Point → Bool) (more : (p : Point) → some p ≡ true → all p ≡ true) where
  -- more flip-flops lead to more points
  pub within_more : (p : Point) → WithinBy text Stream some p → WithinBy text Stream all p
  within_more p (by_flop declared f) = by_flop declared (more p f)
  within_more p (by_stream s) = by_stream s
  within_more p (by_reads d declared drives derived inside) = by_reads d declared drives derived (λ q r. within_more q (inside q r))

  closed_more : (p : Point) → IsClosedAt text (WithinBy text Stream some) p → IsClosedAt text (WithinBy text Stream all) p
  closed_more p c = record {
    path = c.path;
    clock = c.clock;
    next = c.next;
    bit = c.bit;
    drives = c.drives;
    clocked = c.clocked;
    inside = λ q r. within_more q (c.inside q r);
  }

pub union_closed : (text : List PlainModule) (Stream : Point → Type 0) (some others : Point → Bool) →
    IsClosedBy text Stream some → IsClosedBy text Stream others → IsClosedBy text Stream (λ p. some p || others p)
union_closed text Stream some others a b p h =
    elim (or_cases (some p) (others p) h) [
      | inl f ↦ closed_more text Stream some (λ q. some q || others q) (λ q g. or_left (some q) (others q) g) p (a p f)
      | inr f ↦ closed_more text Stream others (λ q. some q || others q) (λ q g. or_right (some q) (others q) g) p (b p f)
    ]

-- ---- moments without a tick of CLK

-- a derived point shows the same where what is held and read is the same
derived_same : (text : List PlainModule) (inputs later held after now last : Assignment) (p : Point) (d : Driver) → IsDerived d → held p ≡ after p →
    ((q : Point) → reads text d q ≡ true → now q ≡ last q) → shown text inputs held now p d ≡ shown text later after last p d
derived_same text inputs later held after now last p outside derived h r = absurd derived
derived_same text inputs later held after now last p (copy other) derived h r = shown_same text inputs held now last p (copy other) r
derived_same text inputs later held after now last p (bit_of path e bit) derived h r = shown_same text inputs held now last p (bit_of path e bit) r
derived_same text inputs later held after now last p (flop path clock next bit) derived h r = absurd derived
derived_same text inputs later held after now last p (hold path gate e bit) derived h r =
    shown_same text inputs held now last p (hold path gate e bit) r
    ∙ ap (λ v. if bit_at (value (names_at text last path) gate) 0 then bit_at (value (names_at text last path) e) bit else v) h

-- a latch that has been left with what it shows goes on showing it
pub hold_again : (gate data_value held next now shows : Bool) → shows ≡ (if gate then data_value else held) → now ≡ shows → next ≡ now →
    shows ≡ (if gate then data_value else next)
hold_again true data_value held next now shows s n k = s
hold_again false data_value held next now shows s n k = sym (k ∙ n)

-- so a derived point shows the same after a tick
derived_ticked : (text : List PlainModule) (clock : List ℕ) (inputs later held next now last : Assignment) (p : Point) (d : Driver) → IsDerived d →
    now p ≡ shown text inputs held now p d → next p ≡ kept text clock held now p d →
    ((q : Point) → reads text d q ≡ true → now q ≡ last q) → now p ≡ shown text later next last p d
derived_ticked text clock inputs later held next now last p outside derived s k r = absurd derived
derived_ticked text clock inputs later held next now last p (copy other) derived s k r = s ∙ shown_same text inputs held now last p (copy other) r
derived_ticked text clock inputs later held next now last p (bit_of path e bit) derived s k r = s ∙ shown_same text inputs held now last p (bit_of path e bit) r
derived_ticked text clock inputs later held next now last p (flop path own e bit) derived s k r = absurd derived
derived_ticked text clock inputs later held next now last p (hold path gate e bit) derived s k r =
    hold_again (bit_at (value (names_at text last path) gate) 0) (bit_at (value (names_at text last path) e) bit) (held p) (next p) (now p) (now p)
    (s ∙ shown_same text inputs held now last p (hold path gate e bit) r) refl k

-- what a driver keeps beside points depends on what its own point holds
kept_held : (text : List PlainModule) (clock : List ℕ) (held after now : Assignment) (p : Point) (d : Driver) → held p ≡ after p →
    kept text clock held now p d ≡ kept text clock after now p d
kept_held text clock held after now p outside e = e
kept_held text clock held after now p (copy other) e = e
kept_held text clock held after now p (bit_of path x bit) e = e
kept_held text clock held after now p (flop path own next bit) e =
    ap (λ v. if is_clock clock (clock_of text path own) then bit_at (value (names_at text now path) next) bit else v) e
kept_held text clock held after now p (hold path gate x bit) e = refl

derived_takes_nothing : (text : List PlainModule) (d : Driver) (q : Point) → IsDerived d → next_reads text d q ≡ true → ⊥
derived_takes_nothing text outside q derived r = derived
derived_takes_nothing text (copy other) q derived r = false≢true r
derived_takes_nothing text (bit_of path e bit) q derived r = false≢true r
derived_takes_nothing text (flop path clock next bit) q derived r = derived
derived_takes_nothing text (hold path gate e bit) q derived r = false≢true r

module _ (text : List PlainModule) (Stream : Point → Type 0) (inputs_lead : (p : Point) → Stream p → IsDrivenOutside text p outside) where
  -- an input of the stream has its value in both moments
  stream_same : (Has : Point → Type 0) (inputs later held after now last : Assignment) → IsSettledOn Has text inputs held now → IsSettledOn Has text later after last →
      IsSameOn Stream inputs later → (p : Point) → Has p → Stream p → now p ≡ last p
  stream_same Has inputs later held after now last s t stream p has is =
      s p outside has (inl (inputs_lead p is)) ∙ stream p is ∙ sym (t p outside has (inl (inputs_lead p is)))

  module _ (flops : Point → Bool) (closed : IsClosedBy text Stream flops) where
    -- a driver of each point, which reads for what it takes at a tick the set alone
    within_driver : (p : Point) → WithinBy text Stream flops p → (d : Driver) × Drives text p d × ((q : Point) → next_reads text d q ≡ true → WithinBy text Stream flops q)
    within_driver p (by_flop declared f) = let c = closed p f in (flop c.path c.clock c.next c.bit, c.drives, c.inside)
    within_driver p (by_stream is) = (outside, inl (inputs_lead p is), λ q r. absurd (false≢true r))
    within_driver p (by_reads d declared drives derived inside) = (d, drives, λ q r. absurd (derived_takes_nothing text d q derived r))

    -- what is held and the stream decide the points
    within_same : (inputs later held after now last : Assignment) →
        IsSettledOn (WithinBy text Stream flops) text inputs held now → IsSettledOn (WithinBy text Stream flops) text later after last → IsSameOn Stream inputs later →
        ((p : Point) → WithinBy text Stream flops p → held p ≡ after p) → (p : Point) → WithinBy text Stream flops p → now p ≡ last p
    within_same inputs later held after now last s t stream keep p (by_flop declared f) =
        let c = closed p f in
        let here : WithinBy text Stream flops p = by_flop declared f in
        s p (flop c.path c.clock c.next c.bit) here c.drives ∙ keep p here ∙ sym (t p (flop c.path c.clock c.next c.bit) here c.drives)
    within_same inputs later held after now last s t stream keep p (by_stream is) =
        stream_same (WithinBy text Stream flops) inputs later held after now last s t stream p (by_stream is) is
    within_same inputs later held after now last s t stream keep p (by_reads d declared drives derived inside) =
        let here : WithinBy text Stream flops p = by_reads d declared drives derived inside in
        s p d here drives
        ∙ derived_same text inputs later held after now last p d derived (keep p here)
        (λ q r. within_same inputs later held after now last s t stream keep q (inside q r))
        ∙ sym (t p d here drives)

    -- a tick of another clock leaves them
    within_ticked : (clock : List ℕ) → clock ≢ clock_name → (inputs later held next now last : Assignment) →
        IsSettledOn (WithinBy text Stream flops) text inputs held now → Ticks (WithinBy text Stream flops) text clock held now next →
        IsSettledOn (WithinBy text Stream flops) text later next last → IsSameOn Stream inputs later →
        (p : Point) → WithinBy text Stream flops p → now p ≡ last p
    within_ticked clock other inputs later held next now last s k t stream p (by_flop declared f) =
        let c = closed p f in
        let here : WithinBy text Stream flops p = by_flop declared f in
        let own : Driver = flop c.path c.clock c.next c.bit in
        let still : kept text clock held now p own ≡ held p =
        rw (c.clocked, bytes_apart clock_name clock (λ e. other (sym e))) refl in
        s p own here c.drives ∙ sym (k p own here c.drives ∙ still) ∙ sym (t p own here c.drives)
    within_ticked clock other inputs later held next now last s k t stream p (by_stream is) =
        stream_same (WithinBy text Stream flops) inputs later held next now last s t stream p (by_stream is) is
    within_ticked clock other inputs later held next now last s k t stream p (by_reads d declared drives derived inside) =
        let here : WithinBy text Stream flops p = by_reads d declared drives derived inside in
        derived_ticked text clock inputs later held next now last p d derived (s p d here drives) (k p d here drives)
        (λ q r. within_ticked clock other inputs later held next now last s k t stream q (inside q r))
        ∙ sym (t p d here drives)

    -- where points and what is held are the same before a tick, what is held is the same after it
    within_next : (clock : List ℕ) (held after now last next final : Assignment) →
        Ticks (WithinBy text Stream flops) text clock held now next → Ticks (WithinBy text Stream flops) text clock after last final →
        ((p : Point) → WithinBy text Stream flops p → held p ≡ after p) → ((p : Point) → WithinBy text Stream flops p → now p ≡ last p) →
        (p : Point) → WithinBy text Stream flops p → next p ≡ final p
    within_next clock held after now last next final k t holds points p here =
        let by = within_driver p here in
        k p by.0 here by.1
        ∙ kept_same text clock held now last p by.0 (points p here) (λ q r. points q (by.2 q r))
        ∙ kept_held text clock held after last p by.0 (holds p here)
        ∙ sym (t p by.0 here by.1)

  -- the same for all loading points, each of which stands within some closed set
  abbrev Settled : (inputs held now : Assignment) → Type 0
  Settled inputs held now = IsSettledOn (IsLed text Stream) text inputs held now

  loading_same : (inputs later held after now last : Assignment) → Settled inputs held now → Settled later after last → IsSameOn Stream inputs later →
      ((p : Point) → IsLed text Stream p → held p ≡ after p) → (p : Point) → IsLed text Stream p → now p ≡ last p
  loading_same inputs later held after now last s t stream keep p l =
      within_same l.0 l.1 inputs later held after now last (λ q d w. s q d (l.0, l.1, w)) (λ q d w. t q d (l.0, l.1, w)) stream
      (λ q w. keep q (l.0, l.1, w)) p l.2

  loading_ticked : (clock : List ℕ) → clock ≢ clock_name → (inputs later held next now last : Assignment) →
      Settled inputs held now → Ticks (IsLed text Stream) text clock held now next → Settled later next last → IsSameOn Stream inputs later →
      (p : Point) → IsLed text Stream p → now p ≡ last p
  loading_ticked clock other inputs later held next now last s k t stream p l =
      within_ticked l.0 l.1 clock other inputs later held next now last (λ q d w. s q d (l.0, l.1, w)) (λ q d w. k q d (l.0, l.1, w))
      (λ q d w. t q d (l.0, l.1, w)) stream p l.2

  -- by induction on the moments: the first one's assignment stands to the end
  pub loading_stays : (moments : List Moment) (inputs later held after now last : Assignment) →
      All (IsIdleOn Stream inputs) moments → IsRunOn (IsLed text Stream) text moments held after →
      Settled inputs held now → Settled later after last → IsSameOn Stream inputs later →
      (p : Point) → IsLed text Stream p → now p ≡ last p
  loading_stays [] inputs later held after now last idle run s t stream p l =
      loading_same inputs later held after now last s t stream (λ q m. sym (run q m)) p l
  loading_stays (first ∷ []) inputs later held after now last idle run s t stream p l =
      let i : IsIdleOn Stream inputs first = All-head (IsIdleOn Stream inputs) first [] idle in
      loading_same inputs first.inputs held held now run.0 s run.2 i.stream (λ q m. refl) p l
      ∙ loading_ticked first.clock i.other first.inputs later held after run.0 last run.2
      (λ q d m drives. run.5 q m ∙ run.4 q d m drives) t (λ q is. sym (i.stream q is) ∙ stream q is) p l
  loading_stays (first ∷ second ∷ moments) inputs later held after now last idle run s t stream p l =
      let i : IsIdleOn Stream inputs first = All-head (IsIdleOn Stream inputs) first (second ∷ moments) idle in
      let rest : All (IsIdleOn Stream inputs) (second ∷ moments) = All-tail (IsIdleOn Stream inputs) first (second ∷ moments) idle in
      let j : IsIdleOn Stream inputs second = All-head (IsIdleOn Stream inputs) second moments rest in
      let here : Settled second.inputs run.1 run.5.0 = run.5.2 in
      loading_same inputs first.inputs held held now run.0 s run.2 i.stream (λ q m. refl) p l
      ∙ loading_ticked first.clock i.other first.inputs second.inputs held run.1 run.0 run.5.0 run.2 run.4 here (λ q is. sym (i.stream q is) ∙ j.stream q is) p l
      ∙ loading_stays (second ∷ moments) second.inputs later run.1 after run.5.0 last
      (λ k d below. record { stream = λ q is. sym (j.stream q is) ∙ (rest k d below).stream q is; other = (rest k d below).other })
      run.5 here t (λ q is. sym (j.stream q is) ∙ stream q is) p l

  loading_next : (clock : List ℕ) (held after now last next final : Assignment) →
      Ticks (IsLed text Stream) text clock held now next → Ticks (IsLed text Stream) text clock after last final →
      ((p : Point) → IsLed text Stream p → held p ≡ after p) → ((p : Point) → IsLed text Stream p → now p ≡ last p) →
      (p : Point) → IsLed text Stream p → next p ≡ final p
  loading_next clock held after now last next final k t holds points p l =
      within_next l.0 l.1 clock held after now last next final (λ q d w. k q d (l.0, l.1, w)) (λ q d w. t q d (l.0, l.1, w))
      (λ q w. holds q (l.0, l.1, w)) (λ q w. points q (l.0, l.1, w)) p l.2

  -- moment by moment, the points are the same and what is held is
  pub runs_agree : (moments others : List Moment) (held other_held after other_after : Assignment) → AreAlikeOn Stream moments others →
      ((p : Point) → IsLed text Stream p → held p ≡ other_held p) →
      IsRunOn (IsLed text Stream) text moments held after → IsRunOn (IsLed text Stream) text others other_held other_after →
      (p : Point) → IsLed text Stream p → after p ≡ other_after p
  runs_agree [] [] held other_held after other_after alike same run other p l = run p l ∙ same p l ∙ sym (other p l)
  runs_agree [] (n ∷ others) held other_held after other_after alike same run other p l = absurd alike
  runs_agree (m ∷ moments) [] held other_held after other_after alike same run other p l = absurd alike
  runs_agree (m ∷ moments) (n ∷ others) held other_held after other_after alike same run other p l =
      let points : (q : Point) → IsLed text Stream q → run.0 q ≡ other.0 q =
      loading_same m.inputs n.inputs held other_held run.0 other.0 run.2 other.2 alike.1 same in
      let ticks : Ticks (IsLed text Stream) text m.clock other_held other.0 other.1 =
      subst (λ (x : List ℕ). Ticks (IsLed text Stream) text x other_held other.0 other.1) (sym alike.0) other.4 in
      runs_agree moments others run.1 other.1 after other_after alike.2
      (loading_next m.clock held other_held run.0 other.0 run.1 other.1 run.4 ticks same points) run.5 other.5 p l
