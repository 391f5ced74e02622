-- What is known of loading points.
use Rattle.std.proofs.Common.{◌≡◌, ℕ, Bool, true, false, List, refl, sym, ap, ◌∙◌, subst, inl, if◌then◌else◌}
use Rattle.fab_syntax.specs.Plain.{PlainModule}
use Rattle.fab_systems_laws.specs.Ternary.{Tern, known}
use Rattle.fab_meaning.specs.Value.{value}
use Rattle.fab_meaning.specs.Points.{Point, Driver, outside, copy, bit_of, flop, hold, Drives}
use Rattle.fab_meaning.specs.Settled.{Assignment, IsSettledOn}
use Rattle.fab_meaning.specs.Reads.{is_declared}
use Rattle.fab_meaning.specs.Runs.{clock_of, is_clock, kept}
use Rattle.fab_meaning.specs.Loading.{IsStream, IsDerived, Within, by_flop, by_stream, by_reads, IsClosed, IsLoading}
use Rattle.fab_meaning.specs.Sound.{PointsOfSoundTextsHaveOneDriver}
use Rattle.fab_ternary_laws.specs.Operators.{tern_at}
use Rattle.fab_ternary_laws.specs.Values.{tern_value}
use Rattle.fab_ternary_laws.specs.Shown.{Terns, tern_names, through, tern_shown}
use Rattle.fab_ternary_laws.proofs.Drivers.{driver_known}
use Rattle.fab_solutions_laws.specs.Solutions.{tern_given, Solves, tern_kept}
use Rattle.fab_simulation_laws.specs.Laws.{AreKnown, LoadingIsKnown, LoadingIsKept}

-- where what a derived point holds is known, its driver gives what it shows
derived_shown : (text : List PlainModule) (inputs held t : Terns) (bits base : Assignment) (p : Point) (d : Driver) → IsDerived d → held p ≡ known (base p) →
    tern_given text inputs held t p d ≡ tern_shown text bits base t p d
derived_shown text inputs held t bits base p outside derived holds = absurd derived
derived_shown text inputs held t bits base p (copy other) derived holds = refl
derived_shown text inputs held t bits base p (bit_of path e bit) derived holds = refl
derived_shown text inputs held t bits base p (flop path clock next bit) derived holds = absurd derived
derived_shown text inputs held t bits base p (hold path gate e bit) derived holds =
    ap (through (tern_at (tern_value (tern_names text t path) gate) 0) (tern_at (tern_value (tern_names text t path) e) bit)) holds

module _ (text : List PlainModule) (inputs held t : Terns) (bits base now : Assignment) (solves : Solves text inputs held t)
    (stream : AreKnown (IsStream text) inputs bits) (holds : AreKnown (IsLoading text) held base) (settled : IsSettledOn (IsLoading text) text bits base now)
  where
    within_known : (flops : Point → Bool) → IsClosed text flops → (p : Point) → Within text flops p → t p ≡ known (now p)
    within_known flops closed p (by_flop declared is) =
        let at = closed p is in
        let loads : IsLoading text p = (flops, closed, by_flop declared is) in
        let d = flop at.path at.clock at.next at.bit in
        solves p d declared at.drives ∙ holds p loads ∙ ap known (sym (settled p d loads at.drives))
    within_known flops closed p (by_stream is) =
        let loads : IsLoading text p = (flops, closed, by_stream is) in
        solves p outside is.declared (inl is.input) ∙ stream p is ∙ ap known (sym (settled p outside loads (inl is.input)))
    within_known flops closed p (by_reads d declared drives derived inside) =
        let loads : IsLoading text p = (flops, closed, by_reads d declared drives derived inside) in
        solves p d declared drives ∙ derived_shown text inputs held t bits base p d derived (holds p loads)
        ∙ driver_known text bits base now t p d (λ q is_read. within_known flops closed q (inside q is_read)) ∙ ap known (sym (settled p d loads drives))

pub loading_is_known : LoadingIsKnown
loading_is_known text inputs held t bits base now solves stream holds settled p loads =
    within_known text inputs held t bits base now solves stream holds settled loads.0 loads.1 p loads.2

-- ---- ticks

module _ (text : List PlainModule) (clock : List ℕ) (held t : Terns) (base now : Assignment) (holds : AreKnown (IsLoading text) held base)
    (knows : AreKnown (IsLoading text) t now) where
  chosen : (ticks : Bool) (new old : Tern) (next rest : Bool) → new ≡ known next → old ≡ known rest →
      (if ticks then new else old) ≡ known (if ticks then next else rest)
  chosen true new old next rest is_new is_old = is_new
  chosen false new old next rest is_new is_old = is_old

  derived_kept : (p : Point) (d : Driver) → IsDerived d → held p ≡ known (base p) → t p ≡ known (now p) →
      tern_kept text clock held t p d ≡ known (kept text clock base now p d)
  derived_kept p outside derived old new = absurd derived
  derived_kept p (copy other) derived old new = old
  derived_kept p (bit_of path e bit) derived old new = old
  derived_kept p (flop path own value bit) derived old new = absurd derived
  derived_kept p (hold path gate e bit) derived old new = new

  abbrev Keeps : Point → Driver → Type 0
  Keeps p d = tern_kept text clock held t p d ≡ known (kept text clock base now p d)

  -- some driver of the point keeps a known value
  within_kept : (flops : Point → Bool) → IsClosed text flops → (p : Point) → Within text flops p → (d : Driver) × Drives text p d × Keeps p d
  within_kept flops closed p (by_flop declared is) =
      let at = closed p is in
      let loads : IsLoading text p = (flops, closed, by_flop declared is) in
      let next = driver_known text base base now t p (bit_of at.path at.next at.bit) (λ q is_read. knows q (flops, closed, at.inside q is_read)) in
      (flop at.path at.clock at.next at.bit, at.drives, chosen (is_clock clock (clock_of text at.path at.clock)) _ (held p) _ (base p) next (holds p loads))
  within_kept flops closed p (by_stream is) = (outside, inl is.input, holds p (flops, closed, by_stream is))
  within_kept flops closed p (by_reads d declared drives derived inside) =
      let loads : IsLoading text p = (flops, closed, by_reads d declared drives derived inside) in
      (d, drives, derived_kept p d derived (holds p loads) (knows p loads))

pub within_declared : (text : List PlainModule) (flops : Point → Bool) (p : Point) → Within text flops p → is_declared text p ≡ true
within_declared text flops p (by_flop declared is) = declared
within_declared text flops p (by_stream is) = is.declared
within_declared text flops p (by_reads d declared drives derived inside) = declared

pub loading_is_kept : PointsOfSoundTextsHaveOneDriver → LoadingIsKept
loading_is_kept one text clock held t base now sound holds knows p d loads drives =
    let driver = one text sound p (within_declared text loads.0 p loads.2) in
    let by = within_kept text clock held t base now holds knows loads.0 loads.1 p loads.2 in
    let same : by.0 ≡ d = driver.2 by.0 by.1 ∙ sym (driver.2 d drives) in
    subst (λ e. tern_kept text clock held t p e ≡ known (kept text clock base now p e)) same by.2
