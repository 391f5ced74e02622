-- Cycle by cycle the pads show what the netlist says.
use Rattle.std.proofs.Common.{◌≡◌, ℕ, Bool, true, false, List, [], ◌∷◌, map, get_or, if◌then◌else◌, ap, ◌∙◌}
use Rattle.std.specs.List.{All}
use Rattle.std.proofs.lemmas.List.{get_or_default}
use Rattle.std.proofs.lemmas.List.Elements.{All-nil, All-cons, All-head, All-tail}
use Rattle.fab_meaning.specs.Settled.{Assignment}
use Rattle.fab_netlist.specs.declared.netlist.Latch.{Latch}
use Rattle.fab_netlist.specs.Plain.{IsAt, bit_at}
use Rattle.fab_netlist.specs.Meaning.{Meets, first_value, reset_by, is_reset, next_held, IsRun}
use Rattle.fab_netlist.specs.Packing.{packed}
use Rattle.fab_netlist.proofs.Counts.{at_mapped}
use Rattle.fab_netlist.proofs.Wired.{wired}
use Rattle.fab_points_laws.specs.fab_text_loads_laws_Loads.{IsConfigured}
use Rattle.fab_points_laws.proofs.fab_legal_Lists.{at_default}
use Rattle.fab_points_laws.specs.fab_use_defs_Cycles.{Instant, AreInstants, Feeds, Shows, EndsCycle, Cycle, IsCycle, AreCycles, EachShows}
use Rattle.fab_points_laws.specs.fab_use_defs_Registers.{HoldsLatches, design_state, HoldsState}
use Rattle.fab_points_laws.specs.fab_use_defs_Headline.{SettlesOnce, IsFed, IsGivenReset, RunsFrom}
use Rattle.fab_runs_laws.proofs.Setting.{Setting}
use Rattle.fab_runs_laws.proofs.DesignRank.{settles_once}
use Rattle.fab_runs_laws.proofs.Instants.{Has, Ready, same_configured, same_ready, Passes, still_configured, instant_shows, user_ready, loader_ready}
use Rattle.fab_runs_laws.proofs.Start.{held_latches, holds_state}

module _ (s : Setting) where
  -- ---- one cycle

  module _ (given : List Bool) where
    abbrev IsGiven : Instant → Type 0
    IsGiven i = Feeds s.netlist s.implementation given i.inputs

    abbrev IsTick : Instant → Type 0
    IsTick i = IsFed s.netlist s.implementation given i

    module _ (latches : List Bool) (nets : ℕ → Bool) (meets : Meets s.netlist (bit_at given) (bit_at latches) nets) where
      abbrev ShowsThem : Instant → Type 0
      ShowsThem i = Shows s.netlist s.implementation i.now nets

      cycle_shows : (instants : List Instant) (held after : Assignment) → EndsCycle instants → All IsGiven instants → AreInstants (Has s) s.text instants held after → Ready s held latches →
          All ShowsThem instants × Ready s after (next_held s.netlist nets)
      cycle_shows [] held after ends given_all run ready = absurd ends
      cycle_shows (i ∷ []) held after ends given_all (next, settled, low, ticks, same) ready =
          let passes : Passes s i held next = record { settled = settled; low = low; ticks = ticks } in
          let feeds = All-head IsGiven i [] given_all in (
            All-cons ShowsThem i [] (instant_shows s i held next passes given latches ready feeds nets meets) (All-nil ShowsThem),
            same_ready s next after (next_held s.netlist nets) same (user_ready s i held next passes given latches ready feeds nets meets ends),
          )
      cycle_shows (i ∷ j ∷ more) held after ends given_all (next, settled, low, ticks, run) ready =
          let passes : Passes s i held next = record { settled = settled; low = low; ticks = ticks } in
          let feeds = All-head IsGiven i (j ∷ more) given_all in
          let rest = cycle_shows (j ∷ more) next after ends.1 (All-tail IsGiven i (j ∷ more) given_all) run (loader_ready s i held next passes given latches ready feeds ends.0) in
          (All-cons ShowsThem i (j ∷ more) (instant_shows s i held next passes given latches ready feeds nets meets) rest.0, rest.1)

    -- ticks of CLK keep the configuration
    pub ticks_configured : (instants : List Instant) (held after : Assignment) → All IsTick instants → AreInstants (Has s) s.text instants held after →
        IsConfigured s.fabric s.bits held → IsConfigured s.fabric s.bits after
    ticks_configured [] held after fed same configured = same_configured s held after same configured
    ticks_configured (i ∷ more) held after fed (next, settled, low, ticks, run) configured =
        let passes : Passes s i held next = record { settled = settled; low = low; ticks = ticks } in
        ticks_configured more next after (All-tail IsTick i more fed) run (still_configured s i held next passes configured (All-head IsTick i more fed).0.quiet)

  -- ---- all cycles

  abbrev vectors : List Cycle → List (List Bool)
  vectors cycles = map (λ c. c.given) cycles

  pub cycles_show : (cycles : List Cycle) (held after : Assignment) (latches : List Bool) (nows : List (ℕ → Bool)) → AreCycles (Has s) s.text s.netlist s.implementation cycles held after →
      IsRun s.netlist latches (vectors cycles) nows → Ready s held latches → EachShows s.netlist s.implementation cycles nows × ((last : List Bool) × Ready s after last)
  cycles_show [] held after latches [] same run ready = (tt, (latches, same_ready s held after latches same ready))
  cycles_show [] held after latches (nets ∷ later) same run ready = absurd run
  cycles_show (c ∷ more) held after latches [] are run ready = absurd run
  cycles_show (c ∷ more) held after latches (nets ∷ later) (is_cycle, next, here, rest) run ready =
      let first = cycle_shows c.given latches nets run.0 c.instants held next is_cycle.0 is_cycle.1 here ready in
      let others = cycles_show more next after (next_held s.netlist nets) later rest run.1 first.1 in
      ((first.0, others.0), others.1)

  -- ---- from a start

  module _ (start : Assignment) (configured : IsConfigured s.fabric s.bits start) where
    ready : (latches : List Bool) → HoldsLatches s.netlist s.implementation start latches → Ready s start latches
    ready latches holds = record { configured = configured; holds = holds }

    latches_held : (latches : List Bool) × HoldsLatches s.netlist s.implementation start latches
    latches_held = held_latches s.fabric s.netlist s.fixed s.implementation s.made s.legal start

    one_run : (latches : List Bool) (cycles : List Cycle) → (nows : List (ℕ → Bool)) × IsRun s.netlist latches (vectors cycles) nows
    one_run latches cycles = (s.laws.one_run s.netlist (wired s.made) s.acyclic latches (vectors cycles)).0

    -- ---- a reset

    -- values of the latches have an assignment of the nets
    nets_over : (given latches : List Bool) → (nets : ℕ → Bool) × Meets s.netlist (bit_at given) (bit_at latches) nets
    nets_over given latches =
        let run = (s.laws.one_run s.netlist (wired s.made) s.acyclic latches (given ∷ [])).0 in
        first_of run.0 run.1
      where
        first_of : (nows : List (ℕ → Bool)) → IsRun s.netlist latches (given ∷ []) nows → (nets : ℕ → Bool) × Meets s.netlist (bit_at given) (bit_at latches) nets
        first_of [] run = absurd run
        first_of (now ∷ later) run = (now, run.0)

    -- a netlist whose reset port is given 1 is reset,
    given_reset : (given latches : List Bool) (nets : ℕ → Bool) → Meets s.netlist (bit_at given) (bit_at latches) nets → IsGivenReset s.netlist given → is_reset s.netlist nets ≡ true
    given_reset given latches nets meets (place, port, one) =
        ap (reset_by s.netlist.inputs nets) port
        ∙ meets.inputs place (get_or s.netlist.inputs place 0) (at_default s.netlist.inputs place 0 (s.made.reset_below place port))
        ∙ one

    -- and then its latches take what they begin with
    begin_anew : (nets : ℕ → Bool) → is_reset s.netlist nets ≡ true → (place : ℕ) (latch : Latch) → IsAt s.netlist.latches place latch →
        bit_at (next_held s.netlist nets) place ≡ first_value latch
    begin_anew nets reset place latch at =
        let next : Latch → Bool = λ l. if is_reset s.netlist nets then first_value l else nets l.input in
        let taken : IsAt (next_held s.netlist nets) place (next latch) = at_mapped next s.netlist.latches place latch at in
        get_or_default (next_held s.netlist nets) place false (next latch) taken.0
        ∙ taken.1
        ∙ ap (λ r. if r then first_value latch else nets latch.input) reset

    resets_behind : (cycles : List Cycle) (cycle : Cycle) (between after : Assignment) → AreCycles (Has s) s.text s.netlist s.implementation cycles start between →
        IsCycle s.netlist s.implementation cycle → AreInstants (Has s) s.text cycle.instants between after → IsGivenReset s.netlist cycle.given →
        HoldsState (design_state (packed s.netlist) s.implementation) after
    resets_behind cycles cycle between after are_cycles is_cycle are_instants reset =
        let run = one_run latches_held.0 cycles in
        let behind = (cycles_show cycles start between latches_held.0 run.0 are_cycles run.1 (ready latches_held.0 latches_held.1)).1 in
        let over = nets_over cycle.given behind.0 in
        let anew = (cycle_shows cycle.given behind.0 over.0 over.1 cycle.instants between after is_cycle.0 is_cycle.1 are_instants behind.1).1 in
        holds_state s.fabric s.netlist s.fixed s.implementation s.made s.legal after (next_held s.netlist over.0) anew.holds
        (begin_anew over.0 (given_reset cycle.given behind.0 over.0 over.1 reset))

    -- ---- all of it

    settles_behind : (cycles : List Cycle) (instants : List Instant) (between held : Assignment) (given : List Bool) (inputs : Assignment) →
        AreCycles (Has s) s.text s.netlist s.implementation cycles start between → AreInstants (Has s) s.text instants between held → All (IsTick given) instants →
        Feeds s.netlist s.implementation given inputs → SettlesOnce (Has s) s.text inputs held
    settles_behind cycles instants between held given inputs are_cycles are_instants fed feeds =
        let run = one_run latches_held.0 cycles in
        let behind = (cycles_show cycles start between latches_held.0 run.0 are_cycles run.1 (ready latches_held.0 latches_held.1)).1 in
        let still = ticks_configured given instants between held fed are_instants behind.1.configured in
        settles_once s held inputs still feeds.low

    pub runs_from : RunsFrom s.fabric s.text s.netlist s.netlist s.implementation start
    runs_from = record {
      latches = latches_held;
      shows = λ cycles after latches are_cycles holds.
          let run = one_run latches cycles in
          (run.0, run.1, (cycles_show cycles start after latches run.0 are_cycles run.1 (ready latches holds)).0);
      resets = resets_behind;
      settles = settles_behind;
    }
