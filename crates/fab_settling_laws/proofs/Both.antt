-- Where CLK ticks with UserCLK, the design points are left with what UserCLK alone leaves.
use Rattle.std.proofs.Common.{◌≡◌, ℕ, Bool, true, false, List, [], ◌∷◌, ◌++◌, map, Some, refl, sym, ap, ◌∙◌, subst, inl, inr}
use Rattle.std.specs.List.{All, flat_map}
use Rattle.std.proofs.lemmas.List.Elements.{All-nil, All-cons, All-head, All-tail, All-contains}
use Rattle.fab_systems_laws.specs.Ternary.{Tern, known}
use Rattle.fab_systems_laws.specs.Steps.{blocks_then}
use Rattle.fab_meaning.specs.Points.{Point, Driver, outside, copy, bit_of, flop, hold, Drives}
use Rattle.fab_meaning.specs.Settled.{Assignment, IsSettledOn}
use Rattle.fab_meaning.specs.Runs.{clock_name, user_clock_name, kept, AreClocksLow, Moment, IsRunOn, Ticks}
use Rattle.fab_meaning.specs.Activation.{State, Event, tick, IsStep, AreSteps}
use Rattle.fab_meaning.specs.Loading.{IsLoading}
use Rattle.fab_meaning.specs.Sound.{DrivesOnce}
use Rattle.fab_meaning.proofs.SoundTexts.{sound_drives_once}
use Rattle.fab_nested_laws.specs.Together.{kept_together, TickTogether}
use Rattle.fab_nested_laws.proofs.InTurn.{in_turn}
use Rattle.fab_nested_laws.proofs.LoadingTakes.{HasClock, kept_one, loading_clock}
use Rattle.fab_netlist.specs.Packing.{packed}
use Rattle.fab_ternary_laws.specs.Shown.{Terns, tern_shown}
use Rattle.fab_runs_laws.specs.fab_text_loads_laws_Loads.{IsQuiet, IsConfigured}
use Rattle.fab_runs_laws.specs.fab_use_defs_Design.{IsSourced}
use Rattle.fab_runs_laws.specs.fab_use_defs_Cycles.{Instant, AreInstants, Feeds, AreCycles}
use Rattle.fab_runs_laws.specs.fab_use_defs_Sources as sources
use Rattle.fab_runs_laws.specs.fab_use_defs_Sources.{Source, HasSource}
use Rattle.fab_runs_laws.specs.fab_points_laws_Known.{KnowsBits}
use Rattle.fab_runs_laws.specs.fab_points_laws_Shown.{tern_source, Shown}
use Rattle.fab_runs_laws.proofs.fab_drives_laws_Apart.{told_apart}
use Rattle.fab_runs_laws.proofs.fab_points_laws_Configuration.{configuration_point_loads}
use Rattle.fab_runs_laws.proofs.fab_points_laws_EachSource.{sources_show}
use Rattle.fab_runs_laws.proofs.Setting.{Setting, cells_made}
use Rattle.fab_runs_laws.proofs.DesignRank.{settles_once}
use Rattle.fab_runs_laws.proofs.Instants.{Has, same_configured, still_configured}
use Rattle.fab_settling_laws.specs.Steps.{IsFreeStep}
use Rattle.fab_settling_laws.specs.Blocks.{BlockCycle}
use Rattle.fab_settling_laws.specs.Together.{JointInstant, AreJointInstants, user_instant, JointCycle, user_cycle, AreJointCycles, IsJointBlockCycle, IsInTurn}
use Rattle.fab_settling_laws.proofs.Origins.{all_of, single, source_register, register_flop}
use Rattle.fab_settling_laws.proofs.OneStep.{loading_law}

-- ---- a source of a flip-flop

-- the one source that heeds what is held is a flip-flop
module _ (inputs : Assignment) (t : Terns) (p : Point) where
  no_change : (value : Tern) → value ≡ known true → value ≡ known false → ⊥
  no_change value first second = (let both : known true ≡ known false = sym first ∙ second in absurd cc)

  holding_source : (source : Source) → tern_source inputs (all_of true) t p source ≡ known true → tern_source inputs (all_of false) t p source ≡ known false →
      source ≡ sources.flip_flop
  holding_source sources.flip_flop first second = refl
  holding_source (sources.always bit) first second = absurd (no_change (known bit) first second)
  holding_source sources.top_input first second = absurd (no_change (known (inputs p)) first second)
  holding_source (sources.shows q) first second = absurd (no_change (tern_source inputs inputs t p (sources.shows q)) first second)
  holding_source (sources.inverts q) first second = absurd (no_change (tern_source inputs inputs t p (sources.inverts q)) first second)
  holding_source (sources.looks_up table index) first second =
      absurd (no_change (tern_source inputs inputs t p (sources.looks_up table index)) first second)

module _ (s : Setting) where
  once : All (DrivesOnce s.text) s.text
  once = sound_drives_once s.text s.is_text.sound

  abbrev OfSource : Point → Source → Type 0
  OfSource = HasSource s.fabric (packed s.netlist) s.implementation

  abbrev Is : Point → Type 0
  Is = IsSourced s.fabric (packed s.netlist) s.implementation

  some_source : (p : Point) → Is p → (source : Source) × OfSource p source
  some_source p sourced =
      let listed = s.laws.listed s.fabric (packed s.netlist) s.fixed s.implementation s.are (cells_made s) s.legal in
      let row = listed.2 p sourced in
      (row.0, (All-contains (λ (r : Point × Source). OfSource r.0 r.1 × Is r.0) listed.0 (p, row.0) listed.1 row.1).0)

  -- ---- one instant

  module _ (inputs held now : Assignment) (configured : IsConfigured s.fabric s.bits held) (settled : IsSettledOn (Has s) s.text inputs held now) (low : AreClocksLow now)
      (given : List Bool) (feeds : Feeds s.netlist s.implementation given inputs) where
    loading_settled : IsSettledOn (IsLoading s.text) s.text inputs held now
    loading_settled p d loads drives = settled p d (inr loads) drives

    knows : KnowsBits s.fabric s.bits (λ q. known (now q))
    knows = s.laws.known s.fabric s.text s.bits inputs held now (λ q. known (now q)) s.is s.is_text configured loading_settled (λ p loads. refl)

    -- Loading points keep what they hold, whichever clock ticks.
    loading_keeps : (clock : List ℕ) (p : Point) (d : Driver) → IsLoading s.text p → Drives s.text p d → kept s.text clock held now p d ≡ held p
    loading_keeps clock p d loads drives =
        let ticked = (settles_once s held inputs configured feeds.low).ticks clock now in
        let moment : Moment = record { inputs = inputs; clock = clock } in
        let run : IsRunOn (IsLoading s.text) s.text (moment ∷ []) held ticked.0 =
        (now, ticked.0, loading_settled, low, (λ q e among by. ticked.1 q e (inr among) by), λ q among. refl) in
        sym (ticked.1 p d (inr loads) drives)
        ∙ ((loading_law s).loads s.bits).stays (moment ∷ []) held ticked.0 configured (All-cons IsQuiet moment [] (λ same. feeds.quiet) (All-nil IsQuiet)) run p loads

    -- Of all other design points a flip-flop has UserCLK.
    module _ (p : Point) (source : Source) (from : OfSource p source) (d : Driver) (drives : Drives s.text p d) where
      shows_with : (bit : Bool) → Shown s.text inputs (all_of bit) (λ q. known (now q)) p source
      shows_with bit =
          sources_show s.fabric s.text (packed s.netlist) s.fixed s.implementation s.bits inputs (all_of bit) (λ q. known (now q)) s.is s.are s.is_text (cells_made s) s.legal
          s.configures knows p source from

      gives : (bit : Bool) → tern_source inputs (all_of bit) (λ q. known (now q)) p source ≡ tern_shown s.text inputs (all_of bit) (λ q. known (now q)) p d
      gives bit =
          sym (shows_with bit).is
          ∙ ap (tern_shown s.text inputs (all_of bit) (λ q. known (now q)) p) (single s p (shows_with bit).driver d (shows_with bit).drives drives)

      holds_user : ((bit : Bool) → tern_shown s.text inputs (all_of bit) (λ q. known (now q)) p d ≡ known bit) → HasClock s.text (Some user_clock_name) d
      holds_user heeds =
          let is = holding_source inputs (λ q. known (now q)) p source (gives true ∙ heeds true) (gives false ∙ heeds false) in
          let at = register_flop s p (source_register s p source from is) in
          subst (HasClock s.text (Some user_clock_name)) (single s p (flop at.path user_clock_name at.next 0) d at.drives drives) at.clocked

    sourced_clock : (p : Point) (source : Source) → OfSource p source → (d : Driver) → Drives s.text p d → HasClock s.text (Some user_clock_name) d
    sourced_clock p source from outside drives = tt
    sourced_clock p source from (copy other) drives = tt
    sourced_clock p source from (bit_of path e bit) drives = tt
    sourced_clock p source from (hold path gate e bit) drives = tt
    sourced_clock p source from (flop path clock next bit) drives = holds_user p source from (flop path clock next bit) drives (λ b. refl)

    abbrev one : List (List ℕ) → List ℕ
    one clocks = (user_instant (record { inputs = inputs; now = now; clocks = clocks })).clock

    loading_same : (clocks : List (List ℕ)) (p : Point) (d : Driver) → IsLoading s.text p → Drives s.text p d →
        kept_together s.text clocks held now p d ≡ kept s.text (one clocks) held now p d
    loading_same clocks p d loads drives =
        kept_one s.text clock_name user_clock_name refl clocks held now p d (loading_clock s.text once p d loads drives)
        ∙ loading_keeps _ p d loads drives ∙ sym (loading_keeps (one clocks) p d loads drives)

    -- a tick of several clocks leaves the design points as one tick does
    pub same_kept : (clocks : List (List ℕ)) (p : Point) (d : Driver) → Has s p → Drives s.text p d →
        kept_together s.text clocks held now p d ≡ kept s.text (one clocks) held now p d
    same_kept clocks p d (inr loads) drives = loading_same clocks p d loads drives
    same_kept clocks p d (inl (inl configuration)) drives =
        loading_same clocks p d (configuration_point_loads s.fabric s.text s.is s.are s.is_text p configuration) drives
    same_kept clocks p d (inl (inr sourced)) drives =
        let source = some_source p sourced in
        kept_one s.text user_clock_name clock_name refl clocks held now p d (sourced_clock p source.0 source.1 d drives)

  -- ---- instants and cycles

  module _ (given : List Bool) where
    abbrev Given : Instant → Type 0
    Given i = Feeds s.netlist s.implementation given i.inputs

    to_users : (instants : List JointInstant) (held after : Assignment) → IsConfigured s.fabric s.bits held → All Given (map user_instant instants) →
        AreJointInstants (Has s) s.text instants held after → AreInstants (Has s) s.text (map user_instant instants) held after × IsConfigured s.fabric s.bits after
    to_users [] held after configured fed run = (run, same_configured s held after run configured)
    to_users (i ∷ more) held after configured fed (next, settled, low, ticks, run) =
        let feeds = All-head Given (user_instant i) (map user_instant more) fed in
        let ticks_user : Ticks (Has s) s.text (user_instant i).clock held i.now next =
        λ p d has drives. ticks p d has drives ∙ same_kept i.inputs held i.now configured settled low given feeds i.clocks p d has drives in
        let still = still_configured s (user_instant i) held next (record { settled = settled; low = low; ticks = ticks_user }) configured feeds.quiet in
        let rest = to_users more next after still (All-tail Given (user_instant i) (map user_instant more) fed) run in
        ((next, settled, low, ticks_user, rest.0), rest.1)

    from_users : (instants : List JointInstant) (held after : Assignment) → IsConfigured s.fabric s.bits held → All Given (map user_instant instants) →
        AreInstants (Has s) s.text (map user_instant instants) held after → AreJointInstants (Has s) s.text instants held after × IsConfigured s.fabric s.bits after
    from_users [] held after configured fed run = (run, same_configured s held after run configured)
    from_users (i ∷ more) held after configured fed (next, settled, low, ticks, run) =
        let feeds = All-head Given (user_instant i) (map user_instant more) fed in
        let still = still_configured s (user_instant i) held next (record { settled = settled; low = low; ticks = ticks }) configured feeds.quiet in
        let rest = from_users more next after still (All-tail Given (user_instant i) (map user_instant more) fed) run in
        let ticks_all : TickTogether (Has s) s.text i.clocks held i.now next =
        λ p d has drives. ticks p d has drives ∙ sym (same_kept i.inputs held i.now configured settled low given feeds i.clocks p d has drives) in
        ((next, settled, low, ticks_all, rest.0), rest.1)

  pub to_user_cycles : (cycles : List JointCycle) (held after : Assignment) → IsConfigured s.fabric s.bits held →
      AreJointCycles (Has s) s.text s.netlist s.implementation cycles held after →
      AreCycles (Has s) s.text s.netlist s.implementation (map user_cycle cycles) held after
  to_user_cycles [] held after configured run = run
  to_user_cycles (c ∷ more) held after configured (is, next, instants, run) =
      let users = to_users c.given c.instants held next configured is.1 instants in
      (is, next, users.0, to_user_cycles more next after users.1 run)

  pub from_user_cycles : (cycles : List JointCycle) (held after : Assignment) → IsConfigured s.fabric s.bits held →
      AreCycles (Has s) s.text s.netlist s.implementation (map user_cycle cycles) held after →
      AreJointCycles (Has s) s.text s.netlist s.implementation cycles held after
  from_user_cycles [] held after configured run = run
  from_user_cycles (c ∷ more) held after configured (is, next, instants, run) =
      let all = from_users c.given c.instants held next configured is.1 instants in
      (is, next, all.0, from_user_cycles more next after all.1 run)

  -- ---- cycles of blocks

  abbrev Free : Event → (a b : State) → Type 0
  Free = IsFreeStep s.text s.implementation

  -- one more step behind others
  one_more : (events : List Event) (event : Event) (a b c : State) → AreSteps Free events a b → Free event b c → AreSteps Free (events ++ event ∷ []) a c
  one_more [] event a b c steps last = (c, subst (λ (u : State). Free event u c) (sym steps) last, refl)
  one_more (first ∷ events) event a b c (between, step, steps) last = (between, step, one_more events event between b c steps last)

  joined : (xs ys zs : List Event) → (xs ++ ys) ++ zs ≡ xs ++ (ys ++ zs)
  joined [] ys zs = refl
  joined (x ∷ xs) ys zs = (let rest = joined xs ys zs in λ j. x ∷ rest j)

  pub block_cycle_in_turn : (count : ℕ) (cycle : BlockCycle) (before after : State) →
      IsJointBlockCycle (Has s) count s.text s.netlist s.implementation cycle before after →
      IsInTurn (Has s) count s.text s.netlist s.implementation cycle before after
  block_cycle_in_turn count cycle before after is =
      let turns = in_turn s.text once clock_name (user_clock_name ∷ []) cycle.settled cycle.ticked is.ticks in
      let between = turns.0 in
      let other = turns.2.0 in
      let last : Free (tick clock_name) cycle.settled between = record { step = turns.1; kind = told_apart 0 clock_name user_clock_name refl } in
      let events = flat_map (λ (block : List Event). block) cycle.blocks in
      record {
        between = between;
        same = turns.1.stays;
        cycle_is = record {
          fed = is.fed;
          blocks = is.blocks;
          steps = subst (λ xs. AreSteps Free xs before between) (joined events cycle.more (tick clock_name ∷ []))
              (one_more (blocks_then cycle.blocks cycle.more) (tick clock_name) before cycle.settled between is.steps last);
          ticks = subst (λ (u : State). IsStep s.text (tick user_clock_name) between u) turns.2.2 turns.2.1;
          changes = is.changes;
        };
      }
