-- Cycles of the text with a port are cycles of the fabric behind it, while no bit is sent.
use Rattle.std.proofs.Common.{◌≡◌, ◌⊎◌, ℕ, Bool, true, false, List, [], ◌∷◌, codes, map, All, Contains, Some, refl, sym, ap, ◌∙◌, subst, inl, inr, arith}
use Rattle.std.proofs.lemmas.List.Elements.{All-nil, All-cons, All-head, All-tail}
use Rattle.fab_kinds.specs.declared.kind.Kind.TheVariants as kinds
use Rattle.fab_kinds.specs.declared.kind.Kind.{Kind}
use Rattle.fab_syntax.specs.Plain.{PlainModule}
use Rattle.fab_meaning.specs.Ports.{scalar}
use Rattle.fab_meaning.specs.Points.{Point, point}
use Rattle.fab_meaning.specs.Settled.{Assignment, IsSettledOn}
use Rattle.fab_meaning.specs.Runs.{clock_name, user_clock_name, AreClocksLow, Ticks}
use Rattle.fab_model.specs.Grid.{PlainFabric, tile_at}
use Rattle.fab_model.specs.Tiles.{PlainTile}
use Rattle.fab_fabric.specs.Fabric.{IsFabric}
use Rattle.fab_fabric.specs.declared.wire.Site.{Site}
use Rattle.fab_netlist.specs.Plain.{PlainNetlist, name_of}
use Rattle.fab_netlist.specs.Meaning.{IsRun}
use Rattle.fab_netlist.specs.Packing.{packed}
use Rattle.fab_implementation.specs.Plain.{Pad, PlainImplementation}
use Rattle.fab_implementation.specs.OnFabric.{kind_at}
use Rattle.fab_points_laws.specs.fab_legal_Legal.{IsLegal}
use Rattle.fab_points_laws.specs.fab_fabric_text_defs_Texts.{IsFabricText}
use Rattle.fab_points_laws.specs.fab_use_defs_Cycles.{Instant, AreInstants, Feeds, FeedsWith, Shows, EndsCycle, Cycle, IsCycle, IsCycleWith, AreCycles, AreCyclesWith, EachShows}
use Rattle.fab_points_laws.specs.fab_use_defs_Design.{IsPadPoint, of_input, of_output, input_pad, output_pad}
use Rattle.fab_points_laws.specs.fab_use_defs_Headline.{DesignPoints, RunsFrom}
use Rattle.fab_points_laws.specs.fab_use_defs_Sites.{top_point}
use Rattle.fab_points_laws.proofs.Places.{SiteBel, site_tile, site_bel, in_kind, out_kind}
use Rattle.fab_serial_laws.specs.fab_nested_laws_Nested.{inside, within, NestedTexts, IsShown, IsSameClock}
use Rattle.fab_serial_laws.specs.fab_prim_Ports.{top_name, top_inputs, top_outputs}
use Rattle.fab_serial_laws.specs.fab_serial_Module.{fabric_instance_name, CanHaveSerialPort}
use Rattle.fab_serial_laws.specs.fab_serial_Delivery.{IsSerialLoading, strobe_point, data_point}
use Rattle.fab_serial_laws.specs.Loads.{full_point}
use Rattle.fab_serial_laws.proofs.fab_nested_laws_Sets.{settled_on, ticks_on}
use Rattle.fab_serial_laws.proofs.fab_serial_Places.{whole}
use Rattle.fab_serial_laws.proofs.fab_serial_Led.{registers, closed, full_taken}
use Rattle.fab_serial_laws.proofs.fab_serial_Moments.{full_bit, registers_at, steps, stays, strobe_seen}
use Rattle.fab_serial_laws.proofs.fab_serial_Registers.{Registers, after_serial}
use Rattle.fab_serial_laws.proofs.fab_serial_Steps.{turn_of}
use Rattle.fab_serial_laws.proofs.fab_parts_sound_laws_Names.{told_apart}
use Rattle.fab_serial_laws.proofs.Fabric.{fabric_stands, same_inside}
use Rattle.fab_serial_laws.proofs.InnerRuns.{fabric_clock_low}
use Rattle.fab_serial_laws.proofs.Pads.{user_low, pad_enters, pad_leaves, pad_in, pad_out}
use Rattle.fab_serial_runs_laws.specs.Runs.{IsSerialDesignPoint, in_fabric, user_clock, at_pad, of_port, RunsSeriallyFrom}

-- an instant of the fabric: its inputs are what the text around it gives it
abbrev pub inner_instant : Instant → Instant
inner_instant i = record { inputs = within fabric_instance_name i.now; now = within fabric_instance_name i.now; clock = i.clock }

abbrev pub inner_cycle : Cycle → Cycle
inner_cycle c = record { given = c.given; instants = map inner_instant c.instants }

abbrev pub inner_cycles : List Cycle → List Cycle
inner_cycles cycles = map inner_cycle cycles

-- ---- clocks of a cycle

-- one of the two clocks of the fabric
abbrev IsUseClock : Instant → Type 0
IsUseClock i = (i.clock ≡ clock_name) ⊎ (i.clock ≡ user_clock_name)

use_clocks : (instants : List Instant) → EndsCycle instants → All IsUseClock instants
use_clocks [] ends = absurd ends
use_clocks (i ∷ []) ends = All-cons IsUseClock i [] (inr ends) (All-nil IsUseClock)
use_clocks (i ∷ j ∷ more) ends = All-cons IsUseClock i (j ∷ more) (inl ends.0) (use_clocks (j ∷ more) ends.1)

ends_inside : (instants : List Instant) → EndsCycle instants → EndsCycle (map inner_instant instants)
ends_inside [] ends = ends
ends_inside (i ∷ []) ends = ends
ends_inside (i ∷ j ∷ more) ends = (ends.0, ends_inside (j ∷ more) ends.1)

given_inside : (cycles : List Cycle) → map (λ (c : Cycle). c.given) (inner_cycles cycles) ≡ map (λ (c : Cycle). c.given) cycles
given_inside [] = refl
given_inside (c ∷ cycles) = ap (λ rest. c.given ∷ rest) (given_inside cycles)

module _ (nested : NestedTexts) (fabric : PlainFabric) (text : List PlainModule) (read netlist : PlainNetlist) (fixed : List Pad) (implementation : PlainImplementation) (is : IsFabric fabric)
    (is_text : IsFabricText fabric text) (can : CanHaveSerialPort text) (legal : IsLegal fabric (packed netlist) fixed implementation) where
  abbrev outer : List PlainModule
  outer = whole text can

  abbrev Has : Point → Type 0
  Has = IsSerialDesignPoint fabric text outer netlist implementation

  abbrev Inner : Point → Type 0
  Inner = DesignPoints fabric text netlist implementation

  -- ---- pads

  abbrev ShownAt : (inputs held now : Assignment) → Point → Type 0
  ShownAt inputs held now p = IsShown outer inputs held now p

  module _ (site : Site) (kind_is : kind_at fabric site ≡ Some kinds.Io) where
    at : (tile : PlainTile) × (tile_at fabric site.x site.y ≡ Some tile)
    at = site_tile fabric site kinds.Io kind_is

    bel : SiteBel fabric site kinds.Io at.0
    bel = site_bel fabric site kinds.Io at.0 kind_is at.1

    comes : Contains (top_inputs bel.found.kind) top_name
    comes = subst (λ (kind : Kind). Contains (top_inputs kind) top_name) (sym bel.kind_is) (0, omega arith, refl)

    goes : (port : List ℕ) → Contains (top_outputs kinds.Io) port → Contains (top_outputs bel.found.kind) port
    goes port there = subst (λ (kind : Kind). Contains (top_outputs kind) port) (sym bel.kind_is) there

    enters : (inputs held now : Assignment) → ShownAt inputs held now (top_point site top_name) → ShownAt inputs held now (inside fabric_instance_name (top_point site top_name)) →
        within fabric_instance_name now (top_point site top_name) ≡ inputs (top_point site top_name)
    enters =
        pad_enters text can (scalar true (top_point site top_name).name) (pad_in fabric site.x site.y at.0 site.bel bel.found at.1 bel.there text is is_text can top_name comes) refl refl refl

    leaves : (port : List ℕ) → Contains (top_outputs kinds.Io) port → (inputs held now : Assignment) → ShownAt inputs held now (top_point site port) →
        now (top_point site port) ≡ within fabric_instance_name now (top_point site port)
    leaves port there =
        pad_leaves text can (scalar false (top_point site port).name) (pad_out fabric site.x site.y at.0 site.bel bel.found at.1 bel.there text is is_text can port (goes port there)) refl refl

  i_top : Contains (top_outputs kinds.Io) (codes "I_top")
  i_top = (0, omega arith, refl)

  t_top : Contains (top_outputs kinds.Io) (codes "T_top")
  t_top = (1, omega arith, refl)

  -- pads of ports are points of the design, inside and outside
  in_point : (port : List ℕ) (site : Site) (p : Point) → Contains implementation.ins (port, site) → ((tile : PlainTile) → Contains (input_pad tile site) p) → IsPadPoint fabric implementation p
  in_point port site p listed among =
      let there = at site (in_kind fabric (packed netlist) fixed implementation legal port site listed) in of_input listed there.1 (among there.0)

  out_point : (port : List ℕ) (site : Site) (p : Point) → Contains implementation.outs (port, site) → ((tile : PlainTile) → Contains (output_pad tile site) p) → IsPadPoint fabric implementation p
  out_point port site p listed among =
      let there = at site (out_kind fabric (packed netlist) fixed implementation legal port site listed) in of_output listed there.1 (among there.0)

  -- ---- one instant

  module _ (inputs held now : Assignment) (settled : IsSettledOn Has outer inputs held now) where
    shown_at : (p : Point) → Has p → ShownAt inputs held now p
    shown_at p has d drives = settled p d has drives

    pub loading_settled : IsSettledOn (IsSerialLoading outer) outer inputs held now
    loading_settled p d led drives = settled p d (of_port led) drives

    pub inner_settled : IsSettledOn Inner text (within fabric_instance_name now) (within fabric_instance_name held) (within fabric_instance_name now)
    inner_settled = settled_on text outer fabric_instance_name (nested text outer fabric_instance_name (fabric_stands text can)) Inner Has (λ p has. in_fabric has) inputs held now settled

    pub inner_low : AreClocksLow now → AreClocksLow (within fabric_instance_name now)
    inner_low low = (
      fabric_clock_low nested text can inputs held now loading_settled low.0,
      user_low text can inputs held now (shown_at (inside fabric_instance_name (point [] user_clock_name 0)) user_clock) low.1,
    )

    pad_fed : (port : List ℕ) (site : Site) → Contains implementation.ins (port, site) → within fabric_instance_name now (top_point site top_name) ≡ inputs (top_point site top_name)
    pad_fed port site listed =
        let p = top_point site top_name in
        let pad = in_point port site p listed (λ tile. (8, omega arith, refl)) in
        enters site (in_kind fabric (packed netlist) fixed implementation legal port site listed) inputs held now (shown_at p (at_pad pad refl))
        (shown_at (inside fabric_instance_name p) (in_fabric (inl (inr (inr (inr pad))))))

    -- what is fed comes to the fabric, and no word with it while the port is empty
    pub feeds_inside : (given : List Bool) → full_bit held ≡ false → AreClocksLow now → FeedsWith strobe_point netlist implementation given inputs →
        Feeds netlist implementation given (within fabric_instance_name now)
    feeds_inside given empty low feeds = record {
      quiet = strobe_seen text can inputs held now loading_settled ∙ empty;
      low = (inner_low low).0;
      pads = λ place net site there listed. pad_fed (name_of netlist net) site listed ∙ feeds.pads place net site there listed;
    }

    -- what the fabric shows at its pads, the pads of the new top show
    pub shows_outside : (nets : ℕ → Bool) → Shows read implementation (within fabric_instance_name now) nets → Shows read implementation now nets
    shows_outside nets shows = record {
      outputs = λ place net site there listed.
          (let p = top_point site (codes "I_top") in
          leaves site (out_kind fabric (packed netlist) fixed implementation legal (name_of read net) site listed) (codes "I_top") i_top inputs held now
          (shown_at p (at_pad (out_point (name_of read net) site p listed (λ tile. (8, omega arith, refl))) refl))
          ∙ shows.outputs place net site there listed);
      driven = λ port site listed.
          (let p = top_point site (codes "T_top") in
          leaves site (out_kind fabric (packed netlist) fixed implementation legal port site listed) (codes "T_top") t_top inputs held now
          (shown_at p (at_pad (out_point port site p listed (λ tile. (9, omega arith, refl))) refl))
          ∙ shows.driven port site listed);
      released = λ port site listed.
          (let p = top_point site (codes "T_top") in
          leaves site (in_kind fabric (packed netlist) fixed implementation legal port site listed) (codes "T_top") t_top inputs held now
          (shown_at p (at_pad (in_point port site p listed (λ tile. (9, omega arith, refl))) refl))
          ∙ shows.released port site listed);
    }

    module _ (clock : List ℕ) (next : Assignment) (ticked : Ticks Has outer clock held now next) where
      same_use : (clock ≡ clock_name) ⊎ (clock ≡ user_clock_name) → IsSameClock text outer fabric_instance_name clock
      same_use (inl loader) = subst (IsSameClock text outer fabric_instance_name) (sym loader) (same_inside text can clock_name refl)
      same_use (inr user) = subst (IsSameClock text outer fabric_instance_name) (sym user) (same_inside text can user_clock_name refl)

      inner_ticks : (clock ≡ clock_name) ⊎ (clock ≡ user_clock_name) → Ticks Inner text clock (within fabric_instance_name held) (within fabric_instance_name now) (within fabric_instance_name next)
      inner_ticks of_use =
          ticks_on text outer fabric_instance_name (nested text outer fabric_instance_name (fabric_stands text can)) Inner Has (λ p has. in_fabric has) clock held now next
          (same_use of_use) ticked

      loading_ticks : Ticks (IsSerialLoading outer) outer clock held now next
      loading_ticks p d led drives = ticked p d (of_port led) drives

      -- without a bit the port stays empty
      still_empty : (clock ≡ clock_name) ⊎ (clock ≡ user_clock_name) → inputs strobe_point ≡ false → full_bit held ≡ false → full_bit next ≡ false
      still_empty (inl loader) quiet empty =
          ap (λ (r : Registers). r.full) (steps text can inputs held now loading_settled clock next loading_ticks loader)
          ∙ ap (λ strobe. (after_serial (registers_at held) (turn_of strobe (inputs data_point))).full) quiet
      still_empty (inr user) quiet empty =
          ap (λ (r : Registers). r.full) (stays text can inputs held now loading_settled clock next loading_ticks (λ loader. told_apart user_clock_name clock_name refl (sym user ∙ loader))) ∙ empty

  -- ---- instants

  record IsInside (given : List Bool) (instants : List Instant) (held after : Assignment) : Type 0 where
    run : AreInstants Inner text (map inner_instant instants) (within fabric_instance_name held) (within fabric_instance_name after)
    fed : All (λ i. Feeds netlist implementation given i.inputs) (map inner_instant instants)
    empty : full_bit after ≡ false

  instants_inside : (given : List Bool) (instants : List Instant) (held after : Assignment) → full_bit held ≡ false → All IsUseClock instants →
      All (λ i. FeedsWith strobe_point netlist implementation given i.inputs) instants → AreInstants Has outer instants held after → IsInside given instants held after
  instants_inside given [] held after empty of_use fed run = record {
    run = λ p has. run (inside fabric_instance_name p) (in_fabric has);
    fed = All-nil (λ i. Feeds netlist implementation given i.inputs);
    empty = run full_point (of_port (registers text can, closed text can, full_taken text can)) ∙ empty;
  }
  instants_inside given (i ∷ more) held after empty of_use fed run =
      let use_clock = All-head IsUseClock i more of_use in
      let feeds = All-head (λ (j : Instant). FeedsWith strobe_point netlist implementation given j.inputs) i more fed in
      let later = instants_inside given more run.0 after (still_empty i.inputs held i.now run.1 i.clock run.0 run.3 use_clock feeds.quiet empty) (All-tail IsUseClock i more of_use)
      (All-tail (λ (j : Instant). FeedsWith strobe_point netlist implementation given j.inputs) i more fed) run.4 in
      record {
        run = (
          within fabric_instance_name run.0,
          inner_settled i.inputs held i.now run.1,
          inner_low i.inputs held i.now run.1 run.2,
          inner_ticks i.inputs held i.now run.1 i.clock run.0 run.3 use_clock,
          later.run,
        );
        fed = All-cons (λ (j : Instant). Feeds netlist implementation given j.inputs) (inner_instant i) (map inner_instant more) (feeds_inside i.inputs held i.now run.1 given empty run.2 feeds) later.fed;
        empty = later.empty;
      }

  cycle_inside : (cycle : Cycle) (held after : Assignment) → full_bit held ≡ false → IsCycleWith strobe_point netlist implementation cycle → AreInstants Has outer cycle.instants held after →
      IsInside cycle.given cycle.instants held after
  cycle_inside cycle held after empty is_cycle run = instants_inside cycle.given cycle.instants held after empty (use_clocks cycle.instants is_cycle.0) is_cycle.1 run

  is_cycle_inside : (cycle : Cycle) (held after : Assignment) → IsCycleWith strobe_point netlist implementation cycle → IsInside cycle.given cycle.instants held after →
      IsCycle netlist implementation (inner_cycle cycle)
  is_cycle_inside cycle held after is_cycle inner = (ends_inside cycle.instants is_cycle.0, inner.fed)

  -- ---- cycles

  cycles_inside : (cycles : List Cycle) (held after : Assignment) → full_bit held ≡ false → AreCyclesWith strobe_point Has outer netlist implementation cycles held after →
      AreCycles Inner text netlist implementation (inner_cycles cycles) (within fabric_instance_name held) (within fabric_instance_name after) × (full_bit after ≡ false)
  cycles_inside [] held after empty run =
      ((λ p has. run (inside fabric_instance_name p) (in_fabric has)), run full_point (of_port (registers text can, closed text can, full_taken text can)) ∙ empty)
  cycles_inside (cycle ∷ more) held after empty run =
      let inner = cycle_inside cycle held run.1 empty run.0 run.2 in
      let later = cycles_inside more run.1 after inner.empty run.3 in
      ((is_cycle_inside cycle held run.1 run.0 inner, within fabric_instance_name run.1, inner.run, later.0), later.1)

  instants_show : (instants : List Instant) (held after : Assignment) (nets : ℕ → Bool) → AreInstants Has outer instants held after →
      All (λ i. Shows read implementation i.now nets) (map inner_instant instants) → All (λ i. Shows read implementation i.now nets) instants
  instants_show [] held after nets run shows = All-nil (λ i. Shows read implementation i.now nets)
  instants_show (i ∷ more) held after nets run shows =
      All-cons (λ (j : Instant). Shows read implementation j.now nets) i more
      (shows_outside i.inputs held i.now run.1 nets (All-head (λ (j : Instant). Shows read implementation j.now nets) (inner_instant i) (map inner_instant more) shows))
      (instants_show more run.0 after nets run.4 (All-tail (λ (j : Instant). Shows read implementation j.now nets) (inner_instant i) (map inner_instant more) shows))

  cycles_show : (cycles : List Cycle) (nows : List (ℕ → Bool)) (held after : Assignment) → AreCyclesWith strobe_point Has outer netlist implementation cycles held after →
      EachShows read implementation (inner_cycles cycles) nows → EachShows read implementation cycles nows
  cycles_show [] [] held after run shows = tt
  cycles_show [] (nets ∷ later) held after run shows = absurd shows
  cycles_show (cycle ∷ more) [] held after run shows = absurd shows
  cycles_show (cycle ∷ more) (nets ∷ later) held after run shows =
      (instants_show cycle.instants held run.1 nets run.2 shows.0, cycles_show more later run.1 after run.3 shows.1)

  -- ---- the law

  pub runs_from : (start : Assignment) → full_bit start ≡ false → RunsFrom fabric text read netlist implementation (within fabric_instance_name start) →
      RunsSeriallyFrom fabric text outer read netlist implementation start
  runs_from start empty runs = record {
    latches = runs.latches;
    shows = λ cycles after latches run holds.
        (let inner = cycles_inside cycles start after empty run in
        let found = runs.shows (inner_cycles cycles) (within fabric_instance_name after) latches inner.0 holds in
        (found.0, subst (λ given. IsRun read latches given found.0) (given_inside cycles) found.1, cycles_show cycles found.0 start after run found.2));
    resets = λ cycles cycle between after run is_cycle instants reset.
        (let inner = cycles_inside cycles start between empty run in
        let last = cycle_inside cycle between after inner.1 is_cycle instants in
        runs.resets (inner_cycles cycles) (inner_cycle cycle) (within fabric_instance_name between) (within fabric_instance_name after) inner.0
        (is_cycle_inside cycle between after is_cycle last) last.run reset);
  }
