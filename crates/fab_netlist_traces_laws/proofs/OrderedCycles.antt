-- Cycle by cycle an ordered simulation shows what the netlist says.
use Rattle.std.proofs.Common.{◌≡◌, ℕ, Bool, true, false, List, [], ◌∷◌, codes, map, Contains, refl, sym, ap, ◌∙◌, subst, inl, inr, bytes_eq, if◌then◌else◌}
use Rattle.std.proofs.lemmas.Slice.Eq.{bytes_eq-Decides}
use Rattle.fab_kinds.specs.declared.kind.Kind.TheVariants as kinds
use Rattle.fab_systems_laws.specs.Ternary.{known}
use Rattle.fab_syntax.specs.Declarations.{is_input_of}
use Rattle.fab_meaning.specs.Points.{Point, point, outside, Drives}
use Rattle.fab_meaning.specs.Settled.{Assignment, IsSettledOn}
use Rattle.fab_meaning.specs.Reads.{is_declared}
use Rattle.fab_meaning.specs.Runs.{clock_name, user_clock_name, Ticks}
use Rattle.fab_meaning.specs.Activation.{State}
use Rattle.fab_meaning.specs.Loading.{IsStream, IsLoading, write_strobe_name, write_data_name}
use Rattle.fab_meaning.specs.Loaded.{LoadedPointsStay, IsLoaded}
use Rattle.fab_sound.specs.Narrow.{AreNarrow}
use Rattle.fab_fabric.specs.declared.wire.Site.{Site}
use Rattle.fab_netlist.specs.Plain.{bit_at, name_of}
use Rattle.fab_netlist.specs.Meaning.{Meets, next_held, IsRun}
use Rattle.fab_netlist.specs.declared.net_id.NetId.{NetId}
use Rattle.fab_netlist.specs.Packing.{net_of, packed}
use Rattle.fab_netlist.proofs.Counts.{at_mapped}
use Rattle.fab_netlist.proofs.Members.{at_in, first_in, later_in, mapped_in}
use Rattle.fab_implementation.specs.Plain.{Pad}
use Rattle.fab_legal.specs.Lines.{IsInput, IsOutput}
use Rattle.fab_legal.specs.Sinks.{site_of}
use Rattle.fab_legal.specs.WellMade.{output_name}
use Rattle.fab_legal.proofs.SinkLaw.{known_site, site_is}
use Rattle.fab_prim.specs.Ports.{top_name}
use Rattle.fab_fabric_text_defs.specs.Names.{pad_port_name}
use Rattle.fab_netlist_traces_laws.proofs.fab_drives_laws_Apart.{told_apart}
use Rattle.fab_state.specs.Plain.{PlainState}
use Rattle.fab_ternary_laws.specs.Shown.{Terns}
use Rattle.fab_solutions_laws.specs.Laws.{DriversGrow, DriversFit}
use Rattle.fab_netlist_traces_laws.specs.fab_use_defs_Sites.{bel_point, reset_bit, top_point}
use Rattle.fab_netlist_traces_laws.specs.fab_use_defs_Design.{IsSourced}
use Rattle.fab_netlist_traces_laws.specs.fab_use_defs_Cycles.{Instant, Feeds}
use Rattle.fab_netlist_traces_laws.specs.fab_use_defs_Registers.{bound_pad, design_state}
use Rattle.fab_netlist_traces_laws.specs.fab_use_defs_Headline.{SettlesOnce}
use Rattle.fab_netlist_traces_laws.specs.fab_use_defs_Sources as sources
use Rattle.fab_netlist_traces_laws.specs.fab_use_defs_Sources.{Source, HasSource}
use Rattle.fab_netlist_traces_laws.specs.fab_points_laws_Known.{KnowsBits}
use Rattle.fab_netlist_traces_laws.proofs.fab_points_laws_EachSource.{has_fabric}
use Rattle.fab_netlist_traces_laws.proofs.fab_points_laws_Places.{cell_kind, site_tile}
use Rattle.fab_netlist_traces_laws.proofs.fab_points_laws_Sourced.{sources_are_of_design}
use Rattle.fab_netlist_traces_laws.specs.fab_simulation_laws_Simulation.{given}
use Rattle.fab_netlist_traces_laws.specs.fab_runs_laws_Carrying.{MeetsSources}
use Rattle.fab_netlist_traces_laws.proofs.fab_runs_laws_Setting.{Setting, cells_made}
use Rattle.fab_netlist_traces_laws.proofs.fab_runs_laws_DesignRank.{design_rank, settles_once}
use Rattle.fab_netlist_traces_laws.proofs.fab_runs_laws_Instants.{Has, Ready, Passes, instant_shows, user_ready}
use Rattle.fab_netlist_traces_laws.proofs.fab_runs_laws_Values as v
use Rattle.fab_settling_laws.proofs.Origins.{outside_is_pad, pad_outside}
use Rattle.fab_settling_laws.specs.Steps.{IsInputPad}
use Rattle.fab_ordering_laws.specs.Ordered.{Moment, IsOrderedCycle, AreOrderedCycles, none, after}
use Rattle.fab_ordering_laws.specs.Laws.{EachSettles}
use Rattle.fab_ordering_laws.proofs.Setting as ordering
use Rattle.fab_ordering_laws.proofs.Loading.{loading_input}
use Rattle.fab_ordering_laws.proofs.Cycles as ordered
use Rattle.fab_netlist_traces_laws.proofs.Fed.{bool_of, bool_of_known, feeds, pads}
use Rattle.fab_netlist_traces_laws.proofs.Known.{KnownLaws, IsRegister, design_known}
use Rattle.fab_netlist_traces_laws.proofs.Registers.{reset_used}
use Rattle.fab_netlist_traces_laws.specs.OrderedDesigns.{outputs_by, AreRight, EachRight}
use Rattle.fab_netlist_traces_laws.proofs.Latches.{latches_load, strobe_streams, clock_streams, stream_loads}
use Rattle.fab_netlist_traces_laws.proofs.Left.{same_left, kept_alike}

-- choices between the same, by the same
same_choice : {test other first second rest last : Bool} → test ≡ other → first ≡ second → rest ≡ last → (if test then first else rest) ≡ (if other then second else last)
same_choice test first rest = λ j. if test j then first j else rest j

module _ (s : Setting) (laws : KnownLaws) (stay : LoadedPointsStay) (grow : DriversGrow) (fit : DriversFit) (narrow : AreNarrow s.text) where
  abbrev pub state : PlainState
  state = design_state (packed s.netlist) s.implementation

  abbrev pub text_setting : ordering.Setting
  text_setting = record {
    stay = stay;
    knows = laws.loading;
    grow = grow;
    fit = fit;
    text = s.text;
    sound = s.is_text.sound;
    narrow = narrow;
    latches = latches_load s.fabric s.text s.is s.is_text (s.laws.loads s.fabric s.text s.is s.is_text).named;
  }

  declared : (p : Point) → Has s p → is_declared s.text p ≡ true
  declared = s.laws.declared s.fabric s.text (packed s.netlist) s.fixed s.implementation s.is s.are s.is_text (cells_made s) s.legal

  -- ---- UserCLK, which may stand at 1, is no design point

  abbrev user_point : Point
  user_point = point [] user_clock_name 0

  user_drives : Drives s.text user_point outside
  user_drives =
      let has = has_fabric s.fabric s.text s.is s.is_text in
      inl (record { top = refl; input = ap (λ m. is_input_of m user_clock_name) has.top_is; is = refl })

  user_not_loading : IsLoading s.text user_point → ⊥
  user_not_loading loads =
      elim (loading_input s.text s.is_text.sound user_point loads user_drives).named [
        | inl clock ↦ told_apart 0 user_clock_name clock_name refl clock
        | inr word ↦ elim word [
          | inl strobe ↦ told_apart 0 user_clock_name write_strobe_name refl strobe
          | inr bits ↦ told_apart 0 user_clock_name write_data_name refl bits
        ]
      ]

  no_pad : IsInputPad s.implementation user_point → ⊥
  no_pad (port, site, listed, is) =
      told_apart 0 user_clock_name (pad_port_name site.x site.y site.bel top_name) refl (ap (λ (p : Point). p.name) is)

  user_apart : (t : Terns) → KnowsBits s.fabric s.bits t → Has s user_point → ⊥
  user_apart t knows (inr loads) = user_not_loading loads
  user_apart t knows (inl design) =
      elim ((design_rank s).2.lower user_point design) [
        | inl loads ↦ user_not_loading loads
        | inr sourced ↦ no_pad (outside_is_pad s t knows user_point sourced.0 sourced.1 user_drives)
      ]

  -- ---- what is shown at output ports

  abbrev out_site : ℕ → Site
  out_site net = site_of bytes_eq s.implementation.outs (name_of s.netlist net)

  abbrev packed_output : ℕ → List ℕ × NetId
  packed_output net = (name_of s.netlist net, net_of s.netlist net)

  out_listed : (net : ℕ) → Contains s.netlist.outputs net → Contains s.implementation.outs (name_of s.netlist net, out_site net)
  out_listed net there =
      known_site bytes_eq bytes_eq-Decides s.fabric kinds.Io (IsOutput (packed s.netlist)) s.implementation.outs s.legal.placed.ports.outs
      (name_of s.netlist net)
      (mapped_in output_name (packed s.netlist).outputs (packed_output net) (mapped_in packed_output s.netlist.outputs net there))

  abbrev out_point : ℕ → Point
  out_point net = top_point (out_site net) (codes "I_top")

  -- the pad of an output port is used
  out_used : (net : ℕ) → Contains s.netlist.outputs net → IsSourced s.fabric (packed s.netlist) s.implementation (out_point net)
  out_used net there =
      sources_are_of_design s.fabric (packed s.netlist) s.fixed s.implementation s.are (cells_made s) s.legal (out_point net) _
      (sources.shown_outside (out_listed net there))

  pads_show : (now : Assignment) (nets : ℕ → Bool) → ((net : ℕ) → Contains s.netlist.outputs net → now (out_point net) ≡ nets net) →
      (some : List ℕ) → ((net : ℕ) → Contains some net → Contains s.netlist.outputs net) →
      map (λ (pad : Pad). now (top_point pad.1 (codes "I_top"))) (map (λ output. bound_pad s.implementation.outs output.0) (map packed_output some))
      ≡ map nets some
  pads_show now nets each [] are = refl
  pads_show now nets each (net ∷ some) are =
      let here : now (out_point net) ≡ nets net = each net (are net (first_in net some net refl)) in
      let rest = pads_show now nets each some (λ other there. are other (later_in net some other there)) in
      λ j. here j ∷ rest j

  -- ---- what is given at input ports

  abbrev ports : List (List ℕ)
  ports = (packed s.netlist).inputs

  pad_named : (port : List ℕ) (site : Site) → Contains ports port → Contains s.implementation.ins (port, site) →
      Contains (map (λ (pad : Pad). top_point pad.1 top_name) (pads s)) (top_point site top_name)
  pad_named port site there listed =
      let own : Site = site_of bytes_eq s.implementation.ins port in
      let found : own ≡ site =
      site_is bytes_eq bytes_eq-Decides s.fabric kinds.Io (IsInput (packed s.netlist)) s.implementation.ins s.legal.placed.ports.ins port site listed in
      let in_pads : Contains (pads s) (port, own) = mapped_in (bound_pad s.implementation.ins) ports port there in
      subst (λ (other : Site). Contains (map (λ (pad : Pad). top_point pad.1 top_name) (pads s)) (top_point other top_name)) found
      (mapped_in (λ (pad : Pad). top_point pad.1 top_name) (pads s) (port, own) in_pads)

  -- ---- a cycle

  module _ (draws : ℕ → ℕ) where
    -- a moment between cycles, in which the flip-flops of the design hold values of the latches
    pub record IsReadyFor (moment : Moment) (latches : List Bool) : Type 0 where
      pub ready : ordered.IsReady text_setting state draws moment
      pub quiet : (p : Point) → IsStream s.text p → moment.standing.now p ≡ false
      pub holds : Ready s moment.standing.held latches

    module _ (values shown : List Bool) (before next : Moment) (cycle : IsOrderedCycle s.text state draws values shown before next) (latches : List Bool)
        (at : IsReadyFor before latches) where
      abbrev begun : State
      begun = cycle.begun.standing

      abbrev rest : State
      rest = cycle.at_rest.standing

      holds_begun : Ready s begun.held latches
      holds_begun = same_left s before.standing.held begun.held latches (λ p loads. cycle.begins.held p) (λ p r. cycle.begins.held p) at.holds

      loaded : IsLoaded s.text begun
      loaded = ordered.begun_loaded text_setting state draws values shown before next cycle at.ready

      quiet_begun : (p : Point) → IsStream s.text p → begun.now p ≡ false
      quiet_begun p is =
          ordered.loading_still text_setting state draws values shown before next cycle at.ready p (stream_loads s.text p is) ∙ at.quiet p is

      feeds_begun : Feeds s.netlist s.implementation values begun.now
      feeds_begun = record {
        quiet = quiet_begun (point [] write_strobe_name 0) (strobe_streams s.fabric s.text (has_fabric s.fabric s.text s.is s.is_text));
        low = quiet_begun (point [] clock_name 0) (clock_streams s.fabric s.text (has_fabric s.fabric s.text s.is s.is_text));
        pads = λ place net site is listed.
            let port = name_of s.netlist net in
            let there : Contains ports port = at_in ports place port (at_mapped (name_of s.netlist) s.netlist.inputs place net is) in
            let pad = top_point site top_name in
            let has : known (begun.now pad) ≡ given (pads s) values pad =
            cycle.begins.named pad (record { input = pad_outside s pad (port, site, listed, refl); named = pad_named port site there listed }) in
            sym (bool_of_known (begun.now pad)) ∙ ap bool_of has ∙ (feeds s values).pads place net site is listed;
      }

      once : SettlesOnce (Has s) s.text begun.now begun.held
      once = settles_once s begun.held begun.now holds_begun.configured feeds_begun.low

      abbrev now : Assignment
      now = (once.exists (λ p. false)).0

      settled : IsSettledOn (Has s) s.text begun.now begun.held now
      settled = (once.exists (λ p. false)).1

      loading_settled : IsSettledOn (IsLoading s.text) s.text begun.now begun.held now
      loading_settled p d loads drives = settled p d (inr loads) drives

      abbrev after_tick : Assignment
      after_tick = (once.ticks user_clock_name now).0

      clock_low : now (point [] clock_name 0) ≡ false
      clock_low =
          let stream = clock_streams s.fabric s.text (has_fabric s.fabric s.text s.is s.is_text) in
          settled (point [] clock_name 0) outside (inr (stream_loads s.text (point [] clock_name 0) stream)) (inl stream.input) ∙ feeds_begun.low

      knows_bits : KnowsBits s.fabric s.bits (λ q. known (begun.now q))
      knows_bits =
          s.laws.known s.fabric s.text s.bits begun.now begun.held begun.now (λ q. known (begun.now q)) s.is s.is_text holds_begun.configured loaded
          (λ p loads. refl)

      abbrev instant : Instant
      instant = record { inputs = begun.now; now = now; clock = user_clock_name }

      passes : Passes s instant begun.held after_tick
      passes = record {
        settled = settled;
        low = (clock_low, (once.exists (λ p. false)).2 user_point (user_apart (λ q. known (begun.now q)) knows_bits));
        ticks = (once.ticks user_clock_name now).1;
      }

      met : MeetsSources s.fabric (packed s.netlist) s.implementation begun.now begun.held now
      met =
          (s.laws.by_sources s.fabric s.text (packed s.netlist) s.fixed s.implementation s.bits begun.now begun.held now s.is s.are s.is_text (cells_made s)
          s.legal s.configures holds_begun.configured loading_settled).0 settled

      -- the design is known, and comes to rest at what is known
      knows : (p : Point) → Has s p → cycle.begun.solution p ≡ known (now p)
      knows =
          design_known s laws (λ p. known (begun.now p)) (λ p. known (begun.held p)) cycle.begun.solution begun.now begun.held now cycle.begins.least.solves
          (λ p. refl) (record { loading = λ p loads. refl; registers = λ p r. refl }) holds_begun.configured loading_settled met

      rests : (p : Point) → Has s p → rest.now p ≡ now p
      rests p has =
          (ordered.settles text_setting state draws values shown before next cycle at.ready).stand p (now p) (declared p has) (knows p has)

      pub right : AreRight (IsSourced s.fabric (packed s.netlist) s.implementation) cycle.begun.solution rest.now
      right p sourced = knows p (inl (inr sourced)) ∙ ap known (sym (rests p (inl (inr sourced))))

      -- ---- what the tick leaves

      source_rests : (p : Point) (source : Source) → HasSource s.fabric (packed s.netlist) s.implementation p source → rest.now p ≡ now p
      source_rests p source has = rests p (inl (inr
          (sources_are_of_design s.fabric (packed s.netlist) s.fixed s.implementation s.are (cells_made s) s.legal p source has)))

      loading_left : (p : Point) → IsLoading s.text p → next.standing.held p ≡ after_tick p
      loading_left p loads =
          let driver = laws.one s.text s.is_text.sound p (declared p (inr loads)) in
          let keeps = ordered.keeps text_setting state draws values shown before next cycle at.ready in
          cycle.ends.ticks.keeps p driver.0 (declared p (inr loads)) driver.1
          ∙ kept_alike s.text s.is_text.sound p loads begun.held rest.held now rest.now driver.0 driver.1 (keeps.holding p driver.0 driver.1)
          (rests p (inr loads))
          ∙ sym (passes.ticks p driver.0 (inr loads) driver.1)

      register_left : (p : Point) → IsRegister s p → next.standing.held p ≡ after_tick p
      register_left p r =
          let kind = cell_kind s.fabric (packed s.netlist) s.fixed s.implementation s.legal r.number r.site r.cell r.bound in
          let tile = site_tile s.fabric r.site kinds.Lut4c kind in
          let enabled = v.enabled s.fabric s.netlist s.fixed s.implementation begun.now begun.held now values latches s.are s.made s.legal met r.number
          r.site r.cell r.bound r.init r.latched in
          let ticks : Ticks (Has s) s.text user_clock_name rest.held rest.now next.standing.held =
          λ q d has drives. cycle.ends.ticks.keeps q d (declared q has) drives in
          let at_rest = s.laws.registers s.fabric s.text (packed s.netlist) s.fixed s.implementation rest.held rest.now next.standing.held s.is s.are
          s.is_text s.legal r.number r.init r.site r.cell r.bound r.latched in
          let at_now = s.laws.registers s.fabric s.text (packed s.netlist) s.fixed s.implementation begun.held now after_tick s.is s.are s.is_text s.legal
          r.number r.init r.site r.cell r.bound r.latched in
          ap next.standing.held r.is
          ∙ at_rest.0 ticks
          (source_rests (bel_point r.site (codes "EN")) _ (sources.cell_enable r.bound tile.1 r.latched) ∙ enabled)
          ∙ same_choice (source_rests (bel_point r.site (codes "SR")) _ (sources.cell_reset r.bound tile.1 r.latched))
          (rests (reset_bit r.site) (reset_used s p r)) (source_rests (bel_point r.site (codes "t")) _ (sources.cell_table r.bound))
          ∙ sym (at_now.0 passes.ticks enabled) ∙ ap after_tick (sym r.is)

      -- ---- beside the netlist

      module _ (nets : ℕ → Bool) (meets : Meets s.netlist (bit_at values) (bit_at latches) nets) where
        pub cycle_shows : shown ≡ outputs_by s.netlist nets
        cycle_shows =
            let shows = instant_shows s instant begun.held after_tick passes values latches holds_begun feeds_begun nets meets in
            cycle.ends.shows
            ∙ pads_show rest.now nets
            (λ net there. rests (out_point net) (inl (inr (out_used net there)))
            ∙ shows.outputs there.0 net (out_site net) (there.1, there.2) (out_listed net there))
            s.netlist.outputs (λ net there. there)

        pub next_ready : IsReadyFor next (next_held s.netlist nets)
        next_ready = record {
          ready = ordered.next_ready text_setting state draws values shown before next cycle at.ready;
          quiet = λ p is.
              cycle.ends.ticks.stays p
              ∙ (ordered.keeps text_setting state draws values shown before next cycle at.ready).loading p (stream_loads s.text p is) ∙ quiet_begun p is;
          holds = same_left s after_tick next.standing.held (next_held s.netlist nets) loading_left register_left
              (user_ready s instant begun.held after_tick passes values latches holds_begun feeds_begun nets meets refl);
        }

    -- ---- all cycles

    abbrev Sourced : Point → Type 0
    Sourced = IsSourced s.fabric (packed s.netlist) s.implementation

    pub cycles_show : (before last : Moment) (lines shown : List (List Bool)) (run : AreOrderedCycles s.text state draws before lines shown last)
        (latches : List Bool) (nows : List (ℕ → Bool)) → IsRun s.netlist latches lines nows → IsReadyFor before latches →
        (shown ≡ map (outputs_by s.netlist) nows) × EachSettles run × EachRight Sourced run
    cycles_show before last [] shown none latches [] runs at = (refl, tt, tt)
    cycles_show before last [] shown none latches (nets ∷ nows) runs at = absurd runs
    cycles_show before last (values ∷ lines) shown (after cycle run) latches [] runs at = absurd runs
    cycles_show before last (values ∷ lines) shown (after {next = next} {shown = first} {later = later} cycle run) latches (nets ∷ nows) runs at =
        let here = cycle_shows values first before next cycle latches at nets runs.0 in
        let rest = cycles_show next last lines later run (next_held s.netlist nets) nows runs.1
        (next_ready values first before next cycle latches at nets runs.0) in (
          (λ j. here j ∷ rest.0 j),
          (ordered.settles text_setting state draws values first before next cycle at.ready, rest.1),
          (right values first before next cycle latches at, rest.2),
        )
