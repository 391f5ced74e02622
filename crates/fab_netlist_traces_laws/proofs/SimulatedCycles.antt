-- Cycle by cycle a simulation shows what the netlist says.
use Rattle.std.proofs.Common.{◌≡◌, ℕ, Bool, true, false, List, [], ◌∷◌, codes, map, Contains, refl, sym, ap, ◌∙◌, inl, inr, bytes_eq, if◌then◌else◌}
use Rattle.std.proofs.lemmas.Bool.{cases_Bool, false≢true}
use Rattle.std.proofs.lemmas.Slice.Eq.{bytes_eq-Decides}
use Rattle.fab_kinds.specs.declared.kind.Kind.TheVariants as kinds
use Rattle.fab_systems_laws.specs.Ternary.{Tern, known}
use Rattle.fab_syntax.specs.Declarations.{is_input, is_input_of}
use Rattle.fab_meaning.specs.Points.{Point, point, outside, module_at}
use Rattle.fab_meaning.specs.Settled.{Assignment, IsSettledOn}
use Rattle.fab_meaning.specs.Runs.{clock_name, user_clock_name}
use Rattle.fab_meaning.specs.Loading.{IsLoading}
use Rattle.fab_fabric.specs.declared.wire.Site.{Site}
use Rattle.fab_fabric_text_defs.specs.Top.{top_module}
use Rattle.fab_netlist.specs.Plain.{bit_at, name_of}
use Rattle.fab_netlist.specs.Meaning.{Meets, next_held, IsRun}
use Rattle.fab_netlist.specs.declared.net_id.NetId.{NetId}
use Rattle.fab_netlist.specs.Packing.{net_of, packed}
use Rattle.fab_netlist.proofs.Members.{first_in, later_in, mapped_in}
use Rattle.fab_legal.specs.WellMade.{output_name}
use Rattle.fab_legal.specs.Lines.{IsOutput}
use Rattle.fab_legal.specs.Sinks.{site_of}
use Rattle.fab_legal.proofs.SinkLaw.{known_site}
use Rattle.fab_state.specs.Plain.{PlainState}
use Rattle.fab_ternary_laws.specs.Shown.{Terns}
use Rattle.fab_runs_laws.specs.fab_use_defs_Sites.{bel_point, reset_bit, top_point}
use Rattle.fab_runs_laws.specs.fab_use_defs_Design.{IsSourced}
use Rattle.fab_runs_laws.specs.fab_use_defs_Cycles.{Instant, Shows}
use Rattle.fab_runs_laws.specs.fab_use_defs_Registers.{bound_pad, design_state}
use Rattle.fab_runs_laws.specs.fab_use_defs_Sources as sources
use Rattle.fab_runs_laws.specs.fab_use_defs_Sources.{Source, HasSource}
use Rattle.fab_runs_laws.specs.fab_use_defs_Headline.{SettlesOnce}
use Rattle.fab_runs_laws.proofs.fab_points_laws_EachSource.{has_fabric}
use Rattle.fab_runs_laws.proofs.fab_points_laws_Places.{cell_kind, site_tile}
use Rattle.fab_runs_laws.proofs.fab_points_laws_Sourced.{sources_are_of_design}
use Rattle.fab_simulation_laws.specs.Simulation.{given, shown_at, IsCycle, AreCycles, none, after}
use Rattle.fab_simulation_laws.specs.Laws.{AreKnown}
use Rattle.fab_runs_laws.specs.Carrying.{MeetsSources}
use Rattle.fab_runs_laws.proofs.Setting.{Setting, cells_made}
use Rattle.fab_runs_laws.proofs.DesignRank.{settles_once}
use Rattle.fab_runs_laws.proofs.Instants.{Has, Ready, Passes, instant_shows, user_ready}
use Rattle.fab_runs_laws.proofs.Values as v
use Rattle.fab_netlist_traces_laws.specs.SimulatedDesigns.{shown_by, IsKnown, EachKnows}
use Rattle.fab_netlist_traces_laws.proofs.Fed.{fed, feeds, user_low, pads, given_known}
use Rattle.fab_netlist_traces_laws.proofs.Known.{KnownLaws, IsRegister, Follows, design_known}
use Rattle.fab_netlist_traces_laws.proofs.Registers.{reset_used, register_left}

-- a choice between known values is known
choice_known : (test a b : Bool) (t u : Tern) → t ≡ known a → u ≡ known b → (if test then t else u) ≡ known (if test then a else b)
choice_known true a b t u first second = first
choice_known false a b t u first second = second

module _ (s : Setting) where
  abbrev state : PlainState
  state = design_state (packed s.netlist) s.implementation

  -- ---- what is shown at output ports

  abbrev out_site : ℕ → Site
  out_site net = site_of bytes_eq s.implementation.outs (name_of s.netlist net)

  abbrev packed_output : ℕ → List ℕ × NetId
  packed_output net = (name_of s.netlist net, net_of s.netlist net)

  out_listed : (net : ℕ) → Contains s.netlist.outputs net → Contains s.implementation.outs (name_of s.netlist net, out_site net)
  out_listed net there =
      known_site bytes_eq bytes_eq-Decides s.fabric kinds.Io (IsOutput (packed s.netlist)) s.implementation.outs s.legal.placed.ports.outs
      (name_of s.netlist net)
      (mapped_in output_name (packed s.netlist).outputs (packed_output net) (mapped_in packed_output s.netlist.outputs net there))

  -- the pad of an output port is used
  out_used : (net : ℕ) → Contains s.netlist.outputs net → IsSourced s.fabric (packed s.netlist) s.implementation (top_point (out_site net) (codes "I_top"))
  out_used net there =
      sources_are_of_design s.fabric (packed s.netlist) s.fixed s.implementation s.are (cells_made s) s.legal (top_point (out_site net) (codes "I_top")) _
      (sources.shown_outside (out_listed net there))

  module _ (t : Terns) (now : Assignment) (nets : ℕ → Bool)
      (knows : (p : Point) → IsSourced s.fabric (packed s.netlist) s.implementation p → t p ≡ known (now p))
      (shows : Shows s.netlist s.implementation now nets) where
    pad_shows : (net : ℕ) → Contains s.netlist.outputs net → t (top_point (out_site net) (codes "I_top")) ≡ known (nets net)
    pad_shows net there =
        knows (top_point (out_site net) (codes "I_top")) (out_used net there)
        ∙ ap known (shows.outputs there.0 net (out_site net) (there.1, there.2) (out_listed net there))

    pads_show : (some : List ℕ) → ((net : ℕ) → Contains some net → Contains s.netlist.outputs net) →
        shown_at (map (λ output. bound_pad s.implementation.outs output.0) (map packed_output some)) t ≡ map (λ net. known (nets net)) some
    pads_show [] are = refl
    pads_show (net ∷ some) are =
        let here : t (top_point (out_site net) (codes "I_top")) ≡ known (nets net) = pad_shows net (are net (first_in net some net refl)) in
        let rest = pads_show some (λ other there. are other (later_in net some other there)) in
        λ j. here j ∷ rest j

  -- ---- one cycle

  module _ (laws : KnownLaws) (held next : Terns) (values : List Bool) (shown : List Tern) (cycle : IsCycle s.text state held values shown next)
      (base : Assignment) (latches : List Bool) (ready : Ready s base latches) (follows : Follows s held base) where
    pub once : SettlesOnce (Has s) s.text (fed s values) base
    once = settles_once s base (fed s values) ready.configured (feeds s values).low

    abbrev now : Assignment
    now = (once.exists (λ p. false)).0

    settled : IsSettledOn (Has s) s.text (fed s values) base now
    settled = (once.exists (λ p. false)).1

    loading_settled : IsSettledOn (IsLoading s.text) s.text (fed s values) base now
    loading_settled p d loads drives = settled p d (inr loads) drives

    abbrev after_tick : Assignment
    after_tick = (once.ticks user_clock_name now).0

    -- a clock is 0: it is a design point and shows what is given, or stays 0
    clock_low : (name : List ℕ) → is_input (top_module s.fabric).ports name ≡ true → fed s values (point [] name 0) ≡ false → now (point [] name 0) ≡ false
    clock_low name is_port low =
        elim (cases_Bool (now (point [] name 0))) [
          | inr done ↦ done
          | inl high ↦ (
              let input : is_input_of (module_at s.text []) name ≡ true = ap (λ m. is_input_of m name) (has_fabric s.fabric s.text s.is s.is_text).top_is
              ∙ is_port in
              let shows : Has s (point [] name 0) → now (point [] name 0) ≡ false =
              λ has. settled (point [] name 0) outside has (inl (record { top = refl; input = input; is = refl })) ∙ low in
              (once.exists (λ p. false)).2 (point [] name 0) (λ has. false≢true (sym (shows has) ∙ high)))
        ]

    abbrev instant : Instant
    instant = record { inputs = fed s values; now = now; clock = user_clock_name }

    passes : Passes s instant base after_tick
    passes = record {
      settled = settled;
      low = (clock_low clock_name refl (feeds s values).low, clock_low user_clock_name refl (user_low s values));
      ticks = (once.ticks user_clock_name now).1;
    }

    met : MeetsSources s.fabric (packed s.netlist) s.implementation (fed s values) base now
    met =
        (s.laws.by_sources s.fabric s.text (packed s.netlist) s.fixed s.implementation s.bits (fed s values) base now s.is s.are s.is_text (cells_made s)
        s.legal s.configures ready.configured
        loading_settled).0 settled

    knows : (p : Point) → Has s p → cycle.now p ≡ known (now p)
    knows =
        design_known s laws (given (pads s) values) held cycle.now (fed s values) base now cycle.least.solves (given_known (pads s) values) follows
        ready.configured loading_settled met

    pub cycle_knows : (p : Point) → IsSourced s.fabric (packed s.netlist) s.implementation p → IsKnown cycle.now p
    cycle_knows p sourced = (now p, knows p (inl (inr sourced)))

    module _ (nets : ℕ → Bool) (meets : Meets s.netlist (bit_at values) (bit_at latches) nets) where
      pub cycle_shows : shown ≡ shown_by s.netlist nets
      cycle_shows =
          cycle.shows
          ∙ pads_show cycle.now now nets (λ p sourced. knows p (inl (inr sourced)))
          (instant_shows s instant base after_tick passes values latches ready (feeds s values) nets meets)
          s.netlist.outputs (λ net there. there)

      pub next_ready : Ready s after_tick (next_held s.netlist nets)
      next_ready = user_ready s instant base after_tick passes values latches ready (feeds s values) nets meets refl

    -- ---- what is left

    abbrev IsSource : Point → Source → Type 0
    IsSource = HasSource s.fabric (packed s.netlist) s.implementation

    sourced_known : (p : Point) (source : Source) → IsSource p source → cycle.now p ≡ known (now p)
    sourced_known p source has = knows p (inl (inr
        (sources_are_of_design s.fabric (packed s.netlist) s.fixed s.implementation s.are (cells_made s) s.legal p source has)))

    register_follows : AreKnown (IsRegister s) next after_tick
    register_follows p r =
        let kind = cell_kind s.fabric (packed s.netlist) s.fixed s.implementation s.legal r.number r.site r.cell r.bound in
        let tile = site_tile s.fabric r.site kinds.Lut4c kind in
        let enabled = v.enabled s.fabric s.netlist s.fixed s.implementation (fed s values) base now values latches s.are s.made s.legal met r.number r.site
        r.cell r.bound r.init r.latched in
        let resets = now (bel_point r.site (codes "SR")) in
        let loaded = now (reset_bit r.site) in
        let table = now (bel_point r.site (codes "t")) in
        let rule = s.laws.registers s.fabric s.text (packed s.netlist) s.fixed s.implementation base now after_tick s.is s.are s.is_text s.legal r.number
        r.init r.site r.cell r.bound r.latched in
        register_left s p r held cycle.now next resets cycle.leaves
        (sourced_known (bel_point r.site (codes "EN")) _ (sources.cell_enable r.bound tile.1 r.latched) ∙ ap known enabled)
        (sourced_known (bel_point r.site (codes "SR")) _ (sources.cell_reset r.bound tile.1 r.latched))
        ∙ choice_known resets loaded table (cycle.now (reset_bit r.site)) (cycle.now (bel_point r.site (codes "t")))
        (knows (reset_bit r.site) (reset_used s p r)) (sourced_known (bel_point r.site (codes "t")) _ (sources.cell_table r.bound))
        ∙ ap known (sym (rule.0 passes.ticks enabled)) ∙ ap (λ q. known (after_tick q)) (sym r.is)

    loading_follows : AreKnown (IsLoading s.text) next after_tick
    loading_follows p loads =
        let declared = s.laws.declared s.fabric s.text (packed s.netlist) s.fixed s.implementation s.is s.are s.is_text (cells_made s) s.legal p (inr loads) in
        let driver = laws.one s.text s.is_text.sound p declared in
        cycle.leaves p driver.0 declared driver.1
        ∙ laws.kept s.text user_clock_name held cycle.now base now s.is_text.sound follows.loading (λ q is. knows q (inr is)) p driver.0 loads driver.1
        ∙ ap known (sym (passes.ticks p driver.0 (inr loads) driver.1))

    pub next_follows : Follows s next after_tick
    next_follows = record { loading = loading_follows; registers = register_follows }

  -- ---- all cycles

  abbrev Sourced : Point → Type 0
  Sourced = IsSourced s.fabric (packed s.netlist) s.implementation

  pub cycles_show : (laws : KnownLaws) (held last : Terns) (lines : List (List Bool)) (shown : List (List Tern))
      (run : AreCycles s.text state held lines shown last)
      (base : Assignment) (latches : List Bool) (nows : List (ℕ → Bool)) → IsRun s.netlist latches lines nows → Ready s base latches → Follows s held base →
      (shown ≡ map (shown_by s.netlist) nows) × EachKnows Sourced run
  cycles_show laws held last [] shown none base latches [] runs ready follows = (refl, tt)
  cycles_show laws held last [] shown none base latches (nets ∷ nows) runs ready follows = absurd runs
  cycles_show laws held last (values ∷ lines) shown (after cycle run) base latches [] runs ready follows = absurd runs
  cycles_show laws held last (values ∷ lines) shown (after {next = next} {shown = first} {later = later} cycle run) base latches (nets ∷ nows) runs ready
      follows =
      let here = cycle_shows laws held next values first cycle base latches ready follows nets runs.0 in
      let rest = cycles_show laws next last lines later run (after_tick laws held next values first cycle base latches ready follows)
      (next_held s.netlist nets) nows runs.1
      (next_ready laws held next values first cycle base latches ready follows nets runs.0)
      (next_follows laws held next values first cycle base latches ready follows) in
      ((λ j. here j ∷ rest.0 j), (cycle_knows laws held next values first cycle base latches ready follows, rest.1))
