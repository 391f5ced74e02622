-- One instant of use: the pads show the netlist's nets, the configuration stays, and flip-flops take what the latches take.
use Rattle.std.proofs.Common.{◌≡◌, ℕ, Bool, true, false, List, [], ◌∷◌, codes, refl, sym, ap, ◌∙◌, subst, inl, inr, Contains, Option, Some, None, is_some, if◌then◌else◌}
use Rattle.std.proofs.lemmas.List.{length-map}
use Rattle.std.proofs.lemmas.List.Elements.{All-nil, All-cons}
use Rattle.fab_systems_laws.specs.Ternary.{known}
use Rattle.fab_meaning.specs.Points.{Point, point}
use Rattle.fab_meaning.specs.Settled.{Assignment, IsSettledOn}
use Rattle.fab_meaning.specs.Runs.{clock_name, user_clock_name, AreClocksLow, Moment, IsRunOn, Ticks}
use Rattle.fab_meaning.specs.Loading.{IsLoading, write_strobe_name}
use Rattle.fab_model.specs.Drive.{PlainBits}
use Rattle.fab_fabric.specs.declared.wire.Site.{Site}
use Rattle.fab_netlist.specs.declared.netlist.Latch.{Latch}
use Rattle.fab_netlist.specs.Plain.{IsAt, bit_at}
use Rattle.fab_netlist.specs.Meaning.{Meets, first_value, reset_by, is_reset, next_held}
use Rattle.fab_netlist.specs.Packing.{Work, works, latch_of, latch_at, cell_of, packed}
use Rattle.fab_netlist.proofs.Counts.{at_mapped}
use Rattle.fab_prim.specs.Modules.{flip_flop_name}
use Rattle.fab_points_laws.specs.fab_text_loads_laws_Loads.{IsQuiet, IsConfigured}
use Rattle.fab_points_laws.specs.fab_use_defs_Sites.{bel_point, reset_bit}
use Rattle.fab_points_laws.specs.fab_use_defs_Design as design
use Rattle.fab_points_laws.specs.fab_use_defs_Design.{IsBound}
use Rattle.fab_points_laws.specs.fab_use_defs_Configuring.{Configures}
use Rattle.fab_points_laws.specs.fab_use_defs_Cycles.{Instant, Feeds, Shows}
use Rattle.fab_points_laws.specs.fab_use_defs_Registers.{HoldsLatches}
use Rattle.fab_points_laws.specs.fab_use_defs_Headline.{DesignPoints}
use Rattle.fab_points_laws.specs.Known.{KnowsBits}
use Rattle.fab_points_laws.proofs.Resets.{reset_value}
use Rattle.fab_runs_laws.specs.Carrying.{MeetsSources, PadsAreFed, TakesNext}
use Rattle.fab_runs_laws.proofs.Carried.{latched, sources_carry}
use Rattle.fab_runs_laws.proofs.Setting.{Setting, cells_made}

-- where two tests agree, so do choices of the same but for what the first is where the test holds
same_choice : (test other first second rest : Bool) → test ≡ other → (other ≡ true → first ≡ second) → (if test then first else rest) ≡ (if other then second else rest)
same_choice test true first second rest same holds = ap (λ b. if b then first else rest) same ∙ holds refl
same_choice test false first second rest same holds = ap (λ b. if b then first else rest) same

-- a netlist that is reset has a reset port
has_reset : (inputs : List ℕ) (nets : ℕ → Bool) (reset : Option ℕ) → reset_by inputs nets reset ≡ true → is_some reset ≡ true
has_reset inputs nets None is = is
has_reset inputs nets (Some place) is = refl

module _ (s : Setting) where
  abbrev pub Has : Point → Type 0
  Has = DesignPoints s.fabric s.text s.netlist s.implementation

  -- the cell of a latch
  bound : (number : ℕ) (work : Work) (site : Site) → IsAt (works s.netlist) number work → Contains s.implementation.cells (number, site) →
      IsBound (packed s.netlist) s.implementation number site (cell_of s.netlist work)
  bound number work site at listed = record { listed = listed; cell_is = at_mapped (cell_of s.netlist) (works s.netlist) number work at }

  -- values of the latches stay where the design points do
  pub same_holds : (held after : Assignment) (latches : List Bool) → ((p : Point) → Has p → after p ≡ held p) → HoldsLatches s.netlist s.implementation held latches →
      HoldsLatches s.netlist s.implementation after latches
  same_holds held after latches same holds = record {
    all = holds.all;
    each = λ number latch work site at has listed.
        holds.each number latch work site at has listed
        ∙ sym (same (bel_point site flip_flop_name) (inl (inr (inr (inl (design.at_flip_flop (bound number work site at listed) (latched s.netlist work latch has)))))));
  }

  -- ---- an instant, under any configuration bits

  -- a settled assignment, and a tick behind it
  pub record Passes (i : Instant) (held next : Assignment) : Type 0 where
    pub settled : IsSettledOn Has s.text i.inputs held i.now
    pub low : AreClocksLow i.now
    pub ticks : Ticks Has s.text i.clock held i.now next

  module _ (i : Instant) (held next : Assignment) (passes : Passes i held next) (latches : List Bool) (holds : HoldsLatches s.netlist s.implementation held latches) where
    -- at a tick of CLK the flip-flops stay
    pub loader_holds : i.clock ≡ clock_name → HoldsLatches s.netlist s.implementation next latches
    loader_holds clock = record {
      all = holds.all;
      each = λ number latch work site at has listed.
          let rule = s.laws.registers s.fabric s.text (packed s.netlist) s.fixed s.implementation held i.now next s.is s.are s.is_text s.legal number (latch_at s.netlist latch).init site
          (cell_of s.netlist work) (bound number work site at listed) (latched s.netlist work latch has) in
          holds.each number latch work site at has listed ∙ sym (rule.1 (subst (λ (c : List ℕ). Ticks Has s.text c held i.now next) clock passes.ticks));
    }

    module _ (met : MeetsSources s.fabric (packed s.netlist) s.implementation i.inputs held i.now) (given : List Bool) (fed : PadsAreFed s.netlist s.implementation given i.inputs)
        (nets : ℕ → Bool) (meets : Meets s.netlist (bit_at given) (bit_at latches) nets) where
      pub carried : Shows s.netlist s.implementation i.now nets × TakesNext s.netlist s.implementation i.now nets
      carried =
          sources_carry s.fabric s.netlist s.fixed s.implementation i.inputs held i.now given latches nets s.are s.made s.acyclic s.legal met fed holds meets

      -- where the bits of the moment are those of the design,
      module _ (bits : PlainBits) (configures : Configures s.fabric (packed s.netlist) s.implementation bits) (knows : KnowsBits s.fabric bits (λ q. known (i.now q))) where
        -- a reset loads what the latch begins with
        loads_first : (number latch : ℕ) (work : Work) (site : Site) → IsAt (works s.netlist) number work → latch_of work ≡ Some latch → Contains s.implementation.cells (number, site) →
            is_reset s.netlist nets ≡ true → i.now (reset_bit site) ≡ first_value (latch_at s.netlist latch)
        loads_first number latch work site at has listed reset =
            reset_value s.fabric (packed s.netlist) s.fixed s.implementation s.legal number site (cell_of s.netlist work) (bound number work site at listed) bits i.now configures knows
            (has_reset s.netlist.inputs nets s.netlist.reset reset) (latch_at s.netlist latch).init (latched s.netlist work latch has)

        -- and at a tick of UserCLK the flip-flops take what the latches take
        pub user_holds : i.clock ≡ user_clock_name → HoldsLatches s.netlist s.implementation next (next_held s.netlist nets)
        user_holds clock = record {
          all = length-map s.netlist.latches (λ (l : Latch). if is_reset s.netlist nets then first_value l else nets l.input);
          each = λ number latch work site at has listed.
              let takes = carried.1 number latch work site at has listed in
              let rule = s.laws.registers s.fabric s.text (packed s.netlist) s.fixed s.implementation held i.now next s.is s.are s.is_text s.legal number (latch_at s.netlist latch).init site
              (cell_of s.netlist work) (bound number work site at listed) (latched s.netlist work latch has) in
              let left = rule.0 (subst (λ (c : List ℕ). Ticks Has s.text c held i.now next) clock passes.ticks) takes.enabled in
              takes.next
              ∙ sym (left
              ∙ same_choice (i.now (bel_point site (codes "SR"))) (is_reset s.netlist nets) (i.now (reset_bit site)) (first_value (latch_at s.netlist latch))
              (i.now (bel_point site (codes "t"))) takes.resets (loads_first number latch work site at has listed));
        }

  -- ---- what is kept up

  -- the configuration, and values of the latches
  pub record Ready (held : Assignment) (latches : List Bool) : Type 0 where
    pub configured : IsConfigured s.fabric s.bits held
    pub holds : HoldsLatches s.netlist s.implementation held latches

  pub same_configured : (held after : Assignment) → ((p : Point) → Has p → after p ≡ held p) → IsConfigured s.fabric s.bits held → IsConfigured s.fabric s.bits after
  same_configured held after same configured = s.laws.goes s.fabric s.text s.bits held after s.is s.is_text configured (λ p loads. same p (inr loads))

  -- both stay where the design points do
  pub same_ready : (held after : Assignment) (latches : List Bool) → ((p : Point) → Has p → after p ≡ held p) → Ready held latches → Ready after latches
  same_ready held after latches same ready = record { configured = same_configured held after same ready.configured; holds = same_holds held after latches same ready.holds }

  -- ---- an instant under the configuration

  module _ (i : Instant) (held next : Assignment) (passes : Passes i held next) (configured : IsConfigured s.fabric s.bits held) where
    loading_settled : IsSettledOn (IsLoading s.text) s.text i.inputs held i.now
    loading_settled p d loads drives = passes.settled p d (inr loads) drives

    -- where no word is written, the configuration stays
    pub still_configured : i.inputs (point [] write_strobe_name 0) ≡ false → IsConfigured s.fabric s.bits next
    still_configured quiet =
        let moment : Moment = record { inputs = i.inputs; clock = i.clock } in
        let run : IsRunOn (IsLoading s.text) s.text (moment ∷ []) held next =
        (i.now, next, loading_settled, passes.low, (λ p d loads drives. passes.ticks p d (inr loads) drives), λ p loads. refl) in
        let stays = ((s.laws.loads s.fabric s.text s.is s.is_text).loads s.bits).stays (moment ∷ []) held next configured (All-cons IsQuiet moment [] (λ clock. quiet) (All-nil IsQuiet)) run in
        s.laws.goes s.fabric s.text s.bits held next s.is s.is_text configured stays

    met : MeetsSources s.fabric (packed s.netlist) s.implementation i.inputs held i.now
    met =
        (s.laws.by_sources s.fabric s.text (packed s.netlist) s.fixed s.implementation s.bits i.inputs held i.now s.is s.are s.is_text (cells_made s) s.legal s.configures configured
        loading_settled).0 passes.settled

    knows : KnowsBits s.fabric s.bits (λ q. known (i.now q))
    knows = s.laws.known s.fabric s.text s.bits i.inputs held i.now (λ q. known (i.now q)) s.is s.is_text configured loading_settled (λ p loads. refl)

  module _ (i : Instant) (held next : Assignment) (passes : Passes i held next) (given latches : List Bool) (ready : Ready held latches) (feeds : Feeds s.netlist s.implementation given i.inputs) where
    module _ (nets : ℕ → Bool) (meets : Meets s.netlist (bit_at given) (bit_at latches) nets) where
      pub instant_shows : Shows s.netlist s.implementation i.now nets
      instant_shows = (carried i held next passes latches ready.holds (met i held next passes ready.configured) given feeds.pads nets meets).0

      -- at a tick of UserCLK the flip-flops take what the latches take,
      pub user_ready : i.clock ≡ user_clock_name → Ready next (next_held s.netlist nets)
      user_ready clock = record {
        configured = still_configured i held next passes ready.configured feeds.quiet;
        holds = user_holds i held next passes latches ready.holds (met i held next passes ready.configured) given feeds.pads nets meets s.bits s.configures
            (knows i held next passes ready.configured) clock;
      }

    -- and at one of CLK they stay
    pub loader_ready : i.clock ≡ clock_name → Ready next latches
    loader_ready clock = record {
      configured = still_configured i held next passes ready.configured feeds.quiet;
      holds = loader_holds i held next passes latches ready.holds clock;
    }
