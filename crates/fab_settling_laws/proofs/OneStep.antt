-- What a single step leaves as it is: the loading points, as long as no word is written; pads of input ports, and what flip-flops hold.
use Rattle.std.proofs.Common.{◌≡◌, ◌≢◌, ℕ, Bool, true, false, List, [], ◌∷◌, if◌then◌else◌, nat_lt, refl, sym, ap, ◌∙◌, subst, inl, inr, Some}
use Rattle.std.proofs.lemmas.Bool.{cases_Bool, false≢true}
use Rattle.std.proofs.lemmas.List.Elements.{All-nil, All-cons}
use Rattle.fab_syntax.specs.Plain.{PlainModule}
use Rattle.fab_syntax.specs.Declarations.{is_input, is_input_of, width_in}
use Rattle.fab_meaning.specs.Value.{value, bit_at}
use Rattle.fab_meaning.specs.Points.{Point, point, Driver, outside, copy, bit_of, flop, hold, Drives, module_at}
use Rattle.fab_meaning.specs.Settled.{Assignment, names_at, shown}
use Rattle.fab_meaning.specs.Reads.{same_point}
use Rattle.fab_meaning.specs.Runs.{clock_name, user_clock_name, clock_of, is_clock, kept, Ticks, Moment, IsRunOn}
use Rattle.fab_meaning.specs.Activation.{State, Event, activate, tick, change, held_after, IsSameAt, IsStep, AreSteps}
use Rattle.fab_meaning.specs.Loading.{IsStream, IsLoading, write_strobe_name, write_data_name}
use Rattle.fab_meaning.specs.Loaded.{IsLoaded}
use Rattle.fab_meaning.specs.Sound.{HasOneDriver}
use Rattle.fab_meaning.proofs.Declared.{bytes_apart}
use Rattle.fab_meaning.proofs.Dependence.{shown_same, same_point_refl, same_point_is}
use Rattle.fab_meaning.proofs.SoundDrivers.{has_one_driver}
use Rattle.fab_meaning.proofs.UserSteps.{user_steps}
use Rattle.fab_runs_laws.proofs.fab_drives_laws_Apart.{told_apart}
use Rattle.fab_fabric.specs.declared.wire.Site.{Site}
use Rattle.fab_netlist.specs.Packing.{packed}
use Rattle.fab_prim.specs.Ports.{top_name}
use Rattle.fab_runs_laws.specs.fab_fabric_text_defs_Names.{pad_port_name}
use Rattle.fab_runs_laws.specs.fab_fabric_text_defs_Top.{top_module}
use Rattle.fab_runs_laws.specs.fab_text_loads_laws_Loads.{IsQuiet, IsConfigured, LoadsConfigurations}
use Rattle.fab_runs_laws.proofs.fab_points_laws_EachSource.{has_fabric}
use Rattle.fab_runs_laws.proofs.Setting.{Setting, cells_made}
use Rattle.fab_runs_laws.proofs.DesignRank.{settles_once}
use Rattle.fab_settling_laws.specs.Steps.{IsAtRest, IsUse, IsUseStep, IsInputPad, IsFree, IsFreeStep, IsFeedingStep}
use Rattle.fab_settling_laws.proofs.Origins.{IsRegister, IsFlop, single, pad_outside, register_flop}

another : (p q : Point) → same_point p q ≡ false → q ≢ p
another p q f e = false≢true (sym f ∙ (ap (same_point p) e ∙ same_point_refl p))

-- a driver shows the same where all points, and what its own holds, are the same
pub shown_again : (text : List PlainModule) (held now after last : Assignment) (p : Point) (d : Driver) → ((q : Point) → now q ≡ last q) →
    held p ≡ after p → shown text now held now p d ≡ shown text last after last p d
shown_again text held now after last p outside same keep = same p
shown_again text held now after last p (copy other) same keep = same other
shown_again text held now after last p (bit_of path e bit) same keep = shown_same text now held now last p (bit_of path e bit) (λ q read. same q)
shown_again text held now after last p (flop path clock next bit) same keep = keep
shown_again text held now after last p (hold path gate e bit) same keep =
    shown_same text now held now last p (hold path gate e bit) (λ q read. same q)
    ∙ ap (λ v. if bit_at (value (names_at text last path) gate) 0 then bit_at (value (names_at text last path) e) bit else v) keep

-- what a driver keeps beside points depends on what its own holds
pub kept_again : (text : List PlainModule) (clock : List ℕ) (held after now : Assignment) (p : Point) (d : Driver) → held p ≡ after p →
    kept text clock held now p d ≡ kept text clock after now p d
kept_again text clock held after now p outside keep = keep
kept_again text clock held after now p (copy other) keep = keep
kept_again text clock held after now p (bit_of path e bit) keep = keep
kept_again text clock held after now p (flop path own next bit) keep =
    ap (λ v. if is_clock clock (clock_of text path own) then bit_at (value (names_at text now path) next) bit else v) keep
kept_again text clock held after now p (hold path gate e bit) keep = refl

-- an event that is no change of this point
abbrev LeavesOut : Event → Point → Type 0
LeavesOut (activate q) p = Unit {0}
LeavesOut (tick clock) p = Unit {0}
LeavesOut (change q value) p = p ≢ q

module _ (s : Setting) where
  abbrev Loads : Point → Type 0
  Loads = IsLoading s.text

  abbrev Pads : Point → Type 0
  Pads = IsInputPad s.implementation

  abbrev Step : Event → (a b : State) → Type 0
  Step = IsStep s.text

  pub loading_law : LoadsConfigurations s.fabric s.text
  loading_law = s.laws.loads s.fabric s.text s.is s.is_text

  -- the loading points are settled and configured, and no word is written
  pub record Stands (a : State) : Type 0 where
    pub rest : IsAtRest s.text a
    pub configured : IsConfigured s.fabric s.bits a.held

  -- ---- inputs

  -- an input of the top stays until it is changed
  input_stays : (event : Event) (a b : State) (p : Point) → Drives s.text p outside → Step event a b → LeavesOut event p → b.now p ≡ a.now p
  input_stays (activate q) a b p by step out =
      elim (cases_Bool (same_point q p)) [
        | inl here ↦ (
            let same : q ≡ p = same_point_is q p here in
            subst (λ (x : Point). b.now x ≡ a.now x) same (step.takes outside (subst (λ (x : Point). Drives s.text x outside) (sym same) by)))
        | inr f ↦ (step.others p (another q p f)).0
      ]
  input_stays (tick clock) a b p by step out = step.stays p
  input_stays (change q value) a b p by step out = (step.others p out).0

  pub port_outside : (name : List ℕ) → is_input (top_module s.fabric).ports name ≡ true → Drives s.text (point [] name 0) outside
  port_outside name input =
      inl (record { top = refl; input = ap (λ m. is_input_of m name) (has_fabric s.fabric s.text s.is s.is_text).top_is ∙ input; is = refl })

  declared_port : (name : List ℕ) → width_in (Some (top_module s.fabric)) name ≡ 1 → nat_lt 0 (width_in (module_at s.text []) name) ≡ true
  declared_port name wide = ap (λ m. nat_lt 0 (width_in m name)) (has_fabric s.fabric s.text s.is s.is_text).top_is ∙ ap (nat_lt 0) wide

  pub clock_stream : IsStream s.text (point [] clock_name 0)
  clock_stream = record {
    input = record { top = refl; input = ap (λ m. is_input_of m clock_name) (has_fabric s.fabric s.text s.is s.is_text).top_is; is = refl };
    declared = declared_port clock_name refl;
    named = inl refl;
  }

  pub strobe_stream : IsStream s.text (point [] write_strobe_name 0)
  strobe_stream = record {
    input = record { top = refl; input = ap (λ m. is_input_of m write_strobe_name) (has_fabric s.fabric s.text s.is s.is_text).top_is; is = refl };
    declared = declared_port write_strobe_name refl;
    named = inr (inl refl);
  }

  -- ---- loading points

  -- each has its driver
  pub loading_driver : (p : Point) → Loads p → HasOneDriver s.text p
  loading_driver p loads =
      has_one_driver s.text s.is_text.sound p
      (s.laws.declared s.fabric s.text (packed s.netlist) s.fixed s.implementation s.is s.are s.is_text (cells_made s) s.legal p (inr loads))

  -- at any tick they hold on to what they hold,
  tick_holds : (clock : List ℕ) (a : State) (next : Assignment) → Stands a → Ticks Loads s.text clock a.held a.now next →
      (p : Point) → Loads p → next p ≡ a.held p
  tick_holds clock a next stands ticks p loads =
      let moment : Moment = record { inputs = a.now; clock = clock } in
      let run : IsRunOn Loads s.text (moment ∷ []) a.held next =
      (a.now, next, stands.rest.settled, stands.rest.low, ticks, λ q among. refl) in
      (loading_law.loads s.bits).stays (moment ∷ []) a.held next stands.configured (All-cons IsQuiet moment [] (λ ticked. stands.rest.quiet) (All-nil IsQuiet)) run p loads

  -- so a latch holds what its point has, since that is what it holds behind a tick
  latch_holds : (a : State) (p : Point) (d : Driver) (next : Bool) → Stands a → Loads p → Drives s.text p d → next ≡ a.now p →
      held_after d (a.held p) next ≡ a.held p
  latch_holds a p outside next stands loads drives is = refl
  latch_holds a p (copy other) next stands loads drives is = refl
  latch_holds a p (bit_of path e bit) next stands loads drives is = refl
  latch_holds a p (flop path clock e bit) next stands loads drives is = refl
  latch_holds a p (hold path gate e bit) next stands loads drives is =
      let ticked = (settles_once s a.held a.now stands.configured stands.rest.low.0).ticks clock_name a.now in
      is ∙ sym (ticked.1 p (hold path gate e bit) (inr loads) drives)
      ∙ tick_holds clock_name a ticked.0 stands (λ q d among by. ticked.1 q d (inr among) by) p loads

  abbrev Used : Event → Type 0
  Used = IsUse s.text

  use_loaded : (event : Event) (a b : State) → Stands a → Step event a b → Used event →
      IsLoaded s.text b × ((p : Point) → Loads p → b.now p ≡ a.now p)
  use_loaded (activate q) a b stands step used =
      user_steps s.text (single s) (activate q ∷ []) a b stands.rest.settled (b, record { step = step; kind = tt }, refl)
  use_loaded (tick clock) a b stands step used = (
    (λ p d loads drives.
        step.stays p ∙ stands.rest.settled p d loads drives
        ∙ shown_again s.text a.held a.now b.held b.now p d (λ q. sym (step.stays q))
        (sym (tick_holds clock a b.held stands (λ q e among by. step.keeps q e by) p loads))),
    (λ p loads. step.stays p),
  )
  use_loaded (change q value) a b stands step used =
      user_steps s.text (single s) (change q value ∷ []) a b stands.rest.settled (b, record { step = step; kind = used.0 }, refl)

  changed_held : (q : Point) (value : Bool) (a b : State) → Step (change q value) a b → (p : Point) → b.held p ≡ a.held p
  changed_held q value a b step p =
      elim (cases_Bool (same_point q p)) [
        | inl here ↦ subst (λ (x : Point). b.held x ≡ a.held x) (same_point_is q p here) step.holds
        | inr f ↦ (step.others p (another q p f)).1
      ]

  -- an activated point holds what its driver says, and others hold on
  activated_held : (q : Point) (a b : State) → Step (activate q) a b → (p : Point) (d : Driver) → Drives s.text p d →
      held_after d (a.held p) (b.now p) ≡ a.held p → b.held p ≡ a.held p
  activated_held q a b step p d drives same =
      elim (cases_Bool (same_point q p)) [
        | inl here ↦ (
            let is : q ≡ p = same_point_is q p here in
            let there : b.held q ≡ held_after d (a.held q) (b.now q) = step.holds d (subst (λ (x : Point). Drives s.text x d) (sym is) drives) in
            subst (λ (x : Point). b.held x ≡ held_after d (a.held x) (b.now x)) is there ∙ same)
        | inr f ↦ (step.others p (another q p f)).1
      ]

  use_held : (event : Event) (a b : State) → Stands a → Step event a b → Used event → (p : Point) → Loads p → b.held p ≡ a.held p
  use_held (activate q) a b stands step used p loads =
      let one = loading_driver p loads in
      let same = (use_loaded (activate q) a b stands step used).1 p loads in
      activated_held q a b step p one.0 one.1 (latch_holds a p one.0 (b.now p) stands loads one.1 same)
  use_held (tick clock) a b stands step used p loads = tick_holds clock a b.held stands (λ q d among by. step.keeps q d by) p loads
  use_held (change q value) a b stands step used p loads = changed_held q value a b step p

  leaves_stream : (event : Event) → Used event → (p : Point) → IsStream s.text p → LeavesOut event p
  leaves_stream (activate q) used p stream = tt
  leaves_stream (tick clock) used p stream = tt
  leaves_stream (change q value) used p stream = λ e. used.0 (subst (λ (x : Point). IsStream s.text x) e stream)

  leaves_user_clock : (event : Event) → Used event → LeavesOut event (point [] user_clock_name 0)
  leaves_user_clock (activate q) used = tt
  leaves_user_clock (tick clock) used = tt
  leaves_user_clock (change q value) used = λ e. used.1 (sym e)

  use_stands : (event : Event) (a b : State) → Stands a → Step event a b → Used event → Stands b
  use_stands event a b stands step used =
      let strobe = leaves_stream event used (point [] write_strobe_name 0) strobe_stream in
      let clock = leaves_stream event used (point [] clock_name 0) clock_stream in
      let user_clock = leaves_user_clock event used in
      record {
        rest = record {
          settled = (use_loaded event a b stands step used).0;
          quiet = input_stays event a b (point [] write_strobe_name 0) (inl strobe_stream.input) step strobe ∙ stands.rest.quiet;
          low = (
            input_stays event a b (point [] clock_name 0) (inl clock_stream.input) step clock ∙ stands.rest.low.0,
            input_stays event a b (point [] user_clock_name 0) (port_outside user_clock_name refl) step user_clock ∙ stands.rest.low.1,
          );
        };
        configured = s.laws.goes s.fabric s.text s.bits a.held b.held s.is s.is_text stands.configured (use_held event a b stands step used);
      }

  pub use_steps : (events : List Event) (a b : State) → Stands a → AreSteps (IsUseStep s.text) events a b →
      Stands b × ((p : Point) → IsLoading s.text p → IsSameAt p a b)
  use_steps [] a b stands steps = subst (λ (u : State). Stands u × ((p : Point) → Loads p → IsSameAt p a u)) steps (stands, λ p loads. (refl, refl))
  use_steps (event ∷ events) a b stands (between, first, steps) =
      let rest = use_steps events between b (use_stands event a between stands first.step first.kind) steps in
      let loaded = (use_loaded event a between stands first.step first.kind).1 in
      let held = use_held event a between stands first.step first.kind in
      (rest.0, λ p loads. ((rest.1 p loads).0 ∙ loaded p loads, (rest.1 p loads).1 ∙ held p loads))

  -- ---- a tick of UserCLK, and changes of pads behind it

  pub user_stands : (a b : State) → Stands a → Step (tick user_clock_name) a b → Stands b
  user_stands a b stands step = use_stands (tick user_clock_name) a b stands step tt

  -- the name of a pad is no name of the loader's, and not UserCLK
  pad_apart : (p : Point) (name : List ℕ) → ((site : Site) → pad_port_name site.x site.y site.bel top_name ≢ name) → Pads p → p.name ≡ name → ⊥
  pad_apart p name apart (port, site, listed, is) same = apart site (sym (ap (λ (q : Point). q.name) is) ∙ same)

  pad_no_stream : (p : Point) → Pads p → IsStream s.text p → ⊥
  pad_no_stream p pad stream =
      elim stream.named [
        | inl is ↦ pad_apart p clock_name (λ site. told_apart 0 (pad_port_name site.x site.y site.bel top_name) clock_name refl) pad is
        | inr (inl is) ↦ pad_apart p write_strobe_name (λ site. told_apart 0 (pad_port_name site.x site.y site.bel top_name) write_strobe_name refl) pad is
        | inr (inr is) ↦ pad_apart p write_data_name (λ site. told_apart 0 (pad_port_name site.x site.y site.bel top_name) write_data_name refl) pad is
      ]

  pad_no_clock : (p : Point) → Pads p → p ≢ point [] user_clock_name 0
  pad_no_clock p pad is =
      pad_apart p user_clock_name (λ site. told_apart 0 (pad_port_name site.x site.y site.bel top_name) user_clock_name refl) pad
      (ap (λ (q : Point). q.name) is)

  abbrev Feeding : Event → (a b : State) → Type 0
  Feeding = IsFeedingStep s.text s.implementation

  feeding_step : (event : Event) (a b : State) → Stands a → Feeding event a b → Stands b × ((p : Point) → b.held p ≡ a.held p)
  feeding_step (activate q) a b stands feeding = absurd feeding.kind
  feeding_step (tick clock) a b stands feeding = absurd feeding.kind
  feeding_step (change q value) a b stands feeding = (
    use_stands (change q value) a b stands feeding.step (pad_no_stream q feeding.kind, pad_no_clock q feeding.kind),
    changed_held q value a b feeding.step,
  )

  pub feeding_steps : (events : List Event) (a b : State) → Stands a → AreSteps Feeding events a b → Stands b × ((p : Point) → b.held p ≡ a.held p)
  feeding_steps [] a b stands steps = subst (λ (u : State). Stands u × ((p : Point) → u.held p ≡ a.held p)) steps (stands, λ p. refl)
  feeding_steps (event ∷ events) a b stands (between, step, steps) =
      let first = feeding_step event a between stands step in
      let rest = feeding_steps events between b first.0 steps in
      (rest.0, λ p. rest.1 p ∙ first.1 p)

  -- ---- free steps

  -- what stays within a cycle
  pub record Keeps (a b : State) : Type 0 where
    pub loading : (p : Point) → IsLoading s.text p → b.now p ≡ a.now p
    pub holding : (p : Point) → IsLoading s.text p → b.held p ≡ a.held p
    pub pads : (p : Point) → IsInputPad s.implementation p → b.now p ≡ a.now p
    pub registers : (p : Point) → IsRegister (packed s.netlist) s.implementation p → b.held p ≡ a.held p

  pub keeps_all : (a : State) → Keeps a a
  keeps_all a = record { loading = λ p loads. refl; holding = λ p loads. refl; pads = λ p pad. refl; registers = λ p register. refl }

  pub keeps_on : (a b c : State) → Keeps a b → Keeps b c → Keeps a c
  keeps_on a b c first second = record {
    loading = λ p loads. second.loading p loads ∙ first.loading p loads;
    holding = λ p loads. second.holding p loads ∙ first.holding p loads;
    pads = λ p pad. second.pads p pad ∙ first.pads p pad;
    registers = λ p register. second.registers p register ∙ first.registers p register;
  }

  abbrev Free : Event → (a b : State) → Type 0
  Free = IsFreeStep s.text s.implementation

  free_used : (event : Event) → IsFree s.text s.implementation event → Used event
  free_used (activate q) free = tt
  free_used (tick clock) free = tt
  free_used (change q value) free = (free.0, free.1)

  leaves_pad : (event : Event) → IsFree s.text s.implementation event → (p : Point) → Pads p → LeavesOut event p
  leaves_pad (activate q) free p pad = tt
  leaves_pad (tick clock) free p pad = tt
  leaves_pad (change q value) free p pad = λ e. free.2 (subst Pads e pad)

  register_stays : (event : Event) (a b : State) → Free event a b → (p : Point) → IsFlop s.text p → b.held p ≡ a.held p
  register_stays (activate q) a b free p at = activated_held q a b free.step p (flop at.path user_clock_name at.next 0) at.drives refl
  register_stays (tick clock) a b free p at =
      let taken = bit_at (value (names_at s.text a.now at.path) at.next) 0 in
      free.step.keeps p (flop at.path user_clock_name at.next 0) at.drives
      ∙ ap (λ found. if is_clock clock found then taken else a.held p) at.clocked
      ∙ ap (λ same. if same then taken else a.held p) (bytes_apart user_clock_name clock (λ e. free.kind (sym e)))
  register_stays (change q value) a b free p at = changed_held q value a b free.step p

  pub free_step : (event : Event) (a b : State) → Stands a → Free event a b → Stands b × Keeps a b
  free_step event a b stands free =
      let used = free_used event free.kind in (
        use_stands event a b stands free.step used,
        record {
          loading = (use_loaded event a b stands free.step used).1;
          holding = use_held event a b stands free.step used;
          pads = λ p pad. input_stays event a b p (pad_outside s p pad) free.step (leaves_pad event free.kind p pad);
          registers = λ p register. register_stays event a b free p (register_flop s p register);
        },
      )

  pub free_steps : (events : List Event) (a b : State) → Stands a → AreSteps Free events a b → Stands b × Keeps a b
  free_steps [] a b stands steps = subst (λ (u : State). Stands u × Keeps a u) steps (stands, keeps_all a)
  free_steps (event ∷ events) a b stands (between, step, steps) =
      let first = free_step event a between stands step in
      let rest = free_steps events between b first.0 steps in
      (rest.0, keeps_on a between b first.1 rest.1)
