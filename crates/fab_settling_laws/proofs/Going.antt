-- Use goes on from each state at rest: events lead on, pads can be fed, and cycles can be gone as they were planned.
use Rattle.std.proofs.Common.{◌≡◌, ◌⊎◌, ℕ, suc, Bool, true, false, List, [], ◌∷◌, map, refl, sym, ap, ◌∙◌, subst, inl, inr, arith, Contains, Option, Some, None}
use Rattle.std.specs.List.{All, AllZip}
use Rattle.std.proofs.lemmas.Bool.{cases_Bool, false≢true}
use Rattle.std.proofs.lemmas.List.Elements.{All-nil, All-cons, All-head, All-tail, All-weaker}
use Rattle.fab_syntax.specs.Plain.{PlainExpr, PlainItem, wire, reg, assign, latch, clocked, instance, PlainModule}
use Rattle.fab_syntax.specs.Declarations.{module_named, is_input_of}
use Rattle.fab_systems_laws.specs.Steps.{blocks_then}
use Rattle.fab_meaning.specs.Points.{Path, Point, point, Driver, outside, copy, bit_of, flop, hold, JoinDrives, ItemDrives, IsDrivenOutside, Drives}
use Rattle.fab_meaning.specs.Settled.{Assignment, shown, IsSettledOn}
use Rattle.fab_meaning.specs.Reads.{same_point}
use Rattle.fab_meaning.specs.Runs.{clock_name, user_clock_name}
use Rattle.fab_meaning.specs.Activation.{State, Event, activate, tick, change, IsStep, AreSteps}
use Rattle.fab_meaning.specs.Loading.{write_strobe_name}
use Rattle.fab_meaning.specs.Sound.{DrivesOnce}
use Rattle.fab_meaning.proofs.Dependence.{same_point_refl, same_point_is}
use Rattle.fab_meaning.proofs.SoundTexts.{sound_drives_once}
use Rattle.fab_nested_laws.specs.Events.{IsEvent}
use Rattle.fab_nested_laws.proofs.Next.{next_state, leads_on}
use Rattle.fab_netlist.specs.Plain.{name_of}
use Rattle.fab_netlist.proofs.Members.{in_none, first_or_later, mapped_in}
use Rattle.fab_implementation.specs.Plain.{Pad}
use Rattle.fab_prim.specs.Ports.{top_name}
use Rattle.fab_runs_laws.specs.fab_text_loads_laws_Loads.{IsConfigured}
use Rattle.fab_runs_laws.specs.fab_use_defs_Sites.{top_point}
use Rattle.fab_runs_laws.specs.fab_use_defs_Cycles.{Feeds}
use Rattle.fab_runs_laws.proofs.Setting.{Setting}
use Rattle.fab_runs_laws.proofs.DesignRank.{settles_once}
use Rattle.fab_runs_laws.proofs.Instants.{Has}
use Rattle.fab_settling_laws.specs.Steps.{IsAtRest, IsUseStep, IsInputPad, IsFreeStep, IsFeeding, IsFeedingStep}
use Rattle.fab_settling_laws.specs.Blocks.{IsBlockOf, BlockCycle, AreBlockCycles}
use Rattle.fab_settling_laws.specs.Going.{IsUseEvent, IsFreeEvent, activations, Plan, IsPlan, IsPlanned, GoesAsPlanned, GoesOn}
use Rattle.fab_settling_laws.proofs.Origins.{pad_outside}
use Rattle.fab_settling_laws.proofs.OneStep.{Stands, port_outside, clock_stream, strobe_stream, user_stands, feeding_steps, free_steps}

-- ---- steps of a kind

-- Where each event is of a kind, steps are steps of the kind.
module _ (text : List PlainModule) (Is : Event → Type 0) (Kind : Event → (before after : State) → Type 0)
    (make : (event : Event) (before after : State) → Is event → IsStep text event before after → Kind event before after) where
  pub steps_of : (events : List Event) (before after : State) → All Is events → AreSteps (IsStep text) events before after → AreSteps Kind events before after
  steps_of [] before after all steps = steps
  steps_of (event ∷ events) before after all (between, step, steps) = (
    between,
    make event before between (All-head Is event events all) step,
    steps_of events between after (All-tail Is event events all) steps,
  )

-- ---- the outside

-- no item is the outside
join_inside : (path : Path) (i : List ℕ) (input : Bool) (port : List ℕ) (to : Option PlainExpr) (p : Point) → JoinDrives path i input port to p outside → ⊥
join_inside path i input port None p h = h
join_inside path i true port (Some e) p h = (let clash : outside ≡ bit_of path e p.bit = h.1 in cc)
join_inside path i false port (Some e) p h = (let clash : outside ≡ copy (point (i ∷ path) port p.bit) = h.3 in cc)

item_inside : (text : List PlainModule) (path : Path) (item : PlainItem) (p : Point) → ItemDrives text path item p outside → ⊥
item_inside text path (wire shape name) p h = h
item_inside text path (reg shape name) p h = h
item_inside text path (assign target e) p h = (let clash : outside ≡ bit_of path e p.bit = h.1 in cc)
item_inside text path (latch target gate e) p h = (let clash : outside ≡ hold path gate e p.bit = h.1 in cc)
item_inside text path (clocked clock target e) p h = (let clash : outside ≡ flop path clock e p.bit = h.1 in cc)
item_inside text path (instance module_name i joins) p (join, among, h) =
    join_inside path i (is_input_of (module_named text module_name) join.port) join.port join.to p h

from_outside : (text : List PlainModule) (p : Point) → Drives text p outside → IsDrivenOutside text p outside
from_outside text p (inl out) = out
from_outside text p (inr by) = absurd (item_inside text by.path by.item p by.drives)

-- what is settled over some inputs is settled over its own
own_inputs : (text : List PlainModule) (inputs held now : Assignment) (p : Point) (d : Driver) → now p ≡ shown text inputs held now p d →
    now p ≡ shown text now held now p d
own_inputs text inputs held now p outside settled = refl
own_inputs text inputs held now p (copy other) settled = settled
own_inputs text inputs held now p (bit_of path e bit) settled = settled
own_inputs text inputs held now p (flop path clock next bit) settled = settled
own_inputs text inputs held now p (hold path gate e bit) settled = settled

module _ (s : Setting) where
  once : All (DrivesOnce s.text) s.text
  once = sound_drives_once s.text s.is_text.sound

  -- ---- events

  abbrev Use : Event → Type 0
  Use = IsUseEvent s.text

  abbrev Free : Event → Type 0
  Free = IsFreeEvent s.text s.implementation

  abbrev Feeding : Event → Type 0
  Feeding event = IsFeeding s.implementation event × IsEvent s.text event

  use_goes : (events : List Event) → All Use events → (before : State) → (after : State) × AreSteps (IsUseStep s.text) events before after
  use_goes events all before =
      let found = leads_on s.text once events (All-weaker Use (IsEvent s.text) (λ e both. both.1) events all) before in (
        found.0,
        steps_of s.text Use (IsUseStep s.text) (λ e a b both step. record { step = step; kind = both.0 }) events before found.0 all found.1,
      )

  free_goes : (events : List Event) → All Free events → (before : State) → (after : State) × AreSteps (IsFreeStep s.text s.implementation) events before after
  free_goes events all before =
      let found = leads_on s.text once events (All-weaker Free (IsEvent s.text) (λ e both. both.1) events all) before in (
        found.0,
        steps_of s.text Free (IsFreeStep s.text s.implementation) (λ e a b both step. record { step = step; kind = both.0 }) events before found.0 all found.1,
      )

  -- each list that has the points of the design makes a block
  pub order_blocks : (points : List Point) → ((p : Point) → Has s p → Contains points p) → IsBlockOf (Has s) (activations points) × All Free (activations points)
  order_blocks points all = ((λ p has. mapped_in activate points p (all p has)), all_free points)
    where
      all_free : (points : List Point) → All Free (activations points)
      all_free [] = All-nil Free
      all_free (p ∷ points) = All-cons Free (activate p) (activations points) (tt, tt) (all_free points)

  -- ---- pads

  module _ (pads : Assignment) where
    -- the pad of a line gets its value
    feed : Pad → Event
    feed line = change (top_point line.1 top_name) (pads (top_point line.1 top_name))

    all_feed : (lines : List Pad) → ((line : Pad) → Contains lines line → Contains s.implementation.ins line) → All Feeding (map feed lines)
    unfolding feed
    all_feed [] inside = All-nil Feeding
    all_feed (line ∷ lines) inside =
        let p = top_point line.1 top_name in
        let pad : IsInputPad s.implementation p = (line.0, line.1, inside line (0, omega arith, refl), refl) in
        All-cons Feeding (change p (pads p)) (map feed lines) (pad, from_outside s.text p (pad_outside s p pad))
        (all_feed lines (λ other there. inside other (suc there.0, (let few = there.1 in omega (arith, few)), there.2)))

    -- a pad that has its value, or gets it
    fed_by : (lines : List Pad) (before after : State) → AreSteps (IsStep s.text) (map feed lines) before after → (p : Point) →
        (before.now p ≡ pads p) ⊎ ((line : Pad) × Contains lines line × (top_point line.1 top_name ≡ p)) → after.now p ≡ pads p
    unfolding feed
    fed_by [] before after steps p (inl is) = subst (λ (u : State). u.now p ≡ pads p) steps is
    fed_by [] before after steps p (inr later) = absurd (in_none later.0 later.1)
    fed_by (line ∷ lines) before after (between, step, steps) p given =
        let q = top_point line.1 top_name in
        elim (cases_Bool (same_point q p)) [
          | inl here ↦ (
              let same : q ≡ p = same_point_is q p here in
              fed_by lines between after steps p (inl (subst (λ (x : Point). between.now x ≡ pads x) same step.gets)))
          | inr past ↦ (
              let stays : between.now p ≡ before.now p = (step.others p (λ e. false≢true (sym past ∙ (ap (same_point q) e ∙ same_point_refl q)))).0 in
              fed_by lines between after steps p
              (elim given [
                | inl is ↦ inl (stays ∙ is)
                | inr later ↦
                    elim (first_or_later line lines later.0 later.1) [
                      | inl first ↦ absurd (false≢true (sym past ∙ (ap (λ (other : Pad). same_point (top_point other.1 top_name) p) first ∙ ap (same_point (top_point later.0.1 top_name)) (sym later.2) ∙ same_point_refl (top_point later.0.1 top_name))))
                      | inr rest ↦ inr (later.0, rest, later.2)
                    ]
              ]))
        ]

    -- so pads can be fed from each state at rest
    pub record Fed (before : State) : Type 0 where
      pub changes : List Event
      pub after : State
      pub steps : AreSteps (IsFeedingStep s.text s.implementation) changes before after
      pub stands : Stands s after
      pub holds : (p : Point) → after.held p ≡ before.held p
      pub feeds : (given : List Bool) → Feeds s.netlist s.implementation given pads → Feeds s.netlist s.implementation given after.now

    pub feed_all : (before : State) → Stands s before → Fed before
    feed_all before stands =
        let lines = s.implementation.ins in
        let all = all_feed lines (λ line there. there) in
        let found = leads_on s.text once (map feed lines) (All-weaker Feeding (IsEvent s.text) (λ e both. both.1) (map feed lines) all) before in
        let steps = steps_of s.text Feeding (IsFeedingStep s.text s.implementation) (λ e a b both step. record { step = step; kind = both.0 }) (map feed lines) before
        found.0 all found.1 in
        let behind = feeding_steps s (map feed lines) before found.0 stands steps in
        record {
          changes = map feed lines;
          after = found.0;
          steps = steps;
          stands = behind.0;
          holds = behind.1;
          feeds = λ given feeds. record {
            quiet = behind.0.rest.quiet;
            low = behind.0.rest.low.0;
            pads = λ place net site at among.
                fed_by lines before found.0 found.1 (top_point site top_name) (inr ((name_of s.netlist net, site), among, refl)) ∙ feeds.pads place net site at among;
          };
        }

  -- ---- cycles

  module _ (count : ℕ) where
    abbrev Planned : Plan → Type 0
    Planned = IsPlan (Has s) count s.text s.netlist s.implementation

    abbrev Cycles : List BlockCycle → (before after : State) → Type 0
    Cycles = AreBlockCycles (Has s) count s.text s.netlist s.implementation

    record Gone (plans : List Plan) (first : State) : Type 0 where
      cycles : List BlockCycle
      planned : AllZip IsPlanned plans cycles
      after : State
      run : Cycles cycles first after

    -- a cycle up to its tick
    record Ticked (plan : Plan) (first : State) : Type 0 where
      settled : State
      steps : AreSteps (IsFreeStep s.text s.implementation) (blocks_then plan.blocks plan.more) first settled
      ticked : State
      ticks : IsStep s.text (tick user_clock_name) settled ticked
      stands : Stands s ticked

    tick_behind : (plan : Plan) → Planned plan → (first : State) → Stands s first → Ticked plan first
    tick_behind plan is first stands =
        let free = free_goes (blocks_then plan.blocks plan.more) is.free first in
        let behind = (free_steps s (blocks_then plan.blocks plan.more) first free.0 stands free.1).0 in
        let next = next_state s.text once free.0 (tick user_clock_name) tt in
        record { settled = free.0; steps = free.1; ticked = next.0; ticks = next.1; stands = user_stands s free.0 next.0 behind next.1 }

    go : (plan : Plan) (more : List Plan) → Planned plan → All Planned more → (first : State) → Stands s first → Feeds s.netlist s.implementation plan.given first.now →
        Gone (plan ∷ more) first
    go plan [] is all first stands fed =
        let t = tick_behind plan is first stands in
        let cycle : BlockCycle = record { given = plan.given; blocks = plan.blocks; more = plan.more; settled = t.settled; ticked = t.ticked; changes = [] } in
        record {
          cycles = cycle ∷ [];
          planned = (record { given = refl; blocks = refl; more = refl }, tt);
          after = t.ticked;
          run = (t.ticked, record { fed = fed; blocks = is.blocks; steps = t.steps; ticks = t.ticks; changes = refl }, refl);
        }
    go plan (next ∷ more) is all first stands fed =
        let t = tick_behind plan is first stands in
        let next_is : Planned next = All-head Planned next more all in
        let f = feed_all next.pads t.ticked t.stands in
        let rest = go next more next_is (All-tail Planned next more all) f.after f.stands (f.feeds next.given next_is.feeds) in
        let cycle : BlockCycle = record { given = plan.given; blocks = plan.blocks; more = plan.more; settled = t.settled; ticked = t.ticked; changes = f.changes } in
        record {
          cycles = cycle ∷ rest.cycles;
          planned = (record { given = refl; blocks = refl; more = refl }, rest.planned);
          after = rest.after;
          run = (f.after, record { fed = fed; blocks = is.blocks; steps = t.steps; ticks = t.ticks; changes = f.steps }, rest.run);
        }

    goes_as_planned : (plans : List Plan) → All Planned plans → (start : State) → Stands s start → GoesAsPlanned (Has s) count s.text s.netlist s.implementation plans start
    goes_as_planned [] all start stands = record {
      changes = [];
      first = start;
      feeds = refl;
      rest = stands.rest;
      holds = λ p. refl;
      cycles = [];
      planned = tt;
      after = start;
      run = refl;
    }
    goes_as_planned (plan ∷ more) all start stands =
        let is : Planned plan = All-head Planned plan more all in
        let f = feed_all plan.pads start stands in
        let gone = go plan more is (All-tail Planned plan more all) f.after f.stands (f.feeds plan.given is.feeds) in
        record {
          changes = f.changes;
          first = f.after;
          feeds = f.steps;
          rest = f.stands.rest;
          holds = f.holds;
          cycles = gone.cycles;
          planned = gone.planned;
          after = gone.after;
          run = gone.run;
        }

    pub goes_on : (start : State) → Stands s start → GoesOn (Has s) count s.text s.netlist s.implementation start
    goes_on start stands = record { events = λ events all. use_goes events all start; cycles = λ plans all. goes_as_planned plans all start stands }

  -- ---- a state at rest

  module _ (held : Assignment) (configured : IsConfigured s.fabric s.bits held) where
    abbrev zeros : Assignment
    zeros p = false

    found : (now : Assignment) × IsSettledOn (Has s) s.text zeros held now × ((p : Point) → (Has s p → ⊥) → now p ≡ false)
    found = (settles_once s held zeros configured refl).exists zeros

    -- an input of the top shows 0, whether it is a point of the design or not
    input_low : (p : Point) → Drives s.text p outside → found.0 p ≡ false
    input_low p drives =
        elim (cases_Bool (found.0 p)) [
          | inr low ↦ low
          | inl high ↦ found.2 p (λ has. false≢true (sym (found.1 p outside has drives) ∙ high))
        ]

    pub resting : State
    resting = record { now = found.0; held = held }

    pub rests : IsAtRest s.text resting × (resting.held ≡ held)
    unfolding resting
    rests = (
      record {
        settled = λ p d loads drives. own_inputs s.text zeros held found.0 p d (found.1 p d (inr loads) drives);
        quiet = input_low (point [] write_strobe_name 0) (inl (strobe_stream s).input);
        low = (input_low (point [] clock_name 0) (inl (clock_stream s).input), input_low (point [] user_clock_name 0) (port_outside s user_clock_name refl));
      },
      refl,
    )
