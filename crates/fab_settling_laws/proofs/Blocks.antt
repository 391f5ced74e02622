-- As many blocks as there are design points settle them.
use Rattle.std.proofs.Common.{◌≡◌, ◌≢◌, ◌⊎◌, ℕ, ◌≤◌, Bool, true, false, not, ◌&&◌, List, [], ◌∷◌, map, length, refl, sym, ap, ◌∙◌, subst, inl, inr, Contains}
use Rattle.std.specs.List.{All, list_any}
use Rattle.std.proofs.lemmas.Bool.{cases_Bool, false≢true, and_parts}
use Rattle.std.proofs.lemmas.List.Elements.{All-contains, All-weaker}
use Rattle.fab_bits.specs.Bits.{number}
use Rattle.fab_systems_laws.specs.System.{AgreeOn, ReadsOnly, IsRanked}
use Rattle.fab_systems_laws.specs.System.{IsSettledOn as IsSystemSettled}
use Rattle.fab_systems_laws.specs.Steps.{IsBlock, blocks_then}
use Rattle.fab_systems_laws.proofs.Runs.{Run}
use Rattle.fab_systems_laws.proofs.States.{states_settle}
use Rattle.fab_systems_laws.proofs.Counts.{below, rank_by_count}
use Rattle.fab_meaning.specs.Points.{Point, Drives}
use Rattle.fab_meaning.specs.Settled.{Assignment, IsSettledOn, shown}
use Rattle.fab_meaning.specs.Reads.{same_point}
use Rattle.fab_meaning.specs.Activation.{State, Event, activate, tick, change, AreSteps}
use Rattle.fab_meaning.specs.Loading.{IsLoading}
use Rattle.fab_meaning.specs.Ranked.{activates}
use Rattle.fab_meaning.proofs.Dependence.{same_point_refl, same_point_is}
use Rattle.fab_load_runs_laws.specs.Runs.{Decides}
use Rattle.fab_load_runs_laws.proofs.Sound.{decided}
use Rattle.fab_netlist.specs.WellMade.{table_bit}
use Rattle.fab_netlist.specs.Packed.{PlainPacked}
use Rattle.fab_netlist.specs.Packing.{packed}
use Rattle.fab_netlist.proofs.Members.{first_in, later_in, mapped_in, any_by, any_gives}
use Rattle.fab_runs_laws.proofs.fab_legal_Members.{from_mapped}
use Rattle.fab_runs_laws.specs.fab_use_defs_Design.{IsSourced, IsOfDesign}
use Rattle.fab_runs_laws.specs.fab_use_defs_Sources as sources
use Rattle.fab_runs_laws.specs.fab_use_defs_Sources.{Source, source_value, source_reads, HasSource}
use Rattle.fab_systems_laws.specs.Ternary.{known}
use Rattle.fab_runs_laws.specs.fab_points_laws_Known.{KnowsBits}
use Rattle.fab_runs_laws.specs.fab_points_laws_Shown.{Shown}
use Rattle.fab_runs_laws.proofs.fab_points_laws_Boolean.{gives_source}
use Rattle.fab_runs_laws.proofs.fab_points_laws_Configuration.{configuration_point_loads}
use Rattle.fab_runs_laws.proofs.fab_points_laws_EachSource.{sources_show}
use Rattle.fab_runs_laws.proofs.fab_points_laws_Loading.{loaded_is_known}
use Rattle.fab_runs_laws.proofs.fab_points_laws_ReadPoints.{reads_covered, reads_few}
use Rattle.fab_runs_laws.proofs.fab_points_laws_Sourced.{sources_are_of_design}
use Rattle.fab_runs_laws.specs.Ranking.{Rule, ruled, StandBehind, source_at, place_at, reads_by}
use Rattle.fab_runs_laws.proofs.Rules.{design_has_order}
use Rattle.fab_runs_laws.proofs.Ranks.{all_by, rules_rank}
use Rattle.fab_runs_laws.proofs.Setting.{Setting, cells_made}
use Rattle.fab_runs_laws.proofs.Instants.{Has}
use Rattle.fab_settling_laws.specs.Steps.{IsFreeStep}
use Rattle.fab_settling_laws.specs.Blocks.{HasAtMost, AreBlocks, IsBlockOf}
use Rattle.fab_settling_laws.proofs.Origins.{source_pad, source_register, outside_is_pad}
use Rattle.fab_settling_laws.proofs.OneStep.{Stands, Keeps, keeps_all, keeps_on, free_step, free_steps, loading_law}

-- ---- what a source gives

map_same : (a b : Assignment) (qs : List Point) → ((q : Point) → Contains qs q → a q ≡ b q) → map a qs ≡ map b qs
map_same a b [] same = refl
map_same a b (q ∷ qs) same =
    let here : a q ≡ b q = same q (first_in q qs q refl) in
    let rest : map a qs ≡ map b qs = map_same a b qs (λ r among. same r (later_in q qs r among)) in
    λ j. here j ∷ rest j

-- it depends on the input or the flip-flop that the source is, and on what it reads
pub value_same : (inputs later held after a b : Assignment) (p : Point) (source : Source) → (source ≡ sources.top_input → inputs p ≡ later p) →
    (source ≡ sources.flip_flop → held p ≡ after p) → ((q : Point) → Contains (source_reads source) q → a q ≡ b q) →
    source_value inputs held a p source ≡ source_value later after b p source
value_same inputs later held after a b p (sources.always bit) input register same = refl
value_same inputs later held after a b p sources.top_input input register same = input refl
value_same inputs later held after a b p sources.flip_flop input register same = register refl
value_same inputs later held after a b p (sources.shows q) input register same = same q (first_in q [] q refl)
value_same inputs later held after a b p (sources.inverts q) input register same = ap not (same q (first_in q [] q refl))
value_same inputs later held after a b p (sources.looks_up table index) input register same =
    ap (λ values. table_bit table (number values)) (map_same a b index same)

module _ (s : Setting) where
  abbrev cells : PlainPacked
  cells = packed s.netlist

  abbrev Free : Event → (a b : State) → Type 0
  Free = IsFreeStep s.text s.implementation

  abbrev Is : Point → Type 0
  Is = IsSourced s.fabric cells s.implementation

  abbrev pub OfSource : Point → Source → Type 0
  OfSource = HasSource s.fabric cells s.implementation

  -- ---- the points that blocks have to settle

  abbrev Row : Type 0
  Row = Point × Source

  abbrev Sound : Row → Type 0
  Sound row = OfSource row.0 row.1 × Is row.0

  listed : (rows : List Row) × All Sound rows × ((p : Point) → Is p → (source : Source) × Contains rows (p, source))
  listed = s.laws.listed s.fabric cells s.fixed s.implementation s.are (cells_made s) s.legal

  abbrev points : List Point
  points = map (λ (row : Row). row.0) listed.0

  all_sourced : All Is points
  all_sourced = all_by Is points (λ p among.
      let from = from_mapped (λ (row : Row). row.0) listed.0 p among in
      subst Is from.2 (All-contains Sound listed.0 from.0 listed.1 from.1).1)

  order : (rules : List Rule) × StandBehind s.fabric cells s.implementation [] rules × ((p : Point) → Contains points p → Contains (ruled rules) p)
  order = design_has_order s.fabric s.netlist s.fixed s.implementation points s.are s.made s.acyclic s.legal all_sourced

  abbrev rules : List Rule
  rules = order.0

  is_ruled : (p : Point) → Is p → Contains (ruled rules) p
  is_ruled p sourced = (let row = listed.2 p sourced in order.2 p (mapped_in (λ (row : Row). row.0) listed.0 (p, row.0) row.1))

  told : (test : Point → Bool) × Decides (IsLoading s.text) test
  told = decided s.text s.is_text.sound

  abbrev given : Point → Bool
  given = told.0

  -- those with rules that are no loading points
  abbrev has : Point → Bool
  has p = list_any (λ q. same_point q p) (ruled rules) && not (given p)

  has_parts : (p : Point) → has p ≡ true → Contains (ruled rules) p × (given p ≡ false)
  has_parts p is =
      let parts = and_parts (list_any (λ q. same_point q p) (ruled rules)) (not (given p)) is in
      let found = any_gives (λ q. same_point q p) (ruled rules) parts.0 in (
        subst (λ (q : Point). Contains (ruled rules) q) (same_point_is found.0 p found.2) found.1,
        (elim (cases_Bool (given p)) [ inl t ↦ absurd (false≢true (sym (ap not t) ∙ parts.1)) | inr f ↦ f ]),
      )

  has_from : (p : Point) → Is p → given p ≡ false → has p ≡ true
  has_from p sourced other =
      let ruled_here = any_by (λ q. same_point q p) (ruled rules) p (is_ruled p sourced) (same_point_refl p) in
      rw (ruled_here, other) refl

  -- a point with a rule has its source: that one point is ranked by its rule, where all others are given
  ruled_source : (p : Point) → Contains (ruled rules) p → OfSource p (source_at rules p)
  ruled_source p among =
      (rules_rank s.fabric cells s.implementation rules (same_point p) (λ q. not (same_point p q)) order.1
      (λ q is. subst (λ (r : Point). Contains (ruled rules) r) (same_point_is p q is) among)
      (λ q is. elim (cases_Bool (same_point p q)) [ inl t ↦ absurd (false≢true (sym (ap not t) ∙ is)) | inr f ↦ f ])
      (λ q r is among_reads. elim (cases_Bool (same_point p r)) [ inl t ↦ inr t | inr f ↦ inl (ap not f) ])).1 p (same_point_refl p)

  source_of : (p : Point) → has p ≡ true → OfSource p (source_at rules p)
  source_of p is = ruled_source p (has_parts p is).0

  sourced_of : (p : Point) → has p ≡ true → Is p
  sourced_of p is = sources_are_of_design s.fabric cells s.fixed s.implementation s.are (cells_made s) s.legal p (source_at rules p) (source_of p is)

  -- what a source reads is of the design
  pub reads_sourced : (p : Point) (source : Source) → OfSource p source → (q : Point) → Contains (source_reads source) q → Is q
  reads_sourced p source from q among =
      All-contains Is (source_reads source) q (reads_covered s.fabric cells s.fixed s.implementation s.are s.legal (cells_made s) p source from) among

  ranked : IsRanked has given (reads_by rules) (place_at rules) (length rules)
  ranked =
      (rules_rank s.fabric cells s.implementation rules has given order.1 (λ p is. (has_parts p is).0)
      (λ p is. elim (cases_Bool (has p)) [ inl t ↦ absurd (false≢true (sym (has_parts p t).1 ∙ is)) | inr f ↦ f ])
      (λ p q is among. elim (cases_Bool (given q)) [
        | inl t ↦ inl t
        | inr f ↦ inr (has_from q (reads_sourced p (source_at rules p) (source_of p is) q among) f)
      ])).0

  read_by : (p q : Point) → Contains (source_reads (source_at rules p)) q → reads_by rules p q ≡ true
  read_by p q among = any_by (λ r. same_point r q) (source_reads (source_at rules p)) q among (same_point_refl q)

  -- a design point is a loading point, or blocks have to settle it
  design_cases : (p : Point) → Has s p → IsLoading s.text p ⊎ (has p ≡ true)
  design_cases p (inr loads) = inl loads
  design_cases p (inl (inl configuration)) = inl (configuration_point_loads s.fabric s.text s.is s.are s.is_text p configuration)
  design_cases p (inl (inr sourced)) = elim (cases_Bool (given p)) [ inl t ↦ inl (told.1.sound p t) | inr f ↦ inr (has_from p sourced f) ]

  -- ---- in a state that stands

  module _ (u : State) (stands : Stands s u) where
    knows : KnowsBits s.fabric s.bits (λ q. known (u.now q))
    knows =
        loaded_is_known s.fabric s.text s.bits u.now u.held u.now (λ q. known (u.now q)) s.is s.is_text stands.configured stands.rest.settled (λ q loads. refl)

    -- the driver of a point gives it what its source says
    pub source_shows : (p : Point) (source : Source) → OfSource p source → Shown s.text u.now u.held (λ q. known (u.now q)) p source
    source_shows p source from =
        sources_show s.fabric s.text cells s.fixed s.implementation s.bits u.now u.held (λ q. known (u.now q)) s.is s.are s.is_text (cells_made s) s.legal
        s.configures knows p source from

    -- and it is changed from outside where it is the pad of an input port alone
    changed_apart : (p q : Point) (value : Bool) (v : State) → Free (change q value) u v → (source : Source) → OfSource p source → p ≢ q
    changed_apart p q value v free source from is =
        free.kind.2 (outside_is_pad s (λ r. known (u.now r)) knows q source (subst (λ (r : Point). OfSource r source) is from) (inl free.step.input))

  -- ---- blocks

  module _ (start : State) (stands : Stands s start) (settled : Assignment)
      (is_settled : IsSettledOn (Has s) s.text start.now start.held settled) where
    loading_settled : IsSettledOn (IsLoading s.text) s.text start.now start.held settled
    loading_settled p d loads drives = is_settled p d (inr loads) drives

    on_loading : (p : Point) → IsLoading s.text p → start.now p ≡ settled p
    on_loading p loads = (loading_law s).runs.settles_once start.now start.held start.now settled stands.rest.settled loading_settled p loads

    pub meets : (p : Point) (source : Source) → IsOfDesign s.fabric cells s.implementation p → OfSource p source →
        settled p ≡ source_value start.now start.held settled p source
    meets =
        (s.laws.by_sources s.fabric s.text cells s.fixed s.implementation s.bits start.now start.held settled s.is s.are s.is_text (cells_made s) s.legal
        s.configures stands.configured loading_settled).0 is_settled

    abbrev next : Point → Assignment → Bool
    next p a = source_value start.now start.held a p (source_at rules p)

    as_system : IsSystemSettled has next settled
    as_system p is = meets p (source_at rules p) (inr (sourced_of p is)) (source_of p is)

    reads_only : ReadsOnly has (reads_by rules) next
    reads_only p a b is agree =
        value_same start.now start.now start.held start.held a b p (source_at rules p) (λ e. refl) (λ e. refl) (λ q among. agree q (read_by p q among))

    abbrev Inv : State → Type 0
    Inv u = Stands s u × Keeps s start u

    -- what a source gives in a state behind the start
    pub source_still : (u : State) → Keeps s start u → (p : Point) (source : Source) → OfSource p source → (a b : Assignment) →
        ((q : Point) → Contains (source_reads source) q → a q ≡ b q) → source_value u.now u.held a p source ≡ source_value start.now start.held b p source
    source_still u keeps p source from a b same =
        value_same u.now start.now u.held start.held a b p source (λ is. keeps.pads p (source_pad s p source from is))
        (λ is. keeps.registers p (source_register s p source from is)) same

    stays : (event : Event) (u v : State) (p : Point) → Inv u → Free event u v → has p ≡ true → activates event p ≡ false → v.now p ≡ u.now p
    stays (activate q) u v p inv free is other = (free.step.others p (λ e. false≢true (sym other ∙ (ap (same_point q) e ∙ same_point_refl q)))).0
    stays (tick clock) u v p inv free is other = free.step.stays p
    stays (change q value) u v p inv free is other = (free.step.others p (changed_apart u inv.0 p q value v free (source_at rules p) (source_of p is))).0

    takes : (event : Event) (u v : State) (p : Point) → Inv u → Free event u v → has p ≡ true → activates event p ≡ true → v.now p ≡ next p u.now
    takes (tick clock) u v p inv free is active = absurd (false≢true active)
    takes (change q value) u v p inv free is active = absurd (false≢true active)
    takes (activate q) u v p inv free is active =
        let source = source_at rules p in
        let from = source_of p is in
        let here = source_shows u inv.0 p source from in
        let same : q ≡ p = same_point_is q p active in
        let taken : v.now q ≡ shown s.text u.now u.held u.now q here.driver =
        free.step.takes here.driver (subst (λ (x : Point). Drives s.text x here.driver) (sym same) here.drives) in
        let few = reads_few s.fabric cells s.fixed s.implementation s.are s.legal (cells_made s) p source from in
        subst (λ (x : Point). v.now x ≡ shown s.text u.now u.held u.now x here.driver) same taken
        ∙ gives_source s.text u.now u.held u.now p source few here
        ∙ source_still u inv.1 p source from u.now u.now (λ q among. refl)

    inv_on : (event : Event) (u v : State) → Inv u → Free event u v → Inv v
    inv_on event u v inv free = (let after = free_step s event u v inv.0 free in (after.0, keeps_on s start u v inv.1 after.1))

    as_run : (events : List Event) (u v : State) → AreSteps (Free) events u v → Run (Free) events u v
    as_run [] u v steps = steps
    as_run (event ∷ events) u v steps = (steps.0, steps.1, as_run events steps.0 v steps.2)

    block_of : (events : List Event) → IsBlockOf (Has s) events → IsBlock activates has events
    block_of events block p is =
        any_by (λ event. activates event p) events (activate p) (block p (inl (inr (sourced_of p is)))) (same_point_refl p)

    pub design_settles : (count : ℕ) → HasAtMost (Has s) count → (blocks : List (List Event)) (more : List Event) (after : State) →
        AreBlocks (Has s) count blocks → AreSteps Free (blocks_then blocks more) start after → (p : Point) → Has s p → after.now p ≡ settled p
    design_settles count most blocks more after are steps p design =
        let kept = (free_steps s (blocks_then blocks more) start after stands steps).1 in
        let agree : (u : State) → Keeps s start u → AgreeOn given u.now settled =
        λ u keeps q is. (let loads = told.1.sound q is in keeps.loading q loads ∙ on_loading q loads) in
        let rank : Point → ℕ = λ q. below (place_at rules) (place_at rules q) most.points in
        let all : (q : Point) → has q ≡ true → Contains most.points q = λ q is. most.all q (inl (inr (sourced_of q is))) in
        let counted = rank_by_count has given (reads_by rules) (place_at rules) (length rules) most.points ranked all in
        let enough : length most.points ≤ length blocks = subst (λ n. n ≤ length blocks) (sym most.as_many) are.enough in
        elim (design_cases p design) [
          | inl loads ↦ kept.loading p loads ∙ on_loading p loads
          | inr is ↦ states_settle has given (reads_by rules) rank (length most.points) next counted reads_only settled as_system
              (λ (u : State) q. u.now q) Free activates Inv inv_on (λ u inv. agree u inv.1) stays takes
              blocks more start after (as_run (blocks_then blocks more) start after steps) (stands, keeps_all s start)
              (All-weaker (IsBlockOf (Has s)) (IsBlock activates has) block_of blocks are.each) enough p is
        ]
