-- A tick, item by item.
use Rattle.std.proofs.Common.{◌≡◌, ◌⊎◌, ℕ, ◌+◌, ◌<◌, ◌≤◌, Bool, List, length, Some, sym, ap, ◌∙◌, subst, inl, inr, arith, slice_set, get_or}
use Rattle.std.specs.List.{slice_get}
use Rattle.std.proofs.lemmas.Option.{slice_get_within, slice_get-get_or}
use Rattle.fab_systems_laws.specs.Ternary.{no, Tern as PlainTern}
use Rattle.fab_ternary_laws.specs.Shown.{through}
use Rattle.fab_ternary.specs.declared.Tern.{Tern}
use Rattle.fab_ternary.specs.Terns.{plain_tern}
use Rattle.fab_compiled.specs.Terns.{seen, tern_or_unknown}
use Rattle.fab_compiled.specs.declared.tree.Tree.{Tree}
use Rattle.fab_network.specs.declared.forms.Form.{Form}
use Rattle.fab_network.specs.declared.network.Clock.TheVariants.{Loader}
use Rattle.fab_network.specs.declared.network.Drive.TheVariants.{Flop, Hold}
use Rattle.fab_network.specs.declared.network.Network.{Network}
use Rattle.fab_network.specs.declared.network.Source.{Source}
use Rattle.fab_network.specs.Forms.{HasForm}
use Rattle.fab_network.specs.Network.{source_tern, IsFitSource}
use Rattle.fab_network.specs.Passes.{kept_tern}
use Rattle.fab_demand.specs.Asked.{Asked}
use Rattle.fab_network.proofs.Forming.{form_at}
use Rattle.fab_demand.specs.Demand.{AreFormsOf, Shows}
use Rattle.fab_phases.specs.Running.{HasFormAt}
use Rattle.fab_phases.specs.Lists.{Each, HasOne}
use Rattle.fab_phases.specs.Loading.{AreFlops, AreLoading, AreRuns, IsInRuns, IsLatch}
use Rattle.fab_phases.specs.Words.{IsLeft}
use Rattle.fab_phases.specs.inner.Ticks.{AreFitFlops, AreFitRuns, AreOnWay, IsFit, LeavesFlops, LeavesLatches, LeavesPoints, LeavesRun, LeavesRuns, Tick}
use Rattle.fab_phases.specs.declared.loading.LoadedFlop.{LoadedFlop}
use Rattle.fab_phases.specs.declared.loading.Latch.{Latch}
use Rattle.fab_phases.specs.declared.loading.Run.{Run}
use Rattle.fab_phases.specs.declared.loading.Loading.{Loading}
use Rattle.fab_phases.proofs.Gathered.{below}
use Rattle.fab_phases.proofs.Writing.{HasBelow, flop_set, latch_closed, latch_set, leaves_both, leaves_more}

-- ---- sources where they are evaluated

abbrev pub no_source : Source
no_source = record { tree = 0; first = 0; bit = 0 }

abbrev pub no_flop : LoadedFlop
no_flop = record { point = 0; next = no_source }

abbrev pub no_latch : Latch
no_latch = record { point = 0; latched = no_source }

pub fit_at : (network : Network) (trees : List Tree) (count : ℕ) (source : Source) → trees ≡ network.trees.items → length network.drives.items ≡ count → IsFit network source →
    IsFitSource trees count source
fit_at network trees count source same long fit =
    subst (λ (ts : List Tree). IsFitSource ts count source) (sym same) (subst (λ (n : ℕ). IsFitSource network.trees.items n source) long fit)

pub eval_at : (trees here : List Tree) (terns now_terns : List Tern) (leads now_leads : List ℕ) (source : Source) (left : PlainTern) → here ≡ trees → now_terns ≡ terns →
    now_leads ≡ leads → left ≡ source_tern here (seen now_terns now_leads) source → left ≡ source_tern trees (seen terns leads) source
eval_at trees here terns now_terns leads now_leads source left same same_terns same_leads value =
    value
    ∙ ap (λ (ts : List Tree). source_tern ts (seen now_terns now_leads) source) same
    ∙ ap (λ (ts : List Tern). source_tern trees (seen ts now_leads) source) same_terns
    ∙ ap (λ (ls : List ℕ). source_tern trees (seen terns ls) source) same_leads

pub kept_get : (terns : List Tern) (point : ℕ) (d : Tern) → point < length terns → plain_tern (get_or terns point d) ≡ kept_tern terns point
kept_get terns point d less = sym (ap tern_or_unknown (slice_get-get_or terns point d less))

-- ---- forms

-- the form at a place of the points that stand for themselves, over a view of them
pub form_at_place : (network : Network) (demand : Asked) (leads : List ℕ) (terns : List Tern) (forms : List Form) (place point : ℕ) →
    get_or demand.own place 0 ≡ point → leads ≡ demand.leads → terns ≡ demand.terns → AreFormsOf network demand forms → HasFormAt network leads terns forms place point
form_at_place network demand leads terns forms place point at same_leads same_terns has form there =
    subst (λ (ts : List Tern). HasForm network.trees.items network.drives.items leads ts point form) (sym same_terns)
    (subst (λ (ls : List ℕ). HasForm network.trees.items network.drives.items ls demand.terns point form) (sym same_leads)
    (form_at network.trees.items network.drives.items demand.own demand.leads demand.terns forms place point form has there at))

-- ---- items of the first places

pub below_more : {X : Type 0} (xs : List X) (k : ℕ) (x : X) (P : X → Type 0) → slice_get xs k ≡ Some x → HasBelow (k + 1) xs P → HasBelow k xs P ⊎ P x
below_more xs k x P at has =
    elim (below k has.0 has.2) [
      | inl h ↦ inl (has.0, has.1, h, has.3, has.4)
      | inr e ↦
          let both : Some has.1 ≡ Some x = sym has.3 ∙ ap (slice_get xs) e ∙ at in
          let same : has.1 ≡ x = cc in
          inr (subst P same has.4)
    ]

pub below_all : {X : Type 0} (xs : List X) (k : ℕ) (P : X → Type 0) → length xs ≤ k → HasOne xs P → HasBelow k xs P
below_all xs k P past one =
    let less : one.0 < length xs = slice_get_within xs one.0 one.1 one.2 in
    (one.0, one.1, omega arith, one.2, one.3)

leaves_weaker : (network : Network) (tick : Tick network) (Has Less : ℕ → Type 0) (old new : List Tern) → LeavesPoints network tick Has old new →
    ((point : ℕ) → Less point → Has point) → LeavesPoints network tick Less old new
leaves_weaker network tick Has Less old new leaves weaker = record { on_way = leaves.on_way; stay = leaves.stay; left = λ p less. leaves.left p (weaker p less) }

-- ---- flip-flops

abbrev pub FlopsSoFar : (network : Network) → List LoadedFlop → (demand : Asked) → (count : ℕ) → (old now : List Tern) → Type 0
FlopsSoFar network flops demand count old now =
    (tick : Tick network) → Shows network tick.asked demand tick.t → AreFlops network tick.asked tick.loads flops → AreOnWay network tick old →
    LeavesPoints network tick (λ point. HasBelow count flops (λ flop. flop.point ≡ point)) old now

pub flop_step : (network : Network) (flops : List LoadedFlop) (demand : Asked) (k : ℕ) (old now : List Tern) (flop : LoadedFlop) (left : Tern) →
    slice_get flops k ≡ Some flop → flop.point < length now → plain_tern left ≡ source_tern network.trees.items (seen demand.terns demand.leads) flop.next →
    FlopsSoFar network flops demand k old now → FlopsSoFar network flops demand (k + 1) old (slice_set now flop.point left)
flop_step network flops demand k old now flop left at less value so_far tick shows are way =
    let is = are k flop at in
    leaves_more network tick (λ point. HasBelow k flops (λ f. f.point ≡ point)) (λ point. HasBelow (k + 1) flops (λ f. f.point ≡ point)) old now flop.point left
    (so_far tick shows are way) less (flop_set network tick flop (plain_tern left) is (value ∙ shows.sources flop.next is.ready.asked_for))
    (λ q apart has. elim (below_more flops k flop (λ f. f.point ≡ q) at has) [ inl h ↦ h | inr e ↦ absurd (apart (sym e)) ])

pub flops_done : (network : Network) (flops : List LoadedFlop) (demand : Asked) (k : ℕ) (old now : List Tern) → length flops ≤ k → FlopsSoFar network flops demand k old now →
    LeavesFlops network flops demand old now
flops_done network flops demand k old now past so_far tick shows are way =
    leaves_weaker network tick (λ point. HasBelow k flops (λ f. f.point ≡ point)) (λ point. HasOne flops (λ f. f.point ≡ point)) old now (so_far tick shows are way)
    (λ q one. below_all flops k (λ f. f.point ≡ q) past one)

-- ---- latches

abbrev pub LatchesSoFar : (network : Network) → (gate : PlainTern) → List Latch → (demand : Asked) → (count : ℕ) → (old now : List Tern) → Type 0
LatchesSoFar network gate latches demand count old now =
    (tick : Tick network) → Shows network tick.asked demand tick.t → (opens : Source) → source_tern network.trees.items tick.t opens ≡ gate →
    Each latches (IsLatch network tick.asked tick.loads opens) → AreOnWay network tick old →
    LeavesPoints network tick (λ point. HasBelow count latches (λ latch. latch.point ≡ point)) old now

pub latch_step : (network : Network) (gate : PlainTern) (latches : List Latch) (demand : Asked) (k : ℕ) (old now : List Tern) (latch : Latch) (given : PlainTern) (left : Tern) →
    slice_get latches k ≡ Some latch → latch.point < length now → given ≡ source_tern network.trees.items (seen demand.terns demand.leads) latch.latched →
    plain_tern left ≡ through gate given (kept_tern now latch.point) →
    LatchesSoFar network gate latches demand k old now → LatchesSoFar network gate latches demand (k + 1) old (slice_set now latch.point left)
latch_step network gate latches demand k old now latch given left at less value passes so_far tick shows opens opened are way =
    let is = are k latch at in
    let before = so_far tick shows opens opened are way in
    let value_now : given ≡ source_tern network.trees.items tick.t latch.latched = value ∙ shows.sources latch.latched is.ready.asked_for in
    let left_is : plain_tern left ≡ through (source_tern network.trees.items tick.t opens) (source_tern network.trees.items tick.t latch.latched) (kept_tern now latch.point) =
    passes
    ∙ ap (λ (g : PlainTern). through g given (kept_tern now latch.point)) (sym opened)
    ∙ ap (λ (d : PlainTern). through (source_tern network.trees.items tick.t opens) d (kept_tern now latch.point)) value_now in
    leaves_more network tick (λ point. HasBelow k latches (λ l. l.point ≡ point)) (λ point. HasBelow (k + 1) latches (λ l. l.point ≡ point)) old now latch.point left
    before less (latch_set network tick opens latch (kept_tern now latch.point) (plain_tern left) is (before.on_way latch.point) left_is)
    (λ q apart has. elim (below_more latches k latch (λ l. l.point ≡ q) at has) [ inl h ↦ h | inr e ↦ absurd (apart (sym e)) ])

pub latches_done : (network : Network) (gate : PlainTern) (latches : List Latch) (demand : Asked) (k : ℕ) (old now : List Tern) → length latches ≤ k →
    LatchesSoFar network gate latches demand k old now → LeavesLatches network gate latches demand old now
latches_done network gate latches demand k old now past so_far tick shows opens opened are way =
    leaves_weaker network tick (λ point. HasBelow k latches (λ l. l.point ≡ point)) (λ point. HasOne latches (λ l. l.point ≡ point)) old now
    (so_far tick shows opens opened are way) (λ q one. below_all latches k (λ l. l.point ≡ q) past one)

-- ---- runs

-- a run whose gate is open or not known
pub run_opened : (network : Network) (run : Run) (gate : PlainTern) (latches : List Latch) (demand : Asked) (old new : List Tern) → latches ≡ run.latches.items →
    gate ≡ source_tern network.trees.items (seen demand.terns demand.leads) run.gate → LeavesLatches network gate latches demand old new → LeavesRun network run demand old new
run_opened network run gate latches demand old new same value leaves tick shows is way =
    let opened : source_tern network.trees.items tick.t run.gate ≡ gate = sym (value ∙ shows.sources run.gate is.ready.asked_for) in
    let are : Each latches (IsLatch network tick.asked tick.loads run.gate) =
    subst (λ (ls : List Latch). Each ls (IsLatch network tick.asked tick.loads run.gate)) (sym same) is.latches in
    subst (λ (ls : List Latch). LeavesPoints network tick (λ point. HasOne ls (λ latch. latch.point ≡ point)) old new) same
    (leaves tick shows run.gate opened are way)

-- a run whose gate is closed
pub run_closed : (network : Network) (run : Run) (gate : PlainTern) (demand : Asked) (old : List Tern) → gate ≡ no →
    gate ≡ source_tern network.trees.items (seen demand.terns demand.leads) run.gate → LeavesRun network run demand old old
run_closed network run gate demand old closed value tick shows is way =
    let gate_is : source_tern network.trees.items tick.t run.gate ≡ no = sym (shows.sources run.gate is.ready.asked_for) ∙ sym value ∙ closed in
    record {
      on_way = way;
      stay = λ p h. h;
      left = λ p one.
          let latch = one.1 in
          let left = latch_closed network tick run.gate latch (kept_tern old latch.point) (is.latches one.0 latch one.2) gate_is (way latch.point) in
          subst (λ (q : ℕ). IsLeft network Loader tick.t q (kept_tern old q)) one.3 left;
    }

abbrev pub RunsSoFar : (network : Network) → List Run → (demand : Asked) → (count : ℕ) → (old now : List Tern) → Type 0
RunsSoFar network runs demand count old now =
    (tick : Tick network) → Shows network tick.asked demand tick.t → AreRuns network tick.asked tick.loads runs → AreOnWay network tick old →
    LeavesPoints network tick (λ point. HasBelow count runs (λ (run : Run). HasOne run.latches.items (λ (latch : Latch). latch.point ≡ point))) old now

pub run_step : (network : Network) (runs : List Run) (demand : Asked) (k : ℕ) (old now new : List Tern) (run : Run) → slice_get runs k ≡ Some run →
    LeavesRun network run demand now new → RunsSoFar network runs demand k old now → RunsSoFar network runs demand (k + 1) old new
run_step network runs demand k old now new run at leaves so_far tick shows are way =
    let before = so_far tick shows are way in
    leaves_both network tick (λ point. HasBelow k runs (λ (r : Run). HasOne r.latches.items (λ (latch : Latch). latch.point ≡ point)))
    (λ point. HasOne run.latches.items (λ latch. latch.point ≡ point))
    (λ point. HasBelow (k + 1) runs (λ (r : Run). HasOne r.latches.items (λ (latch : Latch). latch.point ≡ point))) old now new before
    (leaves tick shows (are k run at) before.on_way)
    (λ q has. below_more runs k run (λ (r : Run). HasOne r.latches.items (λ (latch : Latch). latch.point ≡ q)) at has)

pub runs_done : (network : Network) (runs : List Run) (demand : Asked) (k : ℕ) (old now : List Tern) → length runs ≤ k → RunsSoFar network runs demand k old now →
    LeavesRuns network runs demand old now
runs_done network runs demand k old now past so_far tick shows are way =
    leaves_weaker network tick (λ point. HasBelow k runs (λ (r : Run). HasOne r.latches.items (λ (latch : Latch). latch.point ≡ point))) (IsInRuns runs) old now
    (so_far tick shows are way) (λ q one. below_all runs k (λ (r : Run). HasOne r.latches.items (λ (latch : Latch). latch.point ≡ q)) past one)

-- ---- what fits

pub flops_fit : (network : Network) (asked : Asked) (loads : List Bool) (loading : Loading) → AreLoading network asked loads loading → AreFitFlops network loading.flops.items
flops_fit network asked loads loading are k flop at =
    let is = are.flops k flop at in
    record { point = slice_get_within network.drives.items flop.point (Flop Loader flop.next) is.is; next = is.ready.fit }

pub runs_fit : (network : Network) (asked : Asked) (loads : List Bool) (loading : Loading) → AreLoading network asked loads loading → AreFitRuns network loading.runs.items
runs_fit network asked loads loading are k run at =
    let is = are.runs k run at in
    record {
      gate = is.ready.fit;
      latches = λ j latch there.
          let l = is.latches j latch there in
          record { point = slice_get_within network.drives.items latch.point (Hold l.own_gate latch.latched) l.is; latched = l.ready.fit };
    }
