-- Flip-flops and latches that are gathered point by point, and the runs of latches.
use Rattle.std.proofs.Common.{◌≡◌, ◌⊎◌, ℕ, ◌+◌, ◌<◌, Bool, List, [], ◌∷◌, ◌++◌, map, append_assoc, append-nil, None, Some, refl, sym, ap, ◌∙◌, subst, inl, inr, arith}
use Rattle.std.specs.List.{slice_get}
use Rattle.std.specs.Prelude.{IsPermutation}
use Rattle.std.proofs.lemmas.Bool.{cases_lt}
use Rattle.fab_compiled.specs.Leading.{IsMarked}
use Rattle.fab_network.specs.declared.network.Network.{Network}
use Rattle.fab_network.specs.declared.network.Source.{Source}
use Rattle.fab_demand.specs.Asked.{Asked}
use Rattle.fab_phases.specs.Lists.{Each, HasOne}
use Rattle.fab_phases.specs.Loading.{AreRuns, GoTogether, HasFlops, HasLatches, IsInRuns, IsLatch, IsLoadedFlop, IsReady, IsRun}
use Rattle.fab_phases.specs.inner.Gathering.{AreGated, AreInRuns, HasGated, IsFlopAt, IsGated, IsGatedAt}
use Rattle.fab_phases.specs.declared.loading.LoadedFlop.{LoadedFlop}
use Rattle.fab_phases.specs.declared.loading.Latch.{Latch}
use Rattle.fab_phases.specs.declared.loading.Run.{Run}
use Rattle.fab_phases.specs.declared.gathering.GatedLatch.{GatedLatch}
use Rattle.fab_phases.proofs.Lists.{each_both, each_left, each_more, each_moved, each_right, get_mapped, get_of_mapped, one_last, one_left, one_moved}

-- a point below the next number is below this one or is it
pub below : (n k : ℕ) → k < n + 1 → (k < n) ⊎ (k ≡ n)
below n k h = elim (cases_lt k n) [ inl l ↦ inl l | inr g ↦ inr (omega arith) ]

-- ---- flip-flops

pub has_flops_none : (network : Network) (loads : List Bool) → HasFlops network loads 0 []
has_flops_none network loads point next less marked is = absurd (omega arith)

pub has_flops_more : (network : Network) (loads : List Bool) (point : ℕ) (flops : List LoadedFlop) (flop : LoadedFlop) → HasFlops network loads point flops →
    flop.point ≡ point → HasFlops network loads (point + 1) (flops ++ flop ∷ [])
has_flops_more network loads point flops flop has is p next less marked drives =
    elim (below point p less) [
      | inl h ↦ one_left (λ f. f.point ≡ p) flops (flop ∷ []) (has p next h marked drives)
      | inr e ↦ one_last (λ f. f.point ≡ p) flops flop (is ∙ sym e)
    ]

pub has_flops_same : (network : Network) (loads : List Bool) (point : ℕ) (flops : List LoadedFlop) → HasFlops network loads point flops →
    IsFlopAt network loads point None → HasFlops network loads (point + 1) flops
has_flops_same network loads point flops has not_here p next less marked drives =
    elim (below point p less) [
      | inl h ↦ has p next h marked drives
      | inr e ↦ absurd (not_here next (subst (IsMarked loads) e marked) (ap (slice_get network.drives.items) (sym e) ∙ drives))
    ]

-- ---- latches

pub has_gated_none : (network : Network) (loads : List Bool) → HasGated network loads 0 []
has_gated_none network loads point gate latched less marked is = absurd (omega arith)

pub has_gated_more : (network : Network) (loads : List Bool) (point : ℕ) (latches : List GatedLatch) (gated : GatedLatch) → HasGated network loads point latches →
    gated.latch.point ≡ point → HasGated network loads (point + 1) (latches ++ gated ∷ [])
has_gated_more network loads point latches gated has is p gate latched less marked drives =
    elim (below point p less) [
      | inl h ↦ one_left (λ g. g.latch.point ≡ p) latches (gated ∷ []) (has p gate latched h marked drives)
      | inr e ↦ one_last (λ g. g.latch.point ≡ p) latches gated (is ∙ sym e)
    ]

pub has_gated_same : (network : Network) (loads : List Bool) (point : ℕ) (latches : List GatedLatch) → HasGated network loads point latches →
    IsGatedAt network loads point None → HasGated network loads (point + 1) latches
has_gated_same network loads point latches has not_here p gate latched less marked drives =
    elim (below point p less) [
      | inl h ↦ has p gate latched h marked drives
      | inr e ↦ absurd (not_here gate latched (subst (IsMarked loads) e marked) (ap (slice_get network.drives.items) (sym e) ∙ drives))
    ]

-- latches in another order
pub gated_moved : (network : Network) (asked : Asked) (loads : List Bool) (old new : List GatedLatch) → IsPermutation old new → AreGated network asked loads old →
    AreGated network asked loads new
gated_moved network asked loads old new moved are = each_moved (IsGated network asked loads) old new moved are

pub has_gated_moved : (network : Network) (loads : List Bool) (count : ℕ) (old new : List GatedLatch) → IsPermutation old new → HasGated network loads count old →
    HasGated network loads count new
has_gated_moved network loads count old new moved has point gate latched less marked is =
    one_moved (λ gated. gated.latch.point ≡ point) old new moved (has point gate latched less marked is)

-- ---- runs

abbrev latches_of : List GatedLatch → List Latch
latches_of gated = map (λ (g : GatedLatch). g.latch) gated

-- latches at the front that open together are a run
pub front_is_run : (network : Network) (asked : Asked) (loads : List Bool) (gate : Source) (front : List GatedLatch) (run : Run) →
    IsReady network asked gate → AreGated network asked loads front → Each front (λ g. GoTogether network asked g.gate gate) →
    run.gate ≡ gate → run.latches.items ≡ latches_of front → IsRun network asked loads run
front_is_run network asked loads gate front run ready are together gate_is latches_are = record {
  ready = subst (IsReady network asked) (sym gate_is) ready;
  latches = λ k latch e.
      let found = get_of_mapped (λ (g : GatedLatch). g.latch) front k latch (ap (λ (xs : List Latch). slice_get xs k) (sym latches_are) ∙ e) in
      let is = are k found.0 found.1 in
      let latch_is : IsLatch network asked loads run.gate found.0.latch = record {
        own_gate = found.0.gate;
        marked = is.marked;
        is = is.is;
        ready = is.latched;
        together = subst (λ (g : Source). GoTogether network asked found.0.gate g) (sym gate_is) (together k found.0 found.1);
      } in
      subst (IsLatch network asked loads run.gate) found.2 latch_is;
}

-- latches of the front stand in the run
pub front_in_run : (runs : List Run) (front : List GatedLatch) (run : Run) → run.latches.items ≡ latches_of front → AreInRuns (runs ++ run ∷ []) front
front_in_run runs front run latches_are k gated e =
    let at : slice_get run.latches.items k ≡ Some gated.latch =
    ap (λ (xs : List Latch). slice_get xs k) latches_are ∙ get_mapped (λ (g : GatedLatch). g.latch) front k gated e in
    one_last (λ (r : Run). HasOne r.latches.items (λ (latch : Latch). latch.point ≡ gated.latch.point)) runs run (k, gated.latch, at, refl)

pub in_runs_grows : (runs : List Run) (run : Run) (latches : List GatedLatch) → AreInRuns runs latches → AreInRuns (runs ++ run ∷ []) latches
in_runs_grows runs run latches are k gated e =
    one_left (λ (r : Run). HasOne r.latches.items (λ (latch : Latch). latch.point ≡ gated.latch.point)) runs (run ∷ []) (are k gated e)

-- all latches stand in runs
pub has_latches : (network : Network) (loads : List Bool) (count : ℕ) (latches : List GatedLatch) (runs : List Run) → HasGated network loads count latches →
    AreInRuns runs latches → HasLatches network loads count runs
has_latches network loads count latches runs has are p gate latched less marked drives =
    let one = has p gate latched less marked drives in
    subst (IsInRuns runs) one.3 (are one.0 one.1 one.2)

-- ---- what is found at a point

pub flop_is : (network : Network) (asked : Asked) (loads : List Bool) (point : ℕ) (flop : LoadedFlop) → IsFlopAt network loads point (Some flop) → IsReady network asked flop.next →
    IsLoadedFlop network asked loads flop
flop_is network asked loads point flop here ready = record {
  marked = subst (IsMarked loads) (sym here.0) here.1;
  is = ap (slice_get network.drives.items) here.0 ∙ here.2;
  ready = ready;
}

pub gated_is : (network : Network) (asked : Asked) (loads : List Bool) (point : ℕ) (gated : GatedLatch) → IsGatedAt network loads point (Some gated) → IsReady network asked gated.gate →
    IsReady network asked gated.latch.latched → IsGated network asked loads gated
gated_is network asked loads point gated here gate latched = record {
  marked = subst (IsMarked loads) (sym here.0) here.1;
  is = ap (slice_get network.drives.items) here.0 ∙ here.2;
  gate = gate;
  latched = latched;
}

-- ---- latches that open together

abbrev pub no_gated : GatedLatch
no_gated = record { gate = record { tree = 0; first = 0; bit = 0 }; latch = record { point = 0; latched = record { tree = 0; first = 0; bit = 0 } } }

pub together_more : (network : Network) (asked : Asked) (gate : Source) (latches : List GatedLatch) (count : ℕ) (here : GatedLatch) → slice_get latches count ≡ Some here →
    GoTogether network asked here.gate gate →
    ((place : ℕ) (gated : GatedLatch) → place < count → slice_get latches place ≡ Some gated → GoTogether network asked gated.gate gate) →
    (place : ℕ) (gated : GatedLatch) → place < count + 1 → slice_get latches place ≡ Some gated → GoTogether network asked gated.gate gate
together_more network asked gate latches count here at together before place gated less e =
    elim (below count place less) [
      | inl l ↦ before place gated l e
      | inr same ↦
          let both : Some here ≡ Some gated = sym at ∙ ap (slice_get latches) (sym same) ∙ e in
          let is : here ≡ gated = cc in
          subst (λ (g : GatedLatch). GoTogether network asked g.gate gate) is together
    ]

-- what is known of runs and of the latches that are left
pub record AreRunsSoFar (network : Network) (asked : Asked) (all rest : List GatedLatch) (runs : List Run) : Type 0 where
  pub front : List GatedLatch
  pub parts : all ≡ front ++ rest
  pub in_runs : AreInRuns runs front
  pub are : (loads : List Bool) → AreGated network asked loads all → AreRuns network asked loads runs

pub runs_none : (network : Network) (asked : Asked) (all : List GatedLatch) → AreRunsSoFar network asked all all []
runs_none network asked all = record { front = []; parts = refl; in_runs = λ place gated e. cc; are = λ loads gated place run e. cc }

pub runs_more : (network : Network) (asked : Asked) (all rest front after : List GatedLatch) (runs : List Run) (run : Run) (gate : Source) → AreRunsSoFar network asked all rest runs →
    rest ≡ front ++ after → IsReady network asked gate → Each front (λ g. GoTogether network asked g.gate gate) → run.gate ≡ gate → run.latches.items ≡ latches_of front →
    AreRunsSoFar network asked all after (runs ++ run ∷ [])
runs_more network asked all rest front after runs run gate so_far parts ready together gate_is latches_are =
    let whole : all ≡ so_far.front ++ front ++ after = so_far.parts ∙ ap (λ (xs : List GatedLatch). so_far.front ++ xs) parts ∙ sym (append_assoc so_far.front front after) in
    record {
      front = so_far.front ++ front;
      parts = whole;
      in_runs = each_both (λ gated. IsInRuns (runs ++ run ∷ []) gated.latch.point) so_far.front front (in_runs_grows runs run so_far.front so_far.in_runs)
          (front_in_run runs front run latches_are);
      are = λ loads gated.
          let both : AreGated network asked loads (so_far.front ++ front ++ after) = subst (AreGated network asked loads) whole gated in
          let first = each_left (IsGated network asked loads) (so_far.front ++ front) after both in
          let here = each_right (IsGated network asked loads) so_far.front front first in
          each_more (IsRun network asked loads) runs run (so_far.are loads gated) (front_is_run network asked loads gate front run ready here together gate_is latches_are);
    }

pub runs_all : (network : Network) (asked : Asked) (all : List GatedLatch) (runs : List Run) → AreRunsSoFar network asked all [] runs → AreInRuns runs all
runs_all network asked all runs so_far = subst (AreInRuns runs) (sym (so_far.parts ∙ append-nil so_far.front)) so_far.in_runs

-- where a latch does not go with a gate, it is not the one whose gate this is
pub first_apart : (latches : List GatedLatch) (place : ℕ) (here first : GatedLatch) (gate : Source) → slice_get latches place ≡ Some here → slice_get latches 0 ≡ Some first →
    first.gate ≡ gate → (here.gate ≡ gate → ⊥) → 0 < place
first_apart latches place here first gate at at_first same apart =
    elim (cases_lt 0 place) [
      | inl l ↦ l
      | inr g ↦
          let none : place ≡ 0 = omega arith in
          let both : Some here ≡ Some first = sym at ∙ ap (slice_get latches) none ∙ at_first in
          let is : here ≡ first = cc in
          absurd (apart (ap (λ (g : GatedLatch). g.gate) is ∙ same))
    ]

-- latches that are left are such
pub rest_gated : (network : Network) (asked : Asked) (loads : List Bool) (all rest : List GatedLatch) (runs : List Run) → AreRunsSoFar network asked all rest runs →
    AreGated network asked loads all → AreGated network asked loads rest
rest_gated network asked loads all rest runs so_far gated =
    each_right (IsGated network asked loads) so_far.front rest (subst (AreGated network asked loads) so_far.parts gated)
