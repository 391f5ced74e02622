-- What has been asked for while more is asked for.
use Rattle.std.proofs.Common.{ℕ, List, [], ◌++◌, refl, sym, ap, ◌∙◌, append_assoc, append-nil}
use Rattle.fab_network.specs.declared.network.Network.{Network}
use Rattle.fab_network.specs.declared.network.Source.{Source}
use Rattle.fab_demand.specs.Asked.{Asked, AsksMore}
use Rattle.fab_demand.specs.Laws.{SourcesStayAsked}
use Rattle.fab_phases.specs.Loading.{AreFlops, IsLoadedFlop, IsReady}
use Rattle.fab_phases.specs.inner.Gathering.{AreGated, IsGated}
use Rattle.fab_phases.specs.declared.loading.LoadedFlop.{LoadedFlop}
use Rattle.fab_phases.specs.declared.gathering.GatedLatch.{GatedLatch}
use Rattle.fab_phases.proofs.Lists.{each_grows}

pub more_none : (asked : Asked) → AsksMore asked asked
more_none asked = record {
  long = refl;
  marks = λ p h. h;
  more = [];
  own = sym (append-nil asked.own);
  possible = λ t h. h;
}

pub more_twice : (a b c : Asked) → AsksMore a b → AsksMore b c → AsksMore a c
more_twice a b c f g = record {
  long = g.long ∙ f.long;
  marks = λ p h. g.marks p (f.marks p h);
  more = f.more ++ g.more;
  own = g.own ∙ ap (λ (own : List ℕ). own ++ g.more) f.own ∙ append_assoc a.own f.more g.more;
  possible = λ t h. f.possible t (g.possible t h);
}

pub ready_grows : SourcesStayAsked → (network : Network) (old new : Asked) → AsksMore old new → (source : Source) → IsReady network old source → IsReady network new source
ready_grows stay network old new more source ready = record {
  fit = ready.fit;
  asked_for = stay network.trees.items old new more source ready.asked_for;
}

pub flops_grow : SourcesStayAsked → (network : Network) (old new : Asked) → AsksMore old new → (loads : _) (flops : List LoadedFlop) →
    AreFlops network old loads flops → AreFlops network new loads flops
flops_grow stay network old new more loads flops are =
    each_grows (IsLoadedFlop network old loads) (IsLoadedFlop network new loads) flops
    (λ flop is. record { marked = is.marked; is = is.is; ready = ready_grows stay network old new more flop.next is.ready }) are

pub gated_grow : SourcesStayAsked → (network : Network) (old new : Asked) → AsksMore old new → (loads : _) (latches : List GatedLatch) →
    AreGated network old loads latches → AreGated network new loads latches
gated_grow stay network old new more loads latches are =
    each_grows (IsGated network old loads) (IsGated network new loads) latches
    (λ gated is. record {
      marked = is.marked;
      is = is.is;
      gate = ready_grows stay network old new more gated.gate is.gate;
      latched = ready_grows stay network old new more gated.latch.latched is.latched;
    }) are
