use Rattle.std.proofs.Common.{◌-◌, ◌≤◌, length}
use Rattle.std.specs.Prelude.{IfSome}
use Rattle.fab_network.specs.Passes.{kept_tern, EachListed}
use Rattle.fab_demand.specs.Asked.{AsksMore}
use Rattle.fab_demand.specs.Demand.{IsRegisterAsked}
use Rattle.fab_demand.specs.Search.{asked_of, IsResting, IsSearching}
use Rattle.fab_demand.specs.inner.Beside.{IsSpanAsked}
use Rattle.fab_demand.proofs.search.Search.ask_registers.Given as goal

-- the registers so far have been asked for
abbrev pub invariant-registers : goal.invariant-registers
invariant-registers l = record {
  searching : IsSearching l.network l.clock (kept_tern l.given) l.self;
  resting : IsResting l.self;
  more : AsksMore (asked_of l.initial.self) (asked_of l.self);
  inside : l.place ≤ length l.self.own.items;
  asked : IfSome l.asked (IsSpanAsked l.network.trees.items (asked_of l.self));
  so_far : EachListed l.place l.self.own.items (IsRegisterAsked l.network l.clock (asked_of l.self));
}

abbrev pub decreases-registers : goal.decreases-registers
decreases-registers l = length l.initial.self.leads.items - l.place
