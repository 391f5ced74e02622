use Rattle.std.proofs.Common.{◌≡◌, ◌<◌, ℕ, List}
use Rattle.std.specs.List.{Contains}
use Rattle.fab_annealing.specs.Measured.{IsShaped, AreNoted, HasMoved, AreRenewed, IsRight, items_of, net_count, undone}
use Rattle.fab_annealing.proofs.axis.Axis.refresh_nets.Given as goal

abbrev pub invariant-loop-net : goal.invariant-loop-net
invariant-loop-net l = record {
  places : l.self.places.items ≡ l.fn.self.places.items;
  shaped : IsShaped l.nets l.self.places.items l.self.spans.items l.self.total;
  noted : AreNoted l.nets l.self.changed.items;
  undone : undone l.self.changed.items l.self.spans.items ≡ undone l.fn.self.changed.items l.fn.self.spans.items;
  right : (before : List ℕ) (item : ℕ) → HasMoved l.nets before l.fn.self.places.items item l.from l.to
      → ((net : ℕ) → Contains l.touching net → Contains (items_of l.nets net) item)
      → ((net : ℕ) → net < net_count l.nets → IsRight l.nets before l.fn.self.spans.items net)
      → AreRenewed l.nets before l.self.places.items l.self.spans.items l.touching l.net-index;
}
