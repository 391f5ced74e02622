use Rattle.std.proofs.Common.{◌≡◌, ℕ, ◌≤◌, take}
use Rattle.std.specs.List.{list_any}
use Rattle.fab_blif.specs.Judged.{drivers_in, is_among, is_inner, is_port}
use Rattle.fab_blif.proofs.judge.second_driver.Given as goal

abbrev pub invariant-loop-driver : goal.invariant-loop-driver
invariant-loop-driver l = record {
  inner : (net : ℕ) → is_among l.inner.keys net ≡ list_any (is_inner net) (take l.driver-index l.driver-items);
  ports : (net : ℕ) → is_among l.ports.keys net ≡ list_any (is_port net) (take l.driver-index l.driver-items);
  once : (net : ℕ) → drivers_in (take l.driver-index l.driver-items) net ≤ 1;
}
