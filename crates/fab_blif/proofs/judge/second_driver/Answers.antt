use Rattle.std.proofs.Common.{◌≡◌, ℕ, false, true, List, get_or, subst, sym, ◌∙◌, rules}
use Rattle.std.specs.List.Sorted.{IsNonDecreasingBy, IsPermutation}
use Rattle.std.proofs.lemmas.List.Sorted.{IsNonDecreasingBy-from_sort_by_key}
use Rattle.std.proofs.lemmas.List.{get_or_default}
use Rattle.fab_blif.specs.declared.judge.Driver.{Driver}
use Rattle.fab_blif.specs.Judged.{is_among, is_inner, is_port}
use Rattle.fab_blif.proofs.Drivers.{second_in}
use Rattle.fab_blif.proofs.Judging.{any_step, once_all, once_step}
use Rattle.fab_blif.proofs.judge.second_driver.Goals as goal

pub loop-driver-preserved : goal.loop-driver-preserved
loop-driver-preserved c =
    let all = c.as_slice-driver-items.result.now in
    let at = c.loop-driver.driver-index in
    let none : Driver = record { line = 0; net = 0; is_port = false } in
    let driver = get_or all at none in
    let is = get_or_default all at none driver c.loop-driver-test.true in
    let inner = c.loop-driver.inner.keys in
    let ports = c.loop-driver.ports.keys in
    let told = c.in_ok-is_second.ensures in
    let before = c.loop-driver.invariant in
    let first : c.in_ok-is_second.field-0 ≡ false = search rules in
    record {
      inner = λ (net : ℕ). any_step (is_inner net) all at driver c.loop-driver-test.true is (is_among inner net) (is_among c.is_second.new.inner.keys net) (told.inner_nets net) (before.inner net);
      ports = λ (net : ℕ). any_step (is_port net) all at driver c.loop-driver-test.true is (is_among ports net) (is_among c.is_second.new.ports.keys net) (told.port_nets net) (before.ports net);
      once = once_step all at driver c.loop-driver-test.true is inner ports before.inner before.ports (sym told.second ∙ first) before.once;
    }

pub returns-then-branch-clause-second : goal.returns-then-branch-clause-second
returns-then-branch-clause-second c =
    let all = c.as_slice-driver-items.result.now in
    let same : c.sort_by_key.new.self.items ≡ all = sym c.as_slice-driver-items.ensures.value in
    let sorted : IsNonDecreasingBy (λ (driver : Driver). driver.line) c.sort_by_key.new.self.items =
    IsNonDecreasingBy-from_sort_by_key (λ (driver : Driver). driver.line) _ c.in_ok-sort_by_key.ensures.sorted (λ a r q k. search rules) in
    let at = c.loop-driver.driver-index in
    let none : Driver = record { line = 0; net = 0; is_port = false } in
    let driver = get_or all at none in
    let before = c.loop-driver.invariant in
    let again : c.in_ok-is_second.field-0 ≡ true = search rules in
    second_in all (subst (λ (list : List Driver). IsNonDecreasingBy (λ (one : Driver). one.line) list) same sorted) at driver c.loop-driver-test.true (get_or_default all at none driver c.loop-driver-test.true)
    c.args.drivers.now.items (subst (λ (list : List Driver). IsPermutation c.args.drivers.now.items list) same c.sort_by_key.ensures.permutation)
    c.loop-driver.inner.keys c.loop-driver.ports.keys before.inner before.ports before.once (sym c.in_ok-is_second.ensures.second ∙ again)

pub returns-clause-none : goal.returns-clause-none
returns-clause-none c =
    let all = c.as_slice-driver-items.result.now in
    once_all c.args.drivers.now.items all c.loop-driver.driver-index
    (subst (λ (list : List Driver). IsPermutation c.args.drivers.now.items list) (sym c.as_slice-driver-items.ensures.value) c.sort_by_key.ensures.permutation)
    c.loop-driver-test.false c.loop-driver.invariant.once
