use Rattle.std.proofs.Common.{◌≡◌, ◌<◌, ◌∙◌, ◌↔◌, ℕ, List, All, Some, Contains, sym, subst, arith}
use Rattle.fab_timing.specs.inner.Passes.{AreApart}
use Rattle.fab_timing.specs.inner.Tables.{IsShortStep, before_in, sum_at}
use Rattle.fab_timing.proofs.Timed.{steps_short, steps_are, starts_few}
use Rattle.fab_timing.proofs.steps.steps_of.Goals as goal

pub start_table-requires-clause-within : goal.start_table-requires-clause-within
start_table-requires-clause-within c =
    subst (All (λ (start : ℕ × ℕ). start.0 < c.wires.result)) (sym c.deref.ensures.value)
    (subst (λ (n : ℕ). All (λ (start : ℕ × ℕ). start.0 < n) c.in_ok-starts.starts.items) (sym c.wires.ensures) c.in_ok-starts.ensures.within)

pub start_table-requires-clause-apart : goal.start_table-requires-clause-apart
start_table-requires-clause-apart c = subst AreApart (sym c.deref.ensures.value) c.in_ok-starts.ensures.apart

pub returns-clause-steps : goal.returns-clause-steps
returns-clause-steps c =
    let table = c.in_ok-table.table.items in
    let has = subst (λ (starts : List (ℕ × ℕ)). (node units : ℕ) → (sum_at table node ≡ Some units) ↔ Contains starts (node, units)) c.deref.ensures.value c.in_ok-table.ensures.starts in
    steps_are c.args.fabric.now c.args.packed.now c.requires.legal.0 c.args.legal.now c.requires.legal.1 c.is_well_made.ensures.are_tiles c.in_ok-before.before.items c.in_ok-before.ensures.edges
    table c.in_ok-starts.starts.items c.in_ok-starts.ensures.starts has

pub returns-clause-tables : goal.returns-clause-tables
returns-clause-tables c =
    let fabric = c.args.fabric.now in
    let table = c.in_ok-table.table.items in
    let before = c.in_ok-before.before.items in
    let has = subst (λ (starts : List (ℕ × ℕ)). (node units : ℕ) → (sum_at table node ≡ Some units) ↔ Contains starts (node, units)) c.deref.ensures.value c.in_ok-table.ensures.starts in
    let tiles = c.is_well_made.ensures.are_tiles in
    let many = c.in_ok-table.ensures.len ∙ c.wires.ensures in
    record {
      few = (let most = c.is_well_made.ensures.is_fabric.few_wires in omega (arith, many, most));
      lengths = c.in_ok-before.ensures.len ∙ sym many;
      starts = starts_few fabric c.args.packed.now c.requires.legal.0 c.args.legal.now c.requires.legal.1 tiles before c.in_ok-before.ensures.edges table c.in_ok-starts.starts.items
          c.in_ok-starts.ensures.starts has;
      short = λ node. subst (λ (n : ℕ). All (IsShortStep n) (before_in before node)) (sym many)
          (steps_short fabric c.args.packed.now c.requires.legal.0 c.args.legal.now c.requires.legal.1 tiles before c.in_ok-before.ensures.edges c.requires.made c.requires.on_fabric
          c.is_well_made.ensures.is_fabric node);
    }
