use Rattle.std.proofs.Common.{◌≡◌, ℕ, ◌≤◌, List, refl, length, take, slice_get, sym, ap, ◌∙◌, arith}
use Rattle.std.proofs.lemmas.List.{take_all, length-map}
use Rattle.fab_syntax.specs.declared.tree.Module.{Module}
use Rattle.fab_syntax.specs.declared.tree.Text.{Text}
use Rattle.fab_syntax.specs.Plain.{plain_module, plain_text}
use Rattle.fab_equations.specs.Instances.{expressions}
use Rattle.fab_equations.specs.inner.Building.{listed, Spot}
use Rattle.fab_equations.proofs.SoundModules.{declares_once}
use Rattle.fab_equations.proofs.TableSteps.{module_at, none_before, before_step, expressions_step, no_expressions}
use Rattle.fab_equations.proofs.tables.tables_of.Goals as goal

all_gone : (text : Text) (modules : List Module) (i : ℕ) → modules ≡ text.modules.items → length modules ≤ i → take i (plain_text text) ≡ plain_text text
all_gone text modules i same past =
    let long : length (plain_text text) ≤ i = omega (arith, ap length same, length-map text.modules.items plain_module, past) in
    take_all i (plain_text text) long

pub loop-definition-init : goal.loop-definition-init
loop-definition-init c = (
  ap listed c.new-exprs.ensures.items ∙ no_expressions (plain_text c.args.text.now),
  none_before (plain_text c.args.text.now) c.new-before.result c.new-before.ensures.counts c.new-before.ensures.numbers c.new-before.ensures.tables,
)

pub table_of-requires : goal.table_of-requires
table_of-requires c =
    let i = c.loop-definition.definition-index in
    let m = c.definition-item.result in
    declares_once (plain_text c.args.text.now) i (plain_module m) c.requires
    (module_at c.deref-definition-items.result.now c.args.text.now.modules.items i m c.deref-definition-items.ensures.value c.loop-definition-test.true c.definition-item.is)

pub loop-definition-preserved : goal.loop-definition-preserved
loop-definition-preserved c =
    let text = plain_text c.args.text.now in
    let i = c.loop-definition.definition-index in
    let m = c.definition-item.result in
    let at = module_at c.deref-definition-items.result.now c.args.text.now.modules.items i m c.deref-definition-items.ensures.value c.loop-definition-test.true c.definition-item.is in
    let spot : Spot = record { text = text; number = i; here = plain_module m; sound = c.requires; stands = at } in (
      expressions_step text i (plain_module m) (listed c.loop-definition.exprs.items) (listed c.table_of.new.exprs.items) at c.loop-definition.invariant.0 c.in_ok-table.ensures.exprs,
      before_step text i (plain_module m) c.loop-definition.before c.add.new.self c.in_ok-table.table at c.loop-definition.invariant.1
          (c.in_ok-table.ensures.table spot refl c.loop-definition.invariant.1 c.loop-definition.invariant.0)
          c.in_ok-add.ensures.counts c.in_ok-add.ensures.numbers c.in_ok-add.ensures.tables,
    )

pub returns-clause-exprs : goal.returns-clause-exprs
returns-clause-exprs c = c.loop-definition.invariant.0 ∙ ap expressions (all_gone c.args.text.now _ _ c.deref-definition-items.ensures.value c.loop-definition-test.false)

pub returns-clause-tables : goal.returns-clause-tables
returns-clause-tables c =
    let text = plain_text c.args.text.now in
    let i = c.loop-definition.definition-index in
    let long : length c.deref-definition-items.result.now ≡ length text =
    ap length c.deref-definition-items.ensures.value ∙ sym (length-map c.args.text.now.modules.items plain_module) in (
      ap (λ v. length v.items) c.into_tables.ensures ∙ c.loop-definition.invariant.1.tables
          ∙ omega (arith, long, c.loop-definition-test.false, c.loop-definition.auto.definition-index-end),
      λ number m table at there. c.loop-definition.invariant.1.fit number m table at (ap (λ v. slice_get v.items number) (sym c.into_tables.ensures) ∙ there),
    )
