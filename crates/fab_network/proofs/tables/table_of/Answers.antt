use Rattle.std.proofs.Common.{◌≡◌, List, Some, length, slice_get, refl, sym, ap, ◌∙◌, subst, arith}
use Rattle.std.proofs.lemmas.List.{length-set}
use Rattle.fab_ternary.specs.declared.Tern.{Tern}
use Rattle.fab_ternary.specs.Terns.{plain_tern}
use Rattle.fab_compiled.specs.Terns.{seen}
use Rattle.fab_network.specs.Network.{source_tern}
use Rattle.fab_network.specs.Passes.{kept_tern}
use Rattle.fab_network.specs.Tables.{put_at, AreInside}
use Rattle.fab_network.proofs.Entries.{entries_more, entries_passed, entry_made, put_again, put_back, table_made, AreOthersSame}
use Rattle.fab_network.proofs.Shares.{read_there}
use Rattle.fab_network.proofs.tables.table_of.Goals as goal

pub loop-place-preserved-then-not-may_have : goal.loop-place-preserved-then-not-may_have
loop-place-preserved-then-not-may_have c =
    let trees = c.args.trees.now in
    let source = c.args.source in
    let tree = c.index-trees-source.result in
    let there : slice_get trees source.tree ≡ Some tree = read_there trees source.tree c.requires.fit.tree tree c.requires.fit.is c.index-trees-source.is in
    record {
      long = c.loop-place.invariant.long;
      others = c.loop-place.invariant.others;
      made = entries_passed trees c.args.leads.now c.args.marks.now c.args.terns.now source tree c.in_ok-inputs.inputs there c.in_ok-inputs.ensures
          c.loop-place.entries c.loop-place.place c.values_at-values.result c.values_at-values.ensures (c.may_have.ensures c.if-not-may_have.true)
          c.loop-place.invariant.made;
    }

pub loop-place-preserved : goal.loop-place-preserved
loop-place-preserved c =
    let trees = c.args.trees.now in
    let leads = c.args.leads.now in
    let base = c.args.terns.now in
    let source = c.args.source in
    let tree = c.index-trees-source.result in
    let inputs = c.in_ok-inputs.inputs in
    let old = c.loop-place.terns in
    let there : slice_get trees source.tree ≡ Some tree = read_there trees source.tree c.requires.fit.tree tree c.requires.fit.is c.index-trees-source.is in
    let value : plain_tern c.evaluate.result ≡ source_tern trees (seen (put_at old inputs c.values_at-values.result) leads) source =
    c.evaluate.ensures ∙ ap (λ (ts : List Tern). source_tern trees (seen ts leads) source) c.put.ensures in
    record {
      long = length-set c.loop-place.entries c.loop-place.place c.evaluate.result ∙ c.loop-place.invariant.long;
      others = subst (AreOthersSame inputs base) (sym c.put.ensures) (put_again inputs base old c.values_at-values.result c.loop-place.invariant.others);
      made = entries_more trees leads c.args.marks.now base source tree inputs there c.in_ok-inputs.ensures c.loop-place.entries c.loop-place.place
          c.evaluate.result
          (omega (arith, c.loop-place-test.true, c.loop-place.invariant.long))
          (entry_made trees leads c.args.marks.now base source tree inputs there c.in_ok-inputs.ensures old c.loop-place.place c.values_at-values.result
          c.evaluate.result (c.loop-place.auto.terns ∙ c.requires.terns) c.loop-place.invariant.others c.values_at-values.ensures value)
          c.loop-place.invariant.made;
    }

pub returns-clause-same : goal.returns-clause-same
returns-clause-same c q =
    let inputs = c.in_ok-inputs.inputs in
    let old = c.loop-place.terns in
    let long : length old ≡ length c.args.leads.now = c.loop-place.auto.terns ∙ c.requires.terns in
    let inside : AreInside (length old) inputs = subst (λ n. AreInside n inputs) (sym long) c.in_ok-inputs.ensures.inside in
    ap (λ (ts : List Tern). kept_tern ts q) c.put-2.ensures
    ∙ put_back inputs c.args.terns.now old c.values-kept.result inside c.values-kept.ensures c.loop-place.invariant.others q

pub returns-clause-table : goal.returns-clause-table
returns-clause-table c =
    let source = c.args.source in
    let tree = c.index-trees-source.result in
    let there : slice_get c.args.trees.now source.tree ≡ Some tree =
    read_there c.args.trees.now source.tree c.requires.fit.tree tree c.requires.fit.is c.index-trees-source.is in
    table_made c.args.trees.now c.args.leads.now c.args.marks.now c.args.terns.now source tree c.in_ok-inputs.inputs there c.in_ok-inputs.ensures
    c.loop-place.entries _ refl refl c.loop-place.invariant.long
    (λ k l. c.loop-place.invariant.made k (omega (arith, l, c.loop-place-test.false)))
