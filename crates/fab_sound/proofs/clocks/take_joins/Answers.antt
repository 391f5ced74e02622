use Rattle.std.proofs.Common.{◌≡◌, ◌∙◌, get_or, sym, rules}
use Rattle.fab_syntax.specs.Plain.{plain_join}
use Rattle.fab_sound.specs.inner.Checks.{found, is_scalar_entry}
use Rattle.fab_sound.specs.inner.Rules.{is_counted, join_serves, join_clocks}
use Rattle.fab_sound.proofs.Driven.{fails_at, passes_at}
use Rattle.fab_sound.proofs.Clocking.{found_more, found_all, passed_all}
use Rattle.fab_sound.proofs.clocks.take_joins.Goals as goal

pub returns-then-not-branch-clause-fits : goal.returns-then-not-branch-clause-fits
returns-then-not-branch-clause-fits c =
    let test = join_clocks (λ name. is_scalar_entry (found c.args.names.now name)) (is_counted c.args.below.now) in
    let item : c.join-item.result ≡ get_or c.args.joins.now c.loop-join.join-index c.join-item.result = search rules in
    sym (fails_at test plain_join c.args.joins.now c.loop-join.join-index c.join-item.result c.loop-join-test.true item
    (sym c.in_ok-take_join.ensures.fits ∙ c.if-not-branch.true)) ∙ c.loop-join.invariant.fit

pub loop-join-preserved : goal.loop-join-preserved
loop-join-preserved c =
    let test = join_clocks (λ name. is_scalar_entry (found c.args.names.now name)) (is_counted c.args.below.now) in
    let item : c.join-item.result ≡ get_or c.args.joins.now c.loop-join.join-index c.join-item.result = search rules in
    record {
      fit = sym (passes_at test plain_join c.args.joins.now c.loop-join.join-index c.join-item.result c.loop-join-test.true item
          (sym c.in_ok-take_join.ensures.fits ∙ c.if-not-branch.false)) ∙ c.loop-join.invariant.fit;
      serve = λ name. found_more (join_serves (is_counted c.args.below.now) name) plain_join c.args.joins.now c.loop-join.join-index c.join-item.result c.loop-join-test.true item
          (is_counted c.loop-join.clocks name) _ _ (c.in_ok-take_join.ensures.serve c.if-not-branch.false name) (c.loop-join.invariant.serve name);
    }

pub returns-clause-fits : goal.returns-clause-fits
returns-clause-fits c =
    sym (passed_all (join_clocks (λ name. is_scalar_entry (found c.args.names.now name)) (is_counted c.args.below.now)) plain_join c.args.joins.now c.loop-join.join-index c.loop-join-test.false)
    ∙ c.loop-join.invariant.fit

pub returns-clause-serve : goal.returns-clause-serve
returns-clause-serve c = λ e name.
    found_all (join_serves (is_counted c.args.below.now) name) plain_join c.args.joins.now c.loop-join.join-index c.loop-join-test.false (is_counted c.loop-join.clocks name) _
    (c.loop-join.invariant.serve name)
