use Rattle.std.proofs.Common.{arith, ◌≡◌, ◌++◌, [], ℕ, List, Option, length, take, drop, sym, subst}
use Rattle.std.proofs.lemmas.List.{take_at}
use Rattle.fab_timing.specs.inner.Arrivals.{IsLatest}
use Rattle.fab_timing.specs.inner.Tables.{plain_steps, sum_at, AreSums, AreSmall}
use Rattle.fab_timing.proofs.Settling.{sums_are, sums_latest, search_small}
use Rattle.fab_timing.proofs.search.settle_all.Goals as goal

pub returns-clause-latest : goal.returns-clause-latest
returns-clause-latest c =
    let new = c.settle_each.new.sums in
    let search_is = c.in_ok-settle_each.ensures.search in
    let all : take c.in_ok-sums.sums.len (new ++ drop (length new) c.in_ok-sums.sums.items) ≡ new =
    take_at new (drop (length new) c.in_ok-sums.sums.items) c.in_ok-sums.sums.len (omega (arith, search_is.summed, c.in_ok-sums.ensures.len, c.len-2.ensures)) in
    subst (λ (sums : List (Option ℕ)). (node : ℕ) → IsLatest (plain_steps c.args.steps.now) node (sum_at sums node)) (sym all)
    (sums_latest c.args.steps.now c.requires.tables c.settle_each.new.marks new search_is c.in_ok-settle_each.ensures.settled c.requires.ranked.0 c.requires.ranked.1)

pub returns-clause-sums : goal.returns-clause-sums
returns-clause-sums c =
    let new = c.settle_each.new.sums in
    let search_is = c.in_ok-settle_each.ensures.search in
    let all : take c.in_ok-sums.sums.len (new ++ drop (length new) c.in_ok-sums.sums.items) ≡ new =
    take_at new (drop (length new) c.in_ok-sums.sums.items) c.in_ok-sums.sums.len (omega (arith, search_is.summed, c.in_ok-sums.ensures.len, c.len-2.ensures)) in
    subst (λ (sums : List (Option ℕ)). AreSums c.args.steps.now sums) (sym all)
    (sums_are c.args.steps.now c.requires.tables c.settle_each.new.marks new search_is c.in_ok-settle_each.ensures.settled)

pub returns-clause-small : goal.returns-clause-small
returns-clause-small c =
    let new = c.settle_each.new.sums in
    let search_is = c.in_ok-settle_each.ensures.search in
    let all : take c.in_ok-sums.sums.len (new ++ drop (length new) c.in_ok-sums.sums.items) ≡ new =
    take_at new (drop (length new) c.in_ok-sums.sums.items) c.in_ok-sums.sums.len (omega (arith, search_is.summed, c.in_ok-sums.ensures.len, c.len-2.ensures)) in
    subst (λ (sums : List (Option ℕ)). AreSmall sums) (sym all) (search_small c.args.steps.now c.settle_each.new.marks new [] search_is)
