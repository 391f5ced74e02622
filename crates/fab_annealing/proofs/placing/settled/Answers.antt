use Rattle.std.proofs.Common.{ℕ, List, sym, ap, subst, arith}
use Rattle.fab_annealing.specs.Boards.{IsPlaced, IsOptimal, Keeps, cost}
use Rattle.fab_annealing.proofs.Falling.{keeps_trans, kept_cost, kept_placed}
use Rattle.fab_annealing.proofs.placing.settled.Goals as goal

pub returns-then-cost-start : goal.returns-then-cost-start
returns-then-cost-start g c =
    let board = c.args.board.now in
    let at_start = c.in_ok-placement.placement in
    let annealed = c.anneal.new.placement in
    let last = c.descend.new.placement in
    let begun = c.in_ok-placement.ensures.sites in
    let keeps = keeps_trans board at_start.sites.items annealed.sites.items last.sites.items c.in_ok-anneal.ensures.keeps c.in_ok-descend.ensures.falls.keeps in
    let same = c.into_sites.ensures in
    record {
      placed = subst (λ (s : List ℕ). IsPlaced board s) (sym same) (kept_placed board last c.in_ok-descend.ensures.kept);
      keeps = subst (λ (s : List ℕ). Keeps board c.args.sites.now s) (sym same) (subst (λ (s : List ℕ). Keeps board s last.sites.items) begun keeps);
      low =
          let first = kept_cost board at_start c.requires.board c.in_ok-placement.ensures.kept in
          let end = kept_cost board last c.requires.board c.in_ok-descend.ensures.kept in
          omega (arith, first, end, c.cost-start.ensures, c.cost.ensures, c.if-cost-start.true, ap (cost board) same, ap (cost board) begun);
      optimal = subst (λ (s : List ℕ). IsOptimal board s) (sym same) c.in_ok-descend.ensures.optimal;
    }

pub returns : goal.returns
returns g c =
    let board = c.args.board.now in
    let at_start = c.in_ok-again.again in
    let last = c.descend-2.new.placement in
    let begun = c.in_ok-again.ensures.sites in
    let same = c.into_sites-2.ensures in
    record {
      placed = subst (λ (s : List ℕ). IsPlaced board s) (sym same) (kept_placed board last c.in_ok-descend-2.ensures.kept);
      keeps = subst (λ (s : List ℕ). Keeps board c.args.sites.now s) (sym same) (subst (λ (s : List ℕ). Keeps board s last.sites.items) begun c.in_ok-descend-2.ensures.falls.keeps);
      low = omega (arith, c.in_ok-descend-2.ensures.falls.low, ap (cost board) same, ap (cost board) begun);
      optimal = subst (λ (s : List ℕ). IsOptimal board s) (sym same) c.in_ok-descend-2.ensures.optimal;
    }
