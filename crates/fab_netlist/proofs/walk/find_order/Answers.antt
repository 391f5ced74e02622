use Rattle.std.proofs.Common.{arith, ◌≡◌, ◌<◌, ◌∙◌, List, Option, ℕ, ap, sym, subst, length, drop, get_or}
use Rattle.std.specs.Option.{MatchOption}
use Rattle.fab_netlist.specs.Cycles.{HasNoCycle, IsOneCycle}
use Rattle.fab_netlist.specs.inner.Order.{IsOrder}
use Rattle.fab_netlist.specs.inner.Search.{IsRound}
use Rattle.fab_netlist.proofs.Finds.{round_cycle}
use Rattle.fab_netlist.proofs.walk.find_order.Goals as goal

pub returns : goal.returns
returns c =
    let path = c.search_all.new.path.items in
    let index = c.place_in.result in
    let round : IsRound c.args.netlist.now path c.in-Some.source =
    subst (λ (met : Option ℕ). MatchOption met (IsOrder c.args.netlist.now c.search_all.new.order.items × HasNoCycle c.args.netlist.now) (IsRound c.args.netlist.now path)) c.in-Some.is c.in_ok-search_all.ensures in
    let small : index < length path = omega (arith, c.place_in.ensures.within, ap length c.deref-in-Some-2.ensures.value) in
    let here : get_or path index 0 ≡ c.in-Some.source = ap (λ places. get_or places index 0) (sym c.deref-in-Some-2.ensures.value) ∙ c.place_in.ensures.here in
    let items : c.in_ok-from_slice-in-Some.field-0.items ≡ drop index path = c.in_ok-from_slice-in-Some.ensures.items ∙ c.split_at.ensures.back ∙ ap (drop index) c.deref-in-Some.ensures.value in
    subst (λ (places : List ℕ). IsOneCycle c.args.netlist.now places) (sym items) (round_cycle c.args.netlist.now path c.in-Some.source index round small here)
