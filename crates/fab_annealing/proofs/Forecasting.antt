-- Exchanges of what stands on two sites, and what the spans told of them before.
use Rattle.std.proofs.Common.{◌≡◌, ◌≢◌, ℕ, ◌+◌, ◌-◌, ◌*◌, ◌<◌, ◌≤◌, ◌^◌, List, [], length, get_or, map, min, sum_by, Option, Some, None, refl, sym, ◌∙◌, ap, subst, inl, inr, arith}
use Rattle.std.proofs.lemmas.Bool.{cases_eq}
use Rattle.std.proofs.lemmas.List.Elements.{All-contains}
use Rattle.std.specs.List.{Contains}
use Rattle.fab_annealing.specs.declared.axis.Span.{Span}
use Rattle.fab_annealing.specs.declared.nets.Nets.{Nets}
use Rattle.fab_annealing.specs.declared.board.Board.{Board}
use Rattle.fab_annealing.specs.declared.placement.Placement.{Placement}
use Rattle.fab_annealing.specs.declared.ties.Change.{Change}
use Rattle.fab_annealing.specs.declared.ties.Ties.{Ties}
use Rattle.fab_annealing.specs.Measured.{IsNets, IsMeasured, items_of, net_count, item_count, width, widths}
use Rattle.fab_annealing.specs.Boards.{IsBoard, site_after, exchanged, column, row, cost}
use Rattle.fab_annealing.specs.inner.Standing.{IsKept, AreStanding}
use Rattle.fab_annealing.specs.inner.Tied.{HasTies, IsForecast, AreForecast, ties_of, ties_at}
use Rattle.fab_annealing.proofs.Exchanging.{after_first, after_second, after_other, back_to, exchanged_at, none_stands, same_item, places_at}
use Rattle.fab_annealing.proofs.Falling.{kept_cost}
use Rattle.fab_annealing.proofs.Laying.{total_low}
use Rattle.fab_annealing.proofs.Foreseen.{IsTied, no_nets, tied_by, tied_none, foreseen_axis}

-- sites of one place change nothing when they are exchanged
place_stays : (table : List ℕ) (a b s : ℕ) → get_or table a 0 ≡ get_or table b 0 → get_or table (site_after a b s) 0 ≡ get_or table s 0
place_stays table a b s same = elim (cases_eq s a) [
  | inl e ↦ ap (λ u. get_or table u 0) (after_first a b s e) ∙ sym same ∙ ap (λ u. get_or table u 0) (sym e)
  | inr n ↦ elim (cases_eq s b) [
    | inl e ↦ ap (λ u. get_or table u 0) (after_second a b s n e) ∙ same ∙ ap (λ u. get_or table u 0) (sym e)
    | inr m ↦ ap (λ u. get_or table u 0) (after_other a b s n m)
  ]
]

-- where an item is in one direction after what stands on two sites was exchanged, of which the first is that of an item
abbrev place_after : (table sites : List ℕ) → (item site k : ℕ) → ℕ
place_after table sites item site k = get_or table (get_or (exchanged (get_or sites item 0) site sites) k 0) 0

-- one direction: the places of the sites stand in a table
module _ (board : Board) (nets : Nets) (sites : List ℕ) (items : List (Option ℕ)) (table places : List ℕ) (spans : List Span) (total item site : ℕ)
    (first second : List ℕ) (here there : Change) (standing : AreStanding board sites items) (good : IsNets nets) (count : length sites ≡ item_count nets)
    (low : item < length sites) (same : places ≡ map (λ s. get_or table s 0) sites) (h : IsMeasured nets places spans total) (tied : IsTied nets item first)
    (forecast_a : IsForecast spans first (get_or table (get_or sites item 0) 0) (get_or table site 0) here)
    (forecast_b : IsForecast spans second (get_or table site 0) (get_or table (get_or sites item 0) 0) there) where
  after_at : (k : ℕ) → k < length sites → place_after table sites item site k ≡ get_or table (site_after (get_or sites item 0) site (get_or sites k 0)) 0
  after_at k inside = ap (λ s. get_or table s 0) (exchanged_at (get_or sites item 0) site sites k inside)

  item_after : place_after table sites item site item ≡ get_or table site 0
  item_after = after_at item low ∙ ap (λ s. get_or table s 0) (after_first (get_or sites item 0) site (get_or sites item 0) refl)

  all_stay : get_or table (get_or sites item 0) 0 ≡ get_or table site 0 → (x : ℕ) → x < item_count nets
      → place_after table sites item site x ≡ get_or places x 0
  all_stay e x inside =
      let l : x < length sites = omega (arith, inside, count) in
      after_at x l ∙ place_stays table (get_or sites item 0) site (get_or sites x 0) e ∙ sym (places_at table sites places x same l)

  -- what stands neither here nor there stays
  one_stays : (x : ℕ) → x < item_count nets → x ≢ item → get_or sites x 0 ≢ site → place_after table sites item site x ≡ get_or places x 0
  one_stays x inside n m =
      let l : x < length sites = omega (arith, inside, count) in
      let elsewhere : get_or sites x 0 ≢ get_or sites item 0 = λ e. n (same_item board sites items standing x item l low e) in
      after_at x l ∙ ap (λ s. get_or table s 0) (after_other (get_or sites item 0) site (get_or sites x 0) elsewhere m)
      ∙ sym (places_at table sites places x same l)

  pub direction : (other : Option ℕ) → other ≡ get_or items site None → (ties : Ties) → HasTies nets ties → second ≡ ties_at ties other
      → total + (here.after + there.after) ≤ (here.before + there.before) + widths nets (place_after table sites item site)
  direction None is ties has none =
      let no_item : (net : ℕ) → net < net_count nets → Contains (items_of nets net) (item_count nets) → ⊥ = λ net inside among.
      let less = All-contains (λ i. i < item_count nets) (items_of nets net) (item_count nets) (good.inside net inside) among in
      omega (arith, less) in
      let untied = subst (λ (ns : List ℕ). IsTied nets (item_count nets) ns) (sym none) (tied_none nets good) in
      let at = foreseen_axis nets spans (λ i. get_or places i 0) (place_after table sites item site) item (item_count nets) (get_or table (get_or sites item 0) 0)
      (get_or table site 0) first second here there good h.right h.shaped.spans_count (λ moves e. absurd (omega (arith, e, low, count)))
      (places_at table sites places item same low) item_after (λ net inside among. absurd (no_item net inside among))
      (λ x inside n m. one_stays x inside n (none_stands board sites items standing site x (sym is) (omega (arith, inside, count))))
      all_stay tied untied forecast_a forecast_b in
      omega (arith, at, h.shaped.summed)
  direction (Some o) is ties has some =
      let stands = standing.there site o (sym is) in
      let there_now : get_or places o 0 ≡ get_or table site 0 = places_at table sites places o same stands.0 ∙ ap (λ s. get_or table s 0) stands.1 in
      let there_then : place_after table sites item site o ≡ get_or table (get_or sites item 0) 0 =
      after_at o stands.0 ∙ ap (λ s. get_or table s 0) (back_to (get_or sites item 0) site (get_or sites o 0) stands.1) in
      let inside_o : o < item_count nets = omega (arith, stands.0, count) in
      let apart : (x : ℕ) → x < item_count nets → x ≢ o → get_or sites x 0 ≢ site = λ x inside m e.
      m (same_item board sites items standing x o (omega (arith, inside, count)) stands.0 (e ∙ sym stands.1)) in
      let tied_o = subst (λ (ns : List ℕ). IsTied nets o ns) (sym some) (tied_by nets o (ties_of ties o) good inside_o (has.each o inside_o)) in
      let at = foreseen_axis nets spans (λ i. get_or places i 0) (place_after table sites item site) item o (get_or table (get_or sites item 0) 0)
      (get_or table site 0) first second here there good h.right h.shaped.spans_count
      (λ moves e. moves (ap (λ i. get_or table (get_or sites i 0) 0) e ∙ ap (λ s. get_or table s 0) stands.1))
      (places_at table sites places item same low) item_after (λ net inside among. (there_now, there_then))
      (λ x inside n m. one_stays x inside n (apart x inside m)) all_stay tied tied_o forecast_a forecast_b in
      omega (arith, at, h.shaped.summed)

-- ---- both directions

forecast_at : (spans : List Span) (nets ties : List ℕ) (a b from to : ℕ) (change : Change) → nets ≡ ties → a ≡ from → b ≡ to → IsForecast spans nets a b change
    → IsForecast spans ties from to change
forecast_at spans nets ties a b from to change same start end h =
    subst (λ f. IsForecast spans ties f to change) start (subst (λ t. IsForecast spans ties a t change) end
    (subst (λ (ns : List ℕ). IsForecast spans ns a b change) same h))

spans_low : (nets : Nets) (places : List ℕ) (spans : List Span) (total : ℕ) → IsNets nets → IsMeasured nets places spans total
    → sum_by width spans ≤ 31 * 2 ^ 16
spans_low nets places spans total good h = omega (arith, total_low nets places spans total good h, h.shaped.summed)

pub across_low : (board : Board) (placement : Placement) → IsBoard board → IsKept board placement → sum_by width placement.across.spans.items ≤ 31 * 2 ^ 16
across_low board placement good kept =
    spans_low board.nets placement.across.places.items placement.across.spans.items placement.across.total good.good_nets kept.laid.across

pub down_low : (board : Board) (placement : Placement) → IsBoard board → IsKept board placement → sum_by width placement.down.spans.items ≤ 31 * 2 ^ 16
down_low board placement good kept =
    spans_low board.nets placement.down.places.items placement.down.spans.items placement.down.total good.good_nets kept.laid.down

-- what is forecast of an item in both directions
module _ (board : Board) (placement : Placement) (nets ties : List ℕ) (from to left right upper lower : ℕ) (across down change : Change) (good : IsBoard board)
    (kept : IsKept board placement) (same : nets ≡ ties)
    (left_is : left ≡ column board from) (right_is : right ≡ column board to) (upper_is : upper ≡ row board from) (lower_is : lower ≡ row board to)
    (columns : IsForecast placement.across.spans.items nets left right across) (rows : IsForecast placement.down.spans.items nets upper lower down)
    (before : change.before ≡ min (across.before + down.before) (2 ^ 32 - 1)) (after : change.after ≡ min (across.after + down.after) (2 ^ 32 - 1)) where
  pub forecast_both : AreForecast board placement ties from to change
  forecast_both = record {
    across = across;
    down = down;
    columns = forecast_at placement.across.spans.items nets ties left right (column board from) (column board to) across same left_is right_is columns;
    rows = forecast_at placement.down.spans.items nets ties upper lower (row board from) (row board to) down same upper_is lower_is rows;
    before = omega (arith, before, columns.before, rows.before, across_low board placement good kept, down_low board placement good kept);
    after = omega (arith, after);
  }

pub forecast_none : (board : Board) (placement : Placement) (from to : ℕ) (change : Change) → change.before ≡ 0 → change.after ≡ 0
    → AreForecast board placement [] from to change
forecast_none board placement from to change before after = record {
  across = change;
  down = change;
  columns = no_nets placement.across.spans.items (column board from) (column board to) change before after;
  rows = no_nets placement.down.spans.items (row board from) (row board to) change before after;
  before = omega (arith, before);
  after = omega (arith, after);
}

-- widths are far from what a number holds
forecast_low : (board : Board) (placement : Placement) (nets : List ℕ) (from to : ℕ) (change : Change) → IsBoard board → IsKept board placement
    → AreForecast board placement nets from to change → change.before ≤ 2 * (31 * 2 ^ 16)
forecast_low board placement nets from to change good kept h = omega (
  arith,
  h.before,
  h.columns.before,
  h.rows.before,
  across_low board placement good kept,
  down_low board placement good kept,
)

-- an exchange costs at least what is forecast of the item and of what stands on the site
module _ (board : Board) (placement : Placement) (ties : Ties) (item site from : ℕ) (other : Option ℕ) (here there change : Change) (good : IsBoard board)
    (kept : IsKept board placement) (has : HasTies board.nets ties)
    (low : item < length placement.sites.items) (start : from ≡ get_or placement.sites.items item 0) (is : other ≡ get_or placement.items.items site None)
    (forecast_a : AreForecast board placement (ties_of ties item) from site here)
    (forecast_b : AreForecast board placement (ties_at ties other) site from there)
    (before : change.before ≡ min (here.before + there.before) (2 ^ 32 - 1)) (after : change.after ≡ min (here.after + there.after) (2 ^ 32 - 1)) where
  pub foreseen : cost board placement.sites.items + change.after
      ≤ change.before + cost board (exchanged (get_or placement.sites.items item 0) site placement.sites.items)
  foreseen =
      let nets = board.nets in
      let laid = kept.laid in
      let sites = placement.sites.items in
      let a = subst (λ f. AreForecast board placement (ties_of ties item) f site here) start forecast_a in
      let b = subst (λ f. AreForecast board placement (ties_at ties other) site f there) start forecast_b in
      let inside : item < item_count board.nets = omega (arith, low, laid.items) in
      let tied = tied_by nets item (ties_of ties item) good.good_nets inside (has.each item inside) in
      let columns = direction board nets sites placement.items.items board.columns.items placement.across.places.items placement.across.spans.items
      placement.across.total item site (ties_of ties item) (ties_at ties other)
      a.across b.across kept.standing good.good_nets laid.items low laid.columns laid.across tied a.columns b.columns other is ties has refl in
      let rows = direction board nets sites placement.items.items board.rows.items placement.down.places.items placement.down.spans.items placement.down.total
      item site (ties_of ties item) (ties_at ties other)
      a.down b.down kept.standing good.good_nets laid.items low laid.rows laid.down tied a.rows b.rows other is ties has refl in
      let near = forecast_low board placement (ties_of ties item) from site here good kept forecast_a in
      let far = forecast_low board placement (ties_at ties other) site from there good kept forecast_b in
      omega (arith, columns, rows, kept_cost board placement good kept, a.before, a.after, b.before, b.after, before, after, near, far)
