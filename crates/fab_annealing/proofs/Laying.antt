-- Items that are put on sites, and the spans of their nets.
use Rattle.std.proofs.Common.{◌≡◌, ℕ, ◌<◌, ◌≤◌, ◌+◌, ◌*◌, ◌^◌, List, [], length, get_or, set, map, Option, Some, None, refl, sym, ◌∙◌, ap, subst, arith, length-set}
use Rattle.std.proofs.lemmas.List.{map-set}
use Rattle.std.proofs.lemmas.List.Elements.{All-set}
use Rattle.std.specs.List.{All}
use Rattle.std.specs.Option.{IfSome}
use Rattle.fab_annealing.specs.declared.axis.Span.{Span}
use Rattle.fab_annealing.specs.declared.nets.Nets.{Nets}
use Rattle.fab_annealing.specs.declared.board.Board.{Board}
use Rattle.fab_annealing.specs.declared.placement.Placement.{Placement}
use Rattle.fab_annealing.specs.Measured.{IsNets, IsMeasured, HasMoved, AreNoted, undone}
use Rattle.fab_annealing.specs.Boards.{IsBoard, site_count, cost, exchanged}
use Rattle.fab_annealing.specs.inner.Standing.{IsLaid, IsKept, AreStanding, set_at}
use Rattle.fab_annealing.proofs.Kept.{sum_low}
use Rattle.fab_annealing.proofs.Exchanging.{places_at, exchanged_by, put_back_by, standing_after, measured_width}

-- an item that is put on a site has moved in each direction
pub put_moved : (nets : Nets) (table sites places after : List ℕ) (item site : ℕ) → places ≡ map (λ s. get_or table s 0) sites → item < length sites → length places ≡ length sites → after ≡ set places item (get_or table site 0)
    → HasMoved nets places after item (get_or table (get_or sites item 0) 0) (get_or table site 0)
put_moved nets table sites places after item site same inside count put = record {
  inside = omega (arith, count, inside);
  start = places_at table sites places item same inside;
  now = put;
}

-- the places are still those of the sites
pub put_places : (table sites places after now : List ℕ) (item site : ℕ) → places ≡ map (λ s. get_or table s 0) sites → after ≡ set places item (get_or table site 0) → now ≡ set sites item site → after ≡ map (λ s. get_or table s 0) now
put_places table sites places after now item site same put moved =
    put ∙ ap (λ ps. set ps item (get_or table site 0)) same ∙ sym (ap (map (λ s. get_or table s 0)) moved ∙ map-set (λ s. get_or table s 0) sites item site)

pub put_inside : (board : Board) (sites now : List ℕ) (item site : ℕ) → All (λ s. s < site_count board) sites → site < site_count board → now ≡ set sites item site → All (λ s. s < site_count board) now
put_inside board sites now item site inside low moved = subst (λ (ss : List ℕ). All (λ s. s < site_count board) ss) (sym moved) (All-set (λ s. s < site_count board) sites item site low inside)

pub near_at : (table : List ℕ) (site : ℕ) → All (λ place. place ≤ 31) table → site < length table → get_or table site 0 ≤ 31
near_at table site near low = near site 0 low

-- ---- the same in other tables

pub measured_same : (nets : Nets) (places other : List ℕ) (spans after : List Span) (total now : ℕ) → other ≡ places → after ≡ spans → now ≡ total → IsMeasured nets places spans total → IsMeasured nets other after now
measured_same nets places other spans after total now e f g h =
    subst (λ (ps : List ℕ). IsMeasured nets ps after now) (sym e) (subst (λ (ss : List Span). IsMeasured nets places ss now) (sym f) (subst (λ n. IsMeasured nets places spans n) (sym g) h))

pub noted_none : (nets : Nets) (changed : List (ℕ × Span)) → changed ≡ [] → AreNoted nets changed
noted_none nets changed e = subst (λ (es : List (ℕ × Span)). AreNoted nets es) (sym e) (λ k d l. absurd (omega (arith, l)))

pub set_at_length : (other : Option ℕ) (value : ℕ) (numbers : List ℕ) → length (set_at other value numbers) ≡ length numbers
set_at_length None value numbers = refl
set_at_length (Some place) value numbers = length-set numbers place value

set_at_map : (f : ℕ → ℕ) (other : Option ℕ) (value : ℕ) (numbers : List ℕ) → set_at other (f value) (map f numbers) ≡ map f (set_at other value numbers)
set_at_map f None value numbers = refl
set_at_map f (Some place) value numbers = sym (map-set f numbers place value)

-- an exchange that was made and taken
pub taken_kept : (board : Board) (old two new : Placement) (item site : ℕ) (other : Option ℕ) → IsKept board old → item < length old.sites.items → site < site_count board → other ≡ get_or old.items.items site None
    → IsLaid board two → two.sites.items ≡ set_at other (get_or old.sites.items item 0) (set old.sites.items item site) → two.items.items ≡ old.items.items
    → new.sites.items ≡ two.sites.items → new.items.items ≡ set (set two.items.items (get_or old.sites.items item 0) other) site (Some item)
    → new.across.places.items ≡ two.across.places.items → new.across.spans.items ≡ two.across.spans.items → new.across.total ≡ two.across.total → new.across.changed.items ≡ []
    → new.down.places.items ≡ two.down.places.items → new.down.spans.items ≡ two.down.spans.items → new.down.total ≡ two.down.total → new.down.changed.items ≡ []
    → IsKept board new × (new.sites.items ≡ exchanged (get_or old.sites.items item 0) site old.sites.items)
taken_kept board old two new item site other kept low inside is laid sites items same_sites same_items across_places across_spans across_total across_none down_places down_spans down_total down_none =
    let from = get_or old.sites.items item 0 in
    let made = same_sites ∙ sites ∙ exchanged_by board old.sites.items old.items.items kept.standing item site other low is in
    let standing = standing_after board old.sites.items old.items.items kept.standing item site low inside (kept.laid.inside item 0 low) in
    let items_is : new.items.items ≡ set (set old.items.items from (get_or old.items.items site None)) site (Some item) =
    same_items ∙ ap (λ (xs : List (Option ℕ)). set (set xs from other) site (Some item)) items ∙ ap (λ (o : Option ℕ). set (set old.items.items from o) site (Some item)) is in (
      record {
        laid = record {
          items = ap length same_sites ∙ laid.items;
          inside = subst (λ (ss : List ℕ). All (λ s. s < site_count board) ss) (sym same_sites) laid.inside;
          columns = across_places ∙ laid.columns ∙ sym (ap (map (λ s. get_or board.columns.items s 0)) same_sites);
          rows = down_places ∙ laid.rows ∙ sym (ap (map (λ s. get_or board.rows.items s 0)) same_sites);
          across = measured_same board.nets two.across.places.items new.across.places.items two.across.spans.items new.across.spans.items two.across.total new.across.total across_places across_spans across_total laid.across;
          down = measured_same board.nets two.down.places.items new.down.places.items two.down.spans.items new.down.spans.items two.down.total new.down.total down_places down_spans down_total laid.down;
          across_noted = noted_none board.nets new.across.changed.items across_none;
          down_noted = noted_none board.nets new.down.changed.items down_none;
        };
        standing = subst (λ (ss : List ℕ). AreStanding board ss new.items.items) (sym made) (subst (λ (xs : List (Option ℕ)). AreStanding board (exchanged from site old.sites.items) xs) (sym items_is) standing);
        across_settled = across_none;
        down_settled = down_none;
      },
      made,
    )

-- an exchange that was made and taken back
pub back_kept : (board : Board) (old two new : Placement) (item site : ℕ) (other : Option ℕ) → IsKept board old → item < length old.sites.items → other ≡ get_or old.items.items site None
    → IsLaid board two → two.sites.items ≡ set_at other (get_or old.sites.items item 0) (set old.sites.items item site) → two.items.items ≡ old.items.items
    → undone two.across.changed.items two.across.spans.items ≡ undone old.across.changed.items old.across.spans.items → undone two.down.changed.items two.down.spans.items ≡ undone old.down.changed.items old.down.spans.items
    → new.sites.items ≡ set_at other site (set two.sites.items item (get_or old.sites.items item 0)) → new.items.items ≡ two.items.items
    → new.across.places.items ≡ set_at other (get_or board.columns.items site 0) (set two.across.places.items item (get_or board.columns.items (get_or old.sites.items item 0) 0))
    → new.across.spans.items ≡ undone two.across.changed.items two.across.spans.items → new.across.total ≡ old.across.total → new.across.changed.items ≡ []
    → new.down.places.items ≡ set_at other (get_or board.rows.items site 0) (set two.down.places.items item (get_or board.rows.items (get_or old.sites.items item 0) 0))
    → new.down.spans.items ≡ undone two.down.changed.items two.down.spans.items → new.down.total ≡ old.down.total → new.down.changed.items ≡ []
    → IsKept board new × (new.sites.items ≡ old.sites.items)
back_kept board old two new item site other kept low is laid sites items au du back same_items across_places across_spans across_total across_none down_places down_spans down_total down_none =
    let from = get_or old.sites.items item 0 in
    let again : new.sites.items ≡ old.sites.items = back ∙ ap (λ (ss : List ℕ). set_at other site (set ss item from)) sites ∙ put_back_by board old.sites.items old.items.items kept.standing item site other low is in
    let table_of = λ (table places after : List ℕ) (now : places ≡ map (λ s. get_or table s 0) two.sites.items) (put : after ≡ set_at other (get_or table site 0) (set places item (get_or table from 0))).
    put ∙ ap (λ (ps : List ℕ). set_at other (get_or table site 0) (set ps item (get_or table from 0))) now
    ∙ ap (set_at other (get_or table site 0)) (sym (map-set (λ s. get_or table s 0) two.sites.items item from))
    ∙ set_at_map (λ s. get_or table s 0) other site (set two.sites.items item from)
    ∙ ap (map (λ s. get_or table s 0)) (sym back ∙ again) in
    let columns = table_of board.columns.items two.across.places.items new.across.places.items laid.columns across_places in
    let rows = table_of board.rows.items two.down.places.items new.down.places.items laid.rows down_places in
    let spans_again : new.across.spans.items ≡ old.across.spans.items = across_spans ∙ au ∙ ap (λ (es : List (ℕ × Span)). undone es old.across.spans.items) kept.across_settled in
    let spans_below : new.down.spans.items ≡ old.down.spans.items = down_spans ∙ du ∙ ap (λ (es : List (ℕ × Span)). undone es old.down.spans.items) kept.down_settled in (
      record {
        laid = record {
          items = ap length again ∙ kept.laid.items;
          inside = subst (λ (ss : List ℕ). All (λ s. s < site_count board) ss) (sym again) kept.laid.inside;
          columns = columns ∙ sym (ap (map (λ s. get_or board.columns.items s 0)) again);
          rows = rows ∙ sym (ap (map (λ s. get_or board.rows.items s 0)) again);
          across = measured_same board.nets old.across.places.items new.across.places.items old.across.spans.items new.across.spans.items old.across.total new.across.total (columns ∙ sym kept.laid.columns) spans_again across_total kept.laid.across;
          down = measured_same board.nets old.down.places.items new.down.places.items old.down.spans.items new.down.spans.items old.down.total new.down.total (rows ∙ sym kept.laid.rows) spans_below down_total kept.laid.down;
          across_noted = noted_none board.nets new.across.changed.items across_none;
          down_noted = noted_none board.nets new.down.changed.items down_none;
        };
        standing = subst (λ (ss : List ℕ). AreStanding board ss new.items.items) (sym again) (subst (λ (xs : List (Option ℕ)). AreStanding board old.sites.items xs) (sym (same_items ∙ items)) kept.standing);
        across_settled = across_none;
        down_settled = down_none;
      },
      again,
    )

-- what stands on a site is an item
pub other_inside : (board : Board) (sites : List ℕ) (items : List (Option ℕ)) (site : ℕ) (other : Option ℕ) (count : ℕ) → AreStanding board sites items → other ≡ get_or items site None → length sites ≡ count → IfSome other (λ item. item < count)
other_inside board sites items site None count standing is same = tt
other_inside board sites items site (Some item) count standing is same = omega (arith, (standing.there site item (sym is)).0, same)

-- the cost of items on sites
pub laid_cost : (board : Board) (placement : Placement) → IsBoard board → IsLaid board placement → placement.across.total + placement.down.total ≡ cost board placement.sites.items
laid_cost board placement good laid =
    let across = measured_width board.nets board.columns.items placement.sites.items placement.across.places.items placement.across.spans.items placement.across.total good.good_nets laid.items laid.columns laid.across in
    let down = measured_width board.nets board.rows.items placement.sites.items placement.down.places.items placement.down.spans.items placement.down.total good.good_nets laid.items laid.rows laid.down in
    omega (arith, across, down)

-- sums of widths are far from what a number holds
pub total_low : (nets : Nets) (places : List ℕ) (spans : List Span) (total : ℕ) → IsNets nets → IsMeasured nets places spans total → total ≤ 31 * 2 ^ 16
total_low nets places spans total good h = omega (arith, h.shaped.summed, sum_low spans h.shaped.low (omega (arith, h.shaped.spans_count, good.few)))
