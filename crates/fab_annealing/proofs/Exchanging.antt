-- Exchanges of what stands on two sites.
use Rattle.std.proofs.Common.{◌≡◌, ◌≢◌, ℕ, ◌+◌, ◌<◌, true, false, List, [], ◌∷◌, length, get_or, set, map, zero, suc, sum_by, Vec, Global, Option, Some, None, refl, sym, ◌∙◌, ap, inl, inr, arith, length-set, get_or-set_same, get_or-set_other}
use Rattle.std.proofs.lemmas.Bool.{cases_eq}
use Rattle.std.proofs.lemmas.Bool.Decides.{nat_tests}
use Rattle.std.proofs.lemmas.Grind.{same_number_lists}
use Rattle.std.proofs.lemmas.List.{set-get_or}
use Rattle.std.proofs.lemmas.List.Elements.{All-contains}
use Rattle.std.proofs.lemmas.List.Sums.{sum_by-cons}
use Rattle.std.specs.List.{slice_get}
use Rattle.fab_annealing.specs.declared.axis.Span.{Span}
use Rattle.fab_annealing.specs.declared.nets.Nets.{Nets}
use Rattle.fab_annealing.specs.declared.board.Board.{Board}
use Rattle.fab_annealing.specs.Spans.{spread, span_of}
use Rattle.fab_annealing.specs.Measured.{IsNets, IsMeasured, numbers_of, items_of, item_count, no_span, width, widths}
use Rattle.fab_annealing.specs.Boards.{site_count, site_after, exchanged, is_second, AreLoose, Keeps}
use Rattle.fab_annealing.specs.inner.Standing.{AreStanding, set_at}
use Rattle.fab_annealing.proofs.Extremes.{span_same}
use Rattle.fab_annealing.proofs.Kept.{set_set}

-- ---- sites after an exchange

pub after_first : (a b s : ℕ) → s ≡ a → site_after a b s ≡ b
after_first a b s e = grind (arith, nat_tests)

pub after_second : (a b s : ℕ) → s ≢ a → s ≡ b → site_after a b s ≡ a
after_second a b s n e = grind (arith, nat_tests)

pub after_other : (a b s : ℕ) → s ≢ a → s ≢ b → site_after a b s ≡ s
after_other a b s n m = grind (arith, nat_tests)

pub exchanged_at : (a b : ℕ) (sites : List ℕ) (k : ℕ) → k < length sites → get_or (exchanged a b sites) k 0 ≡ site_after a b (get_or sites k 0)
exchanged_at a b [] k low = absurd (omega (arith, low))
exchanged_at a b (s ∷ sites) zero low = refl
exchanged_at a b (s ∷ sites) (suc k) low = exchanged_at a b sites k (omega arith)

pub exchanged_length : (a b : ℕ) (sites : List ℕ) → length (exchanged a b sites) ≡ length sites
exchanged_length a b [] = refl
exchanged_length a b (s ∷ sites) = ap suc (exchanged_length a b sites)

-- what stood on the second site comes to the first
pub back_to : (a b s : ℕ) → s ≡ b → site_after a b s ≡ a
back_to a b s e = elim (cases_eq s a) [
  | inl f ↦ after_first a b s f ∙ sym e ∙ f
  | inr n ↦ after_second a b s n e
]

-- ---- items that stand on sites

pub true_false : true ≡ false → ⊥
true_false e = cc

pub some_same : (a b : ℕ) → Some a ≡ Some b → a ≡ b
some_same a b e = cc

some_none : (a : ℕ) → Some a ≡ None → ⊥
some_none a e = cc

module _ (board : Board) (sites : List ℕ) (items : List (Option ℕ)) (standing : AreStanding board sites items) where
  pub same_item : (first second : ℕ) → first < length sites → second < length sites → get_or sites first 0 ≡ get_or sites second 0 → first ≡ second
  same_item first second low1 low2 e = some_same first second (sym (standing.here first low1) ∙ ap (λ s. get_or items s None) e ∙ standing.here second low2)

  pub none_stands : (site item : ℕ) → get_or items site None ≡ None → item < length sites → get_or sites item 0 ≢ site
  none_stands site item none low e = some_none item (sym (standing.here item low) ∙ ap (λ s. get_or items s None) e ∙ none)

  -- an item on a site, and what stood there on the item's, is the exchange
  pub exchanged_by : (item site : ℕ) (other : Option ℕ) → item < length sites → other ≡ get_or items site None → set_at other (get_or sites item 0) (set sites item site) ≡ exchanged (get_or sites item 0) site sites
  exchanged_by item site None low is =
      same_number_lists (set sites item site) (exchanged (get_or sites item 0) site sites) (length-set sites item site ∙ sym (exchanged_length (get_or sites item 0) site sites)) (λ k l.
      let inside : k < length sites = omega (arith, l, length-set sites item site) in
      let right = exchanged_at (get_or sites item 0) site sites k inside in
      elim (cases_eq k item) [
        | inl e ↦ ap (λ i. get_or (set sites item site) i 0) e ∙ get_or-set_same sites item site 0 low ∙ sym (right ∙ after_first (get_or sites item 0) site (get_or sites k 0) (ap (λ i. get_or sites i 0) e))
        | inr n ↦ get_or-set_other sites item k site 0 n ∙ sym (right ∙ after_other (get_or sites item 0) site (get_or sites k 0) (λ e. n (same_item k item inside low e)) (none_stands site k (sym is) inside))
      ])
  exchanged_by item site (Some other) low is =
      let there = standing.there site other (sym is) in
      same_number_lists (set (set sites item site) other (get_or sites item 0)) (exchanged (get_or sites item 0) site sites)
      (length-set (set sites item site) other (get_or sites item 0) ∙ length-set sites item site ∙ sym (exchanged_length (get_or sites item 0) site sites)) (λ k l.
      let inside : k < length sites = omega (arith, l, length-set (set sites item site) other (get_or sites item 0), length-set sites item site) in
      let right = exchanged_at (get_or sites item 0) site sites k inside in
      elim (cases_eq k other) [
        | inl e ↦ ap (λ i. get_or (set (set sites item site) other (get_or sites item 0)) i 0) e ∙ get_or-set_same (set sites item site) other (get_or sites item 0) 0 (omega (arith, there.0, length-set sites item site))
            ∙ sym (right ∙ back_to (get_or sites item 0) site (get_or sites k 0) (ap (λ i. get_or sites i 0) e ∙ there.1))
        | inr n ↦ get_or-set_other (set sites item site) other k (get_or sites item 0) 0 n ∙ elim (cases_eq k item) [
          | inl e ↦ ap (λ i. get_or (set sites item site) i 0) e ∙ get_or-set_same sites item site 0 low ∙ sym (right ∙ after_first (get_or sites item 0) site (get_or sites k 0) (ap (λ i. get_or sites i 0) e))
          | inr m ↦ get_or-set_other sites item k site 0 m ∙ sym (right ∙ after_other (get_or sites item 0) site (get_or sites k 0) (λ e. m (same_item k item inside low e)) (λ e. n (same_item k other inside there.0 (e ∙ sym there.1))))
        ]
      ])

  -- and putting both back undoes it
  pub put_back_by : (item site : ℕ) (other : Option ℕ) → item < length sites → other ≡ get_or items site None
      → set_at other site (set (set_at other (get_or sites item 0) (set sites item site)) item (get_or sites item 0)) ≡ sites
  put_back_by item site None low is = set_set sites item site (get_or sites item 0) ∙ set-get_or sites item 0
  put_back_by item site (Some other) low is =
      let there = standing.there site other (sym is) in
      let from = get_or sites item 0 in
      same_number_lists (set (set (set (set sites item site) other from) item from) other site) sites
      (length-set (set (set (set sites item site) other from) item from) other site ∙ length-set (set (set sites item site) other from) item from ∙ length-set (set sites item site) other from ∙ length-set sites item site) (λ k l.
      let three = length-set (set (set sites item site) other from) item from ∙ length-set (set sites item site) other from ∙ length-set sites item site in
      let two = length-set (set sites item site) other from ∙ length-set sites item site in
      elim (cases_eq k other) [
        | inl e ↦ ap (λ i. get_or (set (set (set (set sites item site) other from) item from) other site) i 0) e ∙ get_or-set_same (set (set (set sites item site) other from) item from) other site 0 (omega (arith, there.0, three))
            ∙ sym (ap (λ i. get_or sites i 0) e ∙ there.1)
        | inr n ↦ get_or-set_other (set (set (set sites item site) other from) item from) other k site 0 n ∙ elim (cases_eq k item) [
          | inl e ↦ ap (λ i. get_or (set (set (set sites item site) other from) item from) i 0) e ∙ get_or-set_same (set (set sites item site) other from) item from 0 (omega (arith, low, two)) ∙ sym (ap (λ i. get_or sites i 0) e)
          | inr m ↦ get_or-set_other (set (set sites item site) other from) item k from 0 m ∙ get_or-set_other (set sites item site) other k from 0 n ∙ get_or-set_other sites item k site 0 m
        ]
      ])

  -- the items of the sites after the exchange
  pub standing_after : (item site : ℕ) → item < length sites → site < site_count board → get_or sites item 0 < site_count board
      → AreStanding board (exchanged (get_or sites item 0) site sites) (set (set items (get_or sites item 0) (get_or items site None)) site (Some item))
  standing_after item site low inside from_inside =
      let from = get_or sites item 0 in
      let other = get_or items site None in
      let once = length-set items from other in
      let at_site : get_or (set (set items from other) site (Some item)) site None ≡ Some item = get_or-set_same (set items from other) site (Some item) None (omega (arith, once, standing.count)) in
      let at_from : from ≢ site → get_or (set (set items from other) site (Some item)) from None ≡ other = λ n. get_or-set_other (set items from other) site from (Some item) None n ∙ get_or-set_same items from other None (omega (arith, standing.count)) in
      let elsewhere : (u : ℕ) → u ≢ site → u ≢ from → get_or (set (set items from other) site (Some item)) u None ≡ get_or items u None = λ u n m. get_or-set_other (set items from other) site u (Some item) None n ∙ get_or-set_other items from u other None m in
      let now : (k : ℕ) → k < length sites → get_or (exchanged from site sites) k 0 ≡ site_after from site (get_or sites k 0) = λ k l. exchanged_at from site sites k l in
      record {
        count = length-set (set items from other) site (Some item) ∙ once ∙ standing.count;
        here = λ k l.
            let old : k < length sites = omega (arith, l, exchanged_length from site sites) in
            ap (λ u. get_or (set (set items from other) site (Some item)) u None) (now k old) ∙ elim (cases_eq (get_or sites k 0) from) [
              | inl e ↦ ap (λ u. get_or (set (set items from other) site (Some item)) u None) (after_first from site (get_or sites k 0) e) ∙ at_site ∙ ap Some (sym (same_item k item old low e))
              | inr n ↦ elim (cases_eq (get_or sites k 0) site) [
                | inl e ↦ ap (λ u. get_or (set (set items from other) site (Some item)) u None) (after_second from site (get_or sites k 0) n e) ∙ at_from (λ f. n (e ∙ sym f)) ∙ ap (λ u. get_or items u None) (sym e) ∙ standing.here k old
                | inr m ↦ ap (λ u. get_or (set (set items from other) site (Some item)) u None) (after_other from site (get_or sites k 0) n m) ∙ elsewhere (get_or sites k 0) m n ∙ standing.here k old
              ]
            ];
        there = λ u k is. elim (cases_eq u site) [
          | inl e ↦
              let same : k ≡ item = some_same k item (sym is ∙ ap (λ v. get_or (set (set items from other) site (Some item)) v None) e ∙ at_site) in
              (omega (arith, same, low, exchanged_length from site sites), ap (λ i. get_or (exchanged from site sites) i 0) same ∙ now item low ∙ after_first from site from refl ∙ sym e)
          | inr n ↦ elim (cases_eq u from) [
            | inl e ↦
                let apart : from ≢ site = λ f. n (e ∙ f) in
                let old = standing.there site k (sym (at_from apart) ∙ ap (λ v. get_or (set (set items from other) site (Some item)) v None) (sym e) ∙ is) in
                (omega (arith, old.0, exchanged_length from site sites), now k old.0 ∙ after_second from site (get_or sites k 0) (λ f. apart (sym f ∙ old.1)) old.1 ∙ sym e)
            | inr m ↦
                let old = standing.there u k (sym (elsewhere u n m) ∙ is) in
                (omega (arith, old.0, exchanged_length from site sites), now k old.0 ∙ after_other from site (get_or sites k 0) (λ f. m (sym old.1 ∙ f)) (λ f. n (sym old.1 ∙ f)) ∙ old.1)
          ]
        ];
      }

  -- an exchange of two sites on which no item stays keeps the kinds and the items that stay
  pub exchange_keeps : (item site : ℕ) → item < length sites → is_second board site ≡ is_second board (get_or sites item 0) → AreLoose board sites (get_or sites item 0) site → Keeps board sites (exchanged (get_or sites item 0) site sites)
  exchange_keeps item site low kind loose =
      let from = get_or sites item 0 in
      record {
        count = exchanged_length from site sites;
        kinds = λ k l. ap (is_second board) (exchanged_at from site sites k l) ∙ elim (cases_eq (get_or sites k 0) from) [
          | inl e ↦ ap (is_second board) (after_first from site (get_or sites k 0) e) ∙ kind ∙ ap (is_second board) (sym e)
          | inr n ↦ elim (cases_eq (get_or sites k 0) site) [
            | inl e ↦ ap (is_second board) (after_second from site (get_or sites k 0) n e) ∙ sym kind ∙ ap (is_second board) (sym e)
            | inr m ↦ ap (is_second board) (after_other from site (get_or sites k 0) n m)
          ]
        ];
        locked = λ k l stays. exchanged_at from site sites k l ∙ after_other from site (get_or sites k 0) (λ e. true_false (sym stays ∙ loose k l (inl e))) (λ e. true_false (sym stays ∙ loose k l (inr e)));
      }

-- ---- what a placement costs

pub sum_right : (nets : List (Vec ℕ Global)) (spans : List Span) (place : ℕ → ℕ) → length spans ≡ length nets → ((k : ℕ) → k < length nets → get_or spans k no_span ≡ span_of place (numbers_of (slice_get nets k)))
    → sum_by width spans ≡ sum_by (λ (net : Vec ℕ Global). spread place net.items) nets
sum_right [] [] place e right = refl
sum_right [] (span ∷ spans) place e right = absurd (omega (arith, e))
sum_right (net ∷ nets) [] place e right = absurd (omega (arith, e))
sum_right (net ∷ nets) (span ∷ spans) place e right =
    let first : width span ≡ spread place net.items = ap width (right 0 (omega arith)) in
    let others = sum_right nets spans place (omega arith) (λ k l. right (suc k) (omega arith)) in
    sum_by-cons width span spans ∙ (let q : width span + sum_by width spans ≡ spread place net.items + sum_by (λ (n : Vec ℕ Global). spread place n.items) nets = omega (arith, first, others) in q)
    ∙ sym (sum_by-cons (λ (n : Vec ℕ Global). spread place n.items) net nets)

map_at : (table sites : List ℕ) (k : ℕ) → k < length sites → get_or (map (λ s. get_or table s 0) sites) k 0 ≡ get_or table (get_or sites k 0) 0
map_at table [] k low = absurd (omega (arith, low))
map_at table (s ∷ sites) zero low = refl
map_at table (s ∷ sites) (suc k) low = map_at table sites k (omega arith)

pub places_at : (table sites places : List ℕ) (k : ℕ) → places ≡ map (λ s. get_or table s 0) sites → k < length sites → get_or places k 0 ≡ get_or table (get_or sites k 0) 0
places_at table sites places k e low = ap (λ ps. get_or ps k 0) e ∙ map_at table sites k low

pub measured_width : (nets : Nets) (table sites places : List ℕ) (spans : List Span) (total : ℕ) → IsNets nets → length sites ≡ item_count nets → places ≡ map (λ s. get_or table s 0) sites → IsMeasured nets places spans total
    → total ≡ widths nets (λ item. get_or table (get_or sites item 0) 0)
measured_width nets table sites places spans total good count same h =
    h.shaped.summed ∙ sum_right nets.items.items spans (λ item. get_or table (get_or sites item 0) 0) h.shaped.spans_count (λ k l.
    h.right k l ∙ span_same (λ i. get_or places i 0) (λ i. get_or table (get_or sites i 0) 0) (items_of nets k)
    (λ x among. places_at table sites places x same (omega (arith, count, All-contains (λ item. item < item_count nets) (items_of nets k) x (good.inside k l) among))))
