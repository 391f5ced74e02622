-- Placements whose cost falls, and the exchanges that were tried.
use Rattle.std.proofs.Common.{◌≡◌, ◌≢◌, ◌⊎◌, ℕ, ◌+◌, ◌-◌, ◌<◌, ◌≤◌, Bool, true, false, List, [], ◌∷◌, length, get_or, suc, Option, Some, None, refl, sym, ◌∙◌, ap, subst, inl, inr, arith}
use Rattle.std.proofs.lemmas.Bool.{cases_eq, cases_lt, cases_Bool}
use Rattle.fab_annealing.specs.declared.board.Board.{Board}
use Rattle.fab_annealing.specs.declared.placement.Placement.{Placement}
use Rattle.fab_annealing.specs.Boards.{IsBoard, IsPlaced, site_count, cost, exchanged, column, site_after, AreLoose, MayExchange, IsOptimal, Keeps, is_second, is_locked}
use Rattle.fab_annealing.specs.inner.Standing.{IsKept, AreStanding, Falls, IsTried, AreTried, IsNext}
use Rattle.fab_annealing.proofs.Exchanging.{exchange_keeps, after_first, after_second, after_other, none_stands, same_item, true_false}
use Rattle.fab_annealing.proofs.Laying.{laid_cost}

pub keeps_refl : (board : Board) (sites : List ℕ) → Keeps board sites sites
keeps_refl board sites = record { count = refl; kinds = λ k l. refl; locked = λ k l s. refl }

pub keeps_trans : (board : Board) (a b c : List ℕ) → Keeps board a b → Keeps board b c → Keeps board a c
keeps_trans board a b c p q = record {
  count = q.count ∙ p.count;
  kinds = λ k l. let m : k < length b = omega (arith, l, p.count) in q.kinds k m ∙ p.kinds k l;
  locked = λ k l s. let m : k < length b = omega (arith, l, p.count) in q.locked k m s ∙ p.locked k l s;
}

pub falls_refl : (board : Board) (sites : List ℕ) → Falls board sites sites
falls_refl board sites = record { keeps = keeps_refl board sites; low = omega arith; still = λ e. refl }

pub falls_same : (board : Board) (a b : List ℕ) → b ≡ a → Falls board a b
falls_same board a b e = subst (λ (s : List ℕ). Falls board a s) (sym e) (falls_refl board a)

pub falls_trans : (board : Board) (a b c : List ℕ) → Falls board a b → Falls board b c → Falls board a c
falls_trans board a b c p q = record {
  keeps = keeps_trans board a b c p.keeps q.keeps;
  low = omega (arith, p.low, q.low);
  still = λ e. q.still (omega (arith, p.low, q.low, e)) ∙ p.still (omega (arith, p.low, q.low, e));
}

-- the cost of what is kept
pub kept_cost : (board : Board) (placement : Placement) → IsBoard board → IsKept board placement → placement.across.total + placement.down.total ≡ cost board placement.sites.items
kept_cost board placement good kept = laid_cost board placement good kept.laid

-- where the cost stays over two steps, it stays over each
pub still_both : (board : Board) (a b c : List ℕ) → Falls board a b → Falls board b c → cost board c ≡ cost board a → (cost board b ≡ cost board a) × (cost board c ≡ cost board b) × (c ≡ b)
still_both board a b c p q e =
    let first : cost board b ≡ cost board a = omega (arith, p.low, q.low, e) in
    let second : cost board c ≡ cost board b = omega (arith, p.low, q.low, e) in
    (first, second, q.still second)

-- ---- from which number on items are tried

-- the cost that was asked for twice is that of the sites
pub next_same : (board : Board) (old new : Placement) (first second : ℕ) → IsBoard board → IsKept board old → IsKept board new → first ≡ old.across.total + old.down.total → second ≡ new.across.total + new.down.total → second ≡ first
    → cost board new.sites.items ≡ cost board old.sites.items
next_same board old new first second good before after p q e = omega (arith, kept_cost board old good before, kept_cost board new good after, p, q, e)

pub tried_more : (board : Board) (old new : List ℕ) (since item : ℕ) → new ≡ old → AreTried board old since item → ((site : ℕ) → site < site_count board → IsTried board new item site) → AreTried board new since (item + 1)
tried_more board old new since item same tried here k low high site inside = elim (cases_eq k item) [
  | inl e ↦ subst (λ i. IsTried board new i site) (sym e) (here site inside)
  | inr n ↦ subst (λ (s : List ℕ). IsTried board s k site) (sym same) (tried k low (omega (arith, high, n)) site inside)
]

pub next_more : (board : Board) (a b c : List ℕ) (since next : ℕ) → Falls board a b → Falls board b c → IsNext board a b 0 since → IsNext board b c since next → IsNext board a c 0 next
next_more board a b c since next p q first second = record {
  same = λ e. let still = still_both board a b c p q e in second.same still.1 ∙ first.same still.0;
  lower = λ low. elim (cases_eq (cost board c) (cost board b)) [
    | inl e ↦ omega (arith, low, e, second.same e, first.lower (omega (arith, low, e)))
    | inr n ↦ second.lower (omega (arith, n, q.low))
  ];
}

pub next_less : (board : Board) (a b : List ℕ) (next : ℕ) → Falls board a b → IsNext board a b 0 next → next ≢ 0 → cost board b < cost board a
next_less board a b next falls h some = elim (cases_eq (cost board b) (cost board a)) [
  | inl e ↦ absurd (some (h.same e))
  | inr n ↦ omega (arith, n, falls.low)
]

-- where nothing changed and the other items were tried, all are
pub tried_both : (board : Board) (a b : List ℕ) (since tried item count : ℕ) → Falls board a b → IsNext board a b 0 since → since ≡ 0 → tried ≤ item → AreTried board b since item → AreTried board a tried count → AreTried board b 0 count × IsNext board a b 0 0
tried_both board a b since tried item count falls next none past here there =
    let stays : cost board b ≡ cost board a = elim (cases_eq (cost board b) (cost board a)) [
      | inl e ↦ e
      | inr n ↦ absurd (omega (arith, none, next.lower (omega (arith, n, falls.low))))
    ] in (
      λ k low high site inside. elim (cases_lt k item) [
        | inl before ↦ here k (omega (arith, none)) before site inside
        | inr after ↦ subst (λ (s : List ℕ). IsTried board s k site) (sym (falls.still stays)) (there k (omega (arith, past, after)) high site inside)
      ],
      record { same = λ e. refl; lower = λ low. absurd (omega (arith, low, stays)) },
    )

-- ---- one try

module _ (board : Board) (before after : List ℕ) (items : List (Option ℕ)) (item site paid : ℕ) (taken : Bool) (standing : AreStanding board before items) (low : item < length before)
    (kind : is_second board site ≡ is_second board (get_or before item 0)) (loose : AreLoose board before (get_or before item 0) site) (costs : paid ≡ cost board before) (some : 0 < paid)
    (took : taken ≡ true → (after ≡ exchanged (get_or before item 0) site before) × (cost board after ≤ paid - 1))
    (left : taken ≡ false → (after ≡ before) × (paid - 1 < cost board (exchanged (get_or before item 0) site before))) where
  pub try_falls : Falls board before after
  try_falls = elim (cases_Bool taken) [
    | inl t ↦ record {
      keeps = subst (λ (s : List ℕ). Keeps board before s) (sym (took t).0) (exchange_keeps board before items standing item site low kind loose);
      low = omega (arith, (took t).1, costs);
      still = λ e. absurd (omega (arith, (took t).1, costs, some, e));
    }
    | inr f ↦ falls_same board before after (left f).0
  ]

  pub try_tried : cost board after ≡ cost board before → IsTried board after item site
  try_tried e = elim (cases_Bool taken) [
    | inl t ↦ absurd (omega (arith, (took t).1, costs, some, e))
    | inr f ↦ subst (λ (s : List ℕ). IsTried board s item site) (sym (left f).0) (λ may. omega (arith, (left f).1, costs, some))
  ]

-- ---- optimal where all was tried

turned_at : (a b s : ℕ) → site_after b a s ≡ site_after a b s
turned_at a b s = elim (cases_eq s a) [
  | inl e ↦ elim (cases_eq s b) [
    | inl f ↦ after_first b a s f ∙ sym e ∙ f ∙ sym (after_first a b s e)
    | inr n ↦ after_second b a s n e ∙ sym (after_first a b s e)
  ]
  | inr n ↦ elim (cases_eq s b) [
    | inl f ↦ after_first b a s f ∙ sym (after_second a b s n f)
    | inr m ↦ after_other b a s m n ∙ sym (after_other a b s n m)
  ]
]

exchanged_turned : (a b : ℕ) (sites : List ℕ) → exchanged b a sites ≡ exchanged a b sites
exchanged_turned a b [] = refl
exchanged_turned a b (s ∷ sites) = let first = turned_at a b s in let others = exchanged_turned a b sites in cc

exchanged_nothing : (a b : ℕ) (sites : List ℕ) → ((k : ℕ) → k < length sites → (get_or sites k 0 ≢ a) × (get_or sites k 0 ≢ b)) → exchanged a b sites ≡ sites
exchanged_nothing a b [] h = refl
exchanged_nothing a b (s ∷ sites) h =
    let here = h 0 (omega arith) in
    let first = after_other a b s here.0 here.1 in
    let others = exchanged_nothing a b sites (λ k l. h (suc k) (omega arith)) in
    cc

may_turned : (board : Board) (sites : List ℕ) (a b : ℕ) → MayExchange board sites a b → MayExchange board sites b a
may_turned board sites a b may = record {
  first_in = may.second_in;
  second_in = may.first_in;
  same_kind = sym may.same_kind;
  near = omega (arith, may.near);
  loose = λ k l e. elim e [ inl f ↦ may.loose k l (inr f) | inr f ↦ may.loose k l (inl f) ];
}

module _ (board : Board) (sites : List ℕ) (items : List (Option ℕ)) (standing : AreStanding board sites items)
    (tried : (item : ℕ) → item < length sites → (site : ℕ) → site < site_count board → IsTried board sites item site) where
  -- an exchange of two empty sites changes nothing, and any other is one of an item
  by_items : (a b : ℕ) → MayExchange board sites a b → (first second : Option ℕ) → get_or items a None ≡ first → get_or items b None ≡ second → cost board sites ≤ cost board (exchanged a b sites)
  by_items a b may (Some item) second is other =
      let there = standing.there a item is in
      subst (λ s. cost board sites ≤ cost board (exchanged s b sites)) there.1 (tried item there.0 b may.second_in (subst (λ s. MayExchange board sites s b) (sym there.1) may))
  by_items a b may None (Some item) is other =
      let there = standing.there b item other in
      subst (λ (s : List ℕ). cost board sites ≤ cost board s) (exchanged_turned a b sites)
      (subst (λ s. cost board sites ≤ cost board (exchanged s a sites)) there.1 (tried item there.0 a may.first_in (subst (λ s. MayExchange board sites s a) (sym there.1) (may_turned board sites a b may))))
  by_items a b may None None is other =
      let e = exchanged_nothing a b sites (λ k l. (none_stands board sites items standing a k is l, none_stands board sites items standing b k other l)) in
      omega (arith, ap (cost board) e)

  pub all_tried : IsOptimal board sites
  all_tried a b may = by_items a b may (get_or items a None) (get_or items b None) refl refl

-- an item that stays is exchanged with nothing
pub locked_tried : (board : Board) (sites : List ℕ) (item site : ℕ) → item < length sites → is_locked board item ≡ true → IsTried board sites item site
locked_tried board sites item site low stays may = absurd (true_false (sym stays ∙ may.loose item low (inl refl)))

pub barred_tried : (board : Board) (sites : List ℕ) (item site : ℕ) → (AreLoose board sites (get_or sites item 0) site → ⊥) → IsTried board sites item site
barred_tried board sites item site bars may = absurd (bars may.loose)

-- items on sites are on sites of their own
pub kept_placed : (board : Board) (placement : Placement) → IsKept board placement → IsPlaced board placement.sites.items
kept_placed board placement kept = record {
  items = kept.laid.items;
  inside = kept.laid.inside;
  apart = same_item board placement.sites.items placement.items.items kept.standing;
}

-- sites too far off are not exchanged with an item
pub far_tried : (board : Board) (sites : List ℕ) (item site x : ℕ) → x ≡ column board (get_or sites item 0) → (column board site + 4 < x) ⊎ (x + 4 < column board site) → IsTried board sites item site
far_tried board sites item site x at (inl far) may = absurd (omega (arith, at, far, may.near))
far_tried board sites item site x at (inr far) may = absurd (omega (arith, at, far, may.near))

-- an exchange that was taken or not keeps the items that stay
pub keeps_taken : (board : Board) (before after : List ℕ) (items : List (Option ℕ)) (item site from most : ℕ) (taken : Bool) → AreStanding board before items → item < length before → from ≡ get_or before item 0
    → is_second board site ≡ is_second board from → AreLoose board before (get_or before item 0) site
    → (taken ≡ true → (after ≡ exchanged (get_or before item 0) site before) × (cost board after ≤ most)) → (taken ≡ false → (after ≡ before) × (most < cost board (exchanged (get_or before item 0) site before)))
    → Keeps board before after
keeps_taken board before after items item site from most taken standing low start kind loose took left = elim (cases_Bool taken) [
  | inl t ↦ subst (λ (s : List ℕ). Keeps board before s) (sym (took t).0) (exchange_keeps board before items standing item site low (kind ∙ ap (is_second board) start) loose)
  | inr f ↦ subst (λ (s : List ℕ). Keeps board before s) (sym (left f).0) (keeps_refl board before)
]
