-- The spread of the places of items is that of the numbers of their sites.
use Rattle.std.proofs.Common.{◌≡◌, ℕ, ◌+◌, ◌-◌, List, [], ◌∷◌, map, refl, sym, ◌∙◌, ap, arith}
use Rattle.std.proofs.lemmas.List.{get_or-map, length-map}
use Rattle.std.specs.List.{Contains}
use Rattle.fab_fabric.specs.declared.wire.Site.{Site}
use Rattle.fab_annealing.specs.Spans.{least, greatest, spread as item_spread}
use Rattle.fab_annealing.proofs.Extremes.{least_below, least_reached, least_is, greatest_above, greatest_reached, greatest_is}
use Rattle.fab_ways_laws.proofs.fab_legal_Members.{from_mapped}
use Rattle.fab_ways_laws.specs.Placing.{spread, half_perimeter}

-- the spread of numbers is that of themselves as places
spread_of_numbers : (ns : List ℕ) → spread ns ≡ item_spread (λ n. n) ns
spread_of_numbers [] = refl
spread_of_numbers (n ∷ ns) = refl

module _ (place : ℕ → ℕ) (ns : List ℕ) where
  abbrev Into : (items : List ℕ) → Type 0
  Into items = (item : ℕ) → Contains items item → Contains ns (place item)

  abbrev From : (items : List ℕ) → Type 0
  From items = (n : ℕ) → Contains ns n → (item : ℕ) × Contains items item × (place item ≡ n)

  least_among : (items : List ℕ) (item : ℕ) → Contains items item → Into items → From items → least place items ≡ least (λ n. n) ns
  least_among items item among into from =
      let r = least_reached (λ n. n) ns (place item) (into item among) in
      let found = from r.0 r.1 in
      least_is place items (least (λ n. n) ns) (λ x h. least_below (λ n. n) ns (place x) (into x h)) found.0 found.1 (found.2 ∙ r.2)

  greatest_among : (items : List ℕ) (item : ℕ) → Contains items item → Into items → From items → greatest place items ≡ greatest (λ n. n) ns
  greatest_among items item among into from =
      let r = greatest_reached (λ n. n) ns (place item) (into item among) in
      let found = from r.0 r.1 in
      greatest_is place items (greatest (λ n. n) ns) (λ x h. greatest_above (λ n. n) ns (place x) (into x h)) found.0 found.1 (found.2 ∙ r.2)

  pub spread_same : (items : List ℕ) (item : ℕ) → Contains items item → Into items → From items → item_spread place items ≡ spread ns
  spread_same items item among into from =
      ap (λ high. high - least place items) (greatest_among items item among into from)
      ∙ ap (λ low. greatest (λ n. n) ns - low) (least_among items item among into from) ∙ sym (spread_of_numbers ns)

pub in_mapped : {X Y : Type 0} (f : X → Y) (xs : List X) (x : X) → Contains xs x → Contains (map f xs) (f x)
in_mapped f xs x h = (h.0, omega (arith, h.1, length-map xs f), get_or-map f xs h.0 x (f x) h.1 ∙ ap f h.2)

-- the half perimeter of the sites of some items
module _ (site_of : ℕ → Site) (items : List ℕ) (at : List Site) (item : ℕ) (among : Contains items item) (into : (item : ℕ) → Contains items item → Contains at (site_of item))
    (from : (site : Site) → Contains at site → (item : ℕ) × Contains items item × (site_of item ≡ site)) where
  along : (f : Site → ℕ) → item_spread (λ i. f (site_of i)) items ≡ spread (map f at)
  along f = spread_same (λ i. f (site_of i)) (map f at) items item among (λ i h. in_mapped f at (site_of i) (into i h))
      (λ n h. let found = from_mapped f at n h in let back = from found.0 found.1 in (back.0, back.1, ap f back.2 ∙ found.2))

  pub half_same : item_spread (λ i. (site_of i).x) items + item_spread (λ i. (site_of i).y) items ≡ half_perimeter at
  half_same = omega (arith, along (λ (site : Site). site.x), along (λ (site : Site). site.y))
