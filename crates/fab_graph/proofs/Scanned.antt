-- The ends of pairs by a scan.
use Rattle.std.proofs.Common.{◌≡◌, ℕ, zero, suc, ◌+◌, ◌-◌, ◌<◌, ◌≤◌, Bool, true, false, ◌&&◌, not, cond, List, [], ◌∷◌, ◌++◌, map, filter, length, get_or, take, Contains, Option, Some, None, nat_eq, slice_get, option_map, option_to_list, refl, sym, ap, ◌∙◌, subst, inl, inr, arith, eq-eqb, eqb-true, length-append}
use Rattle.std.specs.List.{list_any}
use Rattle.std.proofs.lemmas.Bool.{cases_Bool, cases_lt, cases_eq, false≢true, and_parts, false_from_ne_true}
use Rattle.std.proofs.lemmas.List.{take_more, map_push, get_or-take, get_or_default, length-take-le, length-map}
use Rattle.std.proofs.lemmas.Option.{slice_get-map, get_or_from_slice_get, slice_get_within}
use Rattle.fab_model.specs.Tiles.{PlainTile}
use Rattle.fab_model.specs.Grid.{PlainFabric, tile_at}
use Rattle.fab_fabric.specs.Fabric.{AreTiles, wires_at}
use Rattle.fab_fabric.specs.declared.wire.Wire.{Wire}
use Rattle.fab_fabric.proofs.Numbered.{wired_tile}
use Rattle.indexmap.specs.IndexSet.{insert_key}
use Rattle.fab_select.specs.declared.pair.Pair.{Pair}
use Rattle.fab_netlist.proofs.Members.{mapped_in, any_by, any_gives}
use Rattle.fab_legal.proofs.Members.{from_mapped}
use Rattle.fab_ways_laws.specs.Edges.{outputs_of, swapped, turned_pairs}
use Rattle.fab_ways_laws.proofs.Lists.{into_filter, from_filter, from_firsts, into_firsts}
use Rattle.fab_graph.specs.inner.Scans.{turned_pair, pair_at, is_new}
use Rattle.fab_graph.proofs.Grouped.{outputs_push}
use Rattle.fab_graph.proofs.Edges.{outputs_within}

-- one more pair
turned_more : (turned : Bool) (pairs : List Pair) (k : ℕ) (d : Pair) → k < length pairs →
    turned_pairs turned (take (k + 1) pairs) ≡ turned_pairs turned (take k pairs) ++ turned_pair turned (get_or pairs k d) ∷ []
turned_more false pairs k d inside = take_more pairs k d inside
turned_more true pairs k d inside = ap (map swapped) (take_more pairs k d inside) ∙ map_push swapped (take k pairs) (get_or pairs k d)

module _ (turned : Bool) (number : ℕ) where
  abbrev ends_of : List Pair → List ℕ
  ends_of pairs = outputs_of (turned_pairs turned pairs) number

  ends_more : (pairs : List Pair) (k : ℕ) → k < length pairs →
      ends_of (take (k + 1) pairs) ≡ cond (nat_eq (pair_at turned pairs k).input number) (insert_key nat_eq (ends_of (take k pairs)) (pair_at turned pairs k).output) (ends_of (take k pairs))
  ends_more pairs k inside =
      ap (λ (ps : List Pair). outputs_of ps number) (turned_more turned pairs k (record { output = 0; input = 0 }) inside) ∙ outputs_push (turned_pairs turned (take k pairs)) (pair_at turned pairs k) number

  pub new_more : (pairs : List Pair) (k : ℕ) → k < length pairs → is_new turned pairs k number ≡ true → ends_of (take (k + 1) pairs) ≡ ends_of (take k pairs) ++ (pair_at turned pairs k).output ∷ []
  new_more pairs k inside new =
      let parts = and_parts (nat_eq (pair_at turned pairs k).input number) (not (list_any (nat_eq (pair_at turned pairs k).output) (ends_of (take k pairs)))) new in
      let fresh : list_any (nat_eq (pair_at turned pairs k).output) (ends_of (take k pairs)) ≡ false = not_true (list_any (nat_eq (pair_at turned pairs k).output) (ends_of (take k pairs))) parts.1 in
      ends_more pairs k inside
      ∙ ap (λ (b : Bool). cond b (insert_key nat_eq (ends_of (take k pairs)) (pair_at turned pairs k).output) (ends_of (take k pairs))) parts.0
      ∙ ap (λ (b : Bool). cond b (ends_of (take k pairs)) (ends_of (take k pairs) ++ (pair_at turned pairs k).output ∷ [])) fresh
    where
      not_true : (b : Bool) → not b ≡ true → b ≡ false
      not_true true e = absurd (false≢true e)
      not_true false e = refl

  pub old_more : (pairs : List Pair) (k : ℕ) → k < length pairs → is_new turned pairs k number ≡ false → ends_of (take (k + 1) pairs) ≡ ends_of (take k pairs)
  old_more pairs k inside old =
      ends_more pairs k inside ∙ same (nat_eq (pair_at turned pairs k).input number) (list_any (nat_eq (pair_at turned pairs k).output) (ends_of (take k pairs))) (pair_at turned pairs k).output (ends_of (take k pairs)) old
    where
      same : (a b : Bool) (x : ℕ) (l : List ℕ) → (a && not b) ≡ false → cond a (cond b l (l ++ x ∷ [])) l ≡ l
      same false b x l e = refl
      same true true x l e = refl
      same true false x l e = absurd (false≢true (sym e))

  -- ends stay where they are
  kept_left : (l : List ℕ) (n v x : ℕ) → slice_get l n ≡ Some v → slice_get (l ++ x ∷ []) n ≡ Some v
  kept_left [] n v x e = absurd (never v e)
    where
      never : (w : ℕ) → None ≡ Some w → ⊥
      never w h = cc
  kept_left (y ∷ l) zero v x e = e
  kept_left (y ∷ l) (suc n) v x e = kept_left l n v x e

  kept_more : (pairs : List Pair) (k n v : ℕ) → k < length pairs → slice_get (ends_of (take k pairs)) n ≡ Some v → slice_get (ends_of (take (k + 1) pairs)) n ≡ Some v
  kept_more pairs k n v inside at = elim (cases_Bool (is_new turned pairs k number)) [
    | inl new ↦ ap (λ (l : List ℕ). slice_get l n) (new_more pairs k inside new) ∙ kept_left (ends_of (take k pairs)) n v (pair_at turned pairs k).output at
    | inr old ↦ ap (λ (l : List ℕ). slice_get l n) (old_more pairs k inside old) ∙ at
  ]

  kept_all : (more : ℕ) (pairs : List Pair) (k n v : ℕ) → k + more ≡ length pairs → slice_get (ends_of (take k pairs)) n ≡ Some v → slice_get (ends_of pairs) n ≡ Some v
  kept_all zero pairs k n v all at = subst (λ (ps : List Pair). slice_get (ends_of ps) n ≡ Some v) (take_whole pairs k (omega (arith, all))) at
    where
      take_whole : (ps : List Pair) (j : ℕ) → length ps ≤ j → take j ps ≡ ps
      take_whole [] zero e = refl
      take_whole [] (suc j) e = refl
      take_whole (p ∷ ps) zero e = absurd (omega (arith, e))
      take_whole (p ∷ ps) (suc j) e = ap (λ (qs : List Pair). p ∷ qs) (take_whole ps j (omega (arith, e)))
  kept_all (suc more) pairs k n v all at = kept_all more pairs (k + 1) n v (omega (arith, all)) (kept_more pairs k n v (omega (arith, all)) at)

  last_at : (l : List ℕ) (x : ℕ) → slice_get (l ++ x ∷ []) (length l) ≡ Some x
  last_at [] x = refl
  last_at (y ∷ l) x = last_at l x

  -- a new end at its index
  pub new_end : (pairs : List Pair) (k index : ℕ) → k < length pairs → is_new turned pairs k number ≡ true → index ≡ length (ends_of (take k pairs)) → slice_get (ends_of pairs) index ≡ Some (pair_at turned pairs k).output
  new_end pairs k index inside new count =
      kept_all (length pairs - (k + 1)) pairs (k + 1) index (pair_at turned pairs k).output (omega (arith, inside))
      (ap (λ (l : List ℕ). slice_get l index) (new_more pairs k inside new) ∙ ap (slice_get (ends_of (take k pairs) ++ (pair_at turned pairs k).output ∷ [])) count ∙ last_at (ends_of (take k pairs)) (pair_at turned pairs k).output)

  pub new_count : (pairs : List Pair) (k count : ℕ) → k < length pairs → is_new turned pairs k number ≡ true → count ≡ length (ends_of (take k pairs)) → count + 1 ≡ length (ends_of (take (k + 1) pairs))
  new_count pairs k count inside new is = omega (arith, is, ap length (new_more pairs k inside new), length-append (ends_of (take k pairs)) ((pair_at turned pairs k).output ∷ []))

  pub old_count : (pairs : List Pair) (k count : ℕ) → k < length pairs → is_new turned pairs k number ≡ false → count ≡ length (ends_of (take k pairs)) → count ≡ length (ends_of (take (k + 1) pairs))
  old_count pairs k count inside old is = is ∙ sym (ap length (old_more pairs k inside old))

-- ---- ends among the first pairs

plain_member : (pairs : List Pair) (first k : ℕ) → k < first → first ≤ length pairs → Contains (take first pairs) (get_or pairs k (record { output = 0; input = 0 }))
plain_member pairs first k low short =
    let p = get_or pairs k (record { output = 0; input = 0 }) in
    (k, omega (arith, low, length-take-le first pairs short), get_or-take first pairs k p low ∙ get_or_default pairs k p (record { output = 0; input = 0 }) (omega (arith, low, short)))

member : (turned : Bool) (pairs : List Pair) (first k : ℕ) → k < first → first ≤ length pairs → Contains (turned_pairs turned (take first pairs)) (pair_at turned pairs k)
member false pairs first k low short = plain_member pairs first k low short
member true pairs first k low short = mapped_in swapped (take first pairs) (get_or pairs k (record { output = 0; input = 0 })) (plain_member pairs first k low short)

-- a member stands at a place
plain_place : (pairs : List Pair) (first : ℕ) (p : Pair) → first ≤ length pairs → Contains (take first pairs) p → (k : ℕ) × (k < first) × (get_or pairs k (record { output = 0; input = 0 }) ≡ p)
plain_place pairs first p short here =
    let low : here.0 < first = omega (arith, here.1, length-take-le first pairs short) in
    (here.0, low, get_or_default pairs here.0 (record { output = 0; input = 0 }) p (omega (arith, low, short)) ∙ sym (get_or-take first pairs here.0 p low) ∙ here.2)

place_of : (turned : Bool) (pairs : List Pair) (first : ℕ) (p : Pair) → first ≤ length pairs → Contains (turned_pairs turned (take first pairs)) p → (k : ℕ) × (k < first) × (pair_at turned pairs k ≡ p)
place_of false pairs first p short here = plain_place pairs first p short here
place_of true pairs first p short here =
    let from = from_mapped swapped (take first pairs) p here in
    let at = plain_place pairs first from.0 short from.1 in
    (at.0, at.1, ap swapped at.2 ∙ from.2)

pub among : (turned : Bool) (pairs : List Pair) (first number end k : ℕ) → k < first → first ≤ length pairs → (pair_at turned pairs k).input ≡ number → (pair_at turned pairs k).output ≡ end →
    true ≡ list_any (nat_eq end) (outputs_of (turned_pairs turned (take first pairs)) number)
among turned pairs first number end k low short near far =
    let all = turned_pairs turned (take first pairs) in
    let kept = into_filter (λ (p : Pair). nat_eq p.input number) all (pair_at turned pairs k) (member turned pairs first k low short) (eq-eqb (pair_at turned pairs k).input number near) in
    let output = into_firsts (map (λ (p : Pair). p.output) (filter (λ p. nat_eq p.input number) all)) (pair_at turned pairs k).output
    (mapped_in (λ (p : Pair). p.output) (filter (λ p. nat_eq p.input number) all) (pair_at turned pairs k) kept) in
    sym (any_by (nat_eq end) (outputs_of all number) (pair_at turned pairs k).output output (eq-eqb end (pair_at turned pairs k).output (sym far)))

pub not_among : (turned : Bool) (pairs : List Pair) (first number end : ℕ) → first ≤ length pairs →
    ((k : ℕ) → k < first → (pair_at turned pairs k).input ≡ number → (pair_at turned pairs k).output ≡ end → ⊥) → false ≡ list_any (nat_eq end) (outputs_of (turned_pairs turned (take first pairs)) number)
not_among turned pairs first number end short never =
    let all = turned_pairs turned (take first pairs) in
    sym (false_from_ne_true (list_any (nat_eq end) (outputs_of all number)) (λ t.
    let found = any_gives (nat_eq end) (outputs_of all number) t in
    let pair = from_mapped (λ (p : Pair). p.output) (filter (λ p. nat_eq p.input number) all) found.0 (from_firsts (map (λ (p : Pair). p.output) (filter (λ p. nat_eq p.input number) all)) found.0 found.1) in
    let listed = from_filter (λ (p : Pair). nat_eq p.input number) all pair.0 pair.1 in
    let at = place_of turned pairs first pair.0 short listed.0 in
    never at.0 at.1 (ap (λ (p : Pair). p.input) at.2 ∙ eqb-true pair.0.input number listed.1) (ap (λ (p : Pair). p.output) at.2 ∙ pair.2 ∙ sym (eqb-true end found.0 found.2))))

-- ---- the edge of an index

get_left : (xs ys : List Wire) (n : ℕ) (v : Wire) → slice_get xs n ≡ Some v → slice_get (xs ++ ys) n ≡ Some v
get_left [] ys n v e = absurd (never v e)
  where
    never : (w : Wire) → None ≡ Some w → ⊥
    never w h = cc
get_left (x ∷ xs) ys zero v e = e
get_left (x ∷ xs) ys (suc n) v e = get_left xs ys n v e

get_last : (xs : List Wire) (o : Option Wire) → slice_get (xs ++ option_to_list o) (length xs) ≡ o
get_last [] None = refl
get_last [] (Some w) = refl
get_last (x ∷ xs) o = get_last xs o

get_past : (xs : List Wire) (o : Option Wire) (n : ℕ) → length xs < n → slice_get (xs ++ option_to_list o) n ≡ None
get_past [] None n low = refl
get_past [] (Some w) zero low = absurd (omega (arith, low))
get_past [] (Some w) (suc n) low = refl
get_past (x ∷ xs) o zero low = absurd (omega (arith, low))
get_past (x ∷ xs) o (suc n) low = get_past xs o n (omega (arith, low))

pub scan_ok : (f : ℕ → Wire) (outs : List ℕ) (join : Option Wire) (all : List Wire) (index output : ℕ) (wire : Wire) → map f outs ++ option_to_list join ≡ all → slice_get outs index ≡ Some output → wire ≡ f output →
    ◌≡◌ {A = Option Wire} (Some wire) (slice_get all index)
scan_ok f outs join all index output wire are at is =
    ap (λ (w : Wire). Some w) is ∙ sym (get_left (map f outs) (option_to_list join) index (f output) (slice_get-map f outs index ∙ ap (option_map f) at)) ∙ ap (λ (ws : List Wire). slice_get ws index) are

pub scan_err : (f : ℕ → Wire) (outs : List ℕ) (join : Option Wire) (all : List Wire) (index count : ℕ) (result : Option Wire) → map f outs ++ option_to_list join ≡ all → count ≡ length outs → count ≤ index →
    (count ≡ index → result ≡ join) → ((count ≡ index → ⊥) → result ≡ None) → result ≡ slice_get all index
scan_err f outs join all index count result are count_is low same other = elim (cases_eq count index) [
  | inl equal ↦ (
      let at : length (map f outs) ≡ index = length-map outs f ∙ sym count_is ∙ equal in
      same equal ∙ sym (get_last (map f outs) join) ∙ ap (slice_get (map f outs ++ option_to_list join)) at ∙ ap (λ (ws : List Wire). slice_get ws index) are)
  | inr apart ↦ other apart ∙ sym (get_past (map f outs) join index (past count index (length (map f outs)) (length-map outs f ∙ sym count_is) low apart)) ∙ ap (λ (ws : List Wire). slice_get ws index) are
]
  where
    past : (c n l : ℕ) → l ≡ c → c ≤ n → (c ≡ n → ⊥) → l < n
    past c n l is below apart = elim (cases_lt c n) [ inl less ↦ omega (arith, less, is) | inr more ↦ absurd (apart (omega (arith, more, below))) ]

-- the end of a pair is a wire of the tile
pub end_within : (fabric : PlainFabric) (turned : Bool) (x y number index output : ℕ) (pairs : List Pair) → AreTiles fabric → number < wires_at fabric x y →
    ((tile : PlainTile) → tile_at fabric x y ≡ Some tile → pairs ≡ tile.pairs) → slice_get (outputs_of (turned_pairs turned pairs) number) index ≡ Some output → output < wires_at fabric x y
end_within fabric turned x y number index output pairs tiles few are at =
    let tile = wired_tile fabric x y number few in
    let outs = outputs_of (turned_pairs turned pairs) number in
    let all = outputs_within fabric turned x y number tile.0 outs tiles tile.1 (ap (λ (ps : List Pair). outputs_of (turned_pairs turned ps) number) (are tile.0 tile.1)) in
    subst (λ (o : ℕ). o < wires_at fabric x y) (get_or_from_slice_get outs index output output at) (all index output (slice_get_within outs index output at))

pub still_low : (count index : ℕ) → count ≤ index → (count ≡ index → ⊥) → count + 1 ≤ index
still_low count index low apart = elim (cases_lt count index) [ inl less ↦ omega (arith, less) | inr more ↦ absurd (apart (omega (arith, more, low))) ]
