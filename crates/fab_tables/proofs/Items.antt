-- Items of ranges.
use Rattle.std.proofs.Common.{◌≡◌, ℕ, ◌+◌, ◌<◌, ◌≤◌, ◌≢◌, Bool, true, false, ◌&&◌, List, [], ◌∷◌, ◌++◌, Option, Some, None, length, map, take, get_or, min, eqb, cond, refl, sym, ap, ◌∙◌, inl, inr, arith, append-nil}
use Rattle.std.specs.Prelude.{nat_lt, option_map}
use Rattle.std.specs.List.{list_all, flat_map}
use Rattle.std.proofs.lemmas.Bool.{and_parts}
use Rattle.std.proofs.lemmas.Bool.Decides.{nat_tests}
use Rattle.std.proofs.lemmas.List.{take_more, map_push}
use Rattle.std.proofs.lemmas.List.Folds.{list_all-append, list_all_at}
use Rattle.std.proofs.lemmas.Grind.{flat_map-append}
use Rattle.fab_base.specs.declared.words.Reason.TheVariants as reasons
use Rattle.fab_lines.specs.Numbers.{number_of}
use Rattle.fab_tables.specs.Config.{first_end, last_end, is_item, item_bits, items, are_ranges, listed_bits, are_below, range_reason, outside_reason}
use Rattle.fab_tables.specs.inner.FollowingConfig.{bits_below}
use Rattle.fab_tables.proofs.Seen.{all_seen}
use Rattle.fab_tables.proofs.Runs.{all_of_lists, run_below}

abbrev pub is_within : (bound : ℕ) → (item : List ℕ) → Bool
is_within bound item = nat_lt (number_of (first_end item)) bound && nat_lt (number_of (last_end item)) bound

pub within_is : (bound : ℕ) (item : List ℕ) → are_below bound (item_bits item) ≡ is_within bound item
within_is bound item = run_below (number_of (first_end item)) (number_of (last_end item)) bound

-- the bits of one item more
pub bits_more : {X : Type 0} (now : X → List ℕ) (found : List X) (place : ℕ) (other : X) → place < length found
    → flat_map item_bits (map now (take (place + 1) found)) ≡ flat_map item_bits (map now (take place found)) ++ item_bits (now (get_or found place other))
bits_more now found place other below =
    ap (λ xs. flat_map item_bits (map now xs)) (take_more found place other below)
    ∙ ap (flat_map item_bits) (map_push now (take place found) (get_or found place other))
    ∙ flat_map-append item_bits (map now (take place found)) (now (get_or found place other) ∷ [])
    ∙ ap (λ back. flat_map item_bits (map now (take place found)) ++ back) (append-nil (item_bits (now (get_or found place other))))

-- an item that is not within the bound
pub not_below : {X : Type 0} (now : X → List ℕ) (found : List X) (place bound : ℕ) (other : X) → place < length found → is_within bound (now (get_or found place other)) ≡ false
    → None ≡ bits_below bound (flat_map item_bits (map now found))
not_below now found place bound other below outside =
    let fails : are_below bound (flat_map item_bits (map now found)) ≡ false =
    all_of_lists (λ bit. nat_lt bit bound) item_bits (map now found)
    ∙ all_seen (λ item. are_below bound (item_bits item)) now found
    ∙ list_all_at (λ x. are_below bound (item_bits (now x))) found place other below (within_is bound (now (get_or found place other)) ∙ outside) in
    rw fails refl

-- bits of one item more that are within the bound
pub below_more : {X : Type 0} (now : X → List ℕ) (found : List X) (place bound : ℕ) (other : X) → place < length found → are_below bound (flat_map item_bits (map now (take place found))) ≡ true
    → is_within bound (now (get_or found place other)) ≡ true → are_below bound (flat_map item_bits (map now (take (place + 1) found))) ≡ true
below_more now found place bound other below before inside =
    ap (are_below bound) (bits_more now found place other below)
    ∙ list_all-append (λ bit. nat_lt bit bound) (flat_map item_bits (map now (take place found))) (item_bits (now (get_or found place other)))
    ∙ (λ j. before j && (within_is bound (now (get_or found place other)) ∙ inside) j)

-- ---- ranges that are judged

pub ranges_refused : {X : Type 0} (now : X → List ℕ) (found : List X) (ranges : List ℕ) (count : ℕ) → map now found ≡ items ranges → list_all (λ x. is_item (now x)) found ≡ false → range_reason ranges count ≡ Some reasons.Range
ranges_refused now found ranges count is bad =
    let fails : are_ranges ranges ≡ false = ap (list_all is_item) (sym is) ∙ all_seen is_item now found ∙ bad in
    rw fails refl

pub ranges_fine : {X : Type 0} (now : X → List ℕ) (found : List X) (ranges : List ℕ) → map now found ≡ items ranges → list_all (λ x. is_item (now x)) found ≡ true → are_ranges ranges ≡ true
ranges_fine now found ranges is good = ap (list_all is_item) (sym is) ∙ all_seen is_item now found ∙ good

other_count : (many count : ℕ) → count ≤ 32 → min many 33 ≢ count → eqb many count ≡ false
other_count many count few other = grind (arith, nat_tests)

same_count : (many count : ℕ) → count ≤ 32 → min many 33 ≡ count → eqb many count ≡ true
same_count many count few same = grind (arith, nat_tests)

pub count_refused : {X : Type 0} (now : X → List ℕ) (found : List X) (ranges : List ℕ) (count counted : ℕ) → map now found ≡ items ranges → list_all (λ x. is_item (now x)) found ≡ true → count ≤ 32
    → counted ≡ min (length (flat_map item_bits (map now found))) 33 → counted ≢ count → range_reason ranges count ≡ Some reasons.Range
count_refused now found ranges count counted is good few counts other =
    let fine = ranges_fine now found ranges is good in
    let listed : min (length (listed_bits ranges)) 33 ≢ count = λ same. other (counts ∙ ap (λ its. min (length (flat_map item_bits its)) 33) is ∙ same) in
    rw (fine, other_count (length (listed_bits ranges)) count few listed) refl

pub count_fine : {X : Type 0} (now : X → List ℕ) (found : List X) (ranges : List ℕ) (count counted : ℕ) → map now found ≡ items ranges → list_all (λ x. is_item (now x)) found ≡ true → count ≤ 32
    → counted ≡ min (length (flat_map item_bits (map now found))) 33 → counted ≡ count → range_reason ranges count ≡ None
count_fine now found ranges count counted is good few counts same =
    let fine = ranges_fine now found ranges is good in
    let listed : min (length (listed_bits ranges)) 33 ≡ count = sym (counts ∙ ap (λ its. min (length (flat_map item_bits its)) 33) is) ∙ same in
    rw (fine, same_count (length (listed_bits ranges)) count few listed) refl

pub items_fine : {X : Type 0} (now : X → List ℕ) (found : List X) (ranges : List ℕ) (count : ℕ) → range_reason ranges count ≡ None → map now found ≡ items ranges → list_all (λ x. is_item (now x)) found ≡ true
items_fine now found ranges count none is =
    let fine = (and_parts (are_ranges ranges) (eqb (length (listed_bits ranges)) count) (passes_both (are_ranges ranges && eqb (length (listed_bits ranges)) count) none)).0 in
    sym (all_seen is_item now found) ∙ ap (list_all is_item) is ∙ fine
  where
    passes_both : (both : Bool) → cond both None (Some reasons.Range) ≡ None → both ≡ true
    passes_both true so = refl
    passes_both false so = absurd cc
