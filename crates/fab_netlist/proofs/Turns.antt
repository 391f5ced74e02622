-- One turn of the loops of a cycle.
use Rattle.std.proofs.Common.{◌≡◌, ℕ, zero, suc, ◌+◌, ◌^◌, ◌<◌, ◌≤◌, Bool, false, List, [], ◌∷◌, ◌++◌, map, length, get_or, set, take, drop, refl, sym, ap, ◌∙◌, arith}
use Rattle.std.proofs.lemmas.List.{drop_more, take_more, take_more_set, length-map}
use Rattle.fab_netlist.specs.Plain.{PlainCover, no_cover}
use Rattle.fab_netlist.specs.inner.Passes.{placed, taken, asked}

-- one more net takes its bit
pub placed_more : (nets : List ℕ) (bits values : List Bool) (turn d : ℕ) (e : Bool) → turn < length nets → length bits ≡ length nets → placed (drop turn nets) (drop turn bits) values ≡ placed (drop (turn + 1) nets) (drop (turn + 1) bits) (set values (get_or nets turn d) (get_or bits turn e))
placed_more nets bits values turn d e small fits =
    rw (drop_more nets turn d small, drop_more bits turn e (omega (arith, small, fits))) refl

-- one more cover is asked
pub asked_more : (covers : List PlainCover) (places : List ℕ) (values : List Bool) (turn d : ℕ) → turn < length places →
    asked covers (drop turn places) values ≡ asked covers (drop (turn + 1) places) (taken (get_or covers (get_or places turn d) no_cover) values)
asked_more covers places values turn d small = ap (λ rest. asked covers rest values) (drop_more places turn d small)

-- four bits spell a number below 16
pub small_power : (power count : ℕ) → power < 2 ^ count → count ≤ 4 → power < 16
small_power power zero below few = omega arith
small_power power (suc zero) below few = omega arith
small_power power (suc (suc zero)) below few = omega arith
small_power power (suc (suc (suc zero))) below few = omega arith
small_power power (suc (suc (suc (suc zero)))) below few = omega arith
small_power power (suc (suc (suc (suc (suc count))))) below few = absurd (omega arith)

-- an item of a mapped list
get_mapped : {X Y : Type 0} (f : X → Y) (xs : List X) (turn : ℕ) (d : X) (e : Y) → turn < length xs → get_or (map f xs) turn e ≡ f (get_or xs turn d)
get_mapped f [] turn d e small = absurd (omega arith)
get_mapped f (x ∷ xs) zero d e small = refl
get_mapped f (x ∷ xs) (suc turn) d e small = get_mapped f xs turn d e (omega arith)

-- one more latch gives its bit
pub placed_from : {X : Type 0} (net : X → ℕ) (xs : List X) (bits values : List Bool) (turn : ℕ) (d : X) (e : Bool) → turn < length xs → length bits ≡ length xs →
    placed (drop turn (map net xs)) (drop turn bits) values ≡ placed (drop (turn + 1) (map net xs)) (drop (turn + 1) bits) (set values (net (get_or xs turn d)) (get_or bits turn e))
placed_from net xs bits values turn d e small fits =
    placed_more (map net xs) bits values turn 0 e (omega (arith, small, length-map xs net)) (omega (arith, fits, length-map xs net))
    ∙ ap (λ other. placed (drop (turn + 1) (map net xs)) (drop (turn + 1) bits) (set values other (get_or bits turn e))) (get_mapped net xs turn d 0 small)

-- one more latch takes its bit
pub held_more : {X : Type 0} (value : X → Bool) (xs : List X) (held : List Bool) (turn : ℕ) (d : X) → turn < length xs → turn < length held → take turn held ≡ take turn (map value xs) →
    take (turn + 1) (set held turn (value (get_or xs turn d))) ≡ take (turn + 1) (map value xs)
held_more value xs held turn d small fits so_far =
    take_more_set held turn (value (get_or xs turn d)) fits
    ∙ ap (λ front. front ++ value (get_or xs turn d) ∷ []) so_far
    ∙ ap (λ bit. take turn (map value xs) ++ bit ∷ []) (sym (get_mapped value xs turn d false small))
    ∙ sym (take_more (map value xs) turn false (omega (arith, small, length-map xs value)))
