-- What a scan of pairs tests.
use Rattle.std.specs.Prelude.{ℕ, Bool, true, false, ◌&&◌, not, List, take, slice_index_or, nat_eq}
use Rattle.std.specs.List.{list_any}
use Rattle.fab_select.specs.declared.pair.Pair.{Pair}
use Rattle.fab_ways_laws.specs.Edges.{swapped, outputs_of, turned_pairs}

abbrev pub turned_pair : (turned : Bool) → Pair → Pair
turned_pair false pair = pair
turned_pair true pair = swapped pair

abbrev pub pair_at : (turned : Bool) → List Pair → (place : ℕ) → Pair
pair_at turned pairs place = turned_pair turned (slice_index_or pairs place (record { output = 0; input = 0 }))

-- the pair at a place is one of the wire, and none before it has its end
abbrev pub is_new : (turned : Bool) → List Pair → (place number : ℕ) → Bool
is_new turned pairs place number =
    nat_eq (pair_at turned pairs place).input number
    && not (list_any (nat_eq (pair_at turned pairs place).output) (outputs_of (turned_pairs turned (take place pairs)) number))
