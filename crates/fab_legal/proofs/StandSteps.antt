-- What the check finds of sinks and of shared wires.
use Rattle.std.proofs.Common.{◌≡◌, ◌↔◌, ℕ, ◌<◌, Bool, List, [], map, length, get_or, Contains, Some, position, IsTrue, nat_eq, refl, sym, ap, ◌∙◌, subst, arith}
use Rattle.std.specs.List.{list_any, position_or_len}
use Rattle.std.proofs.lemmas.Bool.Decides.{Decides-eqb}
use Rattle.std.proofs.lemmas.List.{length-map}
use Rattle.indexmap.specs.IndexSet.{IndexSet}
use Rattle.fab_implementation.specs.fab_fabric.specs.declared.wire.Wire.{Wire}
use Rattle.fab_implementation.specs.fab_netlist.specs.declared.net_id.NetId.{NetId}
use Rattle.fab_implementation.specs.Plain.{PlainTree}
use Rattle.fab_legal.specs.inner.Tables.{key_lists, tree_numbers}
use Rattle.fab_legal.specs.inner.Roots.{IsSmall, net_number, tree_number}
use Rattle.fab_legal.specs.inner.Standing.{Stands}
use Rattle.fab_legal.specs.declared.placed.Placed.{Placed}
use Rattle.fab_legal.proofs.Sets.{any_in, in_any}
use Rattle.fab_legal.proofs.ReachSearch.{found_place, number_at}
use Rattle.fab_legal.proofs.SharedWires.{keys_read}

module _ {S : Type 0} (placed : Placed) (numbers : List ℕ) (sets : List (IndexSet ℕ S)) (net : NetId) (wire : Wire) (n place : ℕ) (set : IndexSet ℕ S) (r : Bool)
    (small : IsSmall placed net) (n_is : n ≡ net_number placed net) (found : Some place ≡ position (nat_eq n) numbers) (as_many : length sets ≡ length numbers) (read : set ≡ get_or sets place set)
    (tested : r ≡ list_any (nat_eq wire.0) set.keys) where
  place_is : (place ≡ position_or_len (nat_eq n) numbers) × (place < length numbers)
  place_is = found_place numbers n place found

  list_is : get_or (key_lists sets) (position_or_len (nat_eq (net_number placed net)) numbers) [] ≡ set.keys
  list_is =
      ap (λ (m : ℕ). get_or (key_lists sets) (position_or_len (nat_eq m) numbers) []) (sym n_is) ∙ ap (λ (m : ℕ). get_or (key_lists sets) m []) (sym place_is.0)
      ∙ keys_read sets place set set.keys (omega (arith, place_is.1, as_many)) read refl

  listed : Contains numbers n
  listed = (place, place_is.1, ap (λ (m : ℕ). get_or numbers m n) place_is.0 ∙ number_at numbers n n (omega (arith, place_is.0, place_is.1)))

  -- the test tells whether the wire stands in the net
  pub stands_found : IsTrue r ↔ Stands placed numbers (key_lists sets) net wire
  stands_found = (
    λ e. record {
      small = small;
      listed = subst (λ (m : ℕ). Contains numbers m) n_is listed;
      here = subst (λ (l : List ℕ). Contains l wire.0) (sym list_is) (any_in nat_eq Decides-eqb set.keys wire.0 (sym tested ∙ e));
    },
    λ s. tested ∙ in_any nat_eq Decides-eqb set.keys wire.0 (subst (λ (l : List ℕ). Contains l wire.0) list_is s.here),
  )

-- there is a set for each number
pub as_many_sets : {S : Type 0} (placed : Placed) (trees : List PlainTree) (sets : List (IndexSet ℕ S)) (numbers : List ℕ) → key_lists sets ≡ map tree_numbers trees → numbers ≡ map (tree_number placed) trees →
    length sets ≡ length numbers
as_many_sets {S} placed trees sets numbers lists_are numbers_are =
    let first = length-map sets (λ (s : IndexSet ℕ S). s.keys) in
    let second = ap (λ (l : List (List ℕ)). length l) lists_are in
    let third = ap (λ (l : List ℕ). length l) numbers_are in
    omega (arith, first, second, third, length-map trees tree_numbers, length-map trees (tree_number placed))
