-- The nets of a design by their places.
use Rattle.std.proofs.Common.{◌≡◌, ℕ, suc, ◌+◌, ◌<◌, List, ◌++◌, length, get_or, refl, sym, ap, ◌∙◌, inl, inr, arith}
use Rattle.std.proofs.lemmas.Bool.{cases_lt}
use Rattle.std.proofs.lemmas.List.{length-append, get_or_append_left, get_or-append-add}
use Rattle.fab_model.specs.Tiles.{counted}
use Rattle.fab_netlist.specs.declared.net_id.NetId.{NetId}
use Rattle.fab_netlist.specs.declared.net_id.NetId.TheVariants as ids
use Rattle.fab_netlist.specs.Plain.{IsAt}
use Rattle.fab_netlist.specs.Packed.{PlainPacked}
use Rattle.fab_legal.specs.WellMade.{IsWellMadePacked, IsNetId}
use Rattle.fab_legal.specs.Sinks.{packed_net}
use Rattle.fab_ways_laws.specs.Routing.{nets}
use Rattle.fab_ways_laws.proofs.NetTrees.{nets_apart}
use Rattle.fab_graph.proofs.Grouped.{length_counted, get_or_counted}

module _ (packed : PlainPacked) where
  abbrev in_nets : List NetId
  in_nets = counted (length packed.inputs) ids.In

  abbrev cell_nets : List NetId
  cell_nets = counted (length packed.cells) ids.Cell

  pub nets_long : length (nets packed) ≡ 2 + length packed.inputs + length packed.cells
  nets_long = omega (arith, length-append in_nets cell_nets, length_counted (length packed.inputs) ids.In, length_counted (length packed.cells) ids.Cell)

  pub zero_at : IsAt (nets packed) 0 ids.Zero
  zero_at = (omega (arith, nets_long), refl)

  pub one_at : IsAt (nets packed) 1 ids.One
  one_at = (omega (arith, nets_long), refl)

  -- behind the first two
  rest_at : (n p : ℕ) (net : NetId) → p ≡ suc (suc n) → get_or (in_nets ++ cell_nets) n net ≡ net → get_or (nets packed) p net ≡ net
  rest_at n p net place is = ap (λ k. get_or (nets packed) k net) place ∙ is

  pub in_at : (n p : ℕ) → n < length packed.inputs → p ≡ 2 + n → IsAt (nets packed) p (ids.In n)
  in_at n p low place = (
    omega (arith, nets_long, low, place),
    rest_at n p (ids.In n) (omega (arith, place))
        (get_or_append_left in_nets cell_nets (ids.In n) n (omega (arith, low, length_counted (length packed.inputs) ids.In)) ∙ get_or_counted (length packed.inputs) ids.In n (ids.In n) low),
  )

  pub cell_at : (n p : ℕ) → n < length packed.cells → p ≡ 2 + length packed.inputs + n → IsAt (nets packed) p (ids.Cell n)
  cell_at n p low place =
      let many = length_counted (length packed.inputs) ids.In in (
        omega (arith, nets_long, low, place),
        rest_at (length in_nets + n) p (ids.Cell n) (omega (arith, place, many))
            (get_or-append-add in_nets cell_nets n (ids.Cell n) ∙ get_or_counted (length packed.cells) ids.Cell n (ids.Cell n) low),
      )

  -- a net has one place
  pub one_place : IsWellMadePacked packed → (j k : ℕ) (net : NetId) → IsAt (nets packed) j net → IsAt (nets packed) k net → j ≡ k
  one_place made j k net first second = elim (cases_lt j k) [
    | inl less ↦ absurd (nets_apart packed made j k net less second.0 (ap (packed_net packed) (first.1 ∙ sym second.1)))
    | inr other ↦ elim (cases_lt k j) [
      | inl more ↦ absurd (nets_apart packed made k j net more first.0 (ap (packed_net packed) (second.1 ∙ sym first.1)))
      | inr same ↦ omega (arith, other, same)
    ]
  ]

  -- the place of a net that is known
  pub place_known : (net : NetId) → IsNetId packed net → (p : ℕ) × IsAt (nets packed) p net
  place_known ids.Zero known = (0, zero_at)
  place_known ids.One known = (1, one_at)
  place_known (ids.In n) known = (2 + n, in_at n (2 + n) known refl)
  place_known (ids.Cell n) known = (2 + length packed.inputs + n, cell_at n (2 + length packed.inputs + n) known refl)
