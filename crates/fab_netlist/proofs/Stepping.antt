-- What a step may rely on in a netlist that is well made.
use Rattle.std.proofs.Common.{◌≡◌, ℕ, ◌<◌, ◌≤◌, List, [], ◌∷◌, ◌++◌, length, get_or, Contains, sym, ap, subst, inl, inr, arith}
use Rattle.std.specs.List.{All, flat_map}
use Rattle.std.proofs.lemmas.List.{get_or_default}
use Rattle.fab_netlist.specs.declared.netlist.Latch.{Latch}
use Rattle.fab_netlist.specs.Plain.{PlainCover, PlainNetlist}
use Rattle.fab_netlist.specs.WellMade.{IsWired, IsWellMade, latch_inputs}
use Rattle.fab_netlist.specs.inner.Order.{IsOrder}
use Rattle.fab_netlist.specs.inner.Passes.{IsWithin}
use Rattle.fab_netlist.proofs.Members.{in_none, first_or_later, mapped_in, in_left, in_right}
use Rattle.fab_netlist.proofs.Wired.{wired}
use Rattle.fab_netlist.proofs.Orders.{order_within}
use Rattle.fab_netlist.proofs.Meaning.{output_small, latch_small, input_small}

-- what holds of each member holds of all
pub all_of : {X : Type 0} (P : X → Type 0) (xs : List X) → ((x : X) → Contains xs x → P x) → All P xs
all_of P xs each place d small = each (get_or xs place d) (place, small, get_or_default xs place (get_or xs place d) d small)

-- members of a list of lists
pub in_flat : {X Y : Type 0} (f : X → List Y) (xs : List X) (x : X) (y : Y) → Contains xs x → Contains (f x) y → Contains (flat_map f xs) y
in_flat f [] x y here inner = absurd (in_none x here)
in_flat {X} {Y} f (z ∷ xs) x y here inner =
    elim (first_or_later z xs x here) [
      | inl same ↦ in_left (f z) (flat_map f xs) y (subst (λ (other : X). Contains (f other) y) (sym same) inner)
      | inr later ↦ in_right (f z) (flat_map f xs) y (in_flat f xs x y later inner)
    ]

module _ (netlist : PlainNetlist) (wiring : IsWired netlist) where
  -- inputs are below the number of nets
  pub inputs_below : (nets : List ℕ) (bound : ℕ) → nets ≡ netlist.inputs → length netlist.nets ≤ bound → All (λ net. net < bound) nets
  inputs_below nets bound same fits =
      subst (λ (list : List ℕ). All (λ net. net < bound) list) (sym same)
      (all_of (λ net. net < bound) netlist.inputs (λ net here. omega (arith, fits, input_small netlist wiring net here)))

  -- so are outputs
  pub outputs_below : (nets : List ℕ) (bound : ℕ) → nets ≡ netlist.outputs → length netlist.nets ≤ bound → All (λ net. net < bound) nets
  outputs_below nets bound same fits =
      subst (λ (list : List ℕ). All (λ net. net < bound) list) (sym same)
      (all_of (λ net. net < bound) netlist.outputs (λ net here.
      omega (arith, fits, wiring.read_below net (in_right (flat_map (λ (cover : PlainCover). cover.inputs) netlist.covers) (latch_inputs netlist ++ netlist.outputs) net (in_right (latch_inputs netlist) netlist.outputs net here)))))

  -- what latches drive
  pub latch_outputs_below : (latches : List Latch) (bound : ℕ) → latches ≡ netlist.latches → length netlist.nets ≤ bound → All (λ latch. latch.output < bound) latches
  latch_outputs_below latches bound same fits =
      subst (λ (list : List Latch). All (λ (latch : Latch). latch.output < bound) list) (sym same)
      (all_of (λ (latch : Latch). latch.output < bound) netlist.latches (λ latch here.
      omega (arith, fits, latch_small netlist wiring latch.output (mapped_in (λ (z : Latch). z.output) netlist.latches latch here))))

  -- what latches read
  pub latch_inputs_below : (latches : List Latch) (bound : ℕ) → latches ≡ netlist.latches → length netlist.nets ≤ bound → All (λ latch. latch.input < bound) latches
  latch_inputs_below latches bound same fits =
      subst (λ (list : List Latch). All (λ (latch : Latch). latch.input < bound) list) (sym same)
      (all_of (λ (latch : Latch). latch.input < bound) netlist.latches (λ latch here.
      omega (
        arith,
        fits,
        wiring.read_below latch.input (in_right (flat_map (λ (cover : PlainCover). cover.inputs) netlist.covers) (latch_inputs netlist ++ netlist.outputs) latch.input
            (in_left (latch_inputs netlist) netlist.outputs latch.input (mapped_in (λ (z : Latch). z.input) netlist.latches latch here))),
      )))

  -- what a cover reads
  input_below : (cover : PlainCover) (net : ℕ) → Contains netlist.covers cover → Contains cover.inputs net → net < length netlist.nets
  input_below cover net here reads =
      wiring.read_below net (in_left (flat_map (λ (z : PlainCover). z.inputs) netlist.covers) (latch_inputs netlist ++ netlist.outputs) net
      (in_flat (λ (z : PlainCover). z.inputs) netlist.covers cover net here reads))

  -- what all covers read
  pub cover_inputs_below : (covers : List PlainCover) (bound : ℕ) → covers ≡ netlist.covers → length netlist.nets ≤ bound → All (λ cover. All (λ net. net < bound) cover.inputs) covers
  cover_inputs_below covers bound same fits =
      subst (λ (list : List PlainCover). All (λ (cover : PlainCover). All (λ net. net < bound) cover.inputs) list) (sym same)
      (all_of (λ (cover : PlainCover). All (λ net. net < bound) cover.inputs) netlist.covers (λ cover here.
      all_of (λ net. net < bound) cover.inputs (λ net reads. omega (arith, fits, input_below cover net here reads))))

  -- and what they drive
  pub cover_outputs_below : (covers : List PlainCover) (bound : ℕ) → covers ≡ netlist.covers → length netlist.nets ≤ bound → All (λ cover. cover.output < bound) covers
  cover_outputs_below covers bound same fits =
      subst (λ (list : List PlainCover). All (λ (cover : PlainCover). cover.output < bound) list) (sym same)
      (all_of (λ (cover : PlainCover). cover.output < bound) netlist.covers (λ cover here. omega (arith, fits, output_small netlist wiring cover here)))

  -- the places of an order are those of covers
  pub order_below : (covers : List PlainCover) (places : List ℕ) → covers ≡ netlist.covers → IsOrder netlist places → All (λ place. place < length covers) places
  order_below covers places same orders = all_of (λ place. place < length covers) places (λ place here. omega (arith, ap length same, order_within netlist [] places orders.behind place here))

-- so each cover of four inputs stays within the values
pub covers_within : (netlist : PlainNetlist) → IsWellMade netlist → (covers : List PlainCover) (bound : ℕ) → covers ≡ netlist.covers → length netlist.nets ≤ bound → All (IsWithin bound) covers
covers_within netlist made covers bound same fits =
    subst (λ (list : List PlainCover). All (IsWithin bound) list) (sym same)
    (all_of (IsWithin bound) netlist.covers (λ cover here. record {
      four_inputs = made.four_inputs cover here;
      inputs_below = all_of (λ net. net < bound) cover.inputs (λ net reads. omega (arith, fits, input_below netlist (wired made) cover net here reads));
      output_below = omega (arith, fits, output_small netlist (wired made) cover here);
    }))
